use Rattle.std.proofs.Common.{◌<◌, ◌≤◌, ℕ, subst, rules}
use Rattle.sm_check.specs.Readings.{unread}
use Rattle.sm_check.proofs.Readings.{at_applied, apply_cause, falls, few_lines}
use Rattle.sm_check.proofs.checking.Reading.step.Goals as goal

pub apply-requires-clause-of : goal.apply-requires-clause-of
apply-requires-clause-of g c = (c.in-Ok.ensures.at c.args.flat.now c.requires.at).of

pub apply-requires-clause-count : goal.apply-requires-clause-count
apply-requires-clause-count g c = few_lines c.args.flat.now (g.F.Shelf.held c.args.shelf.now c.args.name.now) c.ready.new.self (c.in-Ok.ensures.at c.args.flat.now c.requires.at)

pub returns-in-Ok-apply-clause-at : goal.returns-in-Ok-apply-clause-at
returns-in-Ok-apply-clause-at g c = at_applied c.args.flat.now (g.F.Shelf.held c.args.shelf.now c.args.name.now) c.ready.new.self c.apply.new.self c.in-Ok.count (c.in-Ok.ensures.at c.args.flat.now c.requires.at) c.in-Ok.ensures.front c.in-Ok.ensures.within c.in-Ok-apply.ensures.of c.in-Ok-apply.ensures.ok

pub returns-in-Ok-apply-clause-falls : goal.returns-in-Ok-apply-clause-falls
returns-in-Ok-apply-clause-falls g c = λ _.
    let some : 1 ≤ c.in-Ok.count = search rules in
    let less = falls c.args.flat.now (g.F.Shelf.held c.args.shelf.now c.args.name.now) c.ready.new.self c.apply.new.self c.in-Ok.count (c.in-Ok.ensures.at c.args.flat.now c.requires.at) some c.in-Ok.ensures.within c.in-Ok-apply.ensures.ok in
    let P : ℕ → Type 0 = λ n. unread c.apply.new.self.fed < n in
    subst P c.in-Ok.ensures.unread less

pub returns-in-Err-apply-clause-cause : goal.returns-in-Err-apply-clause-cause
returns-in-Err-apply-clause-cause g c =
    let some : 1 ≤ c.in-Ok.count = search rules in
    apply_cause c.args.flat.now (g.F.Shelf.held c.args.shelf.now c.args.name.now) c.ready.new.self c.in-Ok.count _ _ c.in-Err-apply.refusal (c.in-Ok.ensures.at c.args.flat.now c.requires.at) c.in-Ok.ensures.front some c.in-Ok.ensures.within c.in-Err-apply.ensures.cause
