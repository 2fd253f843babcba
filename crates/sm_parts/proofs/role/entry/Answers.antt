use Rattle.std.proofs.Common.{◌≡◌, sym, subst}
use Rattle.sm_syntax.specs.declared.place.Place.{Place}
use Rattle.sm_syntax.specs.Expressions.{expression_of}
use Rattle.sm_meaning.specs.Trials.{GoesThrough}
use Rattle.sm_meaning.specs.Worths.{worth}
use Rattle.sm_parts.specs.Entries.{behind_entry, entry_meant}
use Rattle.sm_parts.proofs.EntryTrials.{entry_goes}
use Rattle.sm_parts.proofs.Views.{expression_place}
use Rattle.sm_parts.proofs.role.entry.Goals as goal

pub returns : goal.returns
returns c =
    let x = expression_of c.args.x.now in
    let s = c.args.scope.now in
    let b = c.args.cases.now.tuple in
    entry_goes s x b c.args.visited.now c.expression.new.visited c.entry_in.result c.in_ok-form.ensures.0
    (subst (λ (p : Place). GoesThrough (behind_entry s p (worth x s.names b)) c.expression.new.visited c.expression.new.visited (λ v. v ≡ entry_meant s (worth x s.names b)) c.entry_in.result) (sym (expression_place c.args.x.now))
    (c.entry_in.ensures (worth x s.names b) c.in_ok-form.ensures.1 c.expression.new.visited))
