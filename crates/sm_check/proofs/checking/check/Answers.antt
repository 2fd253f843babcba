use Rattle.std.proofs.Common.{◌≡◌, false, rules}
use Rattle.sm_check.proofs.Readings.{accepted_end, refused_end}
use Rattle.sm_check.proofs.checking.check.Goals as goal

pub returns-then-not-branch-clause-accepted : goal.returns-then-not-branch-clause-accepted
returns-then-not-branch-clause-accepted g c =
    let none : c.in_ok-step.field-0 ≡ false = search rules in
    accepted_end c.args.flat.now (g.F.Shelf.held c.args.shelf.now c.args.name.now) (g.F.Shelf.held c.loop-reading.shelf c.args.name.now) c.step.new.self c.conclude.result (c.loop-reading.invariant.same c.args.name.now) c.in_ok-step.ensures.at (c.in_ok-step.ensures.end none) c.conclude.ensures.ok

pub returns-then-not-branch-clause-refused : goal.returns-then-not-branch-clause-refused
returns-then-not-branch-clause-refused g c =
    let none : c.in_ok-step.field-0 ≡ false = search rules in
    refused_end c.args.flat.now (g.F.Shelf.held c.args.shelf.now c.args.name.now) (g.F.Shelf.held c.loop-reading.shelf c.args.name.now) c.step.new.self _ _ c.conclude.result (c.loop-reading.invariant.same c.args.name.now) c.in_ok-step.ensures.at (c.in_ok-step.ensures.end none) c.conclude.ensures.err
