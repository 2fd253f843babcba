use Rattle.sm_check.specs.Readings.{Sight}
use Rattle.sm_check.proofs.Readings.{at_ready, both_ok}
use Rattle.sm_check.proofs.checking.Reading.ready.Goals as goal

pub returns-clause-at : goal.returns-clause-at
returns-clause-at g c =
    let old : Sight = record { state = c.self.inside.state; fed = c.self.inside.feed; count = c.self.inside.lines } in
    both_ok c.next_piece.result _ _ _ (λ n ready limit m here. let at = rw (← c.self.view_is) at here in at_ready m (g.F.Shelf.held c.args.shelf.now c.args.name.now) old c.next_piece.new.self n at ready limit) c.next_piece.ensures.bytes c.next_piece.ensures.limit
