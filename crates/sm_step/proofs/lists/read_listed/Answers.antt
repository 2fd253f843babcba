use Rattle.sm_step.specs.Reading.{listed_in}
use Rattle.sm_step.proofs.Takings.{first, other, only, told}
use Rattle.sm_step.proofs.Listing.{listed}
use Rattle.sm_step.proofs.lists.read_listed.Goals as goal

pub returns-then-accept_none : goal.returns-then-accept_none
unfolding listed_in
returns-then-accept_none g c = rw c.new.ensures (first _ c.accept_none.ensures c.if-accept_none.true only)

pub returns : goal.returns
unfolding listed_in
returns g c = other _ c.accept_none.ensures c.if-accept_none.false (listed c.args.mark g.T.Part.reading g.T.Part.text c.read_joined.ensures)
