use Rattle.std.proofs.Common.{◌≡◌, ◌∷◌, rules}
use Rattle.sm_step.proofs.Listing.{joined_read, lost}
use Rattle.sm_step.proofs.lists.read_joined.Goals as goal

pub returns-then-is_err : goal.returns-then-is_err
returns-then-is_err g c = lost (joined_read c.args.mark g.T.Part.reading g.T.Part.text c.read-first.ensures c.read_each-parts.ensures) c.run_out.ensures

pub returns-else-is_err : goal.returns-else-is_err
returns-else-is_err g c =
    let all : c.push_front.new.self ≡ c.read-first.result ∷ c.read_each-parts.result = search rules in
    rw all (joined_read c.args.mark g.T.Part.reading g.T.Part.text c.read-first.ensures c.read_each-parts.ensures)
