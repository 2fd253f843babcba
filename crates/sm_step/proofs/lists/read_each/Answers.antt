use Rattle.std.proofs.Common.{◌≡◌, ◌++◌, ◌∷◌, [], rules}
use Rattle.sm_step.proofs.Listing.{none_yet, one_more, no_room, all_read, fewer, fewer_failed}
use Rattle.sm_step.proofs.lists.read_each.Goals as goal

pub loop-alloc-preserved-then-is_err : goal.loop-alloc-preserved-then-is_err
loop-alloc-preserved-then-is_err g c = no_room c.loop-alloc.invariant c.accept.ensures c.loop-alloc-test.true c.read-part.ensures c.run_out.ensures

pub loop-alloc-preserved : goal.loop-alloc-preserved
loop-alloc-preserved g c =
    let all : c.push.new.self ≡ c.loop-alloc.parts ++ c.read-part.result ∷ [] = search rules in
    one_more c.loop-alloc.invariant c.accept.ensures c.loop-alloc-test.true c.read-part.ensures all

pub returns : goal.returns
returns g c = all_read c.loop-alloc.invariant c.accept.ensures c.loop-alloc-test.false
