use Rattle.std.proofs.Common.{◌<◌, length}
use Rattle.sm_rules.proofs.Places.{at_read}
use Rattle.sm_rules.proofs.Paths.{climbs_step}
use Rattle.sm_rules.proofs.path.path_from.Goals as goal

pub loop-next-preserved : goal.loop-next-preserved
loop-next-preserved c =
    let ns = c.args.nodes.now in
    let lt : c.in-Some.at < length ns = rw c.in-Some.is at c.loop-next.invariant.next in
    let step = climbs_step ns c.loop-next.path.items c.push.new.self.items c.in-Some.at c.args.place c.parent.result c.loop-next.next c.place_of-next.result c.index-nodes-at.result c.requires.rising lt c.in-Some.is (at_read ns c.in-Some.at c.index-nodes-at.result lt c.index-nodes-at.is) c.parent.ensures c.in_ok-push.ensures.items c.place_of-next.ensures.found c.place_of-next.ensures.none c.loop-next.invariant.places c.loop-next.invariant.climbs in
    record { places = step.0; next = step.1; climbs = step.2 }
