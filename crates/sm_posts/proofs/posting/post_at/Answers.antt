use Rattle.std.proofs.Common.{refl, map}
use Rattle.sm_syntax.specs.Trees.{constraint_of, tag_of}
use Rattle.sm_posts.proofs.Additions.{posted}
use Rattle.sm_posts.proofs.posting.post_at.Goals as goal

pub returns : goal.returns
returns c = λ e h.
    let added = c.in_ok-added.ensures e h in
    (added.0, posted e c.args.made.now h (constraint_of c.args.cons.now) (map tag_of c.args.tags.now) c.args.cases.now.tuple c.args.visited.now c.constraint_at.new.visited c.in_ok-added.added _ added.0 added.1 refl refl refl c.in_ok-push.ensures.items refl)
