use Rattle.std.proofs.Common.{[], ◌∷◌, map, subst}
use Rattle.sm_syntax.specs.Trees.{constraint_of, tag_of}
use Rattle.sm_meaning.specs.Scopes.{Tuple}
use Rattle.sm_meaning.specs.Trials.{GoesThrough}
use Rattle.sm_meaning.specs.Expansions.{scope_of, with_posts, post_at}
use Rattle.sm_meaning.specs.Models.{post_tried}
use Rattle.sm_declarations.specs.Making.{IsMakingOf}
use Rattle.sm_posts.proofs.posting.post.Goals as goal

pub returns-in-None : goal.returns-in-None
returns-in-None c =
    let k = constraint_of c.args.cons.now in
    let ts = map tag_of c.args.tags.now in
    rw c.in-None.is (λ e h.
    subst (λ (b : Tuple). GoesThrough (post_tried k ts e b) c.args.visited.now c.post_at-in-None.new.visited (λ _. IsMakingOf (with_posts e (post_at k ts (scope_of e) b ∷ [])) c.post_at-in-None.new.made) c.post_at-in-None.result) c.outside.ensures
    (c.post_at-in-None.ensures e h))
