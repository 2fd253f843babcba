use Rattle.std.proofs.Common.{map, length}
use Rattle.sm_syntax.specs.Expressions.{binding_of}
use Rattle.sm_syntax.specs.Trees.{constraint_of, tag_of}
use Rattle.sm_meaning.specs.Expansions.{Expansion}
use Rattle.sm_declarations.specs.Making.{IsMakingOf}
use Rattle.sm_posts.proofs.Loops.{Posting}
use Rattle.sm_posts.proofs.posting.post_at_tuples.Given as goal

abbrev pub invariant-tuples : goal.invariant-tuples
invariant-tuples l = (e : Expansion) → IsMakingOf e l.fn.made → Posting (binding_of l.fn.binders) (constraint_of l.fn.cons) (map tag_of l.fn.tags) e l.fn.visited l.tuples l.made l.visited

abbrev pub decreases-tuples : goal.decreases-tuples
decreases-tuples l = length l.tuples.to_come
