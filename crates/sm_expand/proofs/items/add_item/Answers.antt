use Rattle.std.proofs.Common.{◌≡◌, [], map, subst, List, option_map}
use Rattle.sm_syntax.specs.declared.tree.Name.{Name}
use Rattle.sm_syntax.specs.declared.tree.Tag.{Tag}
use Rattle.sm_syntax.specs.Expressions.{binding_of}
use Rattle.sm_syntax.specs.Trees.{kind_of, constraint_of, tag_of}
use Rattle.sm_meaning.specs.Trials.{GoesThrough}
use Rattle.sm_meaning.specs.Cases.{over_cases}
use Rattle.sm_meaning.specs.Declarations.{var_tried, with_var}
use Rattle.sm_meaning.specs.Expansions.{scope_of, with_posts, post_at}
use Rattle.sm_meaning.specs.Models.{forall_tried}
use Rattle.sm_declarations.specs.Making.{IsMakingOf}
use Rattle.sm_expand.proofs.items.add_item.Goals as goal

pub returns-in-Index : goal.returns-in-Index
returns-in-Index c = rw c.in-Index.is (λ e h. c.index.ensures e h)

pub returns-in-Var : goal.returns-in-Var
returns-in-Var c = rw c.in-Var.is (λ e h.
    subst (λ (sets : List Name). GoesThrough (var_tried c.in-Var.name sets (kind_of c.in-Var.kind) e) c.args.visited.now c.variable.new.visited
    (λ _. IsMakingOf (with_var c.in-Var.name sets (kind_of c.in-Var.kind) e) c.variable.new.made) c.variable.result) c.as_slice.ensures (c.variable.ensures e h))

pub returns-in-Post : goal.returns-in-Post
returns-in-Post c =
    let k = constraint_of c.in-Post.cons in
    let bs = option_map binding_of c.in-Post.forall in
    rw c.in-Post.is (λ e h.
    subst (λ (ts : List Tag). GoesThrough (forall_tried bs k (map tag_of ts) e) c.args.visited.now c.post.new.visited
    (λ _. IsMakingOf (with_posts e (map (post_at k (map tag_of ts) (scope_of e)) (over_cases bs e.names []))) c.post.new.made) c.post.result) c.as_slice-in-Post.ensures (c.post.ensures e h))
