use Rattle.std.proofs.Common.{◌∙◌}
use Rattle.sm_syntax.specs.Trees.{kind_of}
use Rattle.sm_declarations.proofs.Families.{declared}
use Rattle.sm_declarations.proofs.family.variable.Goals as goal

pub returns : goal.returns
returns c = λ e m.
    let old = c.args.made.now in
    let tried = c.in_ok-numbers.ensures e m in
    (tried.0, declared e old _ c.args.name.now c.args.sets.now (kind_of c.args.kind.now) c.args.visited.now c.try_variable.new.visited m tried.0 (c.in_ok-declare.ensures old.scope (c.as_slice.ensures.value ∙ tried.1.0)))
