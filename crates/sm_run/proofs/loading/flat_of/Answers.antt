use Rattle.sm_syntax.specs.Trees.{tree_of}
use Rattle.sm_run.proofs.loading.flat_of.Goals as goal

pub returns-clause-cause : goal.returns-clause-cause
returns-clause-cause c = c.error_of_expand.ensures (tree_of c.args.loaded.tree) c.args.loaded.tables c.in-Err.ensures
