use Rattle.std.proofs.Math.Path.{fun_ext}
use Rattle.sm_forms.proofs.Products.{product_left, product_right}
use Rattle.sm_forms.proofs.meaning_laws.Goals as goal

pub returns-clause-same : goal.returns-clause-same
returns-clause-same c = λ g h e. fun_ext e

pub returns-clause-left : goal.returns-clause-left
returns-clause-left c = product_left

pub returns-clause-right : goal.returns-clause-right
returns-clause-right c = product_right
