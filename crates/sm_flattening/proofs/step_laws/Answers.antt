use Rattle.std.proofs.Common.{sym, subst}
use Rattle.sm_meaning.specs.Declarations.{var_tried, with_var}
use Rattle.sm_meaning.specs.Models.{post_tried}
use Rattle.sm_flattening.specs.FlatParts.{AreFlatParts}
use Rattle.sm_flattening.proofs.FlatParts.{begins, named, declared, posted_one}
use Rattle.sm_flattening.proofs.Reached.{reaches}
use Rattle.sm_flattening.proofs.step_laws.Goals as goal

pub returns-clause-begins : goal.returns-clause-begins
returns-clause-begins c = begins

pub returns-clause-named : goal.returns-clause-named
returns-clause-named c = λ e vars cs name t parts. named e vars cs parts name t

pub returns-clause-declared : goal.returns-clause-declared
returns-clause-declared c = λ e vars all cs name sets k count after parts h same.
    subst (λ vs. AreFlatParts (with_var name sets k e) vs cs) (sym same) (declared e vars cs parts name sets k (reaches (var_tried name sets k e) count after h))

pub returns-clause-posted_one : goal.returns-clause-posted_one
returns-clause-posted_one c = λ e vars cs c ts b k count after parts h. posted_one e vars cs parts c ts b k (reaches (post_tried c ts e b) count after h)
