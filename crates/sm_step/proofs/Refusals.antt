-- A refusal that is handed on.
use Rattle.std.proofs.Common.{◌≡◌, Result, Ok, Err}
use Rattle.std.specs.Prelude.{IsErrAnd}
use Rattle.sm_step.specs.declared.refusal.LineRefusal.{LineRefusal}
use Rattle.sm_step.specs.declared.refusal.LineRefusal.TheVariants.{BadLine}

-- it is the one that came
pub handed_on : {T : Type 0} (r : Result T LineRefusal) (f : LineRefusal) → IsErrAnd r (λ x. x ≡ f) → r ≡ Err BadLine → f ≡ BadLine
handed_on (Ok x) f h e = absurd h
handed_on (Err x) f h e = cc
