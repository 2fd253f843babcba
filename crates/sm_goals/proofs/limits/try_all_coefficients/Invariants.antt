use Rattle.std.proofs.Common.{ℕ, List}
use Rattle.sm_forms.specs.Meanings.{Meaning}
use Rattle.sm_meaning.specs.Limits.{coefficients_tried}
use Rattle.sm_drafts.proofs.Parts.{PassedUpTo}
use Rattle.sm_goals.specs.Goals.{AreFormsOf}
use Rattle.sm_goals.proofs.limits.try_all_coefficients.Given as goal

abbrev pub invariant-loop-aimed : goal.invariant-loop-aimed
invariant-loop-aimed l = (n : ℕ) (gs : List Meaning) → AreFormsOf n gs l.forms → PassedUpTo (coefficients_tried n) l.aimed-index gs
