use Rattle.std.proofs.Common.{ℕ, List}
use Rattle.sm_forms.specs.Meanings.{Meaning, constant_of}
use Rattle.sm_drafts.specs.Drafts.{bound_tried}
use Rattle.sm_drafts.proofs.Parts.{PassedUpTo}
use Rattle.sm_goals.specs.Goals.{AreFormsOf}
use Rattle.sm_goals.proofs.limits.try_constants.Given as goal

abbrev pub invariant-loop-aimed : goal.invariant-loop-aimed
invariant-loop-aimed l = (n : ℕ) (gs : List Meaning) → AreFormsOf n gs l.forms → PassedUpTo (λ g. bound_tried (constant_of g)) l.aimed-index gs
