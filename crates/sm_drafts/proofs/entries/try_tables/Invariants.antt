use Rattle.std.specs.Prelude.{ℕ, ℤ, List}
use Rattle.sm_drafts.specs.Drafts.{entries_tried}
use Rattle.sm_drafts.proofs.Parts.{PassedUpTo}
use Rattle.sm_drafts.proofs.entries.try_tables.Given as goal

abbrev pub invariant-loop-pick : goal.invariant-loop-pick
invariant-loop-pick l = PassedUpTo (λ (p : ℕ × List ℤ). entries_tried p.1) l.pick-index l.picks
