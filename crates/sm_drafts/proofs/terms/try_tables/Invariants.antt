use Rattle.std.specs.Prelude.{ℕ, ℤ, List, length}
use Rattle.sm_kinds.specs.Limits.{most_members}
use Rattle.sm_data.specs.declared.refusal.Counted.TheVariants as counted
use Rattle.sm_meaning.specs.Limits.{count_tried}
use Rattle.sm_drafts.proofs.Parts.{PassedUpTo}
use Rattle.sm_drafts.proofs.terms.try_tables.Given as goal

abbrev pub invariant-loop-pick : goal.invariant-loop-pick
invariant-loop-pick l = PassedUpTo (λ (p : ℕ × List ℤ). count_tried counted.Terms most_members (length p.1)) l.pick-index l.picks
