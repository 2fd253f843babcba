-- The counts of a formula and of each of its parts, as a tree.
use Rattle.std.specs.Prelude.{Bool, true, false, not, List, [], ◌∷◌, map, if◌then◌else◌}
use Rattle.sm_clausify.specs.declared.counts.Counts.{Counts}
use Rattle.sm_clausify.specs.declared.formula.Formula.{Formula, fold-Formula, out-Formula}
use Rattle.sm_clausify.specs.declared.formula.Formula.TheOpen.{Formula-F}
use Rattle.sm_clausify.specs.declared.tally.Tally.{Tally, out-Tally, roll-Tally}
use Rattle.sm_clausify.specs.Counting.{literal_counts, flipped_counts, all_counts, any_counts, implied_counts, equivalent_counts}

abbrev pub counts_in : Tally → Counts
counts_in t = (out-Tally t).counts

abbrev pub parts_in : Tally → List Tally
parts_in t = (out-Tally t).parts

abbrev pub tally_with : Counts → List Tally → Tally
tally_with c ts = roll-Tally (record { counts = c; parts = ts })

-- the tally of a negation
abbrev pub flipped_if : Bool → Tally → Tally
flipped_if odd t = if odd then tally_with (flipped_counts (counts_in t)) (parts_in t) else t

-- one level, with the tally of each part
abbrev pub tally_step : Formula-F Tally → Tally
tally_step (Formula-F.Lit l) = tally_with literal_counts []
tally_step (Formula-F.Not t) = flipped_if true t
tally_step (Formula-F.And ts) = tally_with (all_counts (map counts_in ts)) ts
tally_step (Formula-F.Or ts) = tally_with (any_counts (map counts_in ts)) ts
tally_step (Formula-F.Implies s t) = tally_with (implied_counts (counts_in s) (counts_in t)) (s ∷ t ∷ [])
tally_step (Formula-F.Iff s t) = tally_with (equivalent_counts (counts_in s) (counts_in t)) (s ∷ t ∷ [])

abbrev pub tally_of : Formula → Tally
tally_of = fold-Formula Tally tally_step

abbrev pub is_not_step : Formula-F Formula → Bool
is_not_step (Formula-F.Not f) = true
is_not_step _ = false

-- a `not` stands in front
abbrev pub is_not : Formula → Bool
is_not f = is_not_step (out-Formula f)

-- whether negated behind an odd number of `not`s
abbrev pub turned : Bool → Bool → Bool
turned odd negated = if odd then not negated else negated
