-- What the tally of a formula is, and what a `not` in front of it changes.
use Rattle.std.proofs.Common.{◌≡◌, ◌∙◌, ap, ap₂, sym, refl, arith, ◌≤◌, Bool, true, false, not, List, [], ◌∷◌}
use Rattle.sm_clausify.specs.declared.counts.Counts.{Counts}
use Rattle.sm_clausify.specs.declared.formula.Formula.{Formula, fold-roll-Formula, size-Formula, size_is-Formula, roll-Formula, out-roll-Formula}
use Rattle.sm_clausify.specs.declared.formula.Formula.TheVariants as f
use Rattle.sm_clausify.specs.declared.formula.Formula.TheOpen.{Formula-F}
use Rattle.sm_clausify.specs.declared.tally.Tally.{Tally, roll-out-Tally, out-roll-Tally}
use Rattle.sm_clausify.specs.declared.tally.Tally.TheOpen.{Tally-F}
use Rattle.sm_clausify.specs.Propositions.{Proposition, negation, meaning, meaning_step}
use Rattle.sm_clausify.specs.Counting.{flipped_counts, equivalent_counts}
use Rattle.sm_clausify.specs.Tallies.{counts_in, parts_in, tally_with, flipped_if, tally_step, tally_of, turned}

pub not_means : (p : Formula) → meaning (f.Not p) ≡ negation (meaning p)
not_means p = ap meaning (sym (f.rolls-Not p)) ∙ fold-roll-Formula Proposition meaning_step (Formula-F.Not p)

pub not_tallied : (p : Formula) → tally_of (f.Not p) ≡ flipped_if true (tally_of p)
not_tallied p = ap tally_of (sym (f.rolls-Not p)) ∙ fold-roll-Formula Tally tally_step (Formula-F.Not p)

pub counts_in-tally_with : (c : Counts) (ts : List Tally) → counts_in (tally_with c ts) ≡ c
counts_in-tally_with c ts = ap (λ (x : Tally-F Tally). x.counts) (out-roll-Tally (record { counts = c; parts = ts }))

pub parts_in-tally_with : (c : Counts) (ts : List Tally) → parts_in (tally_with c ts) ≡ ts
parts_in-tally_with c ts = ap (λ (x : Tally-F Tally). x.parts) (out-roll-Tally (record { counts = c; parts = ts }))

-- the parts of an equivalence
pub iff_parts : (p q : Formula) → parts_in (tally_of (f.Iff p q)) ≡ tally_of p ∷ tally_of q ∷ []
iff_parts p q =
    ap parts_in (ap tally_of (sym (f.rolls-Iff p q)) ∙ fold-roll-Formula Tally tally_step (Formula-F.Iff p q))
    ∙ parts_in-tally_with (equivalent_counts (counts_in (tally_of p)) (counts_in (tally_of q))) (tally_of p ∷ tally_of q ∷ [])

pub flipped_twice : (odd : Bool) (t : Tally) → flipped_if odd (flipped_if true t) ≡ flipped_if (not odd) t
flipped_twice false t = refl
flipped_twice true t =
    ap₂ tally_with (ap flipped_counts (counts_in-tally_with (flipped_counts (counts_in t)) (parts_in t))) (parts_in-tally_with (flipped_counts (counts_in t)) (parts_in t))
    ∙ roll-out-Tally t

pub not-turned : (odd negated : Bool) → not (turned odd negated) ≡ turned (not odd) negated
not-turned true true = refl
not-turned true false = refl
not-turned false negated = refl

pub not_deeper : (p : Formula) → size-Formula p ≤ size-Formula (f.Not p)
not_deeper p =
    let e = size_is-Formula (roll-Formula (Formula-F.Not p)) in
    let g = rw (out-roll-Formula (Formula-F.Not p)) at e in
    let h : size-Formula (f.Not p) ≡ size-Formula (roll-Formula (Formula-F.Not p)) = ap size-Formula (sym (f.rolls-Not p)) in
    omega (arith, g, h)
