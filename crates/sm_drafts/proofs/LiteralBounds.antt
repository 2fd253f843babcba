-- The bounds of the literals of a formula, by its parts.
use Rattle.std.proofs.Common.{◌≡◌, ◌∙◌, ap, ap₂, sym, refl, List, [], ◌∷◌, ◌++◌, ℤ}
use Rattle.std.specs.Prelude.{Result, Ok, Err}
use Rattle.std.specs.List.{flat_map}
use Rattle.std.proofs.lemmas.List.{append-nil}
use Rattle.sm_kinds.specs.declared.literal.Literal.{Literal}
use Rattle.sm_clausify.specs.declared.formula.Formula.{Formula, fold-roll-Formula}
use Rattle.sm_clausify.specs.declared.formula.Formula.TheVariants as f
use Rattle.sm_clausify.specs.declared.formula.Formula.TheOpen.{Formula-F}
use Rattle.sm_clausify.proofs.Views.{implies_means, iff_means}
use Rattle.sm_clausify.specs.Propositions.{Proposition, literal, conjunction, disjunction, implication, equivalence, meaning, meaning_step, meanings}
use Rattle.sm_meaning.specs.declared.refusal.ExpandRefusal.{ExpandRefusal}
use Rattle.sm_meaning.specs.Trials.{each_tried}
use Rattle.sm_meaning.specs.Limits.{literal_bounds, all_literal_bounds}
use Rattle.sm_drafts.specs.Drafts.{Passes, bound_tried, bounds_tried}
use Rattle.sm_drafts.proofs.Parts.{refused_first, passed_first, passes-append, passes_each, passes-flat_map, passes_single}

module _ (p q : Proposition) where
  implication_bounds : literal_bounds p ++ literal_bounds q ≡ literal_bounds (implication p q)
  implication_bounds = ap (λ (zs : List ℤ). literal_bounds p ++ zs) (sym (append-nil (literal_bounds q)))

  equivalence_bounds : literal_bounds (implication p q) ++ literal_bounds (implication q p) ≡ literal_bounds (equivalence p q)
  equivalence_bounds = ap (λ (zs : List ℤ). literal_bounds (implication p q) ++ zs) (sym (append-nil (literal_bounds (implication q p))))

-- the first is refused
pub implied_refused : (p q : Proposition) (e : ExpandRefusal) → Passes (bounds_tried (literal_bounds p)) (Err e) → Passes (bounds_tried (literal_bounds (implication p q))) (Err e)
implied_refused p q e h =
    passes_each bound_tried (literal_bounds p ++ literal_bounds q) (literal_bounds (implication p q)) (Err e) (implication_bounds p q)
    (passes-append bound_tried (literal_bounds p) (literal_bounds q) (Err e) (refused_first e (bounds_tried (literal_bounds p)) (bounds_tried (literal_bounds q)) h))

-- the second decides
pub implied_passes : (p q : Proposition) (r : Result (Unit {0}) ExpandRefusal) → Passes (bounds_tried (literal_bounds p)) (Ok tt) → Passes (bounds_tried (literal_bounds q)) r
    → Passes (bounds_tried (literal_bounds (implication p q))) r
implied_passes p q r h k =
    passes_each bound_tried (literal_bounds p ++ literal_bounds q) (literal_bounds (implication p q)) r (implication_bounds p q)
    (passes-append bound_tried (literal_bounds p) (literal_bounds q) r (passed_first (bounds_tried (literal_bounds p)) (bounds_tried (literal_bounds q)) r h k))

-- one way is refused, and so are both
pub equivalent_refused : (p q : Proposition) (e : ExpandRefusal) → Passes (bounds_tried (literal_bounds (implication p q))) (Err e) → Passes (bounds_tried (literal_bounds (equivalence p q))) (Err e)
equivalent_refused p q e h =
    let forth = literal_bounds (implication p q) in
    let back = literal_bounds (implication q p) in
    passes_each bound_tried (forth ++ back) (literal_bounds (equivalence p q)) (Err e) (equivalence_bounds p q)
    (passes-append bound_tried forth back (Err e) (refused_first e (bounds_tried forth) (bounds_tried back) h))

-- each literal stands twice, and the second time it passes as it did the first time
pub equivalent_passes : (p q : Proposition) (r : Result (Unit {0}) ExpandRefusal) → Passes (bounds_tried (literal_bounds p)) (Ok tt) → Passes (bounds_tried (literal_bounds q)) r
    → Passes (bounds_tried (literal_bounds (equivalence p q))) r
equivalent_passes p q (Err e) h k = equivalent_refused p q e (implied_passes p q (Err e) h k)
equivalent_passes p q (Ok u) h k =
    let forth = literal_bounds (implication p q) in
    let back = literal_bounds (implication q p) in
    passes_each bound_tried (forth ++ back) (literal_bounds (equivalence p q)) (Ok u) (equivalence_bounds p q)
    (passes-append bound_tried forth back (Ok u) (passed_first (bounds_tried forth) (bounds_tried back) (Ok u) (implied_passes p q (Ok u) h k) (implied_passes q p (Ok u) k h)))

-- ---- lists

parts_bounds : (fs : List Formula) → flat_map (λ (g : Formula). literal_bounds (meaning g)) fs ≡ all_literal_bounds (meanings fs)
parts_bounds [] = refl
parts_bounds (g ∷ gs) = ap (λ (zs : List ℤ). literal_bounds (meaning g) ++ zs) (parts_bounds gs)

pub parts_pass : (fs gs : List Formula) (r : Result (Unit {0}) ExpandRefusal) → fs ≡ gs → Passes (each_tried (λ (g : Formula). bounds_tried (literal_bounds (meaning g))) fs) r
    → Passes (bounds_tried (all_literal_bounds (meanings gs))) r
parts_pass fs gs r is h =
    passes_each bound_tried (flat_map (λ (g : Formula). literal_bounds (meaning g)) gs) (all_literal_bounds (meanings gs)) r (parts_bounds gs)
    (passes-flat_map bound_tried (λ (g : Formula). literal_bounds (meaning g)) fs gs r is h)

-- ---- what a formula means

lit_means : (l : Literal) → meaning (f.Lit l) ≡ literal l
lit_means l = ap meaning (sym (f.rolls-Lit l)) ∙ fold-roll-Formula Proposition meaning_step (Formula-F.Lit l)

and_means : (fs : List Formula) → meaning (f.And fs) ≡ conjunction (meanings fs)
and_means fs = ap meaning (sym (f.rolls-And fs)) ∙ fold-roll-Formula Proposition meaning_step (Formula-F.And fs)

or_means : (fs : List Formula) → meaning (f.Or fs) ≡ disjunction (meanings fs)
or_means fs = ap meaning (sym (f.rolls-Or fs)) ∙ fold-roll-Formula Proposition meaning_step (Formula-F.Or fs)

-- ---- by the parts of a formula

module _ (x y : Formula) (r : Result (Unit {0}) ExpandRefusal) (same : literal_bounds (meaning y) ≡ literal_bounds (meaning x)) where
  -- what means the same as y passes as x does
  moved : (q : Proposition) → meaning y ≡ q → Passes (bounds_tried (literal_bounds q)) r → Passes (bounds_tried (literal_bounds (meaning x))) r
  moved q means h = passes_each bound_tried (literal_bounds q) (literal_bounds (meaning x)) r (ap literal_bounds (sym means) ∙ same) h

  pub literal_passes : (l : Literal) → y ≡ f.Lit l → Passes (bound_tried l.bound) r → Passes (bounds_tried (literal_bounds (meaning x))) r
  literal_passes l is h = moved (literal l) (ap meaning is ∙ lit_means l) (passes_single (bound_tried l.bound) r h)

  pub all_pass : (fs gs : List Formula) → y ≡ f.And fs → gs ≡ fs → Passes (each_tried (λ (g : Formula). bounds_tried (literal_bounds (meaning g))) gs) r → Passes (bounds_tried (literal_bounds (meaning x))) r
  all_pass fs gs is slice h = moved (conjunction (meanings fs)) (ap meaning is ∙ and_means fs) (parts_pass gs fs r slice h)

  pub any_pass : (fs gs : List Formula) → y ≡ f.Or fs → gs ≡ fs → Passes (each_tried (λ (g : Formula). bounds_tried (literal_bounds (meaning g))) gs) r → Passes (bounds_tried (literal_bounds (meaning x))) r
  any_pass fs gs is slice h = moved (disjunction (meanings fs)) (ap meaning is ∙ or_means fs) (parts_pass gs fs r slice h)

  pub implication_passes : (p q a b : Formula) → y ≡ f.Implies p q → a ≡ p → b ≡ q → Passes (bounds_tried (literal_bounds (implication (meaning a) (meaning b)))) r
      → Passes (bounds_tried (literal_bounds (meaning x))) r
  implication_passes p q a b is first second h =
      moved (implication (meaning a) (meaning b)) (ap meaning is ∙ implies_means p q ∙ ap₂ (λ (s t : Formula). implication (meaning s) (meaning t)) (sym first) (sym second)) h

  pub equivalence_passes : (p q a b : Formula) → y ≡ f.Iff p q → a ≡ p → b ≡ q → Passes (bounds_tried (literal_bounds (equivalence (meaning a) (meaning b)))) r
      → Passes (bounds_tried (literal_bounds (meaning x))) r
  equivalence_passes p q a b is first second h =
      moved (equivalence (meaning a) (meaning b)) (ap meaning is ∙ iff_means p q ∙ ap₂ (λ (s t : Formula). equivalence (meaning s) (meaning t)) (sym first) (sym second)) h
