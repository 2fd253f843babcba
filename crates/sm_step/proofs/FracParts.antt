-- Fractions by their parts.
use Rattle.std.proofs.Common.{◌≡◌, ℤ, pos, negsuc, ◌≤ℤ◌, ◌++◌, true, false, ◌<◌, ◌^◌, ◌⊎◌, ◌↔◌, inl, inr, refl, sym, ◌∙◌, ap, subst, Option, Some, None, arith, FitsSigned}
use Rattle.std.proofs.Math.Dec.{T_prop}
use Rattle.std.proofs.Math.Nat.{∣_prop}
use Rattle.std.proofs.Math.Bridge.{le_prop}
use Rattle.std.specs.Prelude.{codes, ◌==◌}
use Rattle.std.specs.Int.{w128}
use Rattle.std.proofs.lemmas.Bool.Decides.{nat_tests}
use Rattle.sm_base.specs.Whole.{whole_text}
use Rattle.sm_step.specs.PartText.{fraction_text}
use Rattle.std.proofs.lemmas.Int.{ints}
use Rattle.std.specs.Prelude.{unsigned_abs, ◌<ℤ◌, IsSome, IfSome}
use Rattle.sm_frac.specs.declared.fraction.Frac.{Frac}
use Rattle.sm_frac.specs.Lowest.{IsLowest}
use Rattle.sm_frac.proofs.Deciding.{IsFraction, fraction_or_not}
use Rattle.sm_step.specs.Fractions.{fraction_of, from_parts}
use Rattle.std.specs.Prelude.{ℕ, List, [], Bool, Ok, Err, if◌then◌else◌}
use Rattle.sm_step.specs.PartReading.{is_above_one, fraction_over}
use lib.Signed.{lt_z}
use Rattle.sm_step.specs.Taking.{Place, takes, Takes}

abbrev made : (n d : ℤ) → pos 0 <ℤ d → unsigned_abs n < 2 ^ 127 → unsigned_abs d < 2 ^ 127 → IsLowest n d → Frac
made n d p b s l = record { n = n; d = d; positive = p; bounded = b; small = s; lowest = l }

same_proofs : (n d : ℤ) (p q : pos 0 <ℤ d) (b c : unsigned_abs n < 2 ^ 127) (s t : unsigned_abs d < 2 ^ 127) (l m : IsLowest n d) → made n d p b s l ≡ made n d q c t m
same_proofs n d p q b c s t l m =
    let positive : IsProp (pos 0 <ℤ d) = hlevel T_prop in
    let bounded : IsProp (unsigned_abs n < 2 ^ 127) = le_prop in
    let small : IsProp (unsigned_abs d < 2 ^ 127) = le_prop in
    let lowest : IsProp (IsLowest n d) = hlevel ∣_prop in
    ap (λ (x : pos 0 <ℤ d). made n d x b s l) (positive p q) ∙ ap (λ (x : unsigned_abs n < 2 ^ 127). made n d q x s l) (bounded b c)
    ∙ ap (λ (x : unsigned_abs d < 2 ^ 127). made n d q c x l) (small s t) ∙ ap (λ (x : IsLowest n d). made n d q c t x) (lowest l m)

-- a fraction is its parts
pub same_fraction : (f g : Frac) → f.n ≡ g.n → f.d ≡ g.d → f ≡ g
same_fraction f g p q = subst (λ (d : ℤ). (h : pos 0 <ℤ d) (s : unsigned_abs d < 2 ^ 127) (l : IsLowest g.n d) → f ≡ made g.n d h g.bounded s l) q
    (subst (λ (n : ℤ). (b : unsigned_abs n < 2 ^ 127) (h : pos 0 <ℤ f.d) (s : unsigned_abs f.d < 2 ^ 127) (l : IsLowest n f.d) → f ≡ made n f.d h b s l) p
    (λ b h s l. same_proofs f.n f.d f.positive h f.bounded b f.small s f.lowest l) g.bounded) g.positive g.small g.lowest

narrow : (d : ℤ) → FitsSigned w128 d → pos 0 <ℤ d → unsigned_abs d < 2 ^ 127
narrow (pos n) fits h = omega (arith, fits)
narrow (negsuc n) fits h = absurd (omega (arith, ints))

fraction_found : (n d : ℤ) (o : Option Frac) → FitsSigned w128 d → IsSome o ↔ ((pos 0 <ℤ d) × (unsigned_abs n < 2 ^ 127) × IsLowest n d) → IfSome o (λ f. (f.n ≡ n) × (f.d ≡ d)) → o ≡ fraction_of n d
unfolding fraction_of
fraction_found n d o fits is parts = pick o is parts (fraction_or_not n d)
  where
    pick : (o : Option Frac) → IsSome o ↔ ((pos 0 <ℤ d) × (unsigned_abs n < 2 ^ 127) × IsLowest n d) → IfSome o (λ f. (f.n ≡ n) × (f.d ≡ d)) → (t : IsFraction n d ⊎ (IsFraction n d → ⊥)) → o ≡ from_parts n d t
    pick None is parts (inl h) = let some = is.1 (h.positive, h.bounded, h.lowest) in absurd (cc)
    pick None is parts (inr fails) = refl
    pick (Some f) is parts (inl h) = ap Some (same_fraction f (record { n = n; d = d; positive = h.positive; bounded = h.bounded; small = h.small; lowest = h.lowest }) parts.0 parts.1)
    pick (Some f) is parts (inr fails) = let h = is.0 refl in absurd (fails (record { positive = h.0; bounded = h.1; small = narrow d fits h.0; lowest = h.2 }))

-- what `Frac.new` answers of parts that are numbers of 128 bits
pub fraction_new : (n d m e : ℤ) → FitsSigned w128 d → m ≡ n → e ≡ d → (o : Option Frac) → IsSome o ↔ ((pos 0 <ℤ e) × (unsigned_abs m < 2 ^ 127) × IsLowest m e) → IfSome o (λ f. (f.n ≡ m) × (f.d ≡ e)) → o ≡ fraction_of n d
fraction_new n d m e fits p q o = subst (λ (m' : ℤ). IsSome o ↔ ((pos 0 <ℤ e) × (unsigned_abs m' < 2 ^ 127) × IsLowest m' e) → IfSome o (λ f. (f.n ≡ m') × (f.d ≡ e)) → o ≡ fraction_of n d) (sym p)
    (subst (λ (e' : ℤ). IsSome o ↔ ((pos 0 <ℤ e') × (unsigned_abs n < 2 ^ 127) × IsLowest n e') → IfSome o (λ f. (f.n ≡ n) × (f.d ≡ e')) → o ≡ fraction_of n d) (sym q) (λ is parts. fraction_found n d o fits is parts))

text_over_one : (f : Frac) → f.d ≡ pos 1 → fraction_text f ≡ whole_text f.n
text_over_one f e = let one : (unsigned_abs f.d == 1) ≡ true = rw e refl in rw one refl

text_over : (f : Frac) → pos 2 ≤ℤ f.d → fraction_text f ≡ whole_text f.n ++ codes "/" ++ whole_text f.d
text_over f h = let many : (unsigned_abs f.d == 1) ≡ false = not_one f.d h in rw many refl
  where
    not_one : (d : ℤ) → pos 2 ≤ℤ d → (unsigned_abs d == 1) ≡ false
    not_one (pos n) k = grind (arith, nat_tests)
    not_one (negsuc n) k = absurd (omega (arith, ints))

pub whole_fraction_text : (n : ℤ) (o : Option Frac) → IfSome o (λ f. (f.n ≡ n) × (f.d ≡ pos 1)) → IfSome o (λ f. fraction_text f ≡ whole_text n)
whole_fraction_text n None parts = tt
whole_fraction_text n (Some f) parts = text_over_one f parts.1 ∙ ap whole_text parts.0

pub proper_fraction_text : (n d : ℤ) (o : Option Frac) → pos 2 ≤ℤ d → IfSome o (λ f. (f.n ≡ n) × (f.d ≡ d)) → IfSome o (λ f. fraction_text f ≡ whole_text n ++ codes "/" ++ whole_text d)
proper_fraction_text n d None many parts = tt
proper_fraction_text n d (Some f) many parts = text_over f (subst (λ (e : ℤ). pos 2 ≤ℤ e) (sym parts.1) many) ∙ ap (λ (m : ℤ). whole_text m ++ codes "/" ++ whole_text f.d) parts.0 ∙ ap (λ (e : ℤ). whole_text n ++ codes "/" ++ whole_text e) parts.1

-- a fraction is the one of its parts
pub fraction_again : (f : Frac) → fraction_of f.n f.d ≡ Some f
unfolding fraction_of
fraction_again f = pick (fraction_or_not f.n f.d)
  where
    pick : (t : IsFraction f.n f.d ⊎ (IsFraction f.n f.d → ⊥)) → from_parts f.n f.d t ≡ Some f
    pick (inl h) = ap Some (same_fraction (record { n = f.n; d = f.d; positive = h.positive; bounded = h.bounded; small = h.small; lowest = h.lowest }) f refl refl)
    pick (inr fails) = absurd (fails (record { positive = f.positive; bounded = f.bounded; small = f.small; lowest = f.lowest }))

-- ---- a fraction that is read

pub at_most_one : (d : ℤ) → lt_z d (pos 2) ≡ true → is_above_one d ≡ false
at_most_one (pos n) h = grind (arith, nat_tests)
at_most_one (negsuc n) h = refl

pub small_denominator : (n d : ℤ) (bytes : List ℕ) → is_above_one d ≡ false → (if is_above_one d then fraction_over n d bytes else None) ≡ None
small_denominator n d bytes e = rw e refl

pub no_fraction : (n d : ℤ) (bytes : List ℕ) → fraction_of n d ≡ None → fraction_over n d bytes ≡ None
no_fraction n d bytes e = rw e refl

pub no_proper_fraction : (n d : ℤ) (bytes : List ℕ) → fraction_of n d ≡ None → (if is_above_one d then fraction_over n d bytes else None) ≡ None
no_proper_fraction n d bytes e = pick (is_above_one d)
  where
    pick : (t : Bool) → (if t then fraction_over n d bytes else None) ≡ None
    pick true = rw e refl
    pick false = refl

pub fraction_taken : (n d : ℤ) {f : Frac} {p : Place} → fraction_of n d ≡ Some f → Takes (fraction_over n d) [] p f p
fraction_taken n d {f} {p} e = record { is = pick p }
  where
    pick : (p : Place) → takes (fraction_over n d) [] p f p
    pick (Ok bytes) = (rw e refl, refl)
    pick (Err fault) = refl
