-- The multipliers of the rows, one after the other.
use Rattle.std.proofs.Common.{◌≡◌, ℕ, suc, ◌<◌, ◌≤◌, ◌+◌, List, [], ◌∷◌, ◌++◌, length, get_or, drop, sym, ap, ◌∙◌, refl, arith, subst, map}
use Rattle.std.specs.Prelude.{◌⊎◌, Bool, true, false, if◌then◌else◌}
use Rattle.std.proofs.Math.Seq.{drop-cons}
use Rattle.std.proofs.lemmas.List.{drop_all, map-append, append_assoc, append-nil}
use Rattle.sm_frac.specs.Rational.{ℚ, ◌-ℚ◌, zero_ℚ}
use Rattle.sm_frac.specs.Frac.{value_of}
use Rattle.sm_frac.specs.declared.fraction.Frac.{Frac}
use Rattle.sm_certificate.specs.declared.program.LpRow.{LpRow}
use Rattle.sm_certificate.specs.Slacks.{Half, halves, halves_of, upper_half, turned_half}
use Rattle.sm_lp.specs.Answer.{row_multipliers}
use Rattle.sm_lp.specs.Ending.{AreApart, multiplier_of}

pub some_half : (row : LpRow) → 1 ≤ length (halves_of row)
unfolding halves_of
some_half row = by_kind row.equal (upper_half row) (turned_half row)
  where
    by_kind : (e : Bool) (a b : Half) → 1 ≤ length (if e then a ∷ b ∷ [] else a ∷ [])
    by_kind true a b = omega arith
    by_kind false a b = omega arith

pub two_halves_of : (row : LpRow) → row.equal ≡ true → length (halves_of row) ≡ 2
unfolding halves_of
two_halves_of row e = by_kind row.equal (upper_half row) (turned_half row) e
  where
    by_kind : (e : Bool) (a b : Half) → e ≡ true → length (if e then a ∷ b ∷ [] else a ∷ []) ≡ 2
    by_kind true a b e = refl
    by_kind false a b e = absurd (cc)

counted : (row : LpRow) (rows : List LpRow) → length (halves (row ∷ rows)) ≡ length (halves_of row) + length (halves rows)
unfolding halves halves_of
counted row rows = by_kind row.equal (upper_half row) (turned_half row) (halves rows)
  where
    by_kind : (e : Bool) (a b : Half) (hs : List Half) → length (if e then a ∷ b ∷ hs else a ∷ hs) ≡ length (if e then a ∷ b ∷ [] else a ∷ []) + length hs
    by_kind true a b hs = omega arith
    by_kind false a b hs = omega arith

one_row : (row : LpRow) (rows : List LpRow) (s : ℕ → ℚ) (k : ℕ) → row_multipliers (row ∷ rows) s k ≡ multiplier_of row s k ∷ row_multipliers rows s (k + length (halves_of row))
unfolding row_multipliers halves_of
one_row row rows s k = by_kind row.equal (s k -ℚ s (k + 1)) (s k) (row_multipliers rows s) k (upper_half row) (turned_half row)
  where
    by_kind : (e : Bool) (a b : ℚ) (f : ℕ → List ℚ) (k : ℕ) (x y : Half) → (if e then a ∷ f (k + 2) else b ∷ f (k + 1)) ≡ (if e then a else b) ∷ f (k + length (if e then x ∷ y ∷ [] else x ∷ []))
    by_kind true a b f k x y = refl
    by_kind false a b f k x y = refl

no_rows : (s : ℕ → ℚ) (k : ℕ) → row_multipliers [] s k ≡ []
unfolding row_multipliers
no_rows s k = refl

apart_first : (row : LpRow) (rows : List LpRow) (s : ℕ → ℚ) (k : ℕ) → AreApart (row ∷ rows) s k → row.equal ≡ true → (s k ≡ zero_ℚ) ⊎ (s (k + 1) ≡ zero_ℚ)
unfolding AreApart
apart_first row rows s k h = h.0

apart_rest : (row : LpRow) (rows : List LpRow) (s : ℕ → ℚ) (k : ℕ) → AreApart (row ∷ rows) s k → AreApart rows s (k + length (halves_of row))
unfolding AreApart halves_of
apart_rest row rows s k h = by_kind row.equal k (upper_half row) (turned_half row) h.1
  where
    by_kind : (e : Bool) (k : ℕ) (x y : Half) → AreApart rows s (if e then k + 2 else k + 1) → AreApart rows s (k + length (if e then x ∷ y ∷ [] else x ∷ []))
    by_kind true k x y h = h
    by_kind false k x y h = h

rest_is : (rows : List LpRow) (i : ℕ) (row : LpRow) → i < length rows → row ≡ get_or rows i row → drop i rows ≡ row ∷ drop (i + 1) rows
rest_is rows i row h is = let e : suc i ≡ i + 1 = omega arith in drop-cons rows i row h ∙ ap (λ (r : LpRow). r ∷ drop (suc i) rows) (sym is) ∙ ap (λ (k : ℕ). row ∷ drop k rows) e

pub left_count : (rows : List LpRow) (i : ℕ) (row : LpRow) → i < length rows → row ≡ get_or rows i row → length (halves (drop i rows)) ≡ length (halves_of row) + length (halves (drop (i + 1) rows))
left_count rows i row h is = ap (λ (xs : List LpRow). length (halves xs)) (rest_is rows i row h is) ∙ counted row (drop (i + 1) rows)

pub left_apart : (rows : List LpRow) (i : ℕ) (row : LpRow) (s : ℕ → ℚ) (k : ℕ) → i < length rows → row ≡ get_or rows i row → AreApart (drop i rows) s k → row.equal ≡ true → (s k ≡ zero_ℚ) ⊎ (s (k + 1) ≡ zero_ℚ)
left_apart rows i row s k h is a = apart_first row (drop (i + 1) rows) s k (subst (λ (xs : List LpRow). AreApart xs s k) (rest_is rows i row h is) a)

pub more_apart : (rows : List LpRow) (i : ℕ) (row : LpRow) (s : ℕ → ℚ) (k l : ℕ) → i < length rows → row ≡ get_or rows i row → l ≡ length (halves_of row) → AreApart (drop i rows) s k → AreApart (drop (i + 1) rows) s (k + l)
more_apart rows i row s k l h is e a = subst (λ (m : ℕ). AreApart (drop (i + 1) rows) s (k + m)) (sym e) (apart_rest row (drop (i + 1) rows) s k (subst (λ (xs : List LpRow). AreApart xs s k) (rest_is rows i row h is) a))

pub more_made : (rows : List LpRow) (i : ℕ) (row : LpRow) (s : ℕ → ℚ) (k l : ℕ) (old new : List Frac) (x : Frac) (all : List ℚ) → i < length rows → row ≡ get_or rows i row → l ≡ length (halves_of row) → new ≡ old ++ x ∷ [] → value_of x ≡ multiplier_of row s k → map value_of old ++ row_multipliers (drop i rows) s k ≡ all → map value_of new ++ row_multipliers (drop (i + 1) rows) s (k + l) ≡ all
more_made rows i row s k l old new x all h is el en ex made =
    ap (λ (xs : List Frac). map value_of xs ++ row_multipliers (drop (i + 1) rows) s (k + l)) en
    ∙ ap (λ (m : ℕ). map value_of (old ++ x ∷ []) ++ row_multipliers (drop (i + 1) rows) s (k + m)) el
    ∙ ap (λ (xs : List ℚ). xs ++ row_multipliers (drop (i + 1) rows) s (k + length (halves_of row))) (map-append value_of old (x ∷ []))
    ∙ append_assoc (map value_of old) (value_of x ∷ []) (row_multipliers (drop (i + 1) rows) s (k + length (halves_of row)))
    ∙ ap (λ (y : ℚ). map value_of old ++ (y ∷ row_multipliers (drop (i + 1) rows) s (k + length (halves_of row)))) ex
    ∙ ap (λ (xs : List ℚ). map value_of old ++ xs) (sym (one_row row (drop (i + 1) rows) s k))
    ∙ ap (λ (xs : List LpRow). map value_of old ++ row_multipliers xs s k) (sym (rest_is rows i row h is))
    ∙ made

pub all_made : (rows : List LpRow) (i : ℕ) (s : ℕ → ℚ) (k : ℕ) (old : List Frac) (all : List ℚ) → length rows ≤ i → map value_of old ++ row_multipliers (drop i rows) s k ≡ all → map value_of old ≡ all
all_made rows i s k old all h made = sym (append-nil (map value_of old)) ∙ ap (λ (xs : List ℚ). map value_of old ++ xs) (sym (no_rows s k) ∙ ap (λ (xs : List LpRow). row_multipliers xs s k) (sym (drop_all i rows h))) ∙ made
