-- The steps of a merge.
use Rattle.std.proofs.Common.{◌≡◌, ◌≢◌, ◌∙◌, refl, ℕ, zero, suc, arith, ℤ, pos, ◌<◌, ◌≤◌, ◌+◌, inl, inr, List, [], ◌∷◌, ◌++◌, length, drop, get_or, add-one, drop-cons, subst, Result, IfOk, IfErr}
use Rattle.std.specs.Prelude.{◌+ℤ◌, ◌*ℤ◌, unsigned_abs}
use Rattle.std.proofs.lemmas.Bool.{cases_lt}
use Rattle.std.proofs.lemmas.Int.{ints}
use Rattle.std.proofs.lemmas.Result.{IfOk-weaker, IfErr-weaker}
use Rattle.std.proofs.Math.Path.{fun_ext}
use Rattle.std.proofs.Math.Seq.{drop-length}
use Rattle.std.proofs.Math.IntN.{*ℤ-zero}
use Rattle.sm_kinds.proofs.Multiples.{*ℤ_assoc, *ℤ-+ℤ, +ℤ-*ℤ}
use Rattle.sm_kinds.specs.Sums.{sum_at}
use Rattle.sm_forms.specs.Meanings.{Meaning, unit, nowhere, above, coefficient, coefficient_above, greatest_value}
use Rattle.sm_forms.specs.Forms.{IsTerm, Rises, IsRefused}
use Rattle.sm_forms.specs.Merging.{Moves, Starts, terms_added, added_to, rest_at}
use Rattle.sm_forms.specs.declared.merge.Next.{Next}
use Rattle.sm_forms.specs.declared.refusal.FormRefusal.{FormRefusal}
use Rattle.sm_forms.specs.declared.refusal.FormRefusal.TheVariants.{TooLarge, OutOfMemory}
use Rattle.sm_forms.proofs.Coefficients.{coefficient_in, unit_same, unit_other, sum_unit, sum_nowhere, none_before, none_behind, first_above}

abbrev pub no_term : ℕ × ℤ
no_term = (0, pos 0)

pub drop_split : (xs : List (ℕ × ℤ)) (i : ℕ) → i < length xs → drop i xs ≡ get_or xs i no_term ∷ drop (i + 1) xs
drop_split xs i lt = rw add-one (drop-cons xs i no_term lt)

pub split_rises : (n from : ℕ) (xs : List (ℕ × ℤ)) (i : ℕ) → i < length xs → Rises n from (drop i xs)
    → IsTerm n from (get_or xs i no_term) × Rises n ((get_or xs i no_term).0 + 1) (drop (i + 1) xs)
split_rises n from xs i lt h = rw (drop_split xs i lt) at h

none_left : (n v : ℕ) (ts : List (ℕ × ℤ)) (i : ℕ) → length ts ≤ i → i ≤ length ts → Rises n v (drop i ts)
none_left n v ts i h k = let e : i ≡ length ts = omega arith in rw (e, drop-length ts) tt

raised : (n from v : ℕ) (ts : List (ℕ × ℤ)) (i : ℕ) → i < length ts → v < (get_or ts i no_term).0 → Rises n from (drop i ts) → Rises n (v + 1) (drop i ts)
raised n from v ts i lt above a =
    let e = drop_split ts i lt in
    let p = split_rises n from ts i lt a in
    rw e (record { at_least = omega arith; below = p.0.below; nonzero = p.0.nonzero; small = p.0.small }, p.1)

-- what is left rises behind a variable before its first
pub behind : (n from v : ℕ) (ts : List (ℕ × ℤ)) (i : ℕ) → i ≤ length ts → (i < length ts → v < (get_or ts i no_term).0) → Rises n from (drop i ts) → Rises n (v + 1) (drop i ts)
behind n from v ts i le above a = elim (cases_lt i (length ts)) [
  | inl lt ↦ raised n from v ts i lt (above lt) a
  | inr ge ↦ none_left n (v + 1) ts i ge le
]

module _ (n from : ℕ) (left : List (ℕ × ℤ)) (i : ℕ) (by : ℤ) (right : List (ℕ × ℤ)) (j : ℕ) (v : ℕ) (c : ℤ) where
  pub take_left : i < length left → v ≡ (get_or left i no_term).0 → c ≡ (get_or left i no_term).1
      → Rises n from (drop i left) → Rises n (v + 1) (drop j right)
      → Moves n from left i by right j (record { var = v; coefficient = c; i = i + 1; j = j })
  take_left lt ev ec a r =
      let e = drop_split left i lt in
      let p = split_rises n from left i lt a in
      record {
        total = λ q. rw e (rw (ev, ec) (omega (arith, ints)));
        at_least = rw ev p.0.at_least;
        below = rw ev p.0.below;
        left_behind = rw ev p.1;
        right_behind = r;
      }

  pub take_right : j < length right → v ≡ (get_or right j no_term).0 → c ≡ by *ℤ (get_or right j no_term).1
      → Rises n (v + 1) (drop i left) → Rises n from (drop j right)
      → Moves n from left i by right j (record { var = v; coefficient = c; i = i; j = j + 1 })
  take_right lt ev ec l a =
      let e = drop_split right j lt in
      let t = get_or right j no_term in
      let p = split_rises n from right j lt a in
      record {
        total = λ q. rw e (rw (ev, ec) (omega (arith, ints, *ℤ-+ℤ by (t.1 *ℤ q t.0) (sum_at (drop (j + 1) right) q), *ℤ_assoc by t.1 (q t.0))));
        at_least = rw ev p.0.at_least;
        below = rw ev p.0.below;
        left_behind = l;
        right_behind = rw ev p.1;
      }

  -- both lists begin with the same variable, so their first terms go into one, and both rests lie behind it
  pub take_both : i < length left → j < length right → v ≡ (get_or left i no_term).0 → v ≡ (get_or right j no_term).0
      → c ≡ (get_or left i no_term).1 +ℤ (by *ℤ (get_or right j no_term).1)
      → Rises n from (drop i left) → Rises n from (drop j right)
      → Moves n from left i by right j (record { var = v; coefficient = c; i = i + 1; j = j + 1 })
  take_both li lj ev eu ec a b =
      let e = drop_split left i li in
      let f = drop_split right j lj in
      let s = get_or left i no_term in
      let t = get_or right j no_term in
      let p = split_rises n from left i li a in
      let r = split_rises n from right j lj b in
      record {
        total = λ q. rw (e, f, ← ev, ← eu, ec) (omega (arith, ints, *ℤ-+ℤ by (t.1 *ℤ q v) (sum_at (drop (j + 1) right) q), *ℤ_assoc by t.1 (q v), +ℤ-*ℤ s.1 (by *ℤ t.1) (q v)));
        at_least = rw ev p.0.at_least;
        below = rw ev p.0.below;
        left_behind = rw ev p.1;
        right_behind = rw eu r.1;
      }

-- ---- what is written

pub sum-push : (ts : List (ℕ × ℤ)) (t : ℕ × ℤ) (p : ℕ → ℤ) → sum_at (ts ++ t ∷ []) p ≡ sum_at ts p +ℤ (t.1 *ℤ p t.0)
sum-push [] t p = omega (arith, ints)
sum-push (x ∷ ts) t p = omega (arith, ints, sum-push ts t p)

-- terms may stand in a wider range
pub wider : (m n from : ℕ) (ts : List (ℕ × ℤ)) → m ≤ n → Rises m from ts → Rises n from ts
wider m n from [] le h = tt
wider m n from (t ∷ ts) le h = (record { at_least = h.0.at_least; below = omega (arith, h.0.below); nonzero = h.0.nonzero; small = h.0.small }, wider m n (t.0 + 1) ts le h.1)

pub rises-push : (m from v : ℕ) (c : ℤ) (ts : List (ℕ × ℤ)) → from ≤ v → m ≤ v → c ≢ pos 0 → unsigned_abs c ≤ greatest_value → Rises m from ts → Rises (v + 1) from (ts ++ (v, c) ∷ [])
rises-push m from v c [] f le ne small h = (record { at_least = f; below = omega arith; nonzero = ne; small = small }, tt)
rises-push m from v c (t ∷ ts) f le ne small h = (
  record { at_least = h.0.at_least; below = omega (arith, h.0.below); nonzero = h.0.nonzero; small = h.0.small },
  rises-push m (t.0 + 1) v c ts (omega (arith, h.0.below)) le ne small h.1,
)

-- a list rises up to its last variable
pub up_to_last : (n from : ℕ) (ts : List (ℕ × ℤ)) (k : ℕ) → k + 1 ≡ length ts → Rises n from ts → Rises ((get_or ts k no_term).0 + 1) from ts
up_to_last n from [] k e h = tt
up_to_last n from (t ∷ []) zero e h = (record { at_least = h.0.at_least; below = omega arith; nonzero = h.0.nonzero; small = h.0.small }, tt)
up_to_last n from (t ∷ u ∷ ts) zero e h = absurd (omega arith)
up_to_last n from (t ∷ ts) (suc k) e h = (
  record { at_least = h.0.at_least; below = omega (arith, last_behind n (t.0 + 1) ts k (omega arith) h.1); nonzero = h.0.nonzero; small = h.0.small },
  up_to_last n (t.0 + 1) ts k (omega arith) h.1,
)
  where
    last_behind : (n from : ℕ) (ts : List (ℕ × ℤ)) (k : ℕ) → k < length ts → Rises n from ts → from ≤ (get_or ts k no_term).0
    last_behind n from [] k lt h = absurd (omega arith)
    last_behind n from (t ∷ ts) zero lt h = h.0.at_least
    last_behind n from (t ∷ ts) (suc k) lt h = omega (arith, h.0.at_least, last_behind n (t.0 + 1) ts k (omega arith) h.1)

last_below : (n from : ℕ) (ts : List (ℕ × ℤ)) (k : ℕ) → k < length ts → Rises n from ts → (get_or ts k no_term).0 < n
last_below n from [] k lt h = absurd (omega arith)
last_below n from (t ∷ ts) zero lt h = h.0.below
last_below n from (t ∷ ts) (suc k) lt h = last_below n (t.0 + 1) ts k (omega arith) h.1

-- where the right's first variable comes after the left's last, the right may follow
pub starts_behind : (n : ℕ) (left right : List (ℕ × ℤ)) (k : ℕ) → k + 1 ≡ length left → (0 < length right → (get_or left k no_term).0 < (get_or right 0 no_term).0)
    → Rises n 0 left → Rises n 0 right → Starts n left [] right
starts_behind n left right k e lt a b = record {
  first = (get_or left k no_term).0 + 1;
  in_range = omega (arith, last_below n 0 left k (omega arith) a);
  terms_rise = up_to_last n 0 left k e a;
  left_behind = tt;
  right_behind = behind n 0 (get_or left k no_term).0 right 0 (omega arith) lt b;
}

pub starts_empty : (n : ℕ) (left right : List (ℕ × ℤ)) → length left ≡ 0 → Rises n 0 left → Rises n 0 right → Starts n left [] right
starts_empty n [] right e a b = record { first = 0; in_range = omega arith; terms_rise = tt; left_behind = tt; right_behind = b }
starts_empty n (t ∷ ts) right e a b = absurd (omega arith)

pub starts_new : (n : ℕ) (left right : List (ℕ × ℤ)) → Rises n 0 left → Rises n 0 right → Starts n [] left right
starts_new n left right a b = record { first = 0; in_range = omega arith; terms_rise = tt; left_behind = a; right_behind = b }

-- ---- the loop

-- how far a merge has come: what is written, and what is left of both lists
pub record Merges (n : ℕ) (start left : List (ℕ × ℤ)) (i : ℕ) (by : ℤ) (right : List (ℕ × ℤ)) (j : ℕ) (out : List (ℕ × ℤ)) : Type 0 where
  pub first : ℕ
  pub in_range : first ≤ n
  pub written : Rises first 0 out
  pub left_behind : Rises n first (drop i left)
  pub right_behind : Rises n first (drop j right)
  pub total : (p : ℕ → ℤ) → sum_at out p +ℤ rest_at left i by right j p ≡ sum_at start p +ℤ rest_at left 0 by right 0 p

pub merges_start : (n : ℕ) (start left : List (ℕ × ℤ)) (by : ℤ) (right : List (ℕ × ℤ)) → Starts n start left right → Merges n start left 0 by right 0 start
merges_start n start left by right s = record {
  first = s.first;
  in_range = s.in_range;
  written = s.terms_rise;
  left_behind = s.left_behind;
  right_behind = s.right_behind;
  total = λ p. refl;
}

pub merges_on : (n : ℕ) (start left : List (ℕ × ℤ)) (i : ℕ) (by : ℤ) (right : List (ℕ × ℤ)) (j : ℕ) (out more : List (ℕ × ℤ)) (next : Next)
    → Merges n start left i by right j out
    → ((from : ℕ) → Rises n from (drop i left) → Rises n from (drop j right) → Moves n from left i by right j next)
    → ((from : ℕ) → from ≤ next.var → Rises from 0 out → Rises (next.var + 1) 0 more)
    → ((p : ℕ → ℤ) → sum_at more p ≡ sum_at out p +ℤ (next.coefficient *ℤ p next.var))
    → Merges n start left next.i by right next.j more
merges_on n start left i by right j out more next m moves rises is = let h = moves m.first m.left_behind m.right_behind in record {
  first = next.var + 1;
  in_range = omega (arith, h.below);
  written = rises m.first h.at_least m.written;
  left_behind = h.left_behind;
  right_behind = h.right_behind;
  total = λ p. omega (arith, ints, is p, h.total p, m.total p);
}

pub merges_end : (n : ℕ) (start left : List (ℕ × ℤ)) (i : ℕ) (by : ℤ) (right : List (ℕ × ℤ)) (j : ℕ) (out : List (ℕ × ℤ)) (p : ℕ → ℤ)
    → i ≡ length left → j ≡ length right → Merges n start left i by right j out → sum_at out p ≡ sum_at start p +ℤ (sum_at left p +ℤ (by *ℤ sum_at right p))
merges_end n start left i by right j out p ei ej m =
    let h = rw (ei, ej, drop-length left, drop-length right, *ℤ-zero by) at m.total p in omega (arith, ints, h)

rest_nowhere : (left : List (ℕ × ℤ)) (i : ℕ) (by : ℤ) (right : List (ℕ × ℤ)) (j : ℕ) → rest_at left i by right j nowhere.numerator ≡ pos 0
rest_nowhere left i by right j = rw (sum_nowhere (drop i left), sum_nowhere (drop j right), *ℤ-zero by) refl

rest_unit : (n from k : ℕ) (left : List (ℕ × ℤ)) (i : ℕ) (by : ℤ) (right : List (ℕ × ℤ)) (j : ℕ) → k < from → Rises n from (drop i left) → Rises n from (drop j right)
    → rest_at left i by right j (unit k).numerator ≡ pos 0
rest_unit n from k left i by right j lt a b =
    let l : sum_at (drop i left) (unit k).numerator ≡ pos 0 = sum_unit n from k (drop i left) a ∙ none_before n from k (drop i left) lt a in
    let r : sum_at (drop j right) (unit k).numerator ≡ pos 0 = sum_unit n from k (drop j right) b ∙ none_before n from k (drop j right) lt b in
    rw (l, r, *ℤ-zero by) refl

-- what a meaning is that the terms written, a further term and what is left come to
grows : (g : Meaning) (k : ℕ) (out : ℤ) (c x : ℤ) (rest rest' out' c' : ℤ) → g (unit k) ≡ out +ℤ ((c *ℤ x) +ℤ rest) → g nowhere ≡ out' +ℤ (c' +ℤ rest')
    → rest ≡ pos 0 → out' ≡ pos 0 → c' ≡ pos 0 → rest' ≡ pos 0 → coefficient g k ≡ out +ℤ (c *ℤ x)
grows g k out c x rest rest' out' c' e f r o z r' = omega (arith, ints)

-- A number that is too large at a step is the first: the terms written have the coefficients of the variables before it,
-- and what is left begins behind it.
pub merges_stop : (n : ℕ) (start left : List (ℕ × ℤ)) (i : ℕ) (by : ℤ) (right : List (ℕ × ℤ)) (j : ℕ) (out : List (ℕ × ℤ)) (next : Next) (e : FormRefusal)
    → Merges n start left i by right j out
    → ((from : ℕ) → Rises n from (drop i left) → Rises n from (drop j right) → Moves n from left i by right j next)
    → IsRefused (above greatest_value next.coefficient) e → IsRefused (coefficient_above greatest_value n (added_to start left by right)) e
merges_stop n start left i by right j out next OutOfMemory m moves large = tt
merges_stop n start left i by right j out next (TooLarge found) m moves large =
    first_above n next.var found g next.coefficient out h.below (wider m.first next.var 0 out h.at_least m.written) before here large
  where
    h : Moves n m.first left i by right j next
    h = moves m.first m.left_behind m.right_behind

    g : Meaning
    g = added_to start left by right

    at : (p : ℕ → ℤ) → sum_at start p +ℤ rest_at left 0 by right 0 p ≡ sum_at out p +ℤ ((next.coefficient *ℤ p next.var) +ℤ rest_at left next.i by right next.j p)
    at p = omega (arith, ints, m.total p, h.total p)

    grown : (k : ℕ) → k < next.var + 1 → coefficient g k ≡ coefficient_in out k +ℤ (next.coefficient *ℤ (unit k).numerator next.var)
    grown k lt = grows g k (coefficient_in out k) next.coefficient ((unit k).numerator next.var) _ _ _ _
        (rw (sum_unit m.first 0 k out m.written) at (at (unit k).numerator)) (at nowhere.numerator)
        (rest_unit n (next.var + 1) k left next.i by right next.j lt h.left_behind h.right_behind)
        (sum_nowhere out) (*ℤ-zero next.coefficient) (rest_nowhere left next.i by right next.j)

    before : (k : ℕ) → k < next.var → coefficient g k ≡ coefficient_in out k
    before k lt = let u = unit_other k next.var (λ e. absurd (omega arith)) in let w = rw u at (grown k (omega arith)) in w ∙ omega (arith, ints, *ℤ-zero next.coefficient)

    here : coefficient g next.var ≡ next.coefficient
    here = let u = unit_same next.var next.var refl in let w = rw u at (grown next.var (omega arith)) in
        w ∙ omega (arith, ints, none_behind next.var 0 next.var out (omega arith) (wider m.first next.var 0 out h.at_least m.written))

-- ---- where one of the lists is empty

pub added_in_place : (left : List (ℕ × ℤ)) (by : ℤ) (right : List (ℕ × ℤ)) → added_to left [] by right ≡ terms_added left by right
added_in_place left by right = fun_ext (λ a. zero_left (sum_at left a.numerator) (by *ℤ sum_at right a.numerator))
  where
    zero_left : (x y : ℤ) → x +ℤ (pos 0 +ℤ y) ≡ x +ℤ y
    zero_left x y = omega (arith, ints)

pub added_anew : (left : List (ℕ × ℤ)) (by : ℤ) (right : List (ℕ × ℤ)) → added_to [] left by right ≡ terms_added left by right
added_anew left by right = fun_ext (λ a. zero_before (terms_added left by right a))
  where
    zero_before : (x : ℤ) → pos 0 +ℤ x ≡ x
    zero_before x = omega (arith, ints)

module _ {T : Type 0} (r : Result T FormRefusal) (left : List (ℕ × ℤ)) (by : ℤ) (right : List (ℕ × ℤ)) where
  pub large_in_place : ((n : ℕ) → Rises n 0 left → Rises n 0 right → Starts n left [] right)
      → IfErr r (λ e. (n : ℕ) → Starts n left [] right → IsRefused (coefficient_above greatest_value n (added_to left [] by right)) e)
      → IfErr r (λ e. (n : ℕ) → Rises n 0 left → Rises n 0 right → IsRefused (coefficient_above greatest_value n (terms_added left by right)) e)
  large_in_place s = IfErr-weaker r _ _ (λ e h n a b. subst (λ g. IsRefused (coefficient_above greatest_value n g) e) (added_in_place left by right) (h n (s n a b)))

  pub large_anew : IfErr r (λ e. (n : ℕ) → Starts n [] left right → IsRefused (coefficient_above greatest_value n (added_to [] left by right)) e)
      → IfErr r (λ e. (n : ℕ) → Rises n 0 left → Rises n 0 right → IsRefused (coefficient_above greatest_value n (terms_added left by right)) e)
  large_anew = IfErr-weaker r _ _ (λ e h n a b. subst (λ g. IsRefused (coefficient_above greatest_value n g) e) (added_anew left by right) (h n (starts_new n left right a b)))

pub total_anew : (r : Result (List (ℕ × ℤ)) FormRefusal) (left : List (ℕ × ℤ)) (by : ℤ) (right : List (ℕ × ℤ))
    → IfOk r (λ v. (n : ℕ) → Starts n [] left right → (p : ℕ → ℤ) → sum_at v p ≡ pos 0 +ℤ (sum_at left p +ℤ (by *ℤ sum_at right p)))
    → IfOk r (λ v. (n : ℕ) → Rises n 0 left → Rises n 0 right → (p : ℕ → ℤ) → sum_at v p ≡ sum_at left p +ℤ (by *ℤ sum_at right p))
total_anew r left by right = IfOk-weaker r _ _ (λ v h n a b p. omega (arith, ints, h n (starts_new n left right a b) p))
