-- What a sum is at most at the assignments of a store.
use Rattle.std.proofs.Common.{◌≡◌, ℕ, zero, suc, ◌+◌, ◌<◌, Bool, true, false, cond, List, [], ◌∷◌, length, get_or, drop, refl, arith, sym, ap, ◌∙◌, negsuc}
use Rattle.std.specs.Prelude.{ℤ, pos, ◌+ℤ◌, ◌-ℤ◌, ◌*ℤ◌, neg_ℤ, ◌<ℤ◌, ◌≤ℤ◌, int_le, All, map, Some, None, MatchOption, option_map, ◌==◌}
use Rattle.std.proofs.lemmas.Int.{ints}
use Rattle.std.proofs.lemmas.List.{at_drop_more}
use Rattle.std.proofs.lemmas.List.Elements.{All-head, All-tail, All-map}
use Rattle.std.proofs.Math.IntN.{*ℤ_comm, *ℤ-zero}
use Rattle.sm_kinds.specs.declared.linear.Cmp.{Cmp}
use Rattle.sm_kinds.specs.declared.linear.Cmp.TheVariants.{AtMost, AtLeast, Equal}
use Rattle.sm_kinds.specs.declared.linear.LinRow.{LinRow}
use Rattle.sm_kinds.specs.Linear.{SatLinear}
use Rattle.sm_kinds.specs.Points.{Point}
use Rattle.sm_kinds.specs.Sums.{sum_at}
use Rattle.sm_kinds.proofs.Multiples.{*ℤ_assoc, +ℤ-*ℤ}
use Rattle.sm_store.specs.Stores.{Extent, extent_at, In, least_of, greatest_of}
use Rattle.sm_store.proofs.Ends.{IsBetween, between}
use Rattle.sm_store.proofs.Ranges.{times_mono}
use Rattle.sm_rows.specs.Whole.{AreOrdered}
use Rattle.sm_rows.specs.Halves.{Bounded, negated, side_of, half_of, is_first_turned, second_turned, HalfHolds, greatest_term, greatest_sum, FallsShort, IsTooLittle}

neg_times : (c n : ℤ) → neg_ℤ c *ℤ n ≡ neg_ℤ (c *ℤ n)
neg_times c n = omega (arith, ints, sym (+ℤ-*ℤ c (neg_ℤ c) n), ap (λ (z : ℤ). z *ℤ n) (cancels c), zero_left n)
  where
    cancels : (x : ℤ) → x +ℤ neg_ℤ x ≡ pos 0
    cancels x = omega (arith, ints)

    zero_left : (x : ℤ) → pos 0 *ℤ x ≡ pos 0
    zero_left x = *ℤ_comm (pos 0) x ∙ *ℤ-zero x

-- ---- one term

pub mono : (c x y : ℤ) → pos 0 ≤ℤ c → x ≤ℤ y → (c *ℤ x) ≤ℤ (c *ℤ y)
mono (pos zero) x y p h = rw (*ℤ_comm (pos 0) x, *ℤ_comm (pos 0) y, *ℤ-zero x, *ℤ-zero y) (omega (arith, ints))
mono (pos (suc n)) x y p h = rw (*ℤ_comm (pos (suc n)) x, *ℤ_comm (pos (suc n)) y) (times_mono x y (pos (suc n)) (omega (arith, ints)) h)
mono (negsuc n) x y p h = absurd (omega (arith, ints))

pub anti : (c x y : ℤ) → c <ℤ pos 0 → x ≤ℤ y → (c *ℤ y) ≤ℤ (c *ℤ x)
anti c x y p h =
    let le = mono (neg_ℤ c) x y (omega (arith, ints)) h in
    omega (arith, ints, le, neg_times c x, neg_times c y)

up : (c n high d : ℤ) → pos 0 ≤ℤ c → n ≤ℤ (high *ℤ d) → (c *ℤ n) ≤ℤ ((c *ℤ high) *ℤ d)
up c n high d p h = rw (*ℤ_assoc c high d) (mono c n (high *ℤ d) p h)

down : (c low n d : ℤ) → c <ℤ pos 0 → (low *ℤ d) ≤ℤ n → (c *ℤ n) ≤ℤ ((c *ℤ low) *ℤ d)
down c low n d p h = rw (*ℤ_assoc c low d) (anti c (low *ℤ d) n p h)

product_most : (c low n high d : ℤ) → IsBetween low n high d → (c *ℤ n) ≤ℤ ((cond (int_le (pos 0) c) (c *ℤ high) (c *ℤ low)) *ℤ d)
product_most c low n high d h = by_test (int_le (pos 0) c) refl
  where
    by_test : (b : Bool) → int_le (pos 0) c ≡ b → (c *ℤ n) ≤ℤ ((cond b (c *ℤ high) (c *ℤ low)) *ℤ d)
    by_test true e = up c n high d (grind (arith, ints)) h.most
    by_test false e = down c low n d (grind (arith, ints)) h.least

-- ---- sums

module _ (a : Point) (store : List Extent) (above : pos 0 <ℤ a.denominator) (ordered : AreOrdered store) (lies : In a store) where
  -- the greatest term is the greatest that a term can be
  term_most : (t : ℕ × ℤ) → t.0 < length store → (t.1 *ℤ a.numerator t.0) ≤ℤ (greatest_term store t *ℤ a.denominator)
  term_most t lt =
      let e = extent_at store t.0 in
      product_most t.1 (least_of e) (a.numerator t.0) (greatest_of e) a.denominator (between e.kind e.values (a.numerator t.0) a.denominator above (ordered t.0 lt) (lies t.0 lt))

  -- and the sum of the greatest terms the greatest that the sum can be
  pub sum_most : (ts : List (ℕ × ℤ)) → All (λ t. t.0 < length store) ts → (sum_at ts a.numerator) ≤ℤ (greatest_sum store ts *ℤ a.denominator)
  sum_most [] known = rw (*ℤ_comm (pos 0) a.denominator, *ℤ-zero a.denominator) (omega (arith, ints))
  sum_most (t ∷ ts) known =
      let one = term_most t (All-head (λ t. t.0 < length store) t ts known) in
      let rest = sum_most ts (All-tail (λ t. t.0 < length store) t ts known) in
      rw (+ℤ-*ℤ (greatest_term store t) (greatest_sum store ts) a.denominator) (omega (arith, ints, one, rest))

  -- the other terms are at most the greatest other terms
  pub others_most : (ts : List (ℕ × ℤ)) (i : ℕ) (t : ℕ × ℤ) → All (λ t. t.0 < length store) ts → i < length ts → get_or ts i t ≡ t → (sum_at ts a.numerator +ℤ (greatest_term store t *ℤ a.denominator)) ≤ℤ ((greatest_sum store ts *ℤ a.denominator) +ℤ (t.1 *ℤ a.numerator t.0))
  others_most [] i t known lt is = absurd (omega arith)
  others_most (s ∷ ts) zero t known lt is =
      let rest = sum_most ts (All-tail (λ t. t.0 < length store) s ts known) in
      let spread = +ℤ-*ℤ (greatest_term store t) (greatest_sum store ts) a.denominator in
      rw is (omega (arith, ints, rest, spread))
  others_most (s ∷ ts) (suc i) t known lt is =
      let one = term_most s (All-head (λ t. t.0 < length store) s ts known) in
      let rest = others_most ts i t (All-tail (λ t. t.0 < length store) s ts known) (omega arith) is in
      let spread = +ℤ-*ℤ (greatest_term store s) (greatest_sum store ts) a.denominator in
      omega (arith, ints, one, rest, spread)

  -- a half that falls short holds of no assignment
  pub none_short : (h : Bounded) → All (λ t. t.0 < length store) h.terms → FallsShort store h → HalfHolds h a → ⊥
  none_short h known short holds =
      let most = sum_most h.terms known in
      let less = less_times (greatest_sum store h.terms) h.bound short in
      absurd (omega (arith, ints, most, less, holds))
    where
      less_times : (x y : ℤ) → x <ℤ y → (x *ℤ a.denominator) <ℤ (y *ℤ a.denominator)
      less_times x y lt =
          let step = times_mono (x +ℤ pos 1) y a.denominator above (omega (arith, ints)) in
          let spread = +ℤ-*ℤ x (pos 1) a.denominator in
          let unit : pos 1 *ℤ a.denominator ≡ a.denominator = omega (arith, ints) in
          omega (arith, ints, step, spread, unit)

  -- where a half holds, no variable has a value that is too little for it
  pub none_little : (h : Bounded) (i : ℕ) (t : ℕ × ℤ) (x : ℤ) → All (λ t. t.0 < length store) h.terms → i < length h.terms → get_or h.terms i t ≡ t → a.numerator t.0 ≡ x *ℤ a.denominator → IsTooLittle store h t x → HalfHolds h a → ⊥
  none_little h i t x known lt is value little holds =
      let most = others_most h.terms i t known lt is in
      let others = greatest_sum store h.terms -ℤ greatest_term store t in
      let step = times_mono (((t.1 *ℤ x) +ℤ others) +ℤ pos 1) h.bound a.denominator above (omega (arith, ints)) in
      let first = +ℤ-*ℤ ((t.1 *ℤ x) +ℤ others) (pos 1) a.denominator in
      let second = +ℤ-*ℤ (t.1 *ℤ x) others a.denominator in
      let third = +ℤ-*ℤ others (greatest_term store t) a.denominator in
      let whole : others +ℤ greatest_term store t ≡ greatest_sum store h.terms = omega (arith, ints) in
      let same = ap (λ (z : ℤ). z *ℤ a.denominator) whole in
      let unit : pos 1 *ℤ a.denominator ≡ a.denominator = omega (arith, ints) in
      let product : t.1 *ℤ a.numerator t.0 ≡ (t.1 *ℤ x) *ℤ a.denominator = ap (λ (z : ℤ). t.1 *ℤ z) value ∙ sym (*ℤ_assoc t.1 x a.denominator) in
      absurd (omega (arith, ints, most, step, first, second, third, same, unit, product, holds))

-- ---- halves

sum_negated : (ts : List (ℕ × ℤ)) (n : ℕ → ℤ) → sum_at (map negated ts) n ≡ neg_ℤ (sum_at ts n)
sum_negated [] n = refl
sum_negated (t ∷ ts) n = omega (arith, ints, neg_times t.1 (n t.0), sum_negated ts n)

-- the turned row is at least the turned bound where the row is at most its bound
turned_holds : (row : LinRow) (a : Point) → (sum_at row.terms a.numerator) ≤ℤ (row.bound *ℤ a.denominator) → HalfHolds (side_of row true) a
turned_holds row a h = omega (arith, ints, h, sum_negated row.terms a.numerator, neg_times row.bound a.denominator)

pub known_side : (n : ℕ) (row : LinRow) (turned : Bool) → All (λ t. t.0 < n) row.terms → All (λ t. t.0 < n) (side_of row turned).terms
known_side n row false known = known
known_side n row true known = All-map (λ t. t.0 < n) negated row.terms known

-- a half of the row of which something is so: it holds where the row does
pub record HasHalf (width : ℕ) (row : LinRow) (a : Point) (P : Bounded → Type 0) : Type 0 where
  pub half : Bounded
  pub known : All (λ t. t.0 < width) half.terms
  pub holds : SatLinear row a → HalfHolds half a
  pub has : P half

pub half_in : (width : ℕ) (row : LinRow) (half : ℕ) (a : Point) (P : Bounded → Type 0) → All (λ t. t.0 < width) row.terms → MatchOption (half_of row half) ⊥ P → HasHalf width row a P
half_in width row half a P known h = by_tests (half == 0) (half == 1) row.cmp refl h
  where
    by_tests : (first second : Bool) (cmp : Cmp) → row.cmp ≡ cmp → MatchOption (option_map (side_of row) (cond first (Some (is_first_turned cmp)) (cond second (second_turned cmp) None))) ⊥ P → HasHalf width row a P
    by_tests true second AtMost e h = record { half = side_of row true; known = known_side width row true known; holds = λ sat. turned_holds row a (rw e at sat); has = h }
    by_tests true second AtLeast e h = record { half = side_of row false; known = known; holds = λ sat. rw e at sat; has = h }
    by_tests true second Equal e h = record { half = side_of row false; known = known; holds = λ sat. (let same = rw e at sat in omega (arith, ints, same)); has = h }
    by_tests false true AtMost e h = absurd h
    by_tests false true AtLeast e h = absurd h
    by_tests false true Equal e h = record { half = side_of row true; known = known_side width row true known; holds = λ sat. (let same = rw e at sat in turned_holds row a (omega (arith, ints, same))); has = h }
    by_tests false false cmp e h = absurd h

-- ---- what is left of a sum

pub greatest_more : (store : List Extent) (ts : List (ℕ × ℤ)) (i : ℕ) (d : ℕ × ℤ) → i < length ts → greatest_sum store (drop i ts) ≡ greatest_term store (get_or ts i d) +ℤ greatest_sum store (drop (i + 1) ts)
greatest_more store ts i d lt = at_drop_more (λ xs. greatest_sum store xs) ts i d lt
