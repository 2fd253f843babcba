-- The member of a family at its indices.
use Rattle.std.proofs.Common.{◌≡◌, ◌∙◌, ap, sym, refl, ℕ, arith, ℤ, ◌<◌, ◌≤◌, ◌+◌, ◌*◌, List, ◌∷◌, map, Bool, true, false, add-mul, one-mul, mul-one, mul-le-mul_left, mul-le-mul_right}
use Rattle.std.specs.Prelude.{◌-ℤ◌, ◌≤ℤ◌, unsigned_abs, int_le, not}
use Rattle.sm_syntax.specs.Expressions.{expressions_of, expression_of}
use Rattle.sm_syntax.specs.declared.expression.Expr.{Expr}
use Rattle.sm_meaning.specs.declared.range.Range.{Range}
use Rattle.sm_meaning.specs.declared.refusal.Wrong.TheVariants.{Index}
use Rattle.sm_meaning.specs.declared.refusal.ExpandRefusal.{ExpandRefusal}
use Rattle.sm_meaning.specs.Places.{place_of}
use Rattle.sm_meaning.specs.Refusals.{wrong_if}
use Rattle.sm_meaning.specs.Trials.{reached, ◌▸◌, tried, IsStopped}
use Rattle.sm_meaning.specs.Tuples.{size_of, member_count, members_before}
use Rattle.sm_meaning.specs.ExpressionTrials.{is_within, indices_within}
use Rattle.sm_expressions.specs.declared.name.Member.{Member}
use Rattle.sm_expressions.specs.Named.{IsMember}
use Rattle.sm_expressions.proofs.Trying.{stops, stops_later, stopped_same, goes_on}

-- a range with a number in it has as many as stand between its ends, and one
pub size_within : (r : Range) (z : ℤ) → r.least ≤ℤ z → z ≤ℤ r.greatest → size_of r ≡ unsigned_abs (r.greatest -ℤ r.least) + 1
size_within r z low high = between r.least r.greatest z low high
  where
    between : (least greatest z : ℤ) → least ≤ℤ z → z ≤ℤ greatest → size_of (record { least = least; greatest = greatest }) ≡ unsigned_abs (greatest -ℤ least) + 1
    between least greatest z low high = by_test least greatest z low high (int_le least greatest) refl
      where
        by_test : (least greatest z : ℤ) → least ≤ℤ z → z ≤ℤ greatest → (b : Bool) → int_le least greatest ≡ b → size_of (record { least = least; greatest = greatest }) ≡ unsigned_abs (greatest -ℤ least) + 1
        by_test least greatest z low high true p = rw p refl
        by_test least greatest z low high false p = grind arith

at_least_one : (s c : ℕ) → c ≤ (s + 1) * c
at_least_one s c = omega (arith, add-mul s 1 c, one-mul c)

-- a place below the count, in each of as many groups
pub lower : (ob oc ib ic b c : ℕ) → ob < oc → ib < ic → b ≡ ob * ic + ib → c ≡ oc * ic → b < c
lower ob oc ib ic b c h k e f = omega (arith, e, f, k, more ob oc ic h)
  where
    more : (ob oc ic : ℕ) → ob < oc → ob * ic + ic ≤ oc * ic
    more ob oc ic h =
        let le : ob + 1 ≤ oc = omega arith in
        let most : (ob + 1) * ic ≤ oc * ic = mul-le-mul_right ic le in
        omega (arith, most, add-mul ob 1 ic, one-mul ic)

module _ (r : Range) (rs : List Range) (z : ℤ) (zs : List ℤ) (x : Expr) (xs : List Expr) (sets : List Range) (numbers : List ℤ) (parts : List Expr)
    (in_sets : sets ≡ r ∷ rs) (in_numbers : numbers ≡ z ∷ zs) (in_parts : parts ≡ x ∷ xs) where
  -- the first index, and then the others
  pub split_tried : (count : ℕ)
      → (tried (wrong_if (not (is_within r z)) (place_of (expression_of x)) Index) ▸ indices_within rs zs (expressions_of (map expression_of xs))) count ≡ indices_within sets numbers (expressions_of (map expression_of parts)) count
  split_tried count = rw (in_sets, in_numbers, in_parts) refl

  pub first_stops : (e : ExpandRefusal) (count : ℕ) → IsStopped e (tried (wrong_if (not (is_within r z)) (place_of (expression_of x)) Index) count)
      → IsStopped e (indices_within sets numbers (expressions_of (map expression_of parts)) count)
  first_stops e count h = stopped_same e _ _ (split_tried count)
      (stops e (tried (wrong_if (not (is_within r z)) (place_of (expression_of x)) Index)) (indices_within rs zs (expressions_of (map expression_of xs))) count h)

  pub others_stop : (e : ExpandRefusal) (count : ℕ) → tried (wrong_if (not (is_within r z)) (place_of (expression_of x)) Index) count ≡ reached count
      → IsStopped e (indices_within rs zs (expressions_of (map expression_of xs)) count)
      → IsStopped e (indices_within sets numbers (expressions_of (map expression_of parts)) count)
  others_stop e count h k = stopped_same e _ _ (split_tried count)
      (stops_later e (tried (wrong_if (not (is_within r z)) (place_of (expression_of x)) Index)) (indices_within rs zs (expressions_of (map expression_of xs))) count count h k)

  pub all_go : (count : ℕ) → tried (wrong_if (not (is_within r z)) (place_of (expression_of x)) Index) count ≡ reached count
      → indices_within rs zs (expressions_of (map expression_of xs)) count ≡ reached count
      → indices_within sets numbers (expressions_of (map expression_of parts)) count ≡ reached count
  all_go count h k = sym (split_tried count) ∙ goes_on (tried (wrong_if (not (is_within r z)) (place_of (expression_of x)) Index)) (indices_within rs zs (expressions_of (map expression_of xs))) count count h ∙ k

  pub count_is : r.least ≤ℤ z → z ≤ℤ r.greatest → member_count sets ≡ (unsigned_abs (r.greatest -ℤ r.least) + 1) * member_count rs
  count_is low high = ap member_count in_sets ∙ ap (λ k. k * member_count rs) (size_within r z low high)

  pub fewer : (most : ℕ) → r.least ≤ℤ z → z ≤ℤ r.greatest → member_count sets ≤ most → member_count rs ≤ most
  fewer most low high few = omega (arith, count_is low high, at_least_one (unsigned_abs (r.greatest -ℤ r.least)) (member_count rs))

  pub few_numbers : (most : ℕ) (inner : Member) → r.least ≤ℤ z → z ≤ℤ r.greatest → member_count sets ≤ most → IsMember rs zs inner → unsigned_abs (r.greatest -ℤ r.least) < most
  few_numbers most inner low high few is = omega (arith, count_is low high, few, some (unsigned_abs (r.greatest -ℤ r.least)) inner.count (member_count rs) inner.before is.below is.count)
    where
      some : (s c m b : ℕ) → b < c → c ≡ m → s + 1 ≤ (s + 1) * m
      some s c m b lt e =
          let one : 1 ≤ m = omega arith in
          let more : (s + 1) * 1 ≤ (s + 1) * m = mul-le-mul_left (s + 1) one in
          omega (arith, more, mul-one (s + 1))

  pub members_are : (outer inner m : Member) → r.least ≤ℤ z → z ≤ℤ r.greatest → IsMember rs zs inner
      → outer.before ≡ unsigned_abs (z -ℤ r.least) → outer.count ≡ unsigned_abs (r.greatest -ℤ r.least) + 1 → outer.before < outer.count
      → m.before ≡ outer.before * inner.count + inner.before → m.count ≡ outer.count * inner.count → IsMember sets numbers m
  members_are outer inner m low high is ob oc ol mb mc = record {
    before = mb ∙ (λ i. ob i * is.count i + is.before i) ∙ sym (before_split);
    count = mc ∙ (λ i. oc i * is.count i) ∙ sym (count_is low high);
    below = lower outer.before outer.count inner.before inner.count m.before m.count ol is.below mb mc;
  }
    where
      before_split : members_before sets numbers ≡ unsigned_abs (z -ℤ r.least) * member_count rs + members_before rs zs
      before_split = rw (in_sets, in_numbers) refl
