-- The domain of a declaration that isn't refused is within its limits.
use Rattle.std.proofs.Common.{◌≡◌, refl, ℕ, zero, suc, arith, ◌<◌, ◌≤◌, ◌+◌, ◌*◌, List, [], ◌∷◌, map, ℤ, pos, ◌==◌, false, mul-le-mul_left}
use Rattle.std.specs.Prelude.{All, ◌≤ℤ◌}
use Rattle.std.proofs.lemmas.Int.{ints}
use Rattle.std.proofs.lemmas.List.Elements.{All-head, All-tail, All-weaker}
use Rattle.sm_kinds.specs.Limits.{IsSmall, most_width, most_widths}
use Rattle.sm_kinds.specs.declared.var.VarKind.TheVariants.{Set}
use Rattle.sm_kinds.specs.Vars.{IsSetDomain, IsRange, IsDomain, set_width}
use Rattle.sm_data.specs.declared.refusal.Counted.TheVariants as counted
use Rattle.sm_syntax.specs.Expressions.{Expression}
use Rattle.sm_syntax.specs.Trees.{Values, range, listed, Kind, set_kind, int_kind, real_kind}
use Rattle.sm_meaning.specs.declared.range.Range.{Range}
use Rattle.sm_meaning.specs.Refusals.{number_over}
use Rattle.sm_meaning.specs.Trials.{tried}
use Rattle.sm_meaning.specs.Scopes.{Scope}
use Rattle.sm_meaning.specs.Tuples.{size_of, numbers_of}
use Rattle.sm_meaning.specs.Cases.{number_of}
use Rattle.sm_meaning.specs.Declarations.{range_of, rising, kind_of, value_parts, kind_parts, set_values, domain_of, is_empty_set, is_empty, width_of, widths_tried, widths_of, set_widths_tried}
use Rattle.sm_meaning.specs.Expansions.{Expansion, vars_of}
use Rattle.sm_flattening.proofs.Rising.{IsIn, ascends_rises, each_rising, rising_ascends, rising_some, some_ordered, numbers_ascend, numbers_within, numbers_some, numbers_narrow, rising_in_span}
use Rattle.sm_flattening.proofs.Reached.{Reaches, both, number_within}

module _ (s : Scope) where
  -- the numbers of expressions
  abbrev pub numbers_at : List Expression → List ℤ
  numbers_at xs = map (λ x. number_of s x []) xs

  -- ---- ranges

  module _ (x y : Expression) (some : (size_of (range_of s x y) == 0) ≡ false) (small : All IsSmall (numbers_at (x ∷ y ∷ []))) where
    abbrev between : Range
    between = range_of s x y

    ordered : between.least ≤ℤ between.greatest
    ordered = some_ordered between some

    least_small : IsSmall between.least
    least_small = All-head IsSmall between.least (between.greatest ∷ []) small

    greatest_small : IsSmall between.greatest
    greatest_small = All-head IsSmall between.greatest [] (All-tail IsSmall between.least (between.greatest ∷ []) small)

    pub range_fits : IsRange (numbers_at (x ∷ y ∷ []))
    range_fits = record { two = refl; ordered = ordered; small = small }

    inside_small : (z : ℤ) → IsIn between.least between.greatest z → IsSmall z
    inside_small z h = let low = h.0 in let high = h.1 in let a = least_small in let b = greatest_small in omega (arith, ints)

    numbers_fit : size_of between ≤ most_width → IsSetDomain (numbers_of between)
    numbers_fit few = record {
      some = numbers_some between some;
      rising = ascends_rises (numbers_of between) (numbers_ascend between);
      small = All-weaker (IsIn between.least between.greatest) IsSmall inside_small (numbers_of between) (numbers_within between ordered);
      narrow = let width = numbers_narrow between some in omega arith;
    }

  -- ---- values of a set

  -- the numbers that a set is given by are within 2^31, and no further apart than the limit: so are its values
  values_fit : (vs : Values) → is_empty_set s vs ≡ false → All IsSmall (numbers_at (value_parts vs)) → width_of s vs ≤ most_width → IsSetDomain (set_values s vs)
  values_fit (range x y) some small few = numbers_fit x y some small few
  values_fit (listed x xs) some small few = record {
    some = rising_some (number_of s x []) (numbers_at xs);
    rising = ascends_rises (rising (numbers_at (x ∷ xs))) (rising_ascends (numbers_at (x ∷ xs)));
    small = each_rising IsSmall (numbers_at (x ∷ xs)) small;
    narrow = let width = rising_in_span (number_of s x []) (numbers_at xs) in omega arith;
  }

  values_width : (vs : Values) → is_empty_set s vs ≡ false → set_width Set (set_values s vs) ≤ width_of s vs
  values_width (range x y) some = numbers_narrow (range_of s x y) some
  values_width (listed x xs) some = rising_in_span (number_of s x []) (numbers_at xs)

  -- ---- domains

  pub domain_fits : (e : Expansion) (m : ℕ) (k : Kind) → is_empty s k ≡ false → All IsSmall (numbers_at (kind_parts k)) → Reaches (set_widths_tried e s m k) → 0 < m → IsDomain (kind_of k) (domain_of s k)
  domain_fits e zero k some small h more = absurd (omega arith)
  domain_fits e (suc m) (set_kind p vs) some small h more =
      let parts = both (tried (number_over counted.Width most_width (pos (width_of s vs)))) (widths_tried (suc m) (width_of s vs) (widths_of (vars_of e))) h in
      values_fit vs some small (number_within counted.Width most_width (pos (width_of s vs)) parts.0)
  domain_fits e (suc m) (int_kind p x y) some small h more = range_fits x y some small
  domain_fits e (suc m) (real_kind p x y) some small h more = range_fits x y some small

  -- ---- widths

  widths_within : (m width so_far : ℕ) → Reaches (widths_tried m width so_far) → so_far ≤ most_widths → so_far + m * width ≤ most_widths
  widths_within zero width so_far h before = omega arith
  widths_within (suc m) width so_far h before =
      let parts = both (tried (number_over counted.Widths most_widths (pos (so_far + width)))) (widths_tried m width (so_far + width)) h in
      let first = number_within counted.Widths most_widths (pos (so_far + width)) parts.0 in
      let rest = widths_within m width (so_far + width) parts.1 first in
      omega arith

  -- so many variables more are within the limit of widths, where those before have at most the width that is counted
  pub widths_fit : (e : Expansion) (m : ℕ) (k : Kind) (before : ℕ) → is_empty s k ≡ false → Reaches (set_widths_tried e s m k)
      → before ≤ widths_of (vars_of e) → before ≤ most_widths → before + m * set_width (kind_of k) (domain_of s k) ≤ most_widths
  widths_fit e zero k before some h less within = omega arith
  widths_fit e (suc m) (set_kind p vs) before some h less within =
      let width = width_of s vs in
      let so_far = widths_of (vars_of e) in
      let parts = both (tried (number_over counted.Width most_width (pos width))) (widths_tried (suc m) width so_far) h in
      let firsts = both (tried (number_over counted.Widths most_widths (pos (so_far + width)))) (widths_tried m width (so_far + width)) parts.1 in
      let first : so_far + width ≤ most_widths = number_within counted.Widths most_widths (pos (so_far + width)) firsts.0 in
      let all = widths_within (suc m) width so_far parts.1 (omega arith) in
      let narrower = mul-le-mul_left (suc m) (values_width vs some) in
      omega arith
  widths_fit e (suc m) (int_kind p x y) before some h less within = omega arith
  widths_fit e (suc m) (real_kind p x y) before some h less within = omega arith
