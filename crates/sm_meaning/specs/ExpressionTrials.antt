-- What is tried of an expression, in the order of the text.
use Rattle.std.specs.Prelude.{ℕ, suc, is_some, ◌+◌, List, [], ◌∷◌, map, length, ◌==◌, ℤ, pos, ◌-ℤ◌, int_le, nat_lt, Bool, true, false, not, ◌&&◌, Option, Some, None, option_map, slice_index_or, if◌then◌else◌}
use Rattle.sm_syntax.specs.declared.place.Place.{Place}
use Rattle.sm_syntax.specs.declared.tree.Name.{Name}
use Rattle.sm_syntax.specs.declared.tree.Bind.{Bind}
use Rattle.sm_syntax.specs.Expressions.{Expression, expression, Addends, no_addends, addend, Product, product, Operands, no_operands, times, Operand, number, named, group, sum, Expressions, no_expressions, another, Binding, binding, Comparisons, no_comparisons, besides, Comparison, comparison}
use Rattle.sm_data.specs.declared.table.Table.TheVariants as table
use Rattle.sm_data.specs.declared.refusal.Counted.TheVariants as counted
use Rattle.sm_forms.specs.Meanings.{Meaning, greatest_value, large_value, is_constant}
use Rattle.sm_meaning.specs.declared.refusal.Wrong.TheVariants.{Unknown, Doubled, Shape, Index, Whole, Linear}
use Rattle.sm_meaning.specs.declared.refusal.ExpandRefusal.{ExpandRefusal}
use Rattle.sm_meaning.specs.Refusals.{wrong_if, over}
use Rattle.sm_meaning.specs.Trials.{Trial, ◌▸◌, nothing_tried, tried, visit}
use Rattle.sm_meaning.specs.Scopes as thing
use Rattle.sm_meaning.specs.declared.range.Range.{Range}
use Rattle.sm_meaning.specs.Scopes.{Thing, found, Tuple, with_number, Scope, count_of, is_known}
use Rattle.sm_meaning.specs.Tuples.{span_of, tuples}
use Rattle.sm_meaning.specs.Worths.{whole, named_worth, negated_if, with_addend, times_of, plus, worth, product_worth, operand_worth, indices_of, all_pass, passes}
use Rattle.sm_meaning.specs.Places.{place_of}

-- ---- numbers

-- no number of a meaning is above 2^62
abbrev pub value_tried : Scope → Meaning → Trial
value_tried s g = tried (option_map (over counted.Value greatest_value) (large_value (count_of s) g))

-- it is to be a whole number
abbrev pub whole_tried : Scope → Place → Meaning → Trial
whole_tried s p g = tried (wrong_if (not (is_constant (count_of s) g)) p Whole)

-- 1 where some variable matters
abbrev pub one_if_varying : Scope → Meaning → ℕ
one_if_varying s g = if is_constant (count_of s) g then 0 else 1

-- ---- names and their indices

-- how many indices a thing has; an index set is no number
abbrev pub index_count : Option ℤ → Option Thing → Option ℕ
index_count (Some z) t = Some 0
index_count None (Some (thing.variable v)) = Some 0
index_count None (Some (thing.family v sets)) = Some (length sets)
index_count None (Some (thing.table (table.Number z))) = Some 0
index_count None (Some (thing.table (table.List entries))) = Some 1
index_count None (Some (thing.table (table.Grid rows))) = Some 2
index_count None (Some (thing.index_set r)) = None
index_count None None = None

abbrev pub has_count : Option ℕ → ℕ → Bool
has_count (Some k) n = k == n
has_count None n = false

abbrev pub is_within : Range → ℤ → Bool
is_within r z = int_le r.least z && int_le z r.greatest

-- the numbers from 0 on, so many of them
abbrev pub places_of : ℕ → Range
places_of n = record { least = pos 0; greatest = pos n -ℤ pos 1 }

-- the range of each index
abbrev pub index_ranges : Option ℤ → Option Thing → List Range
index_ranges None (Some (thing.family v sets)) = sets
index_ranges None (Some (thing.table (table.List entries))) = places_of (length entries) ∷ []
index_ranges None (Some (thing.table (table.Grid rows))) = places_of (length rows) ∷ places_of (length (slice_index_or rows 0 [])) ∷ []
index_ranges _ _ = []

-- each index lies in its range
abbrev pub indices_within : List Range → List ℤ → Expressions → Trial
indices_within (r ∷ rs) (z ∷ zs) (another x xs) = tried (wrong_if (not (is_within r z)) (place_of x) Index) ▸ indices_within rs zs xs
indices_within _ _ _ = nothing_tried

abbrev pub expression_count : Expressions → ℕ
expression_count no_expressions = 0
expression_count (another x xs) = suc (expression_count xs)

-- ---- binders

-- the name of an index set; a binder is none
abbrev pub set_refused : Bool → Option Thing → Place → Option ExpandRefusal
set_refused true t p = wrong_if true p Shape
set_refused false (Some (thing.index_set r)) p = None
set_refused false (Some _) p = wrong_if true p Shape
set_refused false None p = wrong_if true p Unknown

abbrev pub set_tried : Scope → Tuple → Name → Trial
set_tried s b n = tried (set_refused (is_some (found b n.text)) (found s.names n.text) n.place)

-- the name is new
abbrev pub new_tried : Scope → Tuple → Name → Trial
new_tried s b n = tried (wrong_if (is_known s b n.text) n.place Doubled)

-- each binder with its set; it is known from then on
abbrev pub binds_tried : List Bind → Scope → Tuple → Trial
binds_tried [] s b = nothing_tried
binds_tried (x ∷ xs) s b = new_tried s b x.name ▸ set_tried s b x.set ▸ binds_tried xs s (with_number b x.name.text (pos 0))

-- ---- expressions

-- a tuple of a sum with what is so far: `part` of those that pass
abbrev pub adding : (Tuple → Trial) → (Tuple → Bool) → (Tuple → Trial) → (Tuple → Meaning) → Scope → Meaning → List Tuple → Trial
adding tests pass part worth_at s g [] = nothing_tried
adding tests pass part worth_at s g (c ∷ cs) = visit ▸ tests c ▸ (if pass c
    then part c ▸ value_tried s (plus g (worth_at c)) ▸ adding tests pass part worth_at s (plus g (worth_at c)) cs
    else adding tests pass part worth_at s g cs)

abbrev mutual
  pub expression_tried : Expression → Scope → Tuple → Trial
  expression_tried (expression p is_negated x xs) s b =
      product_tried x s b
      ▸ value_tried s (negated_if is_negated (product_worth x s.names b))
      ▸ sum_tried xs s b (negated_if is_negated (product_worth x s.names b))

  -- the further terms, each with what is so far
  pub sum_tried : Addends → Scope → Tuple → Meaning → Trial
  sum_tried no_addends s b g = nothing_tried
  sum_tried (addend sign x xs) s b g =
      product_tried x s b
      ▸ value_tried s (with_addend g sign (product_worth x s.names b))
      ▸ sum_tried xs s b (with_addend g sign (product_worth x s.names b))

  -- all factors; then that some variable matters in one at most; then what they come to, one after another
  pub product_tried : Product → Scope → Tuple → Trial
  product_tried (product p x xs) s b =
      operand_tried x s b
      ▸ operands_tried xs s b
      ▸ tried (wrong_if (nat_lt 1 (one_if_varying s (operand_worth x s.names b) + varying xs s b)) p Linear)
      ▸ factors_tried xs s b (operand_worth x s.names b)

  pub operands_tried : Operands → Scope → Tuple → Trial
  operands_tried no_operands s b = nothing_tried
  operands_tried (times x xs) s b = operand_tried x s b ▸ operands_tried xs s b

  -- in how many factors some variable matters
  pub varying : Operands → Scope → Tuple → ℕ
  varying no_operands s b = 0
  varying (times x xs) s b = one_if_varying s (operand_worth x s.names b) + varying xs s b

  pub factors_tried : Operands → Scope → Tuple → Meaning → Trial
  factors_tried no_operands s b g = nothing_tried
  factors_tried (times x xs) s b g = value_tried s (times_of g (operand_worth x s.names b)) ▸ factors_tried xs s b (times_of g (operand_worth x s.names b))

  -- a name is known before its indices are tried; then their number, then where each lies, and then what stands there
  pub operand_tried : Operand → Scope → Tuple → Trial
  operand_tried (number p n) s b = value_tried s (whole (pos n.value))
  operand_tried (named p n xs) s b =
      tried (wrong_if (not (is_known s b n.text)) p Unknown)
      ▸ indices_tried xs s b
      ▸ tried (wrong_if (not (has_count (index_count (found b n.text) (found s.names n.text)) (expression_count xs))) p Shape)
      ▸ indices_within (index_ranges (found b n.text) (found s.names n.text)) (indices_of xs s.names b) xs
      ▸ value_tried s (named_worth (found b n.text) (found s.names n.text) (indices_of xs s.names b))
  operand_tried (group p x) s b = expression_tried x s b
  operand_tried (sum p x bs) s b = summing bs s b (λ c. expression_tried x s c) (λ c. worth x s.names c)

  pub indices_tried : Expressions → Scope → Tuple → Trial
  indices_tried no_expressions s b = nothing_tried
  indices_tried (another x xs) s b = expression_tried x s b ▸ whole_tried s (place_of x) (worth x s.names b) ▸ indices_tried xs s b

  -- binders first, then the tuples in their order
  pub summing : Binding → Scope → Tuple → (Tuple → Trial) → (Tuple → Meaning) → Trial
  summing (binding p y ys tests) s b part worth_at =
      binds_tried (y ∷ ys) s b
      ▸ adding (λ c. tests_tried tests s c) (λ c. all_pass tests s.names c) part worth_at s (whole (pos 0)) (tuples (map (span_of s.names) (y ∷ ys)) b)

  -- a test is tried where all before it pass
  pub tests_tried : Comparisons → Scope → Tuple → Trial
  tests_tried no_comparisons s b = nothing_tried
  tests_tried (besides t ts) s b = test_tried t s b ▸ (if passes t s.names b then tests_tried ts s b else nothing_tried)

  pub test_tried : Comparison → Scope → Tuple → Trial
  test_tried (comparison p x r y) s b =
      expression_tried x s b
      ▸ whole_tried s (place_of x) (worth x s.names b)
      ▸ expression_tried y s b
      ▸ whole_tried s (place_of y) (worth y s.names b)
