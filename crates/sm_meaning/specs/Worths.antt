-- What an expression means: a number is itself, a variable has its value, a sum adds and a product multiplies. All values
-- are numerators over the denominator of the variables' values.
use Rattle.std.specs.Prelude.{ℕ, ◌+◌, List, [], ◌∷◌, map, ℤ, pos, ◌+ℤ◌, ◌-ℤ◌, ◌*ℤ◌, neg_ℤ, unsigned_abs, int_le, int_lt, int_div, Bool, true, false, not, ◌&&◌, Option, Some, None, slice_index_or}
use Rattle.std.specs.List.{filter}
use Rattle.std.specs.Ordering.{int_eq}
use Rattle.sm_syntax.specs.declared.tree.Sign.{Sign}
use Rattle.sm_syntax.specs.declared.tree.Sign.TheVariants as sign
use Rattle.sm_syntax.specs.declared.tree.Relation.{Relation}
use Rattle.sm_syntax.specs.declared.tree.Relation.TheVariants as relation
use Rattle.sm_syntax.specs.Expressions.{Expression, expression, Addends, no_addends, addend, Product, product, Operands, no_operands, times, Operand, number, named, group, sum, Expressions, no_expressions, another, Binding, binding, Comparisons, no_comparisons, besides, Comparison, comparison}
use Rattle.sm_data.specs.declared.table.Table.TheVariants as table
use Rattle.sm_forms.specs.Meanings.{Meaning, nowhere}
use Rattle.sm_meaning.specs.Scopes as thing
use Rattle.sm_meaning.specs.Scopes.{Thing, found, Names, Tuple}
use Rattle.sm_meaning.specs.Tuples.{span_of, tuples, members_before}

-- ---- numbers and names

-- a whole number, whatever the variables' values are
abbrev pub whole : ℤ → Meaning
whole z a = z *ℤ a.denominator

-- what a variable is
abbrev pub value_of : ℕ → Meaning
value_of v a = a.numerator v

-- what a name with these indices means: a binder has its number; an index counts from the least of its set, and in a
-- table from 0
abbrev pub named_worth : Option ℤ → Option Thing → List ℤ → Meaning
named_worth (Some z) t zs = whole z
named_worth None (Some (thing.variable v)) zs = value_of v
named_worth None (Some (thing.family v sets)) zs = value_of (v + members_before sets zs)
named_worth None (Some (thing.table (table.Number z))) zs = whole z
named_worth None (Some (thing.table (table.List entries))) (i ∷ _) = whole (slice_index_or entries (unsigned_abs i) (pos 0))
named_worth None (Some (thing.table (table.Grid rows))) (i ∷ j ∷ _) = whole (slice_index_or (slice_index_or rows (unsigned_abs i) []) (unsigned_abs j) (pos 0))
named_worth None _ _ = whole (pos 0)

-- ---- sums, products and tests

abbrev pub plus : Meaning → Meaning → Meaning
plus g h a = g a +ℤ h a

abbrev pub negated_if : Bool → Meaning → Meaning
negated_if false g a = g a
negated_if true g a = neg_ℤ (g a)

abbrev pub with_addend : Meaning → Sign → Meaning → Meaning
with_addend g sign.Plus h a = g a +ℤ h a
with_addend g sign.Minus h a = g a -ℤ h a

-- the product of two fractions over the denominator; it is exact where one of them is a whole number
abbrev pub times_of : Meaning → Meaning → Meaning
times_of g h a = int_div (g a *ℤ h a) a.denominator

abbrev pub total : List Meaning → Meaning
total [] a = pos 0
total (g ∷ gs) a = g a +ℤ total gs a

abbrev pub relates : Relation → ℤ → ℤ → Bool
relates relation.Less y z = int_lt y z
relates relation.AtMost y z = int_le y z
relates relation.Greater y z = int_lt z y
relates relation.AtLeast y z = int_le z y
relates relation.Equal y z = int_eq y z
relates relation.Unequal y z = not (int_eq y z)

-- ---- expressions

-- Indices and tests have no variables, so they are taken where every variable is 0.
abbrev mutual
  pub worth : Expression → Names → Tuple → Meaning
  worth (expression p is_negated x xs) names b = sum_worth xs names b (negated_if is_negated (product_worth x names b))

  -- what is so far, with the further terms
  pub sum_worth : Addends → Names → Tuple → Meaning → Meaning
  sum_worth no_addends names b g = g
  sum_worth (addend s x xs) names b g = sum_worth xs names b (with_addend g s (product_worth x names b))

  pub product_worth : Product → Names → Tuple → Meaning
  product_worth (product p x xs) names b = factors_worth xs names b (operand_worth x names b)

  -- what is so far, times the further factors
  pub factors_worth : Operands → Names → Tuple → Meaning → Meaning
  factors_worth no_operands names b g = g
  factors_worth (times x xs) names b g = factors_worth xs names b (times_of g (operand_worth x names b))

  pub operand_worth : Operand → Names → Tuple → Meaning
  operand_worth (number p n) names b = whole (pos n.value)
  operand_worth (named p n xs) names b = named_worth (found b n.text) (found names n.text) (indices_of xs names b)
  operand_worth (group p x) names b = worth x names b
  operand_worth (sum p x bs) names b = total (map (λ c. worth x names c) (cases bs names b))

  pub indices_of : Expressions → Names → Tuple → List ℤ
  indices_of no_expressions names b = []
  indices_of (another x xs) names b = worth x names b nowhere ∷ indices_of xs names b

  -- the tuples that pass the tests
  pub cases : Binding → Names → Tuple → List Tuple
  cases (binding p x xs tests) names b = filter (λ c. all_pass tests names c) (tuples (map (span_of names) (x ∷ xs)) b)

  pub all_pass : Comparisons → Names → Tuple → Bool
  all_pass no_comparisons names b = true
  all_pass (besides t ts) names b = passes t names b && all_pass ts names b

  pub passes : Comparison → Names → Tuple → Bool
  passes (comparison p x r y) names b = relates r (worth x names b nowhere) (worth y names b nowhere)
