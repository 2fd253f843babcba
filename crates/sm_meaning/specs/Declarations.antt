-- Index sets and variables: what a declaration adds, and what is tried of it.
use Rattle.std.specs.Prelude.{ℕ, zero, suc, ◌+◌, List, [], ◌∷◌, ◌++◌, codes, map, length, ℤ, pos, int_lt, Bool, false, ◌==◌, nat_lt, Option, Some, if◌then◌else◌}
use Rattle.std.specs.List.{flat_map}
use Rattle.std.specs.Ordering.{int_eq}
use Rattle.sm_base.specs.Whole.{whole_text}
use Rattle.sm_kinds.specs.declared.var.Var.{Var}
use Rattle.sm_kinds.specs.declared.var.VarKind.{VarKind}
use Rattle.sm_kinds.specs.declared.var.VarKind.TheVariants.{Set, Int, Real}
use Rattle.sm_kinds.specs.Limits.{greatest_number, most_variables, most_width, most_widths, most_reals}
use Rattle.sm_flat.specs.Limits.{one_if_real}
use Rattle.sm_data.specs.declared.refusal.Counted.TheVariants as counted
use Rattle.sm_syntax.specs.declared.place.Place.{Place}
use Rattle.sm_syntax.specs.declared.tree.Name.{Name}
use Rattle.sm_syntax.specs.Expressions.{Expression}
use Rattle.sm_syntax.specs.Trees.{Values, range, listed, Kind, set_kind, int_kind, real_kind}
use Rattle.sm_meaning.specs.declared.refusal.Wrong.TheVariants.{Shape, Value}
use Rattle.sm_meaning.specs.Refusals.{wrong_if, number_over, count_over}
use Rattle.sm_meaning.specs.Trials.{Trial, ◌▸◌, nothing_tried, tried, each_tried}
use Rattle.sm_meaning.specs.Scopes as thing
use Rattle.sm_meaning.specs.declared.range.Range.{Range}
use Rattle.sm_meaning.specs.Scopes.{Thing, found, Names, Scope}
use Rattle.sm_meaning.specs.Tuples.{size_of, numbers_of, member_count}
use Rattle.sm_meaning.specs.ExpressionTrials.{new_tried, set_tried}
use Rattle.sm_meaning.specs.Cases.{number_of, number_tried}
use Rattle.sm_meaning.specs.Limits.{numbers_tried, least_of, greatest_of}
use Rattle.sm_meaning.specs.Expansions.{Expansion, Declared, vars_of, scope_of, with_name}
use Rattle.std.specs.List.{sum_by}

-- ---- index sets

-- members of an index set
abbrev pub most_members_of_set : ℕ
most_members_of_set = 65536

abbrev pub range_of : Scope → Expression → Expression → Range
range_of s x y = record { least = number_of s x []; greatest = number_of s y [] }

abbrev pub index_tried : Name → Expression → Expression → Expansion → Trial
index_tried name x y e =
    new_tried (scope_of e) [] name
    ▸ number_tried (scope_of e) x []
    ▸ number_tried (scope_of e) y []
    ▸ tried (count_over counted.Size most_members_of_set (size_of (range_of (scope_of e) x y)))

abbrev pub with_index : Name → Expression → Expression → Expansion → Expansion
with_index name x y e = with_name e name.text (thing.index_set (range_of (scope_of e) x y))

-- ---- domains

-- the number stands once, between those below and those above it
abbrev pub inserted : ℤ → List ℤ → List ℤ
inserted z [] = z ∷ []
inserted z (x ∷ xs) = if int_lt z x then z ∷ x ∷ xs else (if int_eq z x then x ∷ xs else x ∷ inserted z xs)

-- the numbers in increasing order, each once
abbrev pub rising : List ℤ → List ℤ
rising [] = []
rising (z ∷ zs) = inserted z (rising zs)

abbrev pub kind_of : Kind → VarKind
kind_of (set_kind p vs) = Set
kind_of (int_kind p x y) = Int
kind_of (real_kind p x y) = Real

abbrev pub kind_place : Kind → Place
kind_place (set_kind p vs) = p
kind_place (int_kind p x y) = p
kind_place (real_kind p x y) = p

abbrev pub value_parts : Values → List Expression
value_parts (range x y) = x ∷ y ∷ []
value_parts (listed x xs) = x ∷ xs

-- the expressions of a kind, in order
abbrev pub kind_parts : Kind → List Expression
kind_parts (set_kind p vs) = value_parts vs
kind_parts (int_kind p x y) = x ∷ y ∷ []
kind_parts (real_kind p x y) = x ∷ y ∷ []

abbrev pub set_values : Scope → Values → List ℤ
set_values s (range x y) = numbers_of (range_of s x y)
set_values s (listed x xs) = rising (map (λ v. number_of s v []) (x ∷ xs))

-- the declared domain: the values of a set, and otherwise the two ends
abbrev pub domain_of : Scope → Kind → List ℤ
domain_of s (set_kind p vs) = set_values s vs
domain_of s (int_kind p x y) = number_of s x [] ∷ number_of s y [] ∷ []
domain_of s (real_kind p x y) = number_of s x [] ∷ number_of s y [] ∷ []

abbrev pub is_empty_set : Scope → Values → Bool
is_empty_set s (range x y) = size_of (range_of s x y) == 0
is_empty_set s (listed x xs) = false

-- no value lies in the domain
abbrev pub is_empty : Scope → Kind → Bool
is_empty s (set_kind p vs) = is_empty_set s vs
is_empty s (int_kind p x y) = size_of (range_of s x y) == 0
is_empty s (real_kind p x y) = size_of (range_of s x y) == 0

-- from the least to the greatest value
abbrev pub span_width : List ℤ → ℕ
span_width [] = 0
span_width (z ∷ zs) = size_of (record { least = least_of z zs; greatest = greatest_of z zs })

abbrev pub width_of : Scope → Values → ℕ
width_of s (range x y) = size_of (range_of s x y)
width_of s (listed x xs) = span_width (map (λ v. number_of s v []) (x ∷ xs))

abbrev pub kind_tried : Scope → Kind → Trial
kind_tried s k = each_tried (λ x. number_tried s x []) (kind_parts k) ▸ tried (wrong_if (is_empty s k) (kind_place k) Value)

-- ---- members of a family

-- the indices of the members in lexicographic order; of a single variable there are none
abbrev pub index_tuples : List Range → List (List ℤ)
index_tuples [] = [] ∷ []
index_tuples (r ∷ rs) = flat_map (λ z. map (λ zs. z ∷ zs) (index_tuples rs)) (numbers_of r)

abbrev pub joined : List (List ℕ) → List ℕ
joined [] = []
joined (t ∷ []) = t
joined (t ∷ u ∷ us) = t ++ codes "," ++ joined (u ∷ us)

-- `s` by itself, and `s[0,3]` as a member of a family
abbrev pub member_name : List ℕ → List ℤ → List ℕ
member_name name [] = name
member_name name (z ∷ zs) = name ++ codes "[" ++ joined (map whole_text (z ∷ zs)) ++ codes "]"

abbrev pub set_range : Option Thing → Range
set_range (Some (thing.index_set r)) = r
set_range _ = record { least = pos 0; greatest = pos 0 }

abbrev pub ranges_of : Names → List Name → List Range
ranges_of names sets = map (λ (n : Name). set_range (found names n.text)) sets

abbrev pub declared_as : Name → Kind → Scope → List ℤ → Declared
declared_as name k s zs = record { place = name.place; var = record { name = member_name name.text zs; kind = kind_of k; values = domain_of s k } }

abbrev pub members_of : Name → List Name → Kind → Scope → List Declared
members_of name sets k s = map (declared_as name k s) (index_tuples (ranges_of s.names sets))

-- what a name stands for that is declared behind so many variables
abbrev pub thing_of : ℕ → List Range → Thing
thing_of n [] = thing.variable n
thing_of n (r ∷ rs) = thing.family n (r ∷ rs)

-- ---- variables

-- the widths of members, one after another, with what is so far
abbrev pub widths_tried : ℕ → ℕ → ℕ → Trial
widths_tried zero width so_far = nothing_tried
widths_tried (suc k) width so_far = tried (number_over counted.Widths most_widths (pos (so_far + width))) ▸ widths_tried k width (so_far + width)

-- from the first to the last value of a set variable
abbrev pub var_width : VarKind → List ℤ → ℕ
var_width Set values = span_width values
var_width Int values = 0
var_width Real values = 0

-- the widths of set variables so far
abbrev pub widths_of : List Var → ℕ
widths_of vars = sum_by (λ (v : Var). var_width v.kind v.values) vars

abbrev pub set_widths_tried : Expansion → Scope → ℕ → Kind → Trial
set_widths_tried e s zero k = nothing_tried
set_widths_tried e s (suc m) (set_kind p vs) = tried (number_over counted.Width most_width (pos (width_of s vs))) ▸ widths_tried (suc m) (width_of s vs) (widths_of (vars_of e))
set_widths_tried e s (suc m) _ = nothing_tried

-- so many variables of the kind more
abbrev pub reals_tried : Expansion → ℕ → Kind → Trial
reals_tried e m (real_kind p x y) = tried (count_over counted.Reals most_reals (sum_by one_if_real (vars_of e) + m))
reals_tried e m _ = nothing_tried

abbrev pub var_limits_tried : Expansion → Scope → ℕ → Kind → Trial
var_limits_tried e s m k =
    numbers_tried counted.Bound greatest_number (map (λ x. number_of s x []) (kind_parts k))
    ▸ tried (count_over counted.Variables most_variables (length e.variables + m))
    ▸ set_widths_tried e s m k
    ▸ reals_tried e m k

abbrev pub var_tried : Name → List Name → Kind → Expansion → Trial
var_tried name sets k e =
    new_tried (scope_of e) [] name
    ▸ each_tried (set_tried (scope_of e) []) sets
    ▸ tried (wrong_if (nat_lt 3 (length sets)) name.place Shape)
    ▸ kind_tried (scope_of e) k
    ▸ var_limits_tried e (scope_of e) (member_count (ranges_of (scope_of e).names sets)) k

abbrev pub with_variables : Expansion → List Declared → Expansion
with_variables e ds = record e { variables = e.variables ++ ds }

abbrev pub with_var : Name → List Name → Kind → Expansion → Expansion
with_var name sets k e =
    with_variables (with_name e name.text (thing_of (length e.variables) (ranges_of e.names sets))) (members_of name sets k (scope_of e))
