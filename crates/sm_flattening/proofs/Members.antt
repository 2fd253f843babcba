-- How many members a declaration adds, and that these keep the limits of variables.
use Rattle.std.proofs.Common.{◌≡◌, ◌∙◌, ap, ap₂, sym, refl, ℕ, arith, ◌≤◌, ◌+◌, ◌*◌, List, [], ◌∷◌, ◌++◌, map, length, sum_by, ℤ, false, if◌then◌else◌}
use Rattle.std.specs.Prelude.{All, nat_lt}
use Rattle.std.proofs.lemmas.List.{length-append, length-map}
use Rattle.std.proofs.lemmas.List.Elements.{All-append, All-same, All-map}
use Rattle.std.proofs.lemmas.List.Sums.{sum_by-cons, sum_by-append}
use Rattle.sm_kinds.specs.declared.var.Var.{Var}
use Rattle.sm_kinds.specs.declared.var.VarKind.{VarKind}
use Rattle.sm_kinds.specs.declared.var.VarKind.TheVariants.{Set, Int, Real}
use Rattle.sm_kinds.specs.Limits.{IsSmall, greatest_number, most_variables, most_reals}
use Rattle.sm_kinds.specs.Vars.{IsDomain, set_width, is_real_kind}
use Rattle.sm_flat.specs.Limits.{AreVars, one_if_real}
use Rattle.sm_data.specs.declared.refusal.Counted.TheVariants as counted
use Rattle.sm_syntax.specs.declared.tree.Name.{Name}
use Rattle.sm_syntax.specs.Trees.{Kind, set_kind, int_kind, real_kind}
use Rattle.sm_meaning.specs.declared.range.Range.{Range}
use Rattle.sm_meaning.specs.declared.refusal.Wrong.TheVariants.{Shape, Value}
use Rattle.sm_meaning.specs.Refusals.{wrong_if, count_over}
use Rattle.sm_meaning.specs.Trials.{Trial, ◌▸◌, tried, each_tried}
use Rattle.sm_meaning.specs.Scopes.{Scope}
use Rattle.sm_meaning.specs.Tuples.{numbers_of, member_count}
use Rattle.sm_meaning.specs.ExpressionTrials.{new_tried, set_tried}
use Rattle.sm_meaning.specs.Cases.{number_tried}
use Rattle.sm_meaning.specs.Limits.{numbers_tried}
use Rattle.sm_meaning.specs.Expansions.{Expansion, Declared, vars_of, scope_of}
use Rattle.sm_meaning.specs.Declarations.{kind_of, kind_parts, domain_of, is_empty, var_width, widths_of, index_tuples, ranges_of, declared_as, members_of, kind_place, kind_tried, set_widths_tried, reals_tried, var_limits_tried, var_tried}
use Rattle.sm_flattening.proofs.Domains.{numbers_at, domain_fits, widths_fit}
use Rattle.sm_flattening.proofs.Lists.{flat_length, sum_images, sum_constant, sum_at_most}
use Rattle.sm_flattening.proofs.Rising.{numbers_length, width_in_span}
use Rattle.sm_flattening.proofs.Reached.{Reaches, both, nothing_wrong, count_within, numbers_within}

-- ---- how many there are

pub tuples_count : (rs : List Range) → length (index_tuples rs) ≡ member_count rs
tuples_count [] = refl
tuples_count (r ∷ rs) =
    flat_length (λ z. map (λ zs. z ∷ zs) (index_tuples rs)) (member_count rs) (numbers_of r)
    (λ z. length-map (index_tuples rs) (λ zs. z ∷ zs) ∙ tuples_count rs)
    ∙ ap (λ (n : ℕ). n * member_count rs) (numbers_length r)

-- ---- widths

-- the width of a domain is at most what declarations count of it
width_counted : (k : VarKind) (values : List ℤ) → IsDomain k values → set_width k values ≤ var_width k values
width_counted Set values h = width_in_span values h.some
width_counted Int values h = omega arith
width_counted Real values h = omega arith

widths_counted : (vars : List Var) → All (λ (v : Var). IsDomain v.kind v.values) vars → sum_by (λ (v : Var). set_width v.kind v.values) vars ≤ widths_of vars
widths_counted vars h =
    sum_at_most (λ (v : Var). set_width v.kind v.values) (λ (v : Var). var_width v.kind v.values) vars (λ k d lt. width_counted _ _ (h k d lt))

-- ---- the variables that a declaration adds

module _ (e : Expansion) (name : Name) (sets : List Name) (k : Kind) where
  abbrev scope : Scope
  scope = scope_of e

  abbrev tuples : List (List ℤ)
  tuples = index_tuples (ranges_of scope.names sets)

  abbrev count : ℕ
  count = member_count (ranges_of scope.names sets)

  -- all have the same domain
  abbrev member : List ℤ → Var
  member zs = (declared_as name k scope zs).var

  abbrev pub added : List Var
  added = map (λ (d : Declared). d.var) (members_of name sets k scope)

  added_are : added ≡ map member tuples
  added_are = twice tuples
    where
      twice : (zss : List (List ℤ)) → map (λ (d : Declared). d.var) (map (declared_as name k scope) zss) ≡ map member zss
      twice [] = refl
      twice (zs ∷ zss) = ap (λ vs. member zs ∷ vs) (twice zss)

  added_count : length added ≡ count
  added_count = ap (λ vs. length vs) added_are ∙ length-map tuples member ∙ tuples_count (ranges_of scope.names sets)

  -- what is counted of each is the same for all
  added_sum : (f : Var → ℕ) (c : ℕ) → ((zs : List ℤ) → f (member zs) ≡ c) → sum_by f added ≡ count * c
  added_sum f c each =
      ap (λ vs. sum_by f vs) added_are ∙ sum_images f member tuples ∙ by_each tuples ∙ sum_constant c tuples
      ∙ ap (λ (n : ℕ). n * c) (tuples_count (ranges_of scope.names sets))
    where
      by_each : (zss : List (List ℤ)) → sum_by (λ zs. f (member zs)) zss ≡ sum_by (λ zs. c) zss
      by_each [] = refl
      by_each (zs ∷ zss) = sum_by-cons (λ zs. f (member zs)) zs zss ∙ ap₂ (λ (a b : ℕ). a + b) (each zs) (by_each zss) ∙ sym (sum_by-cons (λ zs. c) zs zss)

  -- ---- what is tried of them

  abbrev domain_trial : Trial
  domain_trial = kind_tried scope k

  abbrev limits_trial : Trial
  limits_trial = var_limits_tried e scope count k

  -- behind the names, the domain and the limits
  parts_reached : Reaches (var_tried name sets k e) → Reaches domain_trial × Reaches limits_trial
  parts_reached h =
      let family = each_tried (set_tried scope []) sets in
      let shape = tried (wrong_if (nat_lt 3 (length sets)) name.place Shape) in
      let named = both (new_tried scope [] name) (family ▸ shape ▸ domain_trial ▸ limits_trial) h in
      let known = both family (shape ▸ domain_trial ▸ limits_trial) named.1 in
      let shaped = both shape (domain_trial ▸ limits_trial) known.1 in
      both domain_trial limits_trial shaped.1

  not_empty : Reaches domain_trial → is_empty scope k ≡ false
  not_empty h =
      let parts = both (each_tried (λ x. number_tried scope x []) (kind_parts k)) (tried (wrong_if (is_empty scope k) (kind_place k) Value)) h in
      nothing_wrong (is_empty scope k) (kind_place k) Value parts.1

  -- numbers, the count of variables, widths and real variables
  record KeepsLimits : Type 0 where
    small : All IsSmall (numbers_at scope (kind_parts k))
    few : length e.variables + count ≤ most_variables
    widths : Reaches (set_widths_tried e scope count k)
    reals : Reaches (reals_tried e count k)

  limits_kept : Reaches limits_trial → KeepsLimits
  limits_kept h =
      let numbers = numbers_tried counted.Bound greatest_number (numbers_at scope (kind_parts k)) in
      let variables = tried (count_over counted.Variables most_variables (length e.variables + count)) in
      let widths = set_widths_tried e scope count k in
      let reals = reals_tried e count k in
      let first = both numbers (variables ▸ widths ▸ reals) h in
      let second = both variables (widths ▸ reals) first.1 in
      let third = both widths reals second.1 in
      record {
        small = numbers_within counted.Bound greatest_number (numbers_at scope (kind_parts k)) first.0;
        few = count_within counted.Variables most_variables (length e.variables + count) second.0;
        widths = third.0;
        reals = third.1;
      }

reals_fit : (e : Expansion) (m : ℕ) (k : Kind) → Reaches (reals_tried e m k) → sum_by one_if_real (vars_of e) ≤ most_reals
    → sum_by one_if_real (vars_of e) + m * (if is_real_kind (kind_of k) then 1 else 0) ≤ most_reals
reals_fit e m (set_kind p vs) h within = omega arith
reals_fit e m (int_kind p x y) h within = omega arith
reals_fit e m (real_kind p x y) h within =
    let few = count_within counted.Reals most_reals (sum_by one_if_real (vars_of e) + m) h in omega arith

-- The variables that a declaration adds have one domain, which fits; what is counted of them is so many times what is counted
-- of one.
pub vars_fit : (e : Expansion) (name : Name) (sets : List Name) (k : Kind) → Reaches (var_tried name sets k e) → AreVars (vars_of e) → AreVars (vars_of e ++ added e name sets k)
vars_fit e name sets k h vars =
    let more = added e name sets k in
    let parts = parts_reached e name sets k h in
    let some = not_empty e name sets k parts.0 in
    let limits = limits_kept e name sets k parts.1 in
    let s = scope_of e in
    let width = set_width (kind_of k) (domain_of s k) in
    let IsOne = λ (v : Var). IsDomain v.kind v.values in
    record {
      few = omega (arith, limits.few, length-append (vars_of e) more, length-map e.variables (λ (d : Declared). d.var), added_count e name sets k);
      each = All-append IsOne (vars_of e) more vars.each
          (All-same IsOne more (map (member e name sets k) (tuples e name sets k)) (added_are e name sets k)
          (All-map IsOne (member e name sets k) (tuples e name sets k)
          (λ i d lt. domain_fits s e (count e name sets k) k some limits.small limits.widths (omega (arith, tuples_count (ranges_of s.names sets))))));
      widths =
          let before = sum_by (λ (v : Var). set_width v.kind v.values) (vars_of e) in
          let fit = widths_fit s e (count e name sets k) k before some limits.widths (widths_counted (vars_of e) vars.each) vars.widths in
          omega (arith, sum_by-append (λ (v : Var). set_width v.kind v.values) (vars_of e) more, added_sum e name sets k (λ (v : Var). set_width v.kind v.values) width (λ zs. refl));
      reals =
          let one : ℕ = if is_real_kind (kind_of k) then 1 else 0 in
          let fit = reals_fit e (count e name sets k) k limits.reals vars.reals in
          omega (arith, sum_by-append one_if_real (vars_of e) more, added_sum e name sets k one_if_real one (λ zs. refl));
    }
