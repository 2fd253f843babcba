-- The limits that a post is within that isn't refused.
use Rattle.std.proofs.Common.{◌≡◌, subst, ℕ, ◌+◌, ◌≤◌, arith, min, [], ◌∷◌, ◌++◌, length, pos, false, All, Option, Some, None, IfSome}
use Rattle.std.specs.Prelude.{unsigned_abs}
use Rattle.std.proofs.lemmas.List.{length-map}
use Rattle.sm_kinds.specs.declared.var.Var.{Var}
use Rattle.sm_kinds.specs.Limits.{IsSmall, greatest_number, most_constraints, most_total, most_clauses, most_real_rows, greatest_branch, greatest_sub}
use Rattle.sm_flat.specs.declared.tags.Tags.{Tags}
use Rattle.sm_flat.specs.Forms.{AreTags}
use Rattle.sm_data.specs.declared.refusal.Counted.TheVariants as counted
use Rattle.sm_clausify.specs.Clauses.{clauses_of}
use Rattle.sm_clausify.specs.Counting.{most}
use Rattle.sm_meaning.specs.Refusals.{number_over}
use Rattle.sm_meaning.specs.Trials.{◌▸◌, tried}
use Rattle.sm_meaning.specs.Scopes.{count_of}
use Rattle.sm_meaning.specs.Demands.{Demand, row, formula, row_when, kind}
use Rattle.sm_meaning.specs.Expansions.{Post, Expansion, vars_of, scope_of}
use Rattle.sm_meaning.specs.Limits.{numbers_tried, bounds_of, entries_of, row_coefficients_tried, count_tried, terms_tried, total_of, clauses_tried, groups_tried, real_rows, sub_tried, tag_limits_tried, post_limits_tried}
use Rattle.sm_flattening.specs.Regularity.{HasFewClauses}
use Rattle.sm_flattening.proofs.Reached.{Reaches, both, number_within, numbers_within, count_within}

-- what the limits say of the post behind those that there are
pub record IsWithin (e : Expansion) (p : Post) : Type 0 where
  pub coefficients : Reaches (row_coefficients_tried (length (vars_of e)) p.demand)
  pub bounds : All IsSmall (bounds_of p.demand)
  pub entries : All IsSmall (entries_of p.demand)
  pub constraints : length e.posts + 1 ≤ most_constraints
  pub terms : Reaches (terms_tried (length (vars_of e)) p.demand)
  pub total : total_of (length (vars_of e)) (e.posts ++ p ∷ []) ≤ most_total
  pub clauses : HasFewClauses p.demand
  pub groups : Reaches (groups_tried (vars_of e) p.demand)
  pub reals : real_rows (scope_of e) (e.posts ++ p ∷ []) ≤ most_real_rows
  pub tags : AreTags p.tags

-- a count is followed far beyond the limit
not_many : (n : ℕ) → unsigned_abs (pos (min n most)) ≤ most_clauses → n ≤ most_clauses
not_many n h = omega arith

few_clauses : (d : Demand) → Reaches (clauses_tried d) → HasFewClauses d
few_clauses (row c g) h = tt
few_clauses (formula q) h = let n = length (clauses_of q false) in not_many n (number_within counted.Clauses most_clauses (pos (min n most)) h)
few_clauses (row_when ls c g) h = tt
few_clauses (kind f) h = tt

sub_is : (o : Option ℕ) → Reaches (sub_tried o) → IfSome o (λ g. g ≤ greatest_sub)
sub_is None h = tt
sub_is (Some g) h = number_within counted.Sub greatest_sub (pos g) h

tags_are : (t : Tags) → Reaches (tag_limits_tried t) → AreTags t
tags_are t h =
    let r = both (tried (number_over counted.Branch greatest_branch (pos t.branch))) (sub_tried t.sub) h in
    record { branch = number_within counted.Branch greatest_branch (pos t.branch) r.0; subproblem = sub_is t.sub r.1 }

-- Each limit is tried behind those before it, so all of them are gone through. There are as many kinds as variables.
pub post_within : (e : Expansion) (p : Post) → Reaches (post_limits_tried e p) → IsWithin e p
post_within e p h =
    let n = count_of (scope_of e) in
    let posts = e.posts ++ p ∷ [] in
    let tags = tag_limits_tried p.tags in
    let reals = count_tried counted.Realrows most_real_rows (real_rows (scope_of e) posts) in
    let groups = groups_tried (vars_of e) p.demand in
    let clauses = clauses_tried p.demand in
    let total = count_tried counted.Total most_total (total_of n posts) in
    let terms = terms_tried n p.demand in
    let constraints = count_tried counted.Constraints most_constraints (length e.posts + 1) in
    let entries = numbers_tried counted.Entry greatest_number (entries_of p.demand) in
    let bounds = numbers_tried counted.Bound greatest_number (bounds_of p.demand) in
    let coefficients = row_coefficients_tried n p.demand in
    let at_coefficients = both coefficients (bounds ▸ entries ▸ constraints ▸ terms ▸ total ▸ clauses ▸ groups ▸ reals ▸ tags) h in
    let at_bounds = both bounds (entries ▸ constraints ▸ terms ▸ total ▸ clauses ▸ groups ▸ reals ▸ tags) at_coefficients.1 in
    let at_entries = both entries (constraints ▸ terms ▸ total ▸ clauses ▸ groups ▸ reals ▸ tags) at_bounds.1 in
    let at_constraints = both constraints (terms ▸ total ▸ clauses ▸ groups ▸ reals ▸ tags) at_entries.1 in
    let at_terms = both terms (total ▸ clauses ▸ groups ▸ reals ▸ tags) at_constraints.1 in
    let at_total = both total (clauses ▸ groups ▸ reals ▸ tags) at_terms.1 in
    let at_clauses = both clauses (groups ▸ reals ▸ tags) at_total.1 in
    let at_groups = both groups (reals ▸ tags) at_clauses.1 in
    let at_reals = both reals tags at_groups.1 in
    let same : n ≡ length (vars_of e) = length-map (vars_of e) (λ (v : Var). v.kind) in
    record {
      coefficients = subst (λ (m : ℕ). Reaches (row_coefficients_tried m p.demand)) same at_coefficients.0;
      bounds = numbers_within counted.Bound greatest_number (bounds_of p.demand) at_bounds.0;
      entries = numbers_within counted.Entry greatest_number (entries_of p.demand) at_entries.0;
      constraints = count_within counted.Constraints most_constraints (length e.posts + 1) at_constraints.0;
      terms = subst (λ (m : ℕ). Reaches (terms_tried m p.demand)) same at_terms.0;
      total = subst (λ (m : ℕ). total_of m posts ≤ most_total) same (count_within counted.Total most_total (total_of n posts) at_total.0);
      clauses = few_clauses p.demand at_clauses.0;
      groups = at_groups.0;
      reals = count_within counted.Realrows most_real_rows (real_rows (scope_of e) posts) at_reals.0;
      tags = tags_are p.tags at_reals.1;
    }
