-- What the constraints so far come to, and one more constraint behind them.
use Rattle.std.specs.Prelude.{◌≡◌, ℕ, ◌+◌, ◌≤◌, ◌∷◌, [], length}
use Rattle.sm_kinds.specs.Limits.{most_constraints, most_total, most_real_rows}
use Rattle.sm_meaning.specs.Scopes.{count_of}
use Rattle.sm_meaning.specs.Demands.{Demand}
use Rattle.sm_meaning.specs.Expansions.{Post, Expansion, scope_of, with_posts}
use Rattle.sm_meaning.specs.Limits as limit
use Rattle.sm_flattening.specs.Flattening.{form_of, constraint_of}
use Rattle.sm_flattening.specs.Regularity.{HasFewClauses}
use Rattle.sm_drafts.specs.declared.adding.Totals.{Totals}
use Rattle.sm_drafts.specs.declared.adding.Added.{Added}
use Rattle.sm_drafts.specs.declared.adding.SizedForm.{SizedForm}

-- the totals are within their limits
pub record IsWithin (t : Totals) : Type 0 where
  pub constraints : t.constraints ≤ most_constraints
  pub sizes : t.sizes ≤ most_total
  pub real_rows : t.real_rows ≤ most_real_rows

-- the totals are those of the expansion, within their limits
pub record AreTotals (e : Expansion) (t : Totals) : Type 0 where
  pub constraints : t.constraints ≡ length e.posts
  pub sizes : t.sizes ≡ limit.total_of (count_of (scope_of e)) e.posts
  pub real_rows : t.real_rows ≡ limit.real_rows (scope_of e) e.posts
  pub within : IsWithin t

-- the demand's flat form, with few clauses, and the total with it
pub record IsSizedForm (n : ℕ) (d : Demand) (sizes : ℕ) (x : SizedForm) : Type 0 where
  pub form : x.form ≡ form_of n d
  pub few : HasFewClauses d
  pub total : x.sizes ≡ sizes + limit.size_of n d

-- the flat constraint of a post, where there are n variables, with few clauses, and the totals with it
pub record IsAdded (n : ℕ) (e : Expansion) (p : Post) (a : Added) : Type 0 where
  pub constraint : a.constraint ≡ constraint_of n p
  pub few : HasFewClauses p.demand
  pub totals : AreTotals (with_posts e (p ∷ [])) a.totals
