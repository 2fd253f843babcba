-- One more constraint at one tuple: what is tried of it, and what is in the making with it.
use Rattle.std.proofs.Common.{◌≡◌, ◌∙◌, ap, sym, subst, ℕ, List, [], ◌∷◌, ◌++◌, length, Result, Ok, Err}
use Rattle.std.proofs.lemmas.List.{length-map}
use Rattle.sm_kinds.specs.declared.var.Var.{Var}
use Rattle.sm_syntax.specs.Trees.{Constraint, Tag}
use Rattle.sm_meaning.specs.declared.refusal.ExpandRefusal.{ExpandRefusal}
use Rattle.sm_meaning.specs.Trials.{Trial, reached, ◌▸◌, IsStopped, GoesThrough}
use Rattle.sm_meaning.specs.Scopes.{Tuple, Scope, count_of}
use Rattle.sm_meaning.specs.Demands.{Demand, row, formula, row_when, kind}
use Rattle.sm_meaning.specs.DemandTrials.{demand_tried}
use Rattle.sm_meaning.specs.Tags.{tags_tried}
use Rattle.sm_meaning.specs.Limits.{post_limits_tried}
use Rattle.sm_meaning.specs.Expansions.{Post, Expansion, vars_of, scope_of, with_posts, post_at}
use Rattle.sm_meaning.specs.Models.{post_tried}
use Rattle.sm_expressions.proofs.Trying.{in_turn, stops, goes_on, stops_later, stopped_same}
use Rattle.sm_flattening.specs.Regularity.{HasAffineRow}
use Rattle.sm_flattening.proofs.Affine.{form_affine}
use Rattle.sm_flattening.proofs.FlatParts.{posted_one}
use Rattle.sm_flattening.proofs.Reached.{reaches}
use Rattle.sm_drafts.specs.declared.draft.Draft.{Draft}
use Rattle.sm_drafts.specs.declared.draft.Draft.TheVariants as draft
use Rattle.sm_drafts.specs.declared.adding.Added.{Added}
use Rattle.sm_drafts.specs.declared.adding.Totals.{Totals}
use Rattle.sm_drafts.specs.Drafts.{IsDraftOf}
use Rattle.sm_drafts.specs.TagDrafts.{tags_of}
use Rattle.sm_drafts.specs.Sums.{AreTotals, IsAdded}
use Rattle.sm_declarations.specs.declared.making.Making.{Making}
use Rattle.sm_declarations.specs.Making.{IsMakingOf}
use Rattle.sm_posts.specs.declared.adding.Drafted.{Drafted}
use Rattle.sm_posts.specs.Adding.{IsDrafted, IsAddedAt}

-- what has a form is affine
draft_affine : (n : ℕ) (d : Demand) (x : Draft) → IsDraftOf n d x → HasAffineRow n d
draft_affine n (row c g) (draft.Row d f) h = form_affine n g f h.1
draft_affine n (row c g) (draft.Formula f) h = absurd h
draft_affine n (row c g) (draft.RowWhen ms d f) h = absurd h
draft_affine n (row c g) (draft.Kind f) h = absurd h
draft_affine n (row_when ls c g) (draft.Row d f) h = absurd h
draft_affine n (row_when ls c g) (draft.Formula f) h = absurd h
draft_affine n (row_when ls c g) (draft.RowWhen ms d f) h = form_affine n g f h.2
draft_affine n (row_when ls c g) (draft.Kind f) h = absurd h
draft_affine n (formula q) x h = tt
draft_affine n (kind k) x h = tt

-- the demand and then the tags
abbrev drafting : Constraint → List Tag → Scope → Tuple → Trial
drafting c ts s b = demand_tried c s b ▸ tags_tried s b [] ts

module _ (e : Expansion) (made : Making) (h : IsMakingOf e made) (c : Constraint) (ts : List Tag) (b : Tuple) (start : ℕ) where
  abbrev the_post : Post
  the_post = post_at c ts (scope_of e) b

  -- the limits behind the demand and the tags
  regrouped : (drafting c ts (scope_of e) b ▸ post_limits_tried e the_post) start ≡ post_tried c ts e b start
  regrouped = in_turn (demand_tried c (scope_of e) b) (tags_tried (scope_of e) b [] ts) (post_limits_tried e the_post) start

  pub drafting_stops : (r : ExpandRefusal) → IsStopped r (drafting c ts made.scope b start) → IsStopped r (post_tried c ts e b start)
  drafting_stops r stop = stopped_same r _ _ regrouped
      (stops r (drafting c ts (scope_of e) b) (post_limits_tried e the_post) start (subst (λ (s : Scope). IsStopped r (drafting c ts s b start)) h.scope stop))

  count_is : count_of (scope_of e) ≡ length made.vars.items
  count_is = length-map (vars_of e) (λ (v : Var). v.kind) ∙ sym (ap length h.parts.flattened.variables)

  -- what the limits of a post answer, for each expansion so far and each post of the draft
  abbrev Adds : List Var → Totals → Drafted → Result Added ExpandRefusal → Type 0
  Adds vars totals d r = (e : Expansion) (p : Post) → vars ≡ vars_of e → AreTotals e totals → IsDraftOf (length vars) p.demand d.draft → p.tags ≡ tags_of d.tags
      → (count : ℕ) → GoesThrough (post_limits_tried e p) count count (IsAdded (length vars) e p) r

  pub drafted_adds : (mid : ℕ) (d : Drafted) (vars : List Var) (r : Result Added ExpandRefusal) → drafting c ts made.scope b start ≡ reached mid
      → IsDrafted (count_of made.scope) (post_at c ts made.scope b) d → vars ≡ made.vars.items → Adds vars made.totals d r
      → GoesThrough (post_tried c ts e b) start mid (IsAddedAt (length made.vars.items) e the_post) r
  drafted_adds mid d vars r goes of same adds =
      let here : IsDrafted (count_of (scope_of e)) the_post d = subst (λ (s : Scope). IsDrafted (count_of s) (post_at c ts s b) d) h.scope of in
      let on : IsDraftOf (length made.vars.items) the_post.demand d.draft = subst (λ (n : ℕ). IsDraftOf n the_post.demand d.draft) count_is here.demand in
      let after = subst (λ (s : Scope). drafting c ts s b start ≡ reached mid) h.scope goes in
      let all = subst (λ (vs : List Var). Adds vs made.totals d r) same adds in
      by_result r after (draft_affine _ the_post.demand d.draft on) (all e the_post h.parts.flattened.variables h.totals on here.tags mid)
    where
      by_result : (r : Result Added ExpandRefusal) → drafting c ts (scope_of e) b start ≡ reached mid → HasAffineRow (length made.vars.items) the_post.demand
          → GoesThrough (post_limits_tried e the_post) mid mid (IsAdded (length made.vars.items) e the_post) r
          → GoesThrough (post_tried c ts e b) start mid (IsAddedAt (length made.vars.items) e the_post) r
      by_result (Ok a) after affine k =
          (sym regrouped ∙ goes_on (drafting c ts (scope_of e) b) (post_limits_tried e the_post) start mid after ∙ k.0, record { added = k.1; affine = affine })
      by_result (Err x) after affine k = stopped_same x _ _ regrouped (stops_later x (drafting c ts (scope_of e) b) (post_limits_tried e the_post) start mid after k)

  -- the constraint is pushed
  pub posted : (after : ℕ) (a : Added) (new : Making) → post_tried c ts e b start ≡ reached after → IsAddedAt (length made.vars.items) e the_post a
      → new.scope ≡ made.scope → new.places.items ≡ made.places.items → new.vars.items ≡ made.vars.items → new.constraints.items ≡ made.constraints.items ++ a.constraint ∷ [] → new.totals ≡ a.totals
      → IsMakingOf (with_posts e (the_post ∷ [])) new
  posted after a new goes at scope places vars constraints totals =
      let more = with_posts e (the_post ∷ []) in
      let parts = posted_one e made.vars.items made.constraints.items h.parts c ts b a.constraint (reaches (post_tried c ts e b) start after goes) at.affine at.added.constraint in
      record {
        scope = scope ∙ h.scope;
        places = places ∙ h.places;
        parts = rw (vars, constraints) parts;
        totals = rw totals at.added.totals;
      }
