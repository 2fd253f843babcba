-- A constraint at each tuple that passes: what is tried from here on, and what is posted from here on, behind what is posted.
use Rattle.std.proofs.Common.{◌≡◌, ◌∙◌, ap, sym, refl, subst, ℕ, List, [], ◌∷◌, map, append_assoc, append-nil, Some}
use Rattle.std.specs.Prelude.{if◌then◌else◌}
use Rattle.sm_syntax.specs.declared.expression.Test.{Test}
use Rattle.sm_syntax.specs.Expressions.{Binding, binding, Comparisons}
use Rattle.sm_syntax.specs.Trees.{Constraint, Tag}
use Rattle.sm_meaning.specs.declared.refusal.ExpandRefusal.{ExpandRefusal}
use Rattle.sm_meaning.specs.Trials.{Trial, reached, ◌▸◌, visit, IsStopped}
use Rattle.sm_meaning.specs.Scopes.{Tuple, Scope, Names}
use Rattle.sm_meaning.specs.Worths.{all_pass}
use Rattle.sm_meaning.specs.ExpressionTrials.{tests_tried}
use Rattle.sm_meaning.specs.Cases.{over_cases}
use Rattle.sm_meaning.specs.Expansions.{Post, Expansion, scope_of, with_posts, post_at}
use Rattle.sm_meaning.specs.Models.{post_tried, posts_tried, forall_tried}
use Rattle.sm_expressions.specs.Sums.{tests_in}
use Rattle.sm_expressions.proofs.Trying.{stops, goes_on, stopped_same}
use Rattle.sm_parts.specs.Seeking.{Sought, tests_of, binders_tried, tuples_of, passing, seeking, Begins, Finds, Ends}
use Rattle.sm_declarations.specs.declared.making.Making.{Making}
use Rattle.sm_declarations.specs.Making.{IsMakingOf, IsOfSome}

-- what is tried of these tuples, over an expansion so far
abbrev pub each_post : Comparisons → Constraint → List Tag → Expansion → List Tuple → Trial
each_post tests c ts e cs = posts_tried (tests_tried tests (scope_of e)) (all_pass tests e.names) c ts e cs

-- the expansion with the post at a tuple
abbrev pub with_one : Constraint → List Tag → Expansion → Tuple → Expansion
with_one c ts e b = with_posts e (post_at c ts (scope_of e) b ∷ [])

-- the expansion with the posts at these tuples
abbrev pub with_all : Constraint → List Tag → Expansion → List Tuple → Expansion
with_all c ts e cs = with_posts e (map (post_at c ts (scope_of e)) cs)

-- what is tried at a tuple that passes, and behind it
abbrev pub onward : Comparisons → Constraint → List Tag → Expansion → Tuple → List Tuple → Trial
onward tests c ts e b cs = post_tried c ts e b ▸ each_post tests c ts (with_one c ts e b) cs

pub seeking_posts : (tests : Comparisons) (c : Constraint) (ts : List Tag) (e : Expansion) (cs : List Tuple) → seeking tests (scope_of e) (onward tests c ts e) cs ≡ each_post tests c ts e cs
seeking_posts tests c ts e [] = refl
seeking_posts tests c ts e (b ∷ cs) =
    ap (λ (t : Trial). visit ▸ tests_tried tests (scope_of e) b ▸ (if all_pass tests e.names b then onward tests c ts e b cs else t)) (seeking_posts tests c ts e cs)

split_forall : (x : Binding) (c : Constraint) (ts : List Tag) (e : Expansion) → forall_tried (Some x) c ts e ≡ (binders_tried x (scope_of e) [] ▸ each_post (tests_in x) c ts e (tuples_of x e.names []))
split_forall (binding p y ys tests) c ts e = refl

passing_cases : (x : Binding) (names : Names) (b : Tuple) → passing (tests_in x) names (tuples_of x names b) ≡ over_cases (Some x) names b
passing_cases (binding p y ys tests) names b = refl

-- posts behind one more are posts
with_next : (c : Constraint) (ts : List Tag) (e : Expansion) (b : Tuple) (cs : List Tuple) → with_all c ts (with_one c ts e b) cs ≡ with_all c ts e (b ∷ cs)
with_next c ts e b cs = ap (λ (ps : List Post). record e { posts = ps }) (append_assoc e.posts (post_at c ts (scope_of e) b ∷ []) (map (post_at c ts (scope_of e)) cs))

with_none : (c : Constraint) (ts : List Tag) (e : Expansion) → with_all c ts e [] ≡ e
with_none c ts e = ap (λ (ps : List Post). record e { posts = ps }) (append-nil e.posts)

-- What is in the making is of a front, over which what is left to try comes to what all comes to, and so does what is left to post.
pub record Posting (x : Binding) (c : Constraint) (ts : List Tag) (e : Expansion) (start : ℕ) (t : Sought) (made : Making) (now : ℕ) : Type 0 where
  pub front : Expansion
  pub making : IsMakingOf front made
  pub tests : tests_of t ≡ tests_in x
  pub tried : each_post (tests_in x) c ts front t.to_come now ≡ forall_tried (Some x) c ts e start
  pub posts : with_all c ts front (passing (tests_in x) front.names t.to_come) ≡ with_all c ts e (over_cases (Some x) e.names [])

module _ (x : Binding) (c : Constraint) (ts : List Tag) (e : Expansion) (start : ℕ) where
  pub binders_stop : (r : ExpandRefusal) (s : Scope) → s ≡ scope_of e → IsStopped r (binders_tried x s [] start) → IsStopped r (forall_tried (Some x) c ts e start)
  binders_stop r s is stop = stopped_same r _ _ (sym (ap (λ (t : Trial). t start) (split_forall x c ts e)))
      (stops r (binders_tried x (scope_of e) []) (each_post (tests_in x) c ts e (tuples_of x e.names [])) start (subst (λ (s : Scope). IsStopped r (binders_tried x s [] start)) is stop))

  pub posting_first : (t : Sought) (made : Making) → IsMakingOf e made → binders_tried x made.scope [] start ≡ reached start → Begins x made.scope.names [] t → Posting x c ts e start t made start
  posting_first t made h goes begins =
      let after : binders_tried x (scope_of e) [] start ≡ reached start = subst (λ (s : Scope). binders_tried x s [] start ≡ reached start) h.scope goes in
      let first : Begins x e.names [] t = subst (λ (s : Scope). Begins x s.names [] t) h.scope begins in
      record {
        front = e;
        making = h;
        tests = first.tests;
        tried = ap (λ cs. each_post (tests_in x) c ts e cs start) first.to_come
            ∙ sym (goes_on (binders_tried x (scope_of e) []) (each_post (tests_in x) c ts e (tuples_of x e.names [])) start start after)
            ∙ sym (ap (λ (r : Trial). r start) (split_forall x c ts e));
        posts = ap (λ cs. with_all c ts e (passing (tests_in x) e.names cs)) first.to_come ∙ ap (with_all c ts e) (passing_cases x e.names []);
      }

  module _ (t : Sought) (made : Making) (now : ℕ) (h : Posting x c ts e start t made now) where
    -- where the next tuple is sought, all is tried that is left
    sought : seeking (tests_of t) (scope_of h.front) (onward (tests_in x) c ts h.front) t.to_come now ≡ forall_tried (Some x) c ts e start
    sought =
        ap (λ (tests : Comparisons). seeking tests (scope_of h.front) (onward (tests_in x) c ts h.front) t.to_come now) h.tests
        ∙ ap (λ (r : Trial). r now) (seeking_posts (tests_in x) c ts h.front t.to_come)
        ∙ h.tried

    pub posting_stops : (r : ExpandRefusal) → ((rest : Tuple → List Tuple → Trial) → IsStopped r (seeking (tests_of t) made.scope rest t.to_come now)) → IsStopped r (forall_tried (Some x) c ts e start)
    posting_stops r stop =
        let rest = onward (tests_in x) c ts h.front in
        stopped_same r _ _ sought (subst (λ (s : Scope). IsStopped r (seeking (tests_of t) s rest t.to_come now)) h.making.scope (stop rest))

    pub posting_some : IsOfSome made
    posting_some = record { expansion = h.front; making = h.making }

    module _ (found : Sought) (mid : ℕ) (finds : Finds made.scope t found now mid) where
      here : Finds (scope_of h.front) t found now mid
      here = subst (λ (s : Scope). Finds s t found now mid) h.making.scope finds

      -- the tuple that is found is tried, and those behind it
      at_found : onward (tests_in x) c ts h.front found.tuple found.to_come mid ≡ forall_tried (Some x) c ts e start
      at_found = sym (here.tried (onward (tests_in x) c ts h.front)) ∙ sought

      pub post_stops : (r : ExpandRefusal) → IsStopped r (post_tried c ts h.front found.tuple mid) → IsStopped r (forall_tried (Some x) c ts e start)
      post_stops r stop = stopped_same r _ _ at_found (stops r (post_tried c ts h.front found.tuple) (each_post (tests_in x) c ts (with_one c ts h.front found.tuple) found.to_come) mid stop)

      pub posting_more : (new : Making) (after : ℕ) → post_tried c ts h.front found.tuple mid ≡ reached after → IsMakingOf (with_one c ts h.front found.tuple) new → Posting x c ts e start found new after
      posting_more new after goes making =
          let first : passing (tests_in x) h.front.names t.to_come ≡ found.tuple ∷ passing (tests_in x) h.front.names found.to_come =
          subst (λ (tests : Comparisons). passing tests h.front.names t.to_come ≡ found.tuple ∷ passing tests h.front.names found.to_come) h.tests here.passes in
          record {
            front = with_one c ts h.front found.tuple;
            making = making;
            tests = ap (λ (tests : List Test). tests_of (record { tests = tests; tuple = found.tuple; to_come = found.to_come })) here.tests ∙ h.tests;
            tried = sym (goes_on (post_tried c ts h.front found.tuple) (each_post (tests_in x) c ts (with_one c ts h.front found.tuple) found.to_come) mid after goes) ∙ at_found;
            posts = with_next c ts h.front found.tuple (passing (tests_in x) h.front.names found.to_come) ∙ ap (with_all c ts h.front) (sym first) ∙ h.posts;
          }

    pub posting_ends : (final : ℕ) → Ends made.scope t now final → (forall_tried (Some x) c ts e start ≡ reached final) × IsMakingOf (with_all c ts e (over_cases (Some x) e.names [])) made
    posting_ends final ends =
        let here : Ends (scope_of h.front) t now final = subst (λ (s : Scope). Ends s t now final) h.making.scope ends in
        let none : passing (tests_in x) h.front.names t.to_come ≡ [] = subst (λ (tests : Comparisons). passing tests h.front.names t.to_come ≡ []) h.tests here.passes in
        let whole : h.front ≡ with_all c ts e (over_cases (Some x) e.names []) = sym (with_none c ts h.front) ∙ ap (with_all c ts h.front) (sym none) ∙ h.posts in
        (sym sought ∙ here.tried (onward (tests_in x) c ts h.front), subst (λ (f : Expansion). IsMakingOf f made) whole h.making)
