-- What the test of the tables proves.
use Rattle.std.proofs.Common.{◌≡◌, ◌∙◌, ap, sym, subst, refl, inl, inr, ◌⊎◌, ◌&&◌, ◌||◌, ◌+◌, ℕ, zero, suc, Bool, true, false, not, List, [], ◌∷◌, ◌++◌, Option, Some, None, find, arith, eqb-true}
use Rattle.std.specs.Prelude.{◌==◌, if◌then◌else◌}
use Rattle.std.specs.List.{list_all, list_any}
use Rattle.std.proofs.lemmas.Bool.{and_parts, false_from_ne_true, or_cases, or_right}
use Rattle.sm_syntax.specs.Grammars.{Symbol, leaf, node, Grammar, Row, Derives, IsAlternative, done, token, rule, is_among, vanishes, starts, selects, predict, FollowsIn, IsLl1, row_at, empty_row, grammar_of, start_set, select_set, is_within, follow_test, apart_test, lone_test, alternative_at, derive_with, derive_test, row_test, rows_test, is_ll1}
use Rattle.sm_syntax.proofs.GrammarLaws.{find_among, predict_among}

among_left : (d : ℕ) (xs ys : List ℕ) → is_among d xs ≡ true → is_among d (xs ++ ys) ≡ true
among_left d [] ys h = let wrong : false ≡ true = h in cc
among_left d (x ∷ xs) ys h = elim (or_cases (x == d) (is_among d xs) h) [
  | inl e ↦ rw e refl
  | inr k ↦ elim (x == d) as (λ b. (b || is_among d (xs ++ ys)) ≡ true) [ true ↦ refl | false ↦ among_left d xs ys k ]
]

among_right : (d : ℕ) (xs ys : List ℕ) → is_among d ys ≡ true → is_among d (xs ++ ys) ≡ true
among_right d [] ys h = h
among_right d (x ∷ xs) ys h = elim (x == d) as (λ b. (b || is_among d (xs ++ ys)) ≡ true) [ true ↦ refl | false ↦ among_right d xs ys h ]

all_at : (p : ℕ → Bool) (xs : List ℕ) (d : ℕ) → list_all p xs ≡ true → is_among d xs ≡ true → p d ≡ true
all_at p [] d h k = let wrong : false ≡ true = k in cc
all_at p (x ∷ xs) d h k =
    let q = and_parts (p x) (list_all p xs) h in
    elim (or_cases (x == d) (is_among d xs) k) [ inl e ↦ subst (λ (y : ℕ). p y ≡ true) (eqb-true x d e) q.0 | inr m ↦ all_at p xs d q.1 m ]

all_of : (p : List Symbol → Bool) (xs : List (List Symbol)) (x : List Symbol) → list_all p xs ≡ true → IsAlternative xs x → p x ≡ true
all_of p [] x h k = absurd k
all_of p (y ∷ ys) x h (inl e) = subst (λ (z : List Symbol). p z ≡ true) e (and_parts (p y) (list_all p ys) h).0
all_of p (y ∷ ys) x h (inr m) = all_of p ys x (and_parts (p y) (list_all p ys) h).1 m

any_of : (p : List Symbol → Bool) (xs : List (List Symbol)) (x : List Symbol) → IsAlternative xs x → p x ≡ true → list_any p xs ≡ true
any_of p [] x k h = absurd k
any_of p (y ∷ ys) x (inl e) h = let q : p y ≡ true = subst (λ (z : List Symbol). p z ≡ true) (sym e) h in rw q refl
any_of p (y ∷ ys) x (inr m) h = elim (p y) as (λ b. (b || list_any p ys) ≡ true) [ true ↦ refl | false ↦ any_of p ys x m h ]

-- ---- the sets have what the tests say

start_among : (g : Grammar) (ss : List Symbol) (d : ℕ) → starts g ss d ≡ true → is_among d (start_set g ss) ≡ true
start_among g [] d h = h
start_among g (leaf a ∷ ss) d h = rw h refl
start_among g (node A ∷ ss) d h = elim (or_cases (is_among d (g.first A)) (g.nullable A && starts g ss d) h) [
  | inl e ↦ among_left d (g.first A) (if g.nullable A then start_set g ss else []) e
  | inr k ↦
      let q = and_parts (g.nullable A) (starts g ss d) k in
      among_right d (g.first A) (if g.nullable A then start_set g ss else []) (rw q.0 (start_among g ss d q.1))
]

select_among : (g : Grammar) (A : ℕ) (rhs : List Symbol) (d : ℕ) → selects g A rhs d ≡ true → is_among d (select_set g A rhs) ≡ true
select_among g A rhs d h = elim (or_cases (starts g rhs d) (vanishes g rhs && is_among d (g.follow A)) h) [
  | inl e ↦ among_left d (start_set g rhs) (if vanishes g rhs then g.follow A else []) (start_among g rhs d e)
  | inr k ↦
      let q = and_parts (vanishes g rhs) (is_among d (g.follow A)) k in
      among_right d (start_set g rhs) (if vanishes g rhs then g.follow A else []) (rw q.0 q.1)
]

not_or : (a b : Bool) → (not a || b) ≡ true → a ≡ true → b ≡ true
not_or true b h k = h
not_or false b h k = let wrong : false ≡ true = k in cc

follows_from : (g : Grammar) (A : ℕ) (ss : List Symbol) → follow_test g A ss ≡ true → FollowsIn g A ss
follows_from g A [] h = tt
follows_from g A (leaf a ∷ ss) h = follows_from g A ss h
follows_from g A (node X ∷ ss) h =
    let p = and_parts (is_within (start_set g ss) (g.follow X)) ((not (vanishes g ss) || is_within (g.follow A) (g.follow X)) && follow_test g A ss) h in
    let q = and_parts (not (vanishes g ss) || is_within (g.follow A) (g.follow X)) (follow_test g A ss) p.1 in (
      λ d k. all_at (λ e. is_among e (g.follow X)) (start_set g ss) d p.0 (start_among g ss d k),
      λ v d k. all_at (λ e. is_among e (g.follow X)) (g.follow A) d (not_or (vanishes g ss) (is_within (g.follow A) (g.follow X)) q.0 v) k,
      follows_from g A ss q.1,
    )

not_true : (b : Bool) → not b ≡ true → b ≡ false
not_true true h = let wrong : false ≡ true = h in cc
not_true false h = refl

-- where no two alternatives are taken at one kind, the one that is taken is predicted
taken_alone : (g : Grammar) (A : ℕ) (r : List Symbol) (rs : List (List Symbol)) (d : ℕ) → apart_test g A (r ∷ rs) ≡ true → selects g A r d ≡ true → list_any (λ q. selects g A q d) rs ≡ false
taken_alone g A r rs d h t =
    let p = and_parts (list_all (λ e. not (list_any (λ q. selects g A q e) rs)) (select_set g A r)) (apart_test g A rs) h in
    not_true (list_any (λ q. selects g A q d) rs) (all_at (λ e. not (list_any (λ q. selects g A q e) rs)) (select_set g A r) d p.0 (select_among g A r d t))

start_selects : (g : Grammar) (A : ℕ) (r : List Symbol) (d : ℕ) → starts g r d ≡ true → selects g A r d ≡ true
start_selects g A r d h = rw h refl

never_first : (g : Grammar) (A : ℕ) (r : List Symbol) (rs : List (List Symbol)) (rhs : List Symbol) (d : ℕ) → apart_test g A (r ∷ rs) ≡ true → IsAlternative rs rhs → selects g A rhs d ≡ true → starts g r d ≡ true → ⊥
never_first g A r rs rhs d h m s t =
    let none_later = taken_alone g A r rs d h (start_selects g A r d t) in
    let some_later = any_of (λ q. selects g A q d) rs rhs m s in
    let wrong : true ≡ false = sym some_later ∙ none_later in cc

find_none : (p : List Symbol → Bool) (q : List Symbol → Bool) (rs : List (List Symbol)) → ((x : List Symbol) → p x ≡ true → q x ≡ true) → list_any q rs ≡ false → find p rs ≡ None
find_none p q [] f h = refl
find_none p q (r ∷ rs) f h =
    let here : p r ≡ false = false_from_ne_true (p r) (λ t. let u = f r t in let v : list_any q (r ∷ rs) ≡ true = rw u refl in let wrong : true ≡ false = sym v ∙ h in cc) in
    let later : list_any q rs ≡ false = false_from_ne_true (list_any q rs) (λ t. let v : list_any q (r ∷ rs) ≡ true = or_right (q r) (list_any q rs) t in let wrong : true ≡ false = sym v ∙ h in cc) in
    rw here (find_none p q rs f later)

found_start : (g : Grammar) (A : ℕ) (rs : List (List Symbol)) (rhs : List Symbol) (d : ℕ) → apart_test g A rs ≡ true → IsAlternative rs rhs → starts g rhs d ≡ true → find (λ q. starts g q d) rs ≡ Some rhs
found_start g A [] rhs d h k s = absurd k
found_start g A (r ∷ rs) rhs d h (inl e) s = let q : starts g r d ≡ true = subst (λ (z : List Symbol). starts g z d ≡ true) (sym e) s in rw q (ap (λ (z : List Symbol). Some z) e)
found_start g A (r ∷ rs) rhs d h (inr m) s =
    let p = and_parts (list_all (λ e. not (list_any (λ q. selects g A q e) rs)) (select_set g A r)) (apart_test g A rs) h in
    let here : starts g r d ≡ false = false_from_ne_true (starts g r d) (never_first g A r rs rhs d h m (start_selects g A rhs d s)) in
    rw here (found_start g A rs rhs d p.1 m s)

no_start : (g : Grammar) (A : ℕ) (rs : List (List Symbol)) (rhs : List Symbol) (d : ℕ) → apart_test g A rs ≡ true → IsAlternative rs rhs → selects g A rhs d ≡ true → starts g rhs d ≡ false → find (λ q. starts g q d) rs ≡ None
no_start g A [] rhs d h k s f = absurd k
no_start g A (r ∷ rs) rhs d h (inl e) s f =
    let here : starts g r d ≡ false = subst (λ (z : List Symbol). starts g z d ≡ false) (sym e) f in
    let taken : selects g A r d ≡ true = subst (λ (z : List Symbol). selects g A z d ≡ true) (sym e) s in
    rw here (find_none (λ q. starts g q d) (λ q. selects g A q d) rs (λ x. start_selects g A x d) (taken_alone g A r rs d h taken))
no_start g A (r ∷ rs) rhs d h (inr m) s f =
    let p = and_parts (list_all (λ e. not (list_any (λ q. selects g A q e) rs)) (select_set g A r)) (apart_test g A rs) h in
    let here : starts g r d ≡ false = false_from_ne_true (starts g r d) (never_first g A r rs rhs d h m s) in
    rw here (no_start g A rs rhs d p.1 m s f)

found_empty : (g : Grammar) (rs : List (List Symbol)) (rhs : List Symbol) → lone_test g rs ≡ true → IsAlternative rs rhs → vanishes g rhs ≡ true → find (vanishes g) rs ≡ Some rhs
found_empty g [] rhs h k v = absurd k
found_empty g (r ∷ rs) rhs h (inl e) v = let q : vanishes g r ≡ true = subst (λ (z : List Symbol). vanishes g z ≡ true) (sym e) v in rw q (ap (λ (z : List Symbol). Some z) e)
found_empty g (r ∷ rs) rhs h (inr m) v =
    let p = and_parts (not (vanishes g r) || not (list_any (vanishes g) rs)) (lone_test g rs) h in
    let some_later = any_of (vanishes g) rs rhs m v in
    let here : vanishes g r ≡ false = false_from_ne_true (vanishes g r) (λ t. let none_later = not_true (list_any (vanishes g) rs) (not_or (vanishes g r) (not (list_any (vanishes g) rs)) p.0 t) in let wrong : true ≡ false = sym some_later ∙ none_later in cc) in
    rw here (found_empty g rs rhs p.1 m v)

predicted : (g : Grammar) (A : ℕ) (rhs : List Symbol) (d : ℕ) → apart_test g A (g.alternatives A) ≡ true → lone_test g (g.alternatives A) ≡ true → IsAlternative (g.alternatives A) rhs → selects g A rhs d ≡ true → predict g A d ≡ Some rhs
predicted g A rhs d h l m s = by_start (starts g rhs d) refl
  where
    by_start : (b : Bool) → starts g rhs d ≡ b → predict g A d ≡ Some rhs
    by_start true e = rw (found_start g A (g.alternatives A) rhs d h m e) refl
    by_start false e =
        let v : vanishes g rhs ≡ true = (and_parts (vanishes g rhs) (is_among d (g.follow A)) (rw e at s)).0 in
        rw (no_start g A (g.alternatives A) rhs d h m s e) (rw (found_empty g (g.alternatives A) rhs l m v) refl)

-- ---- a word that the test follows is derived

with_some : (o : Option (List Symbol)) (go : List Symbol → Bool) → derive_with o go ≡ true → (rhs : List Symbol) × (o ≡ Some rhs) × (go rhs ≡ true)
with_some None go h = let wrong : false ≡ true = h in cc
with_some (Some rhs) go h = (rhs, refl, h)

chosen_among : (g : Grammar) (A : ℕ) (w : List ℕ) (rhs : List Symbol) → alternative_at g A w ≡ Some rhs → IsAlternative (g.alternatives A) rhs
chosen_among g A [] rhs h = find_among (vanishes g) (g.alternatives A) rhs h
chosen_among g A (c ∷ w) rhs h = predict_among g A c rhs h

derives_from : (g : Grammar) (k : ℕ) (ss : List Symbol) (w : List ℕ) → derive_test g k ss w ≡ true → Derives g ss w
derives_from g zero ss w h = let wrong : false ≡ true = h in cc
derives_from g (suc k) [] [] h = done
derives_from g (suc k) [] (c ∷ w) h = let wrong : false ≡ true = h in cc
derives_from g (suc k) (leaf a ∷ ss) [] h = let wrong : false ≡ true = h in cc
derives_from g (suc k) (leaf a ∷ ss) (c ∷ w) h =
    let p = and_parts (a == c) (derive_test g k ss w) h in
    subst (λ (x : ℕ). Derives g (leaf a ∷ ss) (x ∷ w)) (eqb-true a c p.0) (token a ss w (derives_from g k ss w p.1))
derives_from g (suc k) (node A ∷ ss) w h =
    let p = with_some (alternative_at g A w) (λ rhs. derive_test g k (rhs ++ ss) w) h in
    rule A p.0 ss w (chosen_among g A w p.0 p.1) (derives_from g k (p.0 ++ ss) w p.2)

-- ---- each row

row_cases : (g : Grammar) (i : ℕ) (rows : List Row) (A : ℕ) → rows_test g i rows ≡ true → (row_at rows A ≡ empty_row) ⊎ (row_test g (i + A) (row_at rows A) ≡ true)
row_cases g i [] A h = inl refl
row_cases g i (r ∷ rs) zero h = inr (let e : i ≡ i + 0 = omega arith in subst (λ (j : ℕ). row_test g j r ≡ true) e (and_parts (row_test g i r) (rows_test g (suc i) rs) h).0)
row_cases g i (r ∷ rs) (suc A) h = elim (row_cases g (suc i) rs A (and_parts (row_test g i r) (rows_test g (suc i) rs) h).1) [
  | inl e ↦ inl e
  | inr t ↦ inr (let e : suc i + A ≡ i + suc A = omega arith in subst (λ (j : ℕ). row_test g j (row_at rs A) ≡ true) e t)
]

record Tested (g : Grammar) (A : ℕ) (r : Row) : Type 0 where
  firsts : list_all (λ rhs. is_within (start_set g rhs) r.first) r.alternatives ≡ true
  empties : list_all (λ rhs. not (vanishes g rhs) || r.nullable) r.alternatives ≡ true
  follows : list_all (follow_test g A) r.alternatives ≡ true
  apart : apart_test g A r.alternatives ≡ true
  lone : lone_test g r.alternatives ≡ true
  sample : derive_test g 50 (node A ∷ []) r.sample ≡ true

tested : (g : Grammar) (A : ℕ) (r : Row) → row_test g A r ≡ true → Tested g A r
tested g A r h =
    let a = and_parts (list_all (λ rhs. is_within (start_set g rhs) r.first) r.alternatives) (list_all (λ rhs. not (vanishes g rhs) || r.nullable) r.alternatives
    && (list_all (follow_test g A) r.alternatives && (apart_test g A r.alternatives && (lone_test g r.alternatives && derive_test g 50 (node A ∷ []) r.sample)))) h in
    let b = and_parts (list_all (λ rhs. not (vanishes g rhs) || r.nullable) r.alternatives) (list_all (follow_test g A) r.alternatives && (apart_test g A r.alternatives && (lone_test g r.alternatives && derive_test g 50 (node A ∷ []) r.sample))) a.1 in
    let c = and_parts (list_all (follow_test g A) r.alternatives) (apart_test g A r.alternatives && (lone_test g r.alternatives && derive_test g 50 (node A ∷ []) r.sample)) b.1 in
    let d = and_parts (apart_test g A r.alternatives) (lone_test g r.alternatives && derive_test g 50 (node A ∷ []) r.sample) c.1 in
    let e = and_parts (lone_test g r.alternatives) (derive_test g 50 (node A ∷ []) r.sample) d.1 in
    record { firsts = a.0; empties = b.0; follows = c.0; apart = d.0; lone = e.0; sample = e.1 }

-- what holds of the empty row and of each that passes its test
by_row : (rows : List Row) (P : ℕ → Row → Type 0) → is_ll1 rows ≡ true → ((A : ℕ) → P A empty_row) → ((A : ℕ) → Tested (grammar_of rows) A (row_at rows A) → P A (row_at rows A)) → (A : ℕ) → P A (row_at rows A)
by_row rows P h blank full A = elim (row_cases (grammar_of rows) 0 rows A h) [
  | inl e ↦ subst (λ (r : Row). P A r) (sym e) (blank A)
  | inr t ↦ full A (tested (grammar_of rows) A (row_at rows A) (let e : 0 + A ≡ A = omega arith in subst (λ (j : ℕ). row_test (grammar_of rows) j (row_at rows A) ≡ true) e t))
]

only_empty : (rhs : List Symbol) → IsAlternative ([] ∷ []) rhs → [] ≡ rhs
only_empty rhs (inl e) = e
only_empty rhs (inr m) = absurd m

pub ll1_from_test : (rows : List Row) → is_ll1 rows ≡ true → IsLl1 (grammar_of rows)
ll1_from_test rows h =
    let g = grammar_of rows in
    record {
      firsts = by_row rows (λ A r. (rhs : List Symbol) → IsAlternative r.alternatives rhs → (d : ℕ) → starts g rhs d ≡ true → is_among d r.first ≡ true) h
          (λ A rhs has d s. let s2 : starts g [] d ≡ true = subst (λ (x : List Symbol). starts g x d ≡ true) (sym (only_empty rhs has)) s in let wrong : false ≡ true = s2 in cc)
          (λ A t rhs has d s. all_at (λ e. is_among e (row_at rows A).first) (start_set g rhs) d (all_of (λ x. is_within (start_set g x) (row_at rows A).first) (row_at rows A).alternatives rhs t.firsts has) (start_among g rhs d s));
      empties = by_row rows (λ A r. (rhs : List Symbol) → IsAlternative r.alternatives rhs → vanishes g rhs ≡ true → r.nullable ≡ true) h
          (λ A rhs has v. refl)
          (λ A t rhs has v. not_or (vanishes g rhs) (row_at rows A).nullable (all_of (λ x. not (vanishes g x) || (row_at rows A).nullable) (row_at rows A).alternatives rhs t.empties has) v);
      follows = by_row rows (λ A r. (rhs : List Symbol) → IsAlternative r.alternatives rhs → FollowsIn g A rhs) h
          (λ A rhs has. subst (λ (x : List Symbol). FollowsIn g A x) (only_empty rhs has) tt)
          (λ A t rhs has. follows_from g A rhs (all_of (follow_test g A) (row_at rows A).alternatives rhs t.follows has));
      one = λ A. elim (row_cases g 0 rows A h) [
        | inl e ↦ λ rhs has d s.
            let nil = only_empty rhs (subst (λ (r : Row). IsAlternative r.alternatives rhs) e has) in
            let s2 : selects g A [] d ≡ true = subst (λ (x : List Symbol). selects g A x d ≡ true) (sym nil) s in
            let s3 : is_among d (row_at rows A).follow ≡ true = s2 in
            let wrong : false ≡ true = subst (λ (r : Row). is_among d r.follow ≡ true) e s3 in cc
        | inr t ↦ λ rhs has d s.
            let t2 = tested g A (row_at rows A) (let e : 0 + A ≡ A = omega arith in subst (λ (j : ℕ). row_test g j (row_at rows A) ≡ true) e t) in
            predicted g A rhs d t2.apart t2.lone has s
      ];
      ends = λ A. elim (row_cases g 0 rows A h) [
        | inl e ↦ ([], rule A [] [] [] (subst (λ (r : Row). IsAlternative r.alternatives []) (sym e) (inl refl)) done)
        | inr t ↦
            let t2 = tested g A (row_at rows A) (let e : 0 + A ≡ A = omega arith in subst (λ (j : ℕ). row_test g j (row_at rows A) ≡ true) e t) in
            ((row_at rows A).sample, derives_from g 50 (node A ∷ []) (row_at rows A).sample t2.sample)
      ];
    }
