-- What one token of look-ahead says of a grammar.
use Rattle.std.proofs.Common.{◌≡◌, ◌∙◌, ap, sym, subst, refl, inl, inr, ◌⊎◌, ◌&&◌, ◌||◌, ℕ, Bool, true, false, List, [], ◌∷◌, ◌++◌, Option, Some, None, append_assoc, eq-eqb, find}
use Rattle.std.specs.Prelude.{if◌then◌else◌}
use Rattle.std.proofs.lemmas.Bool.{and_from, and_parts, or_left, or_right}
use Rattle.sm_syntax.specs.Grammars.{Symbol, leaf, node, Grammar, Derives, IsAlternative, done, token, rule, is_among, vanishes, starts, first_some, first_of, predict, FollowsIn, IsLl1}

-- ---- tests

node_case : (f n s x v y : Bool) → (s ≡ true → (x ≡ true) ⊎ ((v ≡ true) × (y ≡ true))) → (f || (n && s)) ≡ true
    → ((f || (n && x)) ≡ true) ⊎ (((n && v) ≡ true) × (y ≡ true))
node_case true n s x v y ih h = inl refl
node_case false true s x v y ih h = ih h
node_case false false s x v y ih h = let wrong : false ≡ true = h in cc

-- ---- taking a derivation apart

pub at_done : {g : Grammar} {w : List ℕ} → Derives g [] w → w ≡ []
at_done done = refl

pub at_token : {g : Grammar} {a : ℕ} {ss : List Symbol} {w : List ℕ} → Derives g (leaf a ∷ ss) w → (v : List ℕ) × (w ≡ a ∷ v) × Derives g ss v
at_token (token a ss v d) = (v, refl, d)

pub at_rule : {g : Grammar} {A : ℕ} {ss : List Symbol} {w : List ℕ} → Derives g (node A ∷ ss) w → (rhs : List Symbol) × IsAlternative (g.alternatives A) rhs × Derives g (rhs ++ ss) w
at_rule (rule A rhs ss w has d) = (rhs, has, d)

-- ---- what a right side begins with

starts_both : (g : Grammar) (xs ys : List Symbol) (d : ℕ) → starts g (xs ++ ys) d ≡ true → (starts g xs d ≡ true) ⊎ ((vanishes g xs ≡ true) × (starts g ys d ≡ true))
starts_both g [] ys d h = inr (refl, h)
starts_both g (leaf a ∷ xs) ys d h = inl h
starts_both g (node A ∷ xs) ys d h =
    node_case (is_among d (g.first A)) (g.nullable A) (starts g (xs ++ ys) d) (starts g xs d) (vanishes g xs) (starts g ys d) (starts_both g xs ys d) h

vanishes_both : (g : Grammar) (xs ys : List Symbol) → vanishes g (xs ++ ys) ≡ true → (vanishes g xs ≡ true) × (vanishes g ys ≡ true)
vanishes_both g [] ys h = (refl, h)
vanishes_both g (leaf a ∷ xs) ys h = let wrong : false ≡ true = h in cc
vanishes_both g (node A ∷ xs) ys h =
    let p = and_parts (g.nullable A) (vanishes g (xs ++ ys)) h in
    let q = vanishes_both g xs ys p.1 in
    (and_from (g.nullable A) (vanishes g xs) p.0 q.0, q.1)

begins_rule : {g : Grammar} (ok : IsLl1 g) (A : ℕ) (rhs xs : List Symbol) (d : ℕ) (Y : Type 0) → IsAlternative (g.alternatives A) rhs
    → (starts g (rhs ++ xs) d ≡ true) ⊎ ((vanishes g (rhs ++ xs) ≡ true) × Y)
    → (starts g (node A ∷ xs) d ≡ true) ⊎ ((vanishes g (node A ∷ xs) ≡ true) × Y)
begins_rule {g} ok A rhs xs d Y has (inl p) = elim (starts_both g rhs xs d p) [
  | inl q ↦ inl (or_left (is_among d (g.first A)) (g.nullable A && starts g xs d) (ok.firsts A rhs has d q))
  | inr q ↦ inl (or_right (is_among d (g.first A)) (g.nullable A && starts g xs d) (and_from (g.nullable A) (starts g xs d) (ok.empties A rhs has q.0) q.1))
]
begins_rule {g} ok A rhs xs d Y has (inr p) =
    let q = vanishes_both g rhs xs p.0 in
    inr (and_from (g.nullable A) (vanishes g xs) (ok.empties A rhs has q.0) q.1, p.1)

-- the first token of what xs and then ys derive
begins : {g : Grammar} (ok : IsLl1 g) {total : List Symbol} {text : List ℕ} → Derives g total text → (xs ys : List Symbol) → total ≡ xs ++ ys → (d : ℕ) (w : List ℕ) → text ≡ d ∷ w
    → (starts g xs d ≡ true) ⊎ ((vanishes g xs ≡ true) × Derives g ys (d ∷ w))
begins ok done [] ys e d w is = let bad_list : [] ≡ d ∷ w = is in cc
begins ok done (x ∷ xs) ys e d w is = let bad_list : [] ≡ d ∷ w = is in cc
begins {g} ok (token a ss v r) [] ys e d w is = inr (refl, subst (λ zs. Derives g zs (d ∷ w)) e (subst (λ u. Derives g (leaf a ∷ ss) u) is (token a ss v r)))
begins ok (token a ss v r) (leaf b ∷ xs) ys e d w is = inl (eq-eqb b d (let same : b ≡ d = cc in same))
begins ok (token a ss v r) (node B ∷ xs) ys e d w is = cc
begins {g} ok (rule A rhs ss v has r) [] ys e d w is = inr (refl, subst (λ zs. Derives g zs (d ∷ w)) e (subst (λ u. Derives g (node A ∷ ss) u) is (rule A rhs ss v has r)))
begins ok (rule A rhs ss v has r) (leaf b ∷ xs) ys e d w is = cc
begins {g} ok (rule A rhs ss v has r) (node B ∷ xs) ys e d w is =
    let same : A ≡ B = cc in
    let rest : ss ≡ xs ++ ys = cc in
    let split : rhs ++ ss ≡ (rhs ++ xs) ++ ys = ap (λ (zs : List Symbol). rhs ++ zs) rest ∙ sym (append_assoc rhs xs ys) in
    subst (λ (C : ℕ). (starts g (node C ∷ xs) d ≡ true) ⊎ ((vanishes g (node C ∷ xs) ≡ true) × Derives g ys (d ∷ w))) same
    (begins_rule ok A rhs xs d (Derives g ys (d ∷ w)) has (begins ok r (rhs ++ xs) ys split d w is))

-- ---- the symbols that are to come

-- what comes after each nonterminal is among what may follow it
abbrev pub IsOpen : Grammar → List Symbol → Type 0
IsOpen g [] = Unit {0}
IsOpen g (leaf a ∷ ss) = IsOpen g ss
IsOpen g (node A ∷ ss) = ((d : ℕ) (w : List ℕ) → Derives g ss (d ∷ w) → is_among d (g.follow A) ≡ true) × IsOpen g ss

pub open_more : {g : Grammar} (ok : IsLl1 g) (A : ℕ) (xs ss : List Symbol) → FollowsIn g A xs → ((d : ℕ) (w : List ℕ) → Derives g ss (d ∷ w) → is_among d (g.follow A) ≡ true) → IsOpen g ss → IsOpen g (xs ++ ss)
open_more ok A [] ss f after h = h
open_more ok A (leaf a ∷ xs) ss f after h = open_more ok A xs ss f after h
open_more ok A (node X ∷ xs) ss f after h = (
  λ d w r. elim (begins ok r xs ss refl d w refl) [ inl p ↦ f.0 d p | inr p ↦ f.1 p.0 d (after d w p.1) ],
  open_more ok A xs ss f.2 after h,
)

-- the one alternative that can go on
pub chosen : {g : Grammar} (ok : IsLl1 g) (A : ℕ) (rhs ss : List Symbol) (d : ℕ) (w : List ℕ) → IsAlternative (g.alternatives A) rhs → IsOpen g (node A ∷ ss) → Derives g (rhs ++ ss) (d ∷ w) → predict g A d ≡ Some rhs
chosen {g} ok A rhs ss d w has open_ss r = ok.one A rhs has d (elim (begins ok r rhs ss refl d w refl) [
  | inl p ↦ or_left (starts g rhs d) (vanishes g rhs && is_among d (g.follow A)) p
  | inr p ↦ or_right (starts g rhs d) (vanishes g rhs && is_among d (g.follow A)) (and_from (vanishes g rhs) (is_among d (g.follow A)) p.0 (open_ss.0 d w p.1))
])

-- ---- each list of symbols derives some word

pub then_derives : {g : Grammar} {xs : List Symbol} {u : List ℕ} → Derives g xs u → (ys : List Symbol) (v : List ℕ) → Derives g ys v → Derives g (xs ++ ys) (u ++ v)
then_derives done ys v r = r
then_derives (token a ss w l) ys v r = token a (ss ++ ys) (w ++ v) (then_derives l ys v r)
then_derives {g} (rule A rhs ss w has l) ys v r = rule A rhs (ss ++ ys) (w ++ v) has (subst (λ zs. Derives g zs (w ++ v)) (append_assoc rhs ss ys) (then_derives l ys v r))

pub some_word : {g : Grammar} (ok : IsLl1 g) (ss : List Symbol) → (w : List ℕ) × Derives g ss w
some_word ok [] = ([], done)
some_word ok (leaf a ∷ ss) = let r = some_word ok ss in (a ∷ r.0, token a ss r.0 r.1)
some_word ok (node A ∷ ss) = let e = ok.ends A in let r = some_word ok ss in (e.0 ++ r.0, then_derives e.1 ss r.0 r.1)

-- ---- what reading finds

find_case : (b : Bool) (y x : List Symbol) (o : Option (List Symbol)) → (if b then Some y else o) ≡ Some x → (y ≡ x) ⊎ (o ≡ Some x)
find_case true y x o h = inl (let e : y ≡ x = cc in e)
find_case false y x o h = inr h

pub find_among : (p : List Symbol → Bool) (xs : List (List Symbol)) (x : List Symbol) → find p xs ≡ Some x → IsAlternative xs x
find_among p [] x h = let wrong : None ≡ Some x = h in cc
find_among p (y ∷ ys) x h = elim (find_case (p y) y x (find p ys) h) [ inl e ↦ inl e | inr k ↦ inr (find_among p ys x k) ]

first_among : (xs : List (List Symbol)) (x : List Symbol) → first_of xs ≡ Some x → IsAlternative xs x
first_among [] x h = let wrong : None ≡ Some x = h in cc
first_among (r ∷ rs) x h = inl (let e : Some r ≡ Some x = h in cc)

one_of_two : (xs : List (List Symbol)) (o p : Option (List Symbol)) (x : List Symbol) → (o ≡ Some x → IsAlternative xs x) → (p ≡ Some x → IsAlternative xs x) → first_some o p ≡ Some x → IsAlternative xs x
one_of_two xs None p x f k h = k h
one_of_two xs (Some y) p x f k h = f h

pub predict_among : (g : Grammar) (A d : ℕ) (x : List Symbol) → predict g A d ≡ Some x → IsAlternative (g.alternatives A) x
predict_among g A d x =
    let xs = g.alternatives A in
    one_of_two xs (find (λ rhs. starts g rhs d) xs) (first_some (find (vanishes g) xs) (first_of xs)) x (find_among (λ rhs. starts g rhs d) xs x)
    (one_of_two xs (find (vanishes g) xs) (first_of xs) x (find_among (vanishes g) xs x) (first_among xs x))
