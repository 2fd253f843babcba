-- What reading from the left finds: the tree, the first bad token, and the first bracket that is opened too deep.
use Rattle.std.proofs.Common.{◌≡◌, ◌∙◌, ap, sym, subst, refl, ℕ, true, false, List, [], ◌∷◌, ◌++◌, Some}
use Rattle.sm_syntax.specs.Tokens.{Token}
use Rattle.sm_syntax.specs.Grammars.{Symbol, leaf, node, Grammar, Derives, done, token, rule, IsAlternative, predict, IsLl1}
use Rattle.sm_syntax.specs.Parsing.{kind, kinds, Step, Builds, nothing, reads, uses, noted, entered, FirstBad, TooDeep, depth_after, depth_behind, is_too_deep, Halt, accepted, bad, too_deep, Run, whole, more, eats, stops, other, takes}
use Rattle.sm_syntax.proofs.GrammarLaws.{IsOpen, at_done, at_token, at_rule, chosen, open_more, predict_among, some_word}

-- the tokens of a tree are a word of the grammar
pub builds_derives : {g : Grammar} {ss : List Symbol} {ts : List Token} {steps : List Step} → Builds g ss ts steps → Derives g ss (kinds ts)
builds_derives nothing = done
builds_derives {g} (reads a t ss ts steps all is _ b) = subst (λ (c : ℕ). Derives g (leaf a ∷ ss) (c ∷ kinds ts)) is (token a ss (kinds ts) (builds_derives b))
builds_derives (uses A rhs ss ts steps all has _ b) = rule A rhs ss (kinds ts) has (builds_derives b)

-- ---- texts that are read to their ends

-- reading comes to the end where there is a word
pub accepted_derives : {g : Grammar} {ss : List Symbol} {d : ℕ} {text : List Token} {o : Halt} → Run g ss d text o → o ≡ accepted → Derives g ss (kinds text)
accepted_derives (whole d) e = done
accepted_derives (more d t ts) e = cc
accepted_derives {g} (eats a ss d t ts o is fits r) e = subst (λ (c : ℕ). Derives g (leaf a ∷ ss) (c ∷ kinds ts)) is (token a ss (kinds ts) (accepted_derives r e))
accepted_derives (stops a ss d t ts is deep) e = cc
accepted_derives (other a ss d t ts ne) e = cc
accepted_derives {g} (takes A rhs ss d t ts o is r) e = rule A rhs ss (kinds (t ∷ ts)) (predict_among g A (kind t) rhs is) (accepted_derives r e)

-- ---- the first bad token

-- the first token of what stands before a token and goes on with it
first_kind : (t0 : Token) (ts0 before : List Token) (t : Token) (later : List Token) (w : List ℕ) → t0 ∷ ts0 ≡ before ++ t ∷ later
    → (v : List ℕ) × (kinds before ++ kind t ∷ w ≡ kind t0 ∷ v)
first_kind t0 ts0 [] t later w split = (w, let e : t ≡ t0 = cc in ap (λ (x : Token). kind x ∷ w) e)
first_kind t0 ts0 (b ∷ bs) t later w split = (kinds bs ++ kind t ∷ w, let e : b ≡ t0 = cc in ap (λ (x : Token). kind x ∷ (kinds bs ++ kind t ∷ w)) e)

-- the alternative of a word is the one that is predicted
same_side : {g : Grammar} (ok : IsLl1 g) (A : ℕ) (rhs other_side ss : List Symbol) (c : ℕ) (v w : List ℕ) → IsAlternative (g.alternatives A) other_side → IsOpen g (node A ∷ ss)
    → Derives g (other_side ++ ss) w → w ≡ c ∷ v → predict g A c ≡ Some rhs → other_side ≡ rhs
same_side {g} ok A rhs other_side ss c v w has open_ss d is predicted =
    let only = chosen ok A other_side ss c v has open_ss (subst (λ (u : List ℕ). Derives g (other_side ++ ss) u) is d) in
    let q : Some other_side ≡ Some rhs = sym only ∙ predicted in cc

pub first_bad : {g : Grammar} (ok : IsLl1 g) {ss : List Symbol} {d : ℕ} {text : List Token} {o : Halt} → Run g ss d text o
    → (wrong : Token) (rest : List Token) → o ≡ bad (wrong ∷ rest) → IsOpen g ss → FirstBad g ss text wrong
first_bad ok (whole d) wrong rest e open_ss = cc
first_bad ok (more d t ts) wrong rest e open_ss = record {
  before = [];
  later = rest;
  split = let same : t ∷ ts ≡ wrong ∷ rest = cc in same;
  more = [];
  good = done;
  never = λ w r. let nil : kind wrong ∷ w ≡ [] = at_done r in cc;
}
first_bad {g} ok (eats a ss d t ts o same fits run) wrong rest e open_ss =
    let r = first_bad ok run wrong rest e open_ss in
    record {
      before = t ∷ r.before;
      later = r.later;
      split = ap (λ (x : List Token). t ∷ x) r.split;
      more = r.more;
      good = subst (λ (c : ℕ). Derives g (leaf a ∷ ss) (c ∷ (kinds r.before ++ r.more))) same (token a ss (kinds r.before ++ r.more) r.good);
      never = λ w v.
          let u = at_token v in
          let e2 : u.0 ≡ kinds r.before ++ kind wrong ∷ w = (let q : kind t ∷ (kinds r.before ++ kind wrong ∷ w) ≡ a ∷ u.0 = u.1 in cc) in
          r.never w (subst (λ (x : List ℕ). Derives g ss x) e2 u.2);
    }
first_bad ok (stops a ss d t ts is deep) wrong rest e open_ss = cc
first_bad ok (other a ss d t ts ne) wrong rest e open_ss =
    let good = some_word ok (leaf a ∷ ss) in
    let same : t ∷ ts ≡ wrong ∷ rest = cc in
    let is : t ≡ wrong = cc in
    record {
      before = [];
      later = rest;
      split = same;
      more = good.0;
      good = good.1;
      never = λ w v. let u = at_token v in let q : kind wrong ∷ w ≡ a ∷ u.0 = u.1 in ne (let z : kind wrong ≡ a = cc in sym z ∙ ap kind (sym is));
    }
first_bad {g} ok (takes A rhs ss d t ts o is_rhs run) wrong rest e open_ss =
    let has = predict_among g A (kind t) rhs is_rhs in
    let r = first_bad ok run wrong rest e (open_more ok A rhs ss (ok.follows A rhs has) open_ss.0 open_ss.1) in
    record {
      before = r.before;
      later = r.later;
      split = r.split;
      more = r.more;
      good = rule A rhs ss (kinds r.before ++ r.more) has r.good;
      never = λ w v.
          let u = at_rule v in
          let head = first_kind t ts r.before wrong r.later w r.split in
          let same = same_side ok A rhs u.0 ss (kind t) head.0 (kinds r.before ++ kind wrong ∷ w) u.1 open_ss u.2 head.1 is_rhs in
          r.never w (subst (λ (x : List Symbol). Derives g (x ++ ss) (kinds r.before ++ kind wrong ∷ w)) same u.2);
    }

kinds_join : (xs ys : List Token) → kinds (xs ++ ys) ≡ kinds xs ++ kinds ys
kinds_join [] ys = refl
kinds_join (x ∷ xs) ys = ap (λ (r : List ℕ). kind x ∷ r) (kinds_join xs ys)

-- a word of the grammar has no bad token
pub word_has_no_bad : {g : Grammar} {ss : List Symbol} {text : List Token} → Derives g ss (kinds text) → (wrong : Token) → FirstBad g ss text wrong → ⊥
word_has_no_bad {g} {ss} {text} d wrong b =
    let e : kinds text ≡ kinds b.before ++ kind wrong ∷ kinds b.later = ap kinds b.split ∙ kinds_join b.before (wrong ∷ b.later) in
    b.never (kinds b.later) (subst (λ (w : List ℕ). Derives g ss w) e d)

-- Of two tokens of a text, each the first with which nothing of a family goes on, neither stands before the other.
neither_before : (Good : List ℕ → Type 0) (xs ys : List Token) (a b : Token) (l m : List Token) (v w : List ℕ) → xs ++ a ∷ l ≡ ys ++ b ∷ m
    → Good (kinds xs ++ v) → ((r : List ℕ) → Good (kinds xs ++ kind a ∷ r) → ⊥)
    → Good (kinds ys ++ w) → ((r : List ℕ) → Good (kinds ys ++ kind b ∷ r) → ⊥) → a ≡ b
neither_before Good [] [] a b l m v w same good_a never_a good_b never_b = cc
neither_before Good [] (y ∷ ys) a b l m v w same good_a never_a good_b never_b =
    let e : y ≡ a = cc in
    absurd (never_a (kinds ys ++ w) (subst (λ (t : Token). Good (kind t ∷ (kinds ys ++ w))) e good_b))
neither_before Good (x ∷ xs) [] a b l m v w same good_a never_a good_b never_b =
    let e : x ≡ b = cc in
    absurd (never_b (kinds xs ++ v) (subst (λ (t : Token). Good (kind t ∷ (kinds xs ++ v))) e good_a))
neither_before Good (x ∷ xs) (y ∷ ys) a b l m v w same good_a never_a good_b never_b =
    let e : y ≡ x = cc in
    let rest : xs ++ a ∷ l ≡ ys ++ b ∷ m = cc in
    neither_before (λ (r : List ℕ). Good (kind x ∷ r)) xs ys a b l m v w rest good_a never_a
    (subst (λ (t : Token). Good (kind t ∷ (kinds ys ++ w))) e good_b)
    (λ r g. never_b r (subst (λ (t : Token). Good (kind t ∷ (kinds ys ++ kind b ∷ r))) (sym e) g))

-- tokens have one first bad one
pub same_bad : {g : Grammar} {ss : List Symbol} {text : List Token} (a b : Token) → FirstBad g ss text a → FirstBad g ss text b → a ≡ b
same_bad {g} {ss} a b p q = neither_before (Derives g ss) p.before q.before a b p.later q.later p.more q.more (sym p.split ∙ q.split) p.good p.never q.good q.never

-- ---- brackets

pub first_deep : {g : Grammar} (ok : IsLl1 g) {ss : List Symbol} {d : ℕ} {text : List Token} {o : Halt} → Run g ss d text o
    → (bracket : Token) (rest : List Token) → o ≡ too_deep (bracket ∷ rest) → TooDeep g ss d text bracket
first_deep ok (whole d) bracket rest e = cc
first_deep ok (more d t ts) bracket rest e = cc
first_deep {g} ok (eats a ss d t ts o same fits run) bracket rest e =
    let r = first_deep ok run bracket rest e in
    record {
      before = t ∷ r.before;
      later = r.later;
      split = ap (λ (x : List Token). t ∷ x) r.split;
      deep = r.deep;
      more = r.more;
      good = subst (λ (c : ℕ). Derives g (leaf a ∷ ss) (c ∷ (kinds r.before ++ kind bracket ∷ r.more))) same (token a ss (kinds r.before ++ kind bracket ∷ r.more) r.good);
    }
first_deep {g} ok (stops a ss d t ts same deep) bracket rest e =
    let split : t ∷ ts ≡ bracket ∷ rest = cc in
    let is : t ≡ bracket = cc in
    let w = some_word ok ss in
    record {
      before = [];
      later = rest;
      split = split;
      deep = subst (λ (x : Token). is_too_deep d (kind x) ≡ true) is deep;
      more = w.0;
      good = subst (λ (c : ℕ). Derives g (leaf a ∷ ss) (c ∷ w.0)) (same ∙ ap kind is) (token a ss w.0 w.1);
    }
first_deep ok (other a ss d t ts ne) bracket rest e = cc
first_deep {g} ok (takes A rhs ss d t ts o is_rhs run) bracket rest e =
    let r = first_deep ok run bracket rest e in
    record {
      before = r.before;
      later = r.later;
      split = r.split;
      deep = r.deep;
      more = r.more;
      good = rule A rhs ss (kinds r.before ++ kind bracket ∷ r.more) (predict_among g A (kind t) rhs is_rhs) r.good;
    }

abbrev IsShallow : Halt → Type 0
IsShallow accepted = Unit {0}
IsShallow (bad rest) = Unit {0}
IsShallow (too_deep rest) = ⊥

-- where reading comes to the end or to a bad token, no bracket is too deep that goes on
no_bracket : {g : Grammar} (ok : IsLl1 g) {ss : List Symbol} {d : ℕ} {text : List Token} {o : Halt} → Run g ss d text o → IsShallow o → IsOpen g ss
    → (before : List Token) (b : Token) (later : List Token) (w : List ℕ) → text ≡ before ++ b ∷ later → is_too_deep (depth_behind d before) (kind b) ≡ true
    → Derives g ss (kinds before ++ kind b ∷ w) → ⊥
no_bracket ok (whole d) s open_ss [] b later w split deep v = let bad_list : [] ≡ b ∷ later = split in cc
no_bracket ok (whole d) s open_ss (x ∷ xs) b later w split deep v = let bad_list : [] ≡ x ∷ (xs ++ b ∷ later) = split in cc
no_bracket ok (more d t ts) s open_ss [] b later w split deep v = let nil : kind b ∷ w ≡ [] = at_done v in cc
no_bracket ok (more d t ts) s open_ss (x ∷ xs) b later w split deep v = let nil : kind x ∷ (kinds xs ++ kind b ∷ w) ≡ [] = at_done v in cc
no_bracket ok (eats a ss d t ts o same fits run) s open_ss [] b later w split deep v =
    let e : t ∷ ts ≡ b ∷ later = split in
    let is : t ≡ b = cc in
    let wrong : false ≡ true = sym fits ∙ ap (λ (x : Token). is_too_deep d (kind x)) is ∙ deep in cc
no_bracket {g} ok (eats a ss d t ts o same fits run) s open_ss (x ∷ xs) b later w split deep v =
    let e : t ∷ ts ≡ x ∷ (xs ++ b ∷ later) = split in
    let is : t ≡ x = cc in
    let rest : ts ≡ xs ++ b ∷ later = cc in
    let u = at_token v in
    let q : kind x ∷ (kinds xs ++ kind b ∷ w) ≡ a ∷ u.0 = u.1 in
    let e2 : u.0 ≡ kinds xs ++ kind b ∷ w = cc in
    no_bracket ok run s open_ss xs b later w rest (subst (λ (y : Token). is_too_deep (depth_behind (depth_after d (kind y)) xs) (kind b) ≡ true) (sym is) deep) (subst (λ (y : List ℕ). Derives g ss y) e2 u.2)
no_bracket ok (stops a ss d t ts is deep_here) s open_ss before b later w split deep v = absurd s
no_bracket ok (other a ss d t ts ne) s open_ss [] b later w split deep v =
    let e : t ∷ ts ≡ b ∷ later = split in
    let u = at_token v in
    let q : kind b ∷ w ≡ a ∷ u.0 = u.1 in
    ne (let z : a ≡ kind t = cc in z)
no_bracket ok (other a ss d t ts ne) s open_ss (x ∷ xs) b later w split deep v =
    let e : t ∷ ts ≡ x ∷ (xs ++ b ∷ later) = split in
    let u = at_token v in
    let q : kind x ∷ (kinds xs ++ kind b ∷ w) ≡ a ∷ u.0 = u.1 in
    ne (let z : a ≡ kind t = cc in z)
no_bracket {g} ok (takes A rhs ss d t ts o is_rhs run) s open_ss before b later w split deep v =
    let has = predict_among g A (kind t) rhs is_rhs in
    let u = at_rule v in
    let head = first_kind t ts before b later w split in
    let same = same_side ok A rhs u.0 ss (kind t) head.0 (kinds before ++ kind b ∷ w) u.1 open_ss u.2 head.1 is_rhs in
    no_bracket ok run s (open_more ok A rhs ss (ok.follows A rhs has) open_ss.0 open_ss.1) before b later w split deep
    (subst (λ (x : List Symbol). Derives g (x ++ ss) (kinds before ++ kind b ∷ w)) same u.2)

pub bad_is_shallow : {g : Grammar} (ok : IsLl1 g) {ss : List Symbol} {d : ℕ} {text rest : List Token} → Run g ss d text (bad rest) → IsOpen g ss
    → (bracket : Token) → TooDeep g ss d text bracket → ⊥
bad_is_shallow ok run open_ss bracket x =
    no_bracket ok run tt open_ss x.before bracket x.later x.more x.split x.deep x.good

pub accepted_is_shallow : {g : Grammar} (ok : IsLl1 g) {ss : List Symbol} {d : ℕ} {text : List Token} → Run g ss d text accepted → IsOpen g ss
    → (bracket : Token) → TooDeep g ss d text bracket → ⊥
accepted_is_shallow ok run open_ss bracket x =
    no_bracket ok run tt open_ss x.before bracket x.later x.more x.split x.deep x.good

-- ---- a text has one tree

-- a terminal is to come
abbrev pub HasLeaf : List Symbol → Type 0
HasLeaf [] = ⊥
HasLeaf (leaf a ∷ ss) = Unit {0}
HasLeaf (node A ∷ ss) = HasLeaf ss

-- behind each nonterminal a terminal is to come
abbrev pub IsEnded : List Symbol → Type 0
IsEnded [] = Unit {0}
IsEnded (leaf a ∷ ss) = IsEnded ss
IsEnded (node A ∷ ss) = HasLeaf ss × IsEnded ss

leaf_behind : (xs ss : List Symbol) → HasLeaf ss → HasLeaf (xs ++ ss)
leaf_behind [] ss h = h
leaf_behind (leaf a ∷ xs) ss h = tt
leaf_behind (node A ∷ xs) ss h = leaf_behind xs ss h

ended_behind : (xs ss : List Symbol) → HasLeaf ss → IsEnded ss → IsEnded (xs ++ ss)
ended_behind [] ss h k = k
ended_behind (leaf a ∷ xs) ss h k = ended_behind xs ss h k
ended_behind (node A ∷ xs) ss h k = (leaf_behind xs ss h, ended_behind xs ss h k)

-- so there is always a next token
some_token : {g : Grammar} {ss : List Symbol} {w : List ℕ} → Derives g ss w → HasLeaf ss → w ≡ [] → ⊥
some_token done h e = h
some_token (token a ss w d) h e = cc
some_token (rule A rhs ss w has d) h e = some_token d (leaf_behind rhs ss h) e

first_of : {g : Grammar} {ss : List Symbol} (ts : List Token) → Derives g ss (kinds ts) → HasLeaf ss → (c : ℕ) × (v : List ℕ) × (kinds ts ≡ c ∷ v)
first_of [] d h = absurd (some_token d h refl)
first_of (t ∷ ts) d h = (kind t, kinds ts, refl)

at_nothing : {g : Grammar} {ts : List Token} {steps : List Step} → Builds g [] ts steps → steps ≡ []
at_nothing nothing = refl

at_reads : {g : Grammar} {a : ℕ} {ss : List Symbol} {t : Token} {ts : List Token} {all : List Step} → Builds g (leaf a ∷ ss) (t ∷ ts) all → (steps : List Step) × (all ≡ noted t steps) × Builds g ss ts steps
at_reads (reads a t ss ts steps all is e b) = (steps, e, b)

at_uses : {g : Grammar} {A : ℕ} {ss : List Symbol} {ts : List Token} {all : List Step} → Builds g (node A ∷ ss) ts all
    → (rhs : List Symbol) × IsAlternative (g.alternatives A) rhs × (steps : List Step) × (all ≡ entered A rhs ts steps) × Builds g (rhs ++ ss) ts steps
at_uses (uses A rhs ss ts steps all has e b) = (rhs, has, steps, e, b)

pub same_steps : {g : Grammar} (ok : IsLl1 g) {ss : List Symbol} {ts : List Token} {all : List Step} → Builds g ss ts all → (other_steps : List Step) → Builds g ss ts other_steps → IsOpen g ss → IsEnded ss → all ≡ other_steps
same_steps ok nothing others b open_ss ended = sym (at_nothing b)
same_steps ok (reads a t ss ts steps all is e b1) others b open_ss ended =
    let u = at_reads b in
    e ∙ ap (noted t) (same_steps ok b1 u.0 u.2 open_ss ended) ∙ sym u.1
same_steps {g} ok (uses A rhs ss ts steps all has e b1) others b open_ss ended =
    let u = at_uses b in
    let d1 = builds_derives b1 in
    let d2 = builds_derives u.4 in
    let w = first_of ts d1 (leaf_behind rhs ss ended.0) in
    let p1 = chosen ok A rhs ss w.0 w.1 has open_ss (subst (λ (x : List ℕ). Derives g (rhs ++ ss) x) w.2 d1) in
    let same = same_side ok A rhs u.0 ss w.0 w.1 (kinds ts) u.1 open_ss d2 w.2 p1 in
    let rest = same_steps ok b1 u.2 (subst (λ (x : List Symbol). Builds g (x ++ ss) ts u.2) same u.4)
    (open_more ok A rhs ss (ok.follows A rhs has) open_ss.0 open_ss.1) (ended_behind rhs ss ended.0 ended.1) in
    e ∙ ap (entered A rhs ts) rest ∙ ap (λ (x : List Symbol). entered A x ts u.2) (sym same) ∙ sym u.3
