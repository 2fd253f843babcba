-- How readings are put together.
use Rattle.std.proofs.Common.{◌≡◌, ◌∙◌, ap, sym, subst, refl, arith, ◌==◌, ℕ, true, false, List, [], ◌∷◌, ◌++◌, Some, append_assoc, length, eq-eqb}
use Rattle.std.specs.Prelude.{map, Option, None, option_map, Result, Ok, Err}
use Rattle.sm_syntax.specs.declared.failure.Failure.{Failure}
use Rattle.sm_syntax.specs.declared.failure.Failure.TheVariants as failure
use Rattle.sm_syntax.specs.declared.place.Place.{Place}
use Rattle.sm_syntax.specs.Tokens.{Token}
use Rattle.sm_syntax.specs.Grammars.{Symbol, leaf, node, predict}
use Rattle.sm_syntax.specs.Grammar.{grammar}
use Rattle.sm_syntax.specs.Parsing.{kind, Step, becomes, stands_at, placed, Builds, reads, uses, noted, entered, is_rule, is_too_deep, depth_after, Halt, bad, too_deep, Run, eats, stops, other, takes}
use Rattle.sm_syntax.specs.Reading.{Standing, left, next, Leads, Stops, Fault, ReadsWhole, alternative_then, each}
use Rattle.sm_syntax.specs.TreeSteps.{item_step, list_then, optional_then}
use Rattle.sm_syntax.proofs.GrammarLaws.{predict_among}

-- ---- one after the other

pub stay : (S : List Symbol) (s : Standing) → Leads s S (λ r. r) s S
stay S s = record { order = omega arith; run = λ K o r. r; builds = λ K rest b. b }

pub after : {s t u : Standing} {S T U : List Symbol} {f g : List Step → List Step} → Leads s S f t T → Leads t T g u U → Leads s S (λ r. f (g r)) u U
after {s} {t} {u} {S} {T} {U} {f} {g} p q = record {
  order = omega (arith, p.order, q.order);
  run = λ K o r. p.run K o (q.run K o r);
  builds = λ K rest b. p.builds K (g rest) (q.builds K rest b);
}

-- with more symbols behind
pub behind : {s t : Standing} {S T : List Symbol} {f : List Step → List Step} (X : List Symbol) → Leads s S f t T → Leads s (S ++ X) f t (T ++ X)
behind {s} {t} {S} {T} {f} X p = record {
  order = p.order;
  run = λ K o r. subst (λ (ss : List Symbol). Run grammar ss s.depth (left s) o) (sym (append_assoc S X K))
      (p.run (X ++ K) o (subst (λ (ss : List Symbol). Run grammar ss t.depth (left t) o) (append_assoc T X K) r));
  builds = λ K rest b. subst (λ (ss : List Symbol). Builds grammar ss (left s) (f rest)) (sym (append_assoc S X K))
      (p.builds (X ++ K) rest (subst (λ (ss : List Symbol). Builds grammar ss (left t) rest) (append_assoc T X K) b));
}

-- one symbol, and then the others
pub andthen : {s t u : Standing} {U : List Symbol} {f g : List Step → List Step} {x : Symbol} {X : List Symbol} → Leads s (x ∷ []) f t [] → Leads t X g u U → Leads s (x ∷ X) (λ r. f (g r)) u U
andthen {s} {t} {u} {U} {f} {g} {x} {X} p q = after (behind X p) q

-- the same steps otherwise written
pub restep : {s t : Standing} {S T : List Symbol} {f : List Step → List Step} (g : List Step → List Step) → ((r : List Step) → f r ≡ g r) → Leads s S f t T → Leads s S g t T
restep {s} {t} {S} {T} {f} g same p = record {
  order = p.order;
  run = p.run;
  builds = λ K rest b. subst (λ (steps : List Step). Builds grammar (S ++ K) (left s) steps) (same rest) (p.builds K rest b);
}

pub stop_after : {s t : Standing} {S T : List Symbol} {f : List Step → List Step} {o : Halt} → Leads s S f t T → Stops t T o → Stops s S o
stop_after {s} {t} {S} {T} {f} {o} p q = record { run = λ K. p.run K o (q.run K) }

pub stop_behind : {s : Standing} {S : List Symbol} {o : Halt} (X : List Symbol) → Stops s S o → Stops s (S ++ X) o
stop_behind {s} {S} {o} X q = record {
  run = λ K. subst (λ (ss : List Symbol). Run grammar ss s.depth (left s) o) (sym (append_assoc S X K)) (q.run (X ++ K));
}

-- ---- faults

pub fault_behind : (s t : Standing) (S X : List Symbol) (e : Failure) → Fault s S t e → Fault s (S ++ X) t e
fault_behind s t S X failure.Syntax h = stop_behind X h
fault_behind s t S X failure.Nesting h = stop_behind X h
fault_behind s t S X failure.OutOfMemory h = tt

pub fault_after : {s t : Standing} {S T : List Symbol} {f : List Step → List Step} (u : Standing) (e : Failure) → Leads s S f t T → Fault t T u e → Fault s S u e
fault_after u failure.Syntax p h = stop_after p h
fault_after u failure.Nesting p h = stop_after p h
fault_after u failure.OutOfMemory p h = tt

-- a fault at the first of what is to come
pub fault_at : {s t : Standing} {S : List Symbol} {f : List Step → List Step} (u : Standing) (e : Failure) (Y X : List Symbol) → Leads s S f t (Y ++ X) → Fault t Y u e → Fault s S u e
fault_at {s} {t} {S} {f} u e Y X p h = fault_after u e p (fault_behind t u Y X e h)

-- ---- one token

-- the token that comes next is passed over
pub passed : {s t : Standing} (c : ℕ) (f : List Step → List Step) → c ≡ kind s.first → is_too_deep s.depth c ≡ false → t.depth ≡ depth_after s.depth c → s.later ≡ left t
    → ((r : List Step) → f r ≡ noted s.first r) → Leads s (leaf c ∷ []) f t []
passed {s} {t} c f is fits depth later same = record {
  order = let e = ap length later in omega arith;
  run = λ K o r. eats c K s.depth s.first s.later o is (subst (λ (d : ℕ). is_too_deep s.depth d ≡ false) is fits)
      (subst (λ (d : ℕ). Run grammar K d s.later o) (depth ∙ ap (depth_after s.depth) is) (subst (λ (ts : List Token). Run grammar K t.depth ts o) (sym later) r));
  builds = λ K rest b. reads c s.first K s.later rest (f rest) is (same rest) (subst (λ (ts : List Token). Builds grammar K ts rest) (sym later) b);
}

-- another terminal comes next
pub stop_other : (s : Standing) (c : ℕ) → (c == kind s.first) ≡ false → Stops s (leaf c ∷ []) (bad (left s))
stop_other s c differs = record { run = λ K. other c K s.depth s.first s.later (λ e. let yes = eq-eqb c (kind s.first) e in let wrong : true ≡ false = sym yes ∙ differs in cc) }

-- a bracket comes next that is too deep
pub stop_deep : (s : Standing) (c : ℕ) → c ≡ kind s.first → is_too_deep s.depth c ≡ true → Stops s (leaf c ∷ []) (too_deep (left s))
stop_deep s c is deep = record { run = λ K. stops c K s.depth s.first s.later is (subst (λ (d : ℕ). is_too_deep s.depth d ≡ true) is deep) }

-- ---- one rule

-- a nonterminal becomes the side that the next token chooses
pub opened : (s : Standing) (A : ℕ) (rhs : List Symbol) → predict grammar A (next s) ≡ Some rhs → Leads s (node A ∷ []) (entered A rhs (left s)) s rhs
opened s A rhs is = record {
  order = omega arith;
  run = λ K o r. takes A rhs K s.depth s.first s.later o is r;
  builds = λ K rest b. uses A rhs K (left s) rest (entered A rhs (left s) rest) (predict_among grammar A (next s) rhs is) refl b;
}

-- a group of the grammar
pub opened_group : (s : Standing) (A : ℕ) (rhs : List Symbol) → is_rule A ≡ false → predict grammar A (next s) ≡ Some rhs → Leads s (node A ∷ []) (λ r. becomes (node A) rhs ∷ r) s rhs
opened_group s A rhs group is = restep (λ r. becomes (node A) rhs ∷ r) (λ r. rw group refl) (opened s A rhs is)

-- a rule of the language, with its place
pub opened_rule : (s : Standing) (A : ℕ) (rhs : List Symbol) (p : Place) → is_rule A ≡ true → p ≡ s.first.place → predict grammar A (next s) ≡ Some rhs
    → Leads s (node A ∷ []) (λ r. becomes (node A) rhs ∷ stands_at p ∷ r) s rhs
opened_rule s A rhs p named at is = restep (λ r. becomes (node A) rhs ∷ stands_at p ∷ r) (λ r. rw (named, at) refl) (opened s A rhs is)

-- the whole right side is read
pub rule_reads : {s t : Standing} {rhs : List Symbol} {f : List Step → List Step} (A : ℕ) (p : Place) → is_rule A ≡ true → p ≡ s.first.place → predict grammar A (next s) ≡ Some rhs
    → Leads s rhs f t [] → Leads s (node A ∷ []) (λ r. becomes (node A) rhs ∷ stands_at p ∷ f r) t []
rule_reads {s} {t} {rhs} {f} A p named at is lead = after (opened_rule s A rhs p named at is) lead

pub rule_fails : (s t : Standing) (e : Failure) (A : ℕ) {rhs : List Symbol} → predict grammar A (next s) ≡ Some rhs → Fault s rhs t e → Fault s (node A ∷ []) t e
rule_fails s t e A {rhs} is fault = fault_after t e (opened s A rhs is) fault

pub group_reads : {s t : Standing} {rhs : List Symbol} {f : List Step → List Step} (A : ℕ) → is_rule A ≡ false → predict grammar A (next s) ≡ Some rhs
    → Leads s rhs f t [] → Leads s (node A ∷ []) (λ r. becomes (node A) rhs ∷ f r) t []
group_reads {s} {t} {rhs} {f} A group is lead = after (opened_group s A rhs group is) lead

-- ---- lists

pub each_more : {X : Type 0} (f : X → List Step → List Step) (xs : List X) (x : X) (r : List Step) → each f (xs ++ x ∷ []) r ≡ each f xs (f x r)
each_more f [] x r = refl
each_more f (y ∷ ys) x r = ap (f y) (each_more f ys x r)

-- one item more
pub one_more : {X : Type 0} {s t u : Standing} {S : List Symbol} (f : X → List Step → List Step) (xs ys : List X) (x : X) → ys ≡ xs ++ x ∷ [] → Leads s S (each f xs) t S → Leads t S (f x) u S → Leads s S (each f ys) u S
one_more f xs ys x is p q = restep (each f ys) (λ r. sym (each_more f xs x r) ∙ ap (λ zs. each f zs r) (sym is)) (after p q)

-- none yet
pub begin : {X : Type 0} (f : X → List Step → List Step) (xs : List X) → xs ≡ [] → (s : Standing) (S : List Symbol) → Leads s S (each f xs) s S
begin f xs none s S = restep (each f xs) (λ r. ap (λ zs. each f zs r) (sym none)) (stay S s)

-- a state that stays
pub kept : {s t u : Standing} {S T : List Symbol} {f : List Step → List Step} → u ≡ t → Leads s S f t T → Leads s S f u T
kept {s} {t} {u} {S} {T} {f} same p = subst (λ (x : Standing). Leads s S f x T) (sym same) p

pub map_more : {X Y : Type 0} (f : X → Y) (xs : List X) (x : X) → map f (xs ++ x ∷ []) ≡ map f xs ++ f x ∷ []
map_more f [] x = refl
map_more f (y ∷ ys) x = ap (λ zs. f y ∷ zs) (map_more f ys x)

-- a state from which reading begins that stayed
pub from_kept : {s t u : Standing} {S T : List Symbol} {f : List Step → List Step} → u ≡ s → Leads u S f t T → Leads s S f t T
from_kept {s} {t} {u} {S} {T} {f} same p = subst (λ (x : Standing). Leads x S f t T) same p

-- ---- a nonterminal by one alternative

-- what is made of its parts lists as they do
pub rule_builds : {s t : Standing} {rhs : List Symbol} {f : List Step → List Step} (A : ℕ) (p : Place) (g : List Step → List Step) → p ≡ s.first.place → predict grammar A (next s) ≡ Some rhs
    → Leads s rhs f t [] → ((r : List Step) → g r ≡ alternative_then A rhs p (f r)) → Leads s (node A ∷ []) g t []
rule_builds {s} {t} {rhs} {f} A p g at is lead same = restep g (λ r. ap (λ q. alternative_then A rhs q (f r)) (sym at) ∙ sym (same r)) (after (opened s A rhs is) lead)

-- ---- the same steps, of what is read and of its plain data

each_of : {X Y : Type 0} (A : Symbol) (rhs : List Symbol) (f : Y → List Step → List Step) (h : X → Y) (xs : List X) (r : List Step) → each (item_step A rhs (λ x. f (h x))) xs r ≡ each (item_step A rhs f) (map h xs) r
each_of A rhs f h [] r = refl
each_of A rhs f h (x ∷ xs) r = ap (item_step A rhs f (h x)) (each_of A rhs f h xs r)

pub list_reads : {X Y : Type 0} (A : Symbol) (rhs : List Symbol) (f : Y → List Step → List Step) (h : X → Y) (s t : Standing) (a : Result (List X) Failure)
    → ReadsWhole s (A ∷ []) (list_then A rhs (λ x. f (h x))) t a → ReadsWhole s (A ∷ []) (λ xs. list_then A rhs f (map h xs)) t a
list_reads A rhs f h s t (Ok xs) p = restep (list_then A rhs f (map h xs)) (λ r. each_of A rhs f h xs (becomes A [] ∷ r)) p
list_reads A rhs f h s t (Err e) p = p

optional_of : {X Y : Type 0} (A : Symbol) (rhs : List Symbol) (f : Y → List Step → List Step) (h : X → Y) (x : Option X) (r : List Step) → optional_then A rhs (λ y. f (h y)) x r ≡ optional_then A rhs f (option_map h x) r
optional_of A rhs f h None r = refl
optional_of A rhs f h (Some x) r = refl

pub optional_reads : {X Y : Type 0} (A : Symbol) (rhs : List Symbol) (f : Y → List Step → List Step) (h : X → Y) (s t : Standing) (a : Result (Option X) Failure)
    → ReadsWhole s (A ∷ []) (optional_then A rhs (λ y. f (h y))) t a → ReadsWhole s (A ∷ []) (λ x. optional_then A rhs f (option_map h x)) t a
optional_reads A rhs f h s t (Ok x) p = restep (optional_then A rhs f (option_map h x)) (optional_of A rhs f h x) p
optional_reads A rhs f h s t (Err e) p = p
