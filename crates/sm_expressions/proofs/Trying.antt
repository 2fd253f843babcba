-- Parts that are tried one after another.
use Rattle.std.proofs.Common.{◌≡◌, ◌∙◌, ap, sym, refl, ℕ, ◌+◌, ◌<◌, arith, suc, List, [], ◌∷◌, length, drop, drop-cons, add-one, get_or, map, Ok, Err, Result, Bool, true, false, ◌==◌}
use Rattle.std.proofs.lemmas.Bool.Decides.{nat_tests}
use Rattle.std.specs.Prelude.{not}
use Rattle.sm_syntax.specs.declared.place.Place.{Place}
use Rattle.sm_meaning.specs.declared.refusal.ExpandRefusal.TheVariants.{Meaning}
use Rattle.sm_meaning.specs.declared.refusal.Wrong.TheVariants.{Shape}
use Rattle.sm_meaning.specs.Refusals.{wrong_if}
use Rattle.sm_syntax.specs.Expressions.{expressions_of, expression_of}
use Rattle.sm_syntax.specs.declared.expression.Expr.{Expr}
use Rattle.sm_meaning.specs.declared.refusal.ExpandRefusal.{ExpandRefusal}
use Rattle.sm_meaning.specs.Trials.{Trial, Outcome, stopped, reached, resumed, ◌▸◌, IsStopped, tried, GoesThrough}
use Rattle.sm_meaning.specs.ExpressionTrials.{expression_count}
pub use Rattle.sm_meaning.proofs.Steps.{stops, goes_on, stops_later, stopped_same}

-- the parts group in any way
pub in_turn : (p q r : Trial) (count : ℕ) → ((p ▸ q) ▸ r) count ≡ (p ▸ q ▸ r) count
in_turn p q r count = by_first (p count)
  where
    by_first : (o : Outcome) → resumed (resumed o q) r ≡ resumed o (q ▸ r)
    by_first (stopped e) = refl
    by_first (reached n) = refl

pub split_at : {A : Type 0} → (xs : List A) (k : ℕ) (x : A) → k < length xs → x ≡ get_or xs k x → drop k xs ≡ x ∷ drop (k + 1) xs
split_at xs k x lt is = rw add-one (drop-cons xs k x lt ∙ ap (λ y. y ∷ drop (suc k) xs) (sym is))

pub expression_count-length : (xs : List Expr) → expression_count (expressions_of (map expression_of xs)) ≡ length xs
expression_count-length [] = refl
expression_count-length (x ∷ xs) = ap suc (expression_count-length xs)

pub count_stops : (e : ExpandRefusal) (k visited : ℕ) (p : Place) (xs : List Expr) → e ≡ Meaning p.line p.column Shape → (length xs ≡ k → ⊥)
    → IsStopped e (tried (wrong_if (not (k == expression_count (expressions_of (map expression_of xs)))) p Shape) visited)
count_stops e k visited p xs is other = rw (is, expression_count-length xs) (by_test (k == length xs) refl)
  where
    same : (m n : ℕ) → (m == n) ≡ true → n ≡ m
    same m n h = grind (arith, nat_tests)

    by_test : (b : Bool) → (k == length xs) ≡ b → tried (wrong_if (not b) p Shape) visited ≡ stopped (Meaning p.line p.column Shape)
    by_test true h = absurd (other (same k (length xs) h))
    by_test false h = refl

pub count_goes : (k visited : ℕ) (p : Place) (xs : List Expr) → length xs ≡ k → tried (wrong_if (not (k == expression_count (expressions_of (map expression_of xs)))) p Shape) visited ≡ reached visited
count_goes k visited p xs is = rw (expression_count-length xs, is) (by_test (k == k) refl)
  where
    by_test : (b : Bool) → (k == k) ≡ b → tried (wrong_if (not b) p Shape) visited ≡ reached visited
    by_test true h = refl
    by_test false h = grind (arith, nat_tests)

pub split_or : {A : Type 0} → (xs : List A) (k : ℕ) (d : A) → k < length xs → drop k xs ≡ get_or xs k d ∷ drop (k + 1) xs
split_or xs k d lt = rw add-one (drop-cons xs k d lt)

-- a part that goes on, and what then goes through the rest
pub then_goes : {X : Type 0} → (part next : Trial) (count after final : ℕ) (P : X → Type 0) (r : Result X ExpandRefusal) → part count ≡ reached after → GoesThrough next after final P r
    → GoesThrough (part ▸ next) count final P r
then_goes part next count after final P (Ok x) h k = (goes_on part next count after h ∙ k.0, k.1)
then_goes part next count after final P (Err e) h k = stops_later e part next count after h k

-- what goes through a part goes through one that begins elsewhere and has the same outcome
pub goes_from : {X : Type 0} → (part other : Trial) (count start after : ℕ) (P : X → Type 0) (r : Result X ExpandRefusal) → other start ≡ part count → GoesThrough part count after P r → GoesThrough other start after P r
goes_from part other count start after P (Ok x) is h = (is ∙ h.0, h.1)
goes_from part other count start after P (Err e) is h = stopped_same e (part count) (other start) (sym is) h
