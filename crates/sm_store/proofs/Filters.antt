-- The values of a list of which a literal is true, and those of which its complement is.
use Rattle.std.proofs.Common.{◌≡◌, ◌≢◌, suc, ◌+◌, ◌<◌, ◌≤◌, Bool, true, false, cond, not, Some, None, List, [], ◌∷◌, length, refl, arith, ap}
use Rattle.std.specs.Prelude.{ℤ, pos, filter}
use Rattle.std.specs.Ordering.{int_eq}
use Rattle.std.proofs.lemmas.Int.{ints}
use Rattle.sm_kinds.specs.declared.literal.Literal.{Literal}
use Rattle.sm_kinds.specs.declared.literal.Test.{Test}
use Rattle.sm_kinds.specs.declared.literal.Test.TheVariants.{AtMost, AtLeast, Equal, Unequal}
use Rattle.sm_kinds.specs.declared.var.VarKind.TheVariants.{Set}
use Rattle.sm_kinds.specs.Literals.{passes, passes_test, opposite, beyond, complement}
use Rattle.sm_store.specs.Stores.{is_empty, truth_in}

not_not : (b : Bool) → b ≡ not (not b)
not_not true = refl
not_not false = refl

test_not : (t : Test) (b v : ℤ) → passes_test (opposite t) (beyond t b) v ≡ not (passes_test t b v)
test_not AtMost b v = grind (arith, ints)
test_not AtLeast b v = grind (arith, ints)
test_not Equal b v = refl
test_not Unequal b v = not_not (int_eq v b)

-- the complement is true of the numbers of which the literal is false
pub complement_not : (l : Literal) (v : ℤ) → passes (complement l) v ≡ not (passes l v)
complement_not l v = test_not l.test l.bound v

length_kept : (p : ℤ → Bool) (vs : List ℤ) → length (filter p vs) ≤ length vs
length_kept p [] = omega arith
length_kept p (v ∷ vs) = cases (p v) (length_kept p vs)
  where
    cases : (b : Bool) → length (filter p vs) ≤ length vs → length (cond b (v ∷ filter p vs) (filter p vs)) ≤ suc (length vs)
    cases true h = omega (arith, h)
    cases false h = omega (arith, h)

whole_kept : (p : ℤ → Bool) (vs : List ℤ) → length (filter p vs) ≡ length vs → filter p vs ≡ vs
whole_kept p [] h = refl
whole_kept p (v ∷ vs) h = cases (p v) (whole_kept p vs) (length_kept p vs) h
  where
    cases : (b : Bool) → (length (filter p vs) ≡ length vs → filter p vs ≡ vs) → length (filter p vs) ≤ length vs → length (cond b (v ∷ filter p vs) (filter p vs)) ≡ suc (length vs) → cond b (v ∷ filter p vs) (filter p vs) ≡ v ∷ vs
    cases true rest most e = ap (λ xs. v ∷ xs) (rest (omega (arith, e)))
    cases false rest most e = absurd (omega (arith, e, most))

-- fewer values than before are other values
pub fewer_other : (l : Literal) (vs : List ℤ) → length (filter (passes l) vs) < length vs → filter (passes l) vs ≢ vs
fewer_other l vs h same = let e = ap length same in absurd (omega (arith, h, e))

pub other_fewer : (l : Literal) (vs : List ℤ) → filter (passes l) vs ≢ vs → length (filter (passes l) vs) < length vs
other_fewer l vs other =
    let most = length_kept (passes l) vs in
    let apart : length (filter (passes l) vs) ≢ length vs = λ e. other (whole_kept (passes l) vs e) in
    omega (arith, most, apart)

none_left : (p q : ℤ → Bool) → ((v : ℤ) → q v ≡ not (p v)) → (vs : List ℤ) → length (filter p vs) + length (filter q vs) ≡ length vs
none_left p q other [] = refl
none_left p q other (v ∷ vs) = rw (other v) (cases (p v) (none_left p q other vs))
  where
    cases : (b : Bool) → length (filter p vs) + length (filter q vs) ≡ length vs → length (cond b (v ∷ filter p vs) (filter p vs)) + length (cond (not b) (v ∷ filter q vs) (filter q vs)) ≡ suc (length vs)
    cases true h = omega (arith, h)
    cases false h = omega (arith, h)

-- a literal and its complement part the values of a list
pub parted : (l : Literal) (vs : List ℤ) → length (filter (passes l) vs) + length (filter (passes (complement l)) vs) ≡ length vs
parted l vs = none_left (passes l) (passes (complement l)) (complement_not l) vs

empty_zero : (vs : List ℤ) → length vs ≡ 0 → is_empty vs ≡ true
empty_zero [] e = refl
empty_zero (v ∷ vs) e = absurd (omega (arith, e))

empty_not : (vs : List ℤ) → length vs ≢ 0 → is_empty vs ≡ false
empty_not [] e = absurd (e refl)
empty_not (v ∷ vs) e = refl

pub truth_same : (l : Literal) (vs : List ℤ) → 0 < length vs → (length (filter (passes l) vs) < length vs → ⊥) → Some true ≡ truth_in l (record { kind = Set; values = vs; base = pos 0 })
truth_same l vs some all =
    let parts = parted l vs in
    let few = length_kept (passes l) vs in
    let whole : length (filter (passes l) vs) ≡ length vs = omega (arith, all) in
    rw (empty_not vs (λ e. omega arith), empty_zero (filter (passes (complement l)) vs) (omega arith)) refl

pub truth_none : (l : Literal) (vs : List ℤ) → 0 < length vs → (0 < length (filter (passes l) vs) → ⊥) → Some false ≡ truth_in l (record { kind = Set; values = vs; base = pos 0 })
truth_none l vs some none =
    let parts = parted l vs in
    let zero_left : length (filter (passes l) vs) ≡ 0 = omega (arith, none) in
    rw (empty_not vs (λ e. omega arith), empty_not (filter (passes (complement l)) vs) (λ e. omega arith), empty_zero (filter (passes l) vs) zero_left) refl

pub truth_mixed : (l : Literal) (vs : List ℤ) → 0 < length vs → length (filter (passes l) vs) < length vs → 0 < length (filter (passes l) vs) → None ≡ truth_in l (record { kind = Set; values = vs; base = pos 0 })
truth_mixed l vs some fewer left =
    let parts = parted l vs in
    rw (empty_not vs (λ e. omega arith), empty_not (filter (passes (complement l)) vs) (λ e. omega arith), empty_not (filter (passes l) vs) (λ e. omega arith)) refl
