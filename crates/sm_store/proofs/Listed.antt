-- The values of the places that pass a test.
use Rattle.std.proofs.Common.{◌≡◌, ◌≢◌, ℕ, zero, suc, ◌+◌, ◌-◌, ◌<◌, ◌≤◌, Bool, true, false, cond, List, [], ◌∷◌, ◌++◌, length, get_or, refl, arith, ap, sym, ◌∙◌, inl, inr}
use Rattle.std.specs.Prelude.{ℤ, pos, ◌+ℤ◌, ◌&&◌, filter, count_by}
use Rattle.std.specs.List.{range_with_len}
use Rattle.std.proofs.lemmas.Bool.{cases_eq}
use Rattle.std.proofs.lemmas.Int.{ints}
use Rattle.std.proofs.lemmas.List.Sums.{sum_by-cons}
use Rattle.sm_kinds.specs.Vars.{IsOneOf}
use Rattle.sm_store.specs.Blocks.{listed}

filter_step : (x : ℤ) (xs ys : List ℤ) (pass : ℤ → Bool) (a b c : Bool) → c ≡ (a && b) → pass x ≡ b → ys ≡ filter pass xs → cond c (x ∷ ys) ys ≡ filter pass (cond a (x ∷ xs) xs)
filter_step x xs ys pass true true c e p h = rw (e, p, h) refl
filter_step x xs ys pass true false c e p h = rw (e, p, h) refl
filter_step x xs ys pass false b c e p h = rw e h

-- a test besides keeps the values that pass it
pub listed_filter : (test new : ℕ → Bool) (pass : ℤ → Bool) (base : ℤ) (at n : ℕ) → ((p : ℕ) → at ≤ p → p < at + n → new p ≡ (test p && pass (base +ℤ pos p))) → listed new base at n ≡ filter pass (listed test base at n)
listed_filter test new pass base at zero h = refl
listed_filter test new pass base at (suc n) h =
    let rest = listed_filter test new pass base (at + 1) n (λ p low high. h p (omega arith) (omega arith)) in
    filter_step (base +ℤ pos at) (listed test base (at + 1) n) (listed new base (at + 1) n) pass (test at) (pass (base +ℤ pos at)) (new at) (h at (omega arith) (omega arith)) refl rest

pub listed_none : (test : ℕ → Bool) (base : ℤ) (at n : ℕ) → ((p : ℕ) → at ≤ p → p < at + n → test p ≡ false) → listed test base at n ≡ []
listed_none test base at zero h = refl
listed_none test base at (suc n) h =
    let here : test at ≡ false = h at (omega arith) (omega arith) in
    rw here (listed_none test base (at + 1) n (λ p low high. h p (omega arith) (omega arith)))

pub listed_some : (test : ℕ → Bool) (base : ℤ) (at n p : ℕ) → at ≤ p → p < at + n → test p ≡ true → 0 < length (listed test base at n)
listed_some test base at zero p low high one = absurd (omega arith)
listed_some test base at (suc n) p low high one =
    elim (cases_eq at p) [
      | inl same ↦ let here : test at ≡ true = ap test same ∙ one in rw here (omega arith)
      | inr other ↦ cases (test at) (listed_some test base (at + 1) n p (omega arith) (omega arith) one)
    ]
  where
    cases : (b : Bool) → 0 < length (listed test base (at + 1) n) → 0 < length (cond b ((base +ℤ pos at) ∷ listed test base (at + 1) n) (listed test base (at + 1) n))
    cases true h = omega arith
    cases false h = h

-- the first place that passes has the least value
pub listed_first : (test : ℕ → Bool) (base : ℤ) (at n p : ℕ) → at ≤ p → p < at + n → test p ≡ true → ((q : ℕ) → q < p → test q ≡ false) → get_or (listed test base at n) 0 (pos 0) ≡ base +ℤ pos p
listed_first test base at zero p low high one none = absurd (omega arith)
listed_first test base at (suc n) p low high one none =
    elim (cases_eq at p) [
      | inl same ↦ let here : test at ≡ true = ap test same ∙ one in rw here (ap (λ (k : ℕ). base +ℤ pos k) same)
      | inr other ↦ let here : test at ≡ false = none at (omega arith) in rw here (listed_first test base (at + 1) n p (omega arith) (omega arith) one none)
    ]

last_cons : (x y : ℤ) (xs : List ℤ) → 0 < length xs → get_or xs (length xs - 1) (pos 0) ≡ y → get_or (x ∷ xs) (length (x ∷ xs) - 1) (pos 0) ≡ y
last_cons x y [] some h = absurd (omega arith)
last_cons x y (z ∷ zs) some h =
    let before : length (z ∷ zs) - 1 ≡ length zs = omega arith in
    let after : length (x ∷ z ∷ zs) - 1 ≡ suc (length zs) = omega arith in
    rw after (rw before at h)

-- the last place that passes has the greatest value
pub listed_last : (test : ℕ → Bool) (base : ℤ) (at n p : ℕ) → at ≤ p → p < at + n → test p ≡ true → ((q : ℕ) → p < q → test q ≡ false) → get_or (listed test base at n) (length (listed test base at n) - 1) (pos 0) ≡ base +ℤ pos p
listed_last test base at zero p low high one none = absurd (omega arith)
listed_last test base at (suc n) p low high one none =
    elim (cases_eq at p) [
      | inl same ↦
          let here : test at ≡ true = ap test same ∙ one in
          let rest : listed test base (at + 1) n ≡ [] = listed_none test base (at + 1) n (λ q from to. none q (omega arith)) in
          rw (here, rest) (ap (λ (k : ℕ). base +ℤ pos k) same)
      | inr other ↦ cases (test at) (listed_some test base (at + 1) n p (omega arith) (omega arith) one) (listed_last test base (at + 1) n p (omega arith) (omega arith) one none)
    ]
  where
    cases : (b : Bool) → 0 < length (listed test base (at + 1) n) → get_or (listed test base (at + 1) n) (length (listed test base (at + 1) n) - 1) (pos 0) ≡ base +ℤ pos p
        → get_or (cond b ((base +ℤ pos at) ∷ listed test base (at + 1) n) (listed test base (at + 1) n)) (length (cond b ((base +ℤ pos at) ∷ listed test base (at + 1) n) (listed test base (at + 1) n)) - 1) (pos 0) ≡ base +ℤ pos p
    cases true some h = last_cons (base +ℤ pos at) (base +ℤ pos p) (listed test base (at + 1) n) some h
    cases false some h = h

count_cons : (b : Bool) (x : ℤ) (xs : List ℤ) → length (cond b (x ∷ xs) xs) ≡ cond b 1 0 + length xs
count_cons true x xs = omega arith
count_cons false x xs = omega arith

pub listed_count : (test : ℕ → Bool) (base : ℤ) (at n : ℕ) → length (listed test base at n) ≡ count_by test (range_with_len at n)
listed_count test base at zero = refl
listed_count test base at (suc n) =
    count_cons (test at) (base +ℤ pos at) (listed test base (at + 1) n)
    ∙ ap (λ (k : ℕ). cond (test at) 1 0 + k) (listed_count test base (at + 1) n)
    ∙ sym (sum_by-cons (λ (p : ℕ). cond (test p) 1 0) at (range_with_len (at + 1) n))

whole : (x : ℤ) → IsOneOf x (pos 1) (x ∷ [])
whole x = inl (omega (arith, ints))

one_more : (x y : ℤ) (b : Bool) (ys : List ℤ) → IsOneOf x (pos 1) ys → IsOneOf x (pos 1) (cond b (y ∷ ys) ys)
one_more x y true ys h = inr h
one_more x y false ys h = h

pub listed_has : (test : ℕ → Bool) (base : ℤ) (at n p : ℕ) → at ≤ p → p < at + n → test p ≡ true → IsOneOf (base +ℤ pos p) (pos 1) (listed test base at n)
listed_has test base at zero p low high one = absurd (omega arith)
listed_has test base at (suc n) p low high one =
    elim (cases_eq at p) [
      | inl same ↦ let here : test at ≡ true = ap test same ∙ one in rw here (inl (omega (arith, ints)))
      | inr other ↦ one_more (base +ℤ pos p) (base +ℤ pos at) (test at) (listed test base (at + 1) n) (listed_has test base (at + 1) n p (omega arith) (omega arith) one)
    ]

-- a place that passes, of this value
pub record HasPlace (test : ℕ → Bool) (base : ℤ) (at n : ℕ) (x : ℤ) : Type 0 where
  pub place : ℕ
  pub low : at ≤ place
  pub high : place < at + n
  pub one : test place ≡ true
  pub same : x ≡ base +ℤ pos place

pub listed_from : (test : ℕ → Bool) (base : ℤ) (at n : ℕ) (x : ℤ) → IsOneOf x (pos 1) (listed test base at n) → HasPlace test base at n x
listed_from test base at zero x h = absurd h
listed_from test base at (suc n) x h = cases (test at) refl (listed_from test base (at + 1) n x) h
  where
    further : HasPlace test base (at + 1) n x → HasPlace test base at (suc n) x
    further r = let low = r.low in let high = r.high in record { place = r.place; low = omega arith; high = omega arith; one = r.one; same = r.same }

    cases : (b : Bool) → test at ≡ b → (IsOneOf x (pos 1) (listed test base (at + 1) n) → HasPlace test base (at + 1) n x) → IsOneOf x (pos 1) (cond b ((base +ℤ pos at) ∷ listed test base (at + 1) n) (listed test base (at + 1) n)) → HasPlace test base at (suc n) x
    cases true e rest (inl here) = record { place = at; low = omega arith; high = omega arith; one = e; same = omega (arith, ints, here) }
    cases true e rest (inr there) = further (rest there)
    cases false e rest h = further (rest h)

more_cons : (b : Bool) (x y : ℤ) (xs ys : List ℤ) → ys ≡ xs ++ y ∷ [] → cond b (x ∷ ys) ys ≡ cond b (x ∷ xs) xs ++ y ∷ []
more_cons true x y xs ys h = rw h refl
more_cons false x y xs ys h = h

-- one place more, past all that pass
pub listed_more : (test new : ℕ → Bool) (base : ℤ) (at n q : ℕ) → at ≤ q → q < at + n → new q ≡ true → ((p : ℕ) → p ≢ q → new p ≡ test p) → ((p : ℕ) → q ≤ p → test p ≡ false) → listed new base at n ≡ listed test base at n ++ (base +ℤ pos q) ∷ []
listed_more test new base at zero q low high one others none = absurd (omega arith)
listed_more test new base at (suc n) q low high one others none =
    elim (cases_eq at q) [
      | inl same ↦
          let here : new at ≡ true = ap new same ∙ one in
          let before : test at ≡ false = none at (omega arith) in
          let new_rest : listed new base (at + 1) n ≡ [] = listed_none new base (at + 1) n (λ p from to. others p (omega arith) ∙ none p (omega arith)) in
          let old_rest : listed test base (at + 1) n ≡ [] = listed_none test base (at + 1) n (λ p from to. none p (omega arith)) in
          rw (here, before, new_rest, old_rest) (ap (λ (k : ℕ). (base +ℤ pos k) ∷ []) same)
      | inr other ↦
          let here : new at ≡ test at = others at other in
          rw here (more_cons (test at) (base +ℤ pos at) (base +ℤ pos q) (listed test base (at + 1) n) (listed new base (at + 1) n) (listed_more test new base (at + 1) n q (omega arith) (omega arith) one others none))
    ]
