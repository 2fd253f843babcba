-- Pigeonholes: as many different numbers below a number as there are below it leave none out.
use Rattle.std.proofs.Common.{◌≡◌, ◌≢◌, ℕ, zero, suc, ◌-◌, ◌<◌, ◌≤◌, ◌⊎◌, inl, inr, ⊎_elim, min, arith, sym, ap, ◌∙◌, subst}
use Rattle.std.proofs.lemmas.Bool.{cases_eq, cases_lt}

-- the function gives different values at different numbers below n
abbrev pub IsInjective : ℕ → (ℕ → ℕ) → Type 0
IsInjective n f = (j k : ℕ) → j < n → k < n → f j ≡ f k → j ≡ k

-- the function gives numbers below m at the numbers below n
abbrev pub StaysBelow : ℕ → ℕ → (ℕ → ℕ) → Type 0
StaysBelow m n f = (k : ℕ) → k < n → f k < m

-- the numbers other than v, closed up: what is above v moves down by one
abbrev pub closed_up : ℕ → ℕ → ℕ
closed_up v x = x - min 1 (x - v)

pub closed_up-below : (m v x : ℕ) → v < suc m → x < suc m → x ≢ v → closed_up v x < m
closed_up-below m v x h i ne = omega arith

pub closed_up-apart : (v x y : ℕ) → x ≢ v → y ≢ v → closed_up v x ≡ closed_up v y → x ≡ y
closed_up-apart v x y h i e = omega arith

-- There are not more numbers than places for them: the last number's place is closed up, and the others have the rest.
pub no_injection : (m n : ℕ) (f : ℕ → ℕ) → m < n → StaysBelow m n f → IsInjective n f → ⊥
no_injection zero n f lt below apart = omega (arith, below 0 lt)
no_injection (suc m) n f lt below apart =
    let last : n - 1 < n = omega arith in
    let ne : (k : ℕ) → k < n - 1 → f k ≢ f (n - 1) = λ k h e. omega (arith, apart k (n - 1) (omega arith) last e) in
    no_injection m (n - 1) (λ k. closed_up (f (n - 1)) (f k)) (omega arith)
    (λ k h. closed_up-below m (f (n - 1)) (f k) (below (n - 1) last) (below k (omega arith)) (ne k h))
    (λ j k h i e. apart j k (omega arith) (omega arith) (closed_up-apart (f (n - 1)) (f j) (f k) (ne j h) (ne k i) e))

-- a value is given at some number below n, or at none
pub find_value : (n : ℕ) (f : ℕ → ℕ) (v : ℕ) → ((k : ℕ) × (k < n) × (f k ≡ v)) ⊎ ((k : ℕ) → k < n → f k ≢ v)
find_value zero f v = inr (λ k h e. omega arith)
find_value (suc n) f v = here (cases_eq (f n) v) (find_value n f v)
  where
    here : (f n ≡ v) ⊎ (f n ≡ v → ⊥) → ((k : ℕ) × (k < n) × (f k ≡ v)) ⊎ ((k : ℕ) → k < n → f k ≢ v) → ((k : ℕ) × (k < suc n) × (f k ≡ v)) ⊎ ((k : ℕ) → k < suc n → f k ≢ v)
    here (inl e) r = inl (n, omega arith, e)
    here (inr ne) (inl w) = inl (w.0, omega (arith, w.1), w.2)
    here (inr ne) (inr h) = inr (λ k lt e. ⊎_elim (λ (same : k ≡ n). ne (subst (λ i. f i ≡ v) same e)) (λ (less : (k ≡ n) → ⊥). h k (omega (arith, less)) e) (cases_eq k n))

-- n different numbers below n are all of them: one left out could be closed up
pub hits_each : (n : ℕ) (f : ℕ → ℕ) → StaysBelow n n f → IsInjective n f → (v : ℕ) → v < n → (k : ℕ) × (k < n) × (f k ≡ v)
hits_each zero f below apart v lt = absurd (omega arith)
hits_each (suc m) f below apart v lt = found (find_value (suc m) f v)
  where
    found : ((k : ℕ) × (k < suc m) × (f k ≡ v)) ⊎ ((k : ℕ) → k < suc m → f k ≢ v) → (k : ℕ) × (k < suc m) × (f k ≡ v)
    found (inl w) = w
    found (inr ne) = absurd (no_injection m (suc m) (λ k. closed_up v (f k)) (omega arith)
        (λ k h. closed_up-below m v (f k) lt (below k h) (ne k h))
        (λ j k h i e. apart j k h i (closed_up-apart v (f j) (f k) (ne j h) (ne k i) e)))

-- where some number below n gives each of the numbers below n
abbrev pub HitsEach : ℕ → (ℕ → ℕ) → Type 0
HitsEach n f = (v : ℕ) → v < n → (k : ℕ) × (k < n) × (f k ≡ v)

-- the number that gives v, and 0 where v isn't below n
abbrev pub choose : (n : ℕ) (f : ℕ → ℕ) → HitsEach n f → (v : ℕ) → (v < n) ⊎ (n ≤ v) → ℕ
choose n f hits v (inl lt) = (hits v lt).0
choose n f hits v (inr ge) = 0

pub choose_gives : (n : ℕ) (f : ℕ → ℕ) (hits : HitsEach n f) (v : ℕ) (c : (v < n) ⊎ (n ≤ v)) → v < n → (choose n f hits v c < n) × (f (choose n f hits v c) ≡ v)
choose_gives n f hits v (inl lt) h = ((hits v lt).1, (hits v lt).2)
choose_gives n f hits v (inr ge) h = absurd (omega arith)

-- Where each of the numbers below n is given, each is given once, and nothing else: the numbers that give them are different,
-- so they are all that there are.
pub each_once : (n : ℕ) (f : ℕ → ℕ) → HitsEach n f → StaysBelow n n f × IsInjective n f
each_once n f hits =
    let back : ℕ → ℕ = λ v. choose n f hits v (cases_lt v n) in
    let gives : (v : ℕ) → v < n → (back v < n) × (f (back v) ≡ v) = λ v. choose_gives n f hits v (cases_lt v n) in
    let all : HitsEach n back = hits_each n back (λ v h. (gives v h).0) (λ u v h i e. sym (gives u h).1 ∙ ap f e ∙ (gives v i).1) in
    let value : (k : ℕ) (h : k < n) → f k ≡ (all k h).0 = λ k h. ap f (sym (all k h).2) ∙ (gives (all k h).0 (all k h).1).1 in (
      (λ k h. omega (arith, value k h, (all k h).1)),
      (λ j k h i e. sym (all j h).2 ∙ ap back (sym (value j h) ∙ e ∙ value k i) ∙ (all k i).2),
    )
