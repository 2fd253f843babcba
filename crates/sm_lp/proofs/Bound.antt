-- A run of the rule has fewer than 2 ^ n steps, where n bounds the numbers.
use Rattle.std.proofs.Common.{◌≡◌, ℕ, suc, zero, ◌+◌, ◌*◌, ◌^◌, ◌-◌, ◌<◌, ◌≤◌, sym, ap, ◌∙◌, refl, arith, ◌≢◌, subst, inl, inr}
use Rattle.std.specs.Prelude.{◌⊎◌, Bool, true, false, if◌then◌else◌, ◌==◌, nat_lt}
use Rattle.std.proofs.lemmas.Bool.{cases_eq, cases_order}
use Rattle.std.proofs.lemmas.Bool.Decides.{nat_tests}
use Rattle.std.proofs.Math.Logic.{⊎_elim}
use Rattle.sm_lp.specs.Dictionary.{Dictionary, pivot}
use Rattle.sm_lp.specs.Moves.{IsGood, IsMove}
use Rattle.sm_lp.proofs.Return.{IsBasic, no_return, good, same_g}

-- ---- the pigeonhole
skip : ℕ → (ℕ → ℕ) → ℕ → ℕ
skip i h k = if nat_lt k i then h k else h (suc k)

skip_low : (i : ℕ) (h : ℕ → ℕ) (k : ℕ) → k < i → skip i h k ≡ h k
unfolding skip
skip_low i h k l = grind (arith, nat_tests)

skip_high : (i : ℕ) (h : ℕ → ℕ) (k : ℕ) → i ≤ k → skip i h k ≡ h (suc k)
unfolding skip
skip_high i h k l = grind (arith, nat_tests)

low_or_high : (k i : ℕ) → (k < i) ⊎ (i ≤ k)
low_or_high k i = ⊎_elim (λ (e : k ≡ i). inr (omega arith)) (λ o. ⊎_elim (λ (l : k < i). inl l) (λ (l : i < k). inr (omega arith)) o) (cases_order k i)

seek : (h : ℕ → ℕ) (y b : ℕ) → ((q : ℕ) × (q < b) × (h q ≡ y)) ⊎ ((q : ℕ) → q < b → h q ≡ y → ⊥)
seek h y zero = inr (λ q l e. omega arith)
seek h y (suc b) = ⊎_elim
    (λ (e : h b ≡ y). inl (b, omega arith, e))
    (λ (ne : h b ≢ y). ⊎_elim
    (λ (a : (q : ℕ) × (q < b) × (h q ≡ y)). inl (a.0, omega arith, a.2))
    (λ (none : (q : ℕ) → q < b → h q ≡ y → ⊥). inr (λ q l e. ⊎_elim (λ (at : q ≡ b). ne (sym (ap h at) ∙ e)) (λ (off : q ≢ b). none q (omega arith) e) (cases_eq q b)))
    (seek h y b))
    (cases_eq (h b) y)

pub pigeons : (n m : ℕ) (h : ℕ → ℕ) → ((i : ℕ) → i < m → h i < n) → ((i j : ℕ) → i < m → j < m → h i ≡ h j → i ≡ j) → m ≤ n
pigeons zero m h low one = ⊎_elim (λ (l : 0 < m). absurd (let b = low 0 l in omega arith)) (λ (l : m ≤ 0). l) (low_or_high 0 m)
pigeons (suc n) m h low one = ⊎_elim
    (λ (a : (q : ℕ) × (q < m) × (h q ≡ n)).
    let i = a.0 in
    let rest : m - 1 ≤ n = pigeons n (m - 1) (skip i h)
    (λ k l. ⊎_elim
    (λ (p : k < i). let b = low k (omega arith) in let ne : h k ≢ n = (λ e. let at = one k i (omega arith) (let z = a.1 in omega arith) (e ∙ sym a.2) in omega arith) in subst (λ (z : ℕ). z < n) (sym (skip_low i h k p)) (omega arith))
    (λ (p : i ≤ k). let b = low (suc k) (omega arith) in let ne : h (suc k) ≢ n = (λ e. let at = one (suc k) i (omega arith) (let z = a.1 in omega arith) (e ∙ sym a.2) in omega arith) in subst (λ (z : ℕ). z < n) (sym (skip_high i h k p)) (omega arith))
    (low_or_high k i))
    (λ j k lj lk e. ⊎_elim
    (λ (p : j < i). ⊎_elim
    (λ (q : k < i). one j k (omega arith) (omega arith) (sym (skip_low i h j p) ∙ e ∙ skip_low i h k q))
    (λ (q : i ≤ k). absurd (let at = one j (suc k) (omega arith) (omega arith) (sym (skip_low i h j p) ∙ e ∙ skip_high i h k q) in omega arith)) (low_or_high k i))
    (λ (p : i ≤ j). ⊎_elim
    (λ (q : k < i). absurd (let at = one (suc j) k (omega arith) (omega arith) (sym (skip_high i h j p) ∙ e ∙ skip_low i h k q) in omega arith))
    (λ (q : i ≤ k). let at = one (suc j) (suc k) (omega arith) (omega arith) (sym (skip_high i h j p) ∙ e ∙ skip_high i h k q) in omega arith) (low_or_high k i))
    (low_or_high j i)) in
    let z = a.1 in omega arith)
    (λ (none : (q : ℕ) → q < m → h q ≡ n → ⊥). let rest : m ≤ n = pigeons n m h (λ i l. let b = low i l in let ne = none i l in omega arith) one in omega arith)
    (seek h n m)

-- ---- a set of numbers below n as a number below 2 ^ n
pub code : ℕ → (ℕ → Bool) → ℕ
code zero b = 0
code (suc n) b = code n b + (if b n then 2 ^ n else 0)

bit_below : (t : Bool) (c p : ℕ) → c < p → c + (if t then p else 0) < 2 * p
bit_below true c p h = omega arith
bit_below false c p h = omega arith

pub code_below : (n : ℕ) (b : ℕ → Bool) → code n b < 2 ^ n
unfolding code
code_below zero b = omega arith
code_below (suc n) b = let h = code_below n b in let k = bit_below (b n) (code n b) (2 ^ n) h in omega arith

bits_same : (s t : Bool) (c d p : ℕ) → c < p → d < p → c + (if s then p else 0) ≡ d + (if t then p else 0) → (s ≡ t) × (c ≡ d)
bits_same true true c d p h k e = (refl, omega arith)
bits_same true false c d p h k e = absurd (omega arith)
bits_same false true c d p h k e = absurd (omega arith)
bits_same false false c d p h k e = (refl, omega arith)

pub same_bits : (n : ℕ) (a b : ℕ → Bool) → code n a ≡ code n b → (y : ℕ) → y < n → a y ≡ b y
unfolding code
same_bits zero a b e y l = absurd (omega arith)
same_bits (suc n) a b e y l =
    let parts = bits_same (a n) (b n) (code n a) (code n b) (2 ^ n) (code_below n a) (code_below n b) e in
    ⊎_elim (λ (at : y ≡ n). ap a at ∙ parts.0 ∙ ap b (sym at)) (λ (off : y ≢ n). same_bits n a b parts.1 y (omega arith)) (cases_eq y n)

-- ---- whether a number is basic
is_at : ℕ → (ℕ → ℕ) → ℕ → Bool
is_at zero h y = false
is_at (suc m) h y = if h m == y then true else is_at m h y

choose_yes : (a k : ℕ) (x y : Bool) → a ≡ k → (if a == k then x else y) ≡ x
choose_yes a k x y e = grind (arith, nat_tests)

choose_no : (a k : ℕ) (x y : Bool) → a ≢ k → (if a == k then x else y) ≡ y
choose_no a k x y e = grind (arith, nat_tests)

at_true : (m : ℕ) (h : ℕ → ℕ) (y : ℕ) → is_at m h y ≡ true → (i : ℕ) × (i < m) × (h i ≡ y)
unfolding is_at
at_true zero h y e = absurd (cc)
at_true (suc m) h y e = ⊎_elim
    (λ (at : h m ≡ y). (m, omega arith, at))
    (λ (off : h m ≢ y). let a = at_true m h y (sym (choose_no (h m) y true (is_at m h y) off) ∙ e) in (a.0, omega arith, a.2))
    (cases_eq (h m) y)

true_at : (m : ℕ) (h : ℕ → ℕ) (y i : ℕ) → i < m → h i ≡ y → is_at m h y ≡ true
unfolding is_at
true_at zero h y i l e = absurd (omega arith)
true_at (suc m) h y i l e = ⊎_elim
    (λ (at : h m ≡ y). choose_yes (h m) y true (is_at m h y) at)
    (λ (off : h m ≢ y). choose_no (h m) y true (is_at m h y) off ∙ true_at m h y i (⊎_elim (λ (at : i ≡ m). absurd (off (ap h (sym at) ∙ e))) (λ (ne : i ≢ m). omega arith) (cases_eq i m)) e)
    (cases_eq (h m) y)

pub basis_code : ℕ → Dictionary → ℕ
basis_code n d = code n (is_at d.height d.basic)

basis_code_below : (n : ℕ) (d : Dictionary) → basis_code n d < 2 ^ n
unfolding basis_code
basis_code_below n d = code_below n (is_at d.height d.basic)

-- two places of a run with one code have the same basic numbers
same_basis : (f g n : ℕ) (d e : Dictionary) → IsGood d f g n → IsGood e f g n → d.basic g ≡ e.basic g → basis_code n d ≡ basis_code n e → (y : ℕ) → IsBasic d y → IsBasic e y
unfolding basis_code
same_basis f g n d e p q same codes y b = ⊎_elim
    (λ (low : y < n). at_true e.height e.basic y (sym (same_bits n (is_at d.height d.basic) (is_at e.height e.basic) codes y low) ∙ true_at d.height d.basic y b.0 b.1 b.2))
    (λ (high : n ≤ y). ⊎_elim
    (λ (at : b.0 ≡ g). (g, q.g_inside, sym same ∙ ap d.basic (sym at) ∙ b.2))
    (λ (off : b.0 ≢ g). absurd (let small = p.basic_small b.0 b.1 off in let is = b.2 in omega arith))
    (cases_eq b.0 g))
    (low_or_high y n)

pub run_bounded : (D : ℕ → Dictionary) (r c : ℕ → ℕ) (f g n T : ℕ) → IsGood (D 0) f g n → ((q : ℕ) → q < T → D (suc q) ≡ pivot (D q) (r q) (c q)) → ((q : ℕ) → q < T → IsMove (D q) f g (r q) (c q)) → T < 2 ^ n
run_bounded D r c f g n T start next move =
    let h = λ (q : ℕ). basis_code n (D q) in
    pigeons (2 ^ n) (suc T) h (λ i l. basis_code_below n (D i)) (λ i j li lj e. ⊎_elim (λ (same : i ≡ j). same) (λ o. ⊎_elim
    (λ (l : i < j). absurd (returns i j l (omega arith) e))
    (λ (l : j < i). absurd (returns j i l (omega arith) (sym e))) o) (cases_order i j))
  where
    returns : (i j : ℕ) → i < j → j ≤ T → basis_code n (D i) ≡ basis_code n (D j) → ⊥
    returns i j l h e =
        let k = j - i in
        let at : i + k ≡ j = omega arith in
        let first : i + 0 ≡ i = omega arith in
        let gi = good D r c f g n T start next move i (omega arith) in
        let gj = good D r c f g n T start next move j h in
        let same = same_g D r c f g n T start next move i (omega arith) ∙ sym (same_g D r c f g n T start next move j h) in
        no_return (λ q. D (i + q)) (λ q. r (i + q)) (λ q. c (i + q)) f g n k
        (subst (λ (q : ℕ). IsGood (D q) f g n) (sym first) gi)
        (λ q b. let s : i + suc q ≡ suc (i + q) = omega arith in ap D s ∙ next (i + q) (omega arith))
        (λ q b. move (i + q) (omega arith))
        (omega arith)
        (λ y b. subst (λ (q : ℕ). IsBasic (D q) y) (sym at) (same_basis f g n (D i) (D j) gi gj same e y (subst (λ (q : ℕ). IsBasic (D q) y) first b)))
        (λ y b. subst (λ (q : ℕ). IsBasic (D q) y) (sym first) (same_basis f g n (D j) (D i) gj gi (sym same) (sym e) y (subst (λ (q : ℕ). IsBasic (D q) y) at b)))
