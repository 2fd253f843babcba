-- The laws of the path.
use Rattle.std.proofs.Common.{◌≡◌, ℕ, suc, zero, ◌<◌, ◌≤◌, ◌≢◌, ◌+◌, ◌-◌, ◌++◌, List, [], ◌∷◌, length, get_or, sym, ap, ◌∙◌, refl, arith, subst}
use Rattle.std.specs.Prelude.{◌⊎◌, Bool, true, false, if◌then◌else◌}
use Rattle.std.proofs.lemmas.Bool.{cases_eq, cases_order}
use Rattle.std.proofs.lemmas.List.{length-append}
use Rattle.std.proofs.Math.Logic.{⊎_elim}
use Rattle.std.proofs.Math.Seq.{get_or-append_seam}
use Rattle.std.proofs.Math.ListN.{get_or-append}
use Rattle.sm_certificate.specs.declared.program.Program.{Program}
use Rattle.sm_lp.specs.Dictionary.{Dictionary}
use Rattle.sm_lp.specs.Rule.{is_basic, row_of}
use Rattle.sm_certificate.specs.Program.{column_count}
use Rattle.sm_lp.specs.First.{first}
use Rattle.sm_certificate.specs.Slacks.{slack_count, number_count}
use Rattle.sm_lp.specs.Path.{IsDictionary, IsReached, IsOnPath, numbers_below, basis_of}
use Rattle.sm_lp.specs.Laws.{OneDictionary, NoBasisReturns, PathEnds}
use Rattle.sm_lp.proofs.Points.{one_dictionary}
use Rattle.sm_lp.proofs.Return.{IsBasic}
use Rattle.sm_lp.proofs.RuleLemmas.{Leads, leads_none, leads_more, leads_few, leads_elsewhere, yes_or_no, less_of, place_is}
use Rattle.sm_lp.proofs.NextLemmas.{basic_is}
use Rattle.sm_lp.proofs.FirstLemmas.{first_tracked, reached_tracked}
use Rattle.sm_lp.proofs.PathLemmas.{reached_same}

-- ---- the numbers below a bound that pass a test
with_last : (test : ℕ → Bool) (n : ℕ) → test n ≡ true → numbers_below test (suc n) ≡ numbers_below test n ++ n ∷ []
unfolding numbers_below
with_last test n e = by_case (test n) e
  where
    by_case : (b : Bool) → b ≡ true → (if b then numbers_below test n ++ n ∷ [] else numbers_below test n) ≡ numbers_below test n ++ n ∷ []
    by_case true e = refl
    by_case false e = absurd (cc)

without_last : (test : ℕ → Bool) (n : ℕ) → test n ≡ false → numbers_below test (suc n) ≡ numbers_below test n
unfolding numbers_below
without_last test n e = by_case (test n) e
  where
    by_case : (b : Bool) → b ≡ false → (if b then numbers_below test n ++ n ∷ [] else numbers_below test n) ≡ numbers_below test n
    by_case true e = absurd (cc)
    by_case false e = refl

abbrev Listed : List ℕ → ℕ → Type 0
Listed xs y = (i : ℕ) × (i < length xs) × (get_or xs i 0 ≡ y)

listed_front : (xs : List ℕ) (n y : ℕ) → Listed xs y → Listed (xs ++ n ∷ []) y
listed_front xs n y h = (h.0, (let long = length-append xs (n ∷ []) in let l = h.1 in omega arith), get_or-append xs (n ∷ []) 0 h.0 h.1 ∙ h.2)

listed_last : (xs : List ℕ) (n : ℕ) → Listed (xs ++ n ∷ []) n
listed_last xs n = (length xs, (let long : length (xs ++ n ∷ []) ≡ length xs + 1 = length-append xs (n ∷ []) in omega arith), get_or-append_seam xs n [] 0)

listed : (test : ℕ → Bool) (n y : ℕ) → y < n → test y ≡ true → Listed (numbers_below test n) y
listed test zero y l e = absurd (omega arith)
listed test (suc n) y l e = ⊎_elim
    (λ (on : test n ≡ true). subst (λ (xs : List ℕ). Listed xs y) (sym (with_last test n on)) (⊎_elim
    (λ (same : y ≡ n). subst (λ (k : ℕ). Listed (numbers_below test n ++ n ∷ []) k) (sym same) (listed_last (numbers_below test n) n))
    (λ (ne : y ≢ n). listed_front (numbers_below test n) n y (listed test n y (omega arith) e)) (cases_eq y n)))
    (λ (off : test n ≡ false). subst (λ (xs : List ℕ). Listed xs y) (sym (without_last test n off)) (listed test n y (⊎_elim
    (λ (same : y ≡ n). absurd (let at = ap test same in cc))
    (λ (ne : y ≢ n). omega arith) (cases_eq y n)) e))
    (yes_or_no (test n))

before_or_last : (i k : ℕ) → i < k + 1 → (i < k) ⊎ (i ≡ k)
before_or_last i k h = grind arith

low_or_last : (i n : ℕ) (xs : List ℕ) → i < length (xs ++ n ∷ []) → (i < length xs) ⊎ (i ≡ length xs)
low_or_last i n xs l = let long : length (xs ++ n ∷ []) ≡ length xs + 1 = length-append xs (n ∷ []) in before_or_last i (length xs) (omega arith)

passes : (test : ℕ → Bool) (n i : ℕ) → i < length (numbers_below test n) → test (get_or (numbers_below test n) i 0) ≡ true
unfolding numbers_below
passes test zero i l = absurd (omega arith)
passes test (suc n) i l = by_case (passes test n i) (test n) refl l
  where
    by_case : (i < length (numbers_below test n) → test (get_or (numbers_below test n) i 0) ≡ true) → (b : Bool) → test n ≡ b → i < length (if b then numbers_below test n ++ n ∷ [] else numbers_below test n) → test (get_or (if b then numbers_below test n ++ n ∷ [] else numbers_below test n) i 0) ≡ true
    by_case before true on l = ⊎_elim
        (λ (low : i < length (numbers_below test n)). ap test (get_or-append (numbers_below test n) (n ∷ []) 0 i low) ∙ before low)
        (λ (last : i ≡ length (numbers_below test n)). ap (λ (k : ℕ). test (get_or (numbers_below test n ++ n ∷ []) k 0)) last ∙ ap test (get_or-append_seam (numbers_below test n) n [] 0) ∙ on)
        (low_or_last i n (numbers_below test n) l)
    by_case before false off l = before l

same_test : (s t : ℕ → Bool) (n y : ℕ) → numbers_below s n ≡ numbers_below t n → y < n → s y ≡ true → t y ≡ true
same_test s t n y same l e =
    let h = subst (λ (xs : List ℕ). Listed xs y) same (listed s n y l e) in
    ap t (sym h.2) ∙ passes t n h.0 h.1

-- ---- one basis has one set of basic numbers
same_numbers : (p : Program) (d e : Dictionary) → IsDictionary p d → IsDictionary p e → basis_of p d ≡ basis_of p e → (y : ℕ) → IsBasic d y → IsBasic e y
same_numbers p d e a b same y h = ⊎_elim
    (λ (low : y < number_count p).
    let on : is_basic d y ≡ true = ap (is_basic d) (sym h.2) ∙ basic_is d (column_count p) (slack_count p) (number_count p) a.good h.0 h.1 in
    let there = less_of (row_of e y) e.height (same_test (is_basic d) (is_basic e) (number_count p) y same low on) in
    (row_of e y, there, place_is e.basic y e.height there))
    (λ (high : number_count p ≤ y). ⊎_elim
    (λ (at : h.0 ≡ slack_count p). (slack_count p, b.good.g_inside, b.goal ∙ sym a.goal ∙ ap d.basic (sym at) ∙ h.2))
    (λ (off : h.0 ≢ slack_count p). absurd (let small = a.good.basic_small h.0 h.1 off in let is = h.2 in omega arith)) (cases_eq h.0 (slack_count p)))
    (low_or_high y (number_count p))
  where
    low_or_high : (y n : ℕ) → (y < n) ⊎ (n ≤ y)
    low_or_high y n = grind arith

-- ---- the path leads on
leads_between : (p : Program) (m j k : ℕ) (d e : Dictionary) → k ≡ m + j → IsReached p j d → IsReached p k e → Leads (column_count p) (slack_count p) (number_count p) m d e
leads_between p zero j k d e is h g = let at : k ≡ j = omega arith in leads_none (column_count p) (slack_count p) (number_count p) d e (reached_same p j e d (subst (λ (i : ℕ). IsReached p i e) at g) h)
leads_between p (suc m) j zero d e is h g = absurd (omega arith)
leads_between p (suc m) j (suc k) d e is h g = leads_more (column_count p) (slack_count p) (number_count p) m d g.0 e (leads_between p m j k d g.0 (omega arith) h g.1) g.3

never_later : (p : Program) (j k : ℕ) (d e : Dictionary) → j < k → IsReached p j d → IsReached p k e → basis_of p d ≡ basis_of p e → ⊥
never_later p j k d e l h g same =
    let m = k - j in
    let at : m + j ≡ k = omega arith in
    let a = (reached_tracked p j d h).dictionary in
    let b = (reached_tracked p k e g).dictionary in
    leads_elsewhere (column_count p) (slack_count p) (number_count p) m d e a.good (leads_between p m j k d e (sym at) h g) (omega arith) (same_numbers p d e a b same) (same_numbers p e d b a (sym same))

pub no_basis_returns : (p : Program) → NoBasisReturns p
no_basis_returns p j k d e h g same = ⊎_elim
    (λ (is : j ≡ k). is)
    (λ o. ⊎_elim
    (λ (l : j < k). absurd (never_later p j k d e l h g same))
    (λ (l : k < j). absurd (never_later p k j e d l g h (sym same))) o) (cases_order j k)

pub path_ends : (p : Program) → PathEnds p
path_ends p k d h =
    let at : k + 0 ≡ k = omega arith in
    leads_few (column_count p) (slack_count p) (number_count p) k (first p) d (first_tracked p).dictionary.good (leads_between p k 0 k (first p) d (sym at) refl h)

pub on_path : (p : Program) (d : Dictionary) → IsOnPath p d → IsDictionary p d
on_path p d h = (reached_tracked p h.0 d h.1).dictionary

pub one_of_basis : (p : Program) → OneDictionary p
one_of_basis p d e a b covers = one_dictionary d e a.good.proper b.good.proper (λ v s. (b.solutions v).0 ((a.solutions v).1 s)) covers
