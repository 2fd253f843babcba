-- The first dictionary, its solutions, and those of all dictionaries of the program.
use Rattle.std.proofs.Common.{◌≡◌, ℕ, suc, zero, ◌<◌, ◌≤◌, ◌+◌, ◌-◌, sym, ap, ◌∙◌, refl, arith, ◌≢◌, subst, inl, inr}
use Rattle.std.specs.Prelude.{◌⊎◌, ◌==◌, if◌then◌else◌, nat_lt}
use Rattle.std.proofs.lemmas.Bool.{cases_eq}
use Rattle.std.proofs.lemmas.Bool.Decides.{nat_tests}
use Rattle.std.proofs.Math.Logic.{⊎_elim}
use Rattle.sm_frac.specs.Rational.{ℚ, ◌+ℚ◌, ◌*ℚ◌, ◌-ℚ◌, neg_ℚ, zero_ℚ, one_ℚ}
use Rattle.std.specs.Prelude.{pos}
use Rattle.std.proofs.lemmas.Int.{ints}
use Rattle.sm_frac.proofs.OperationLemmas.{fraction_cross}
use Rattle.sm_frac.proofs.RationalRing.{ring}
use Rattle.sm_certificate.specs.declared.program.Program.{Program}
use Rattle.sm_certificate.specs.Signs.{AtLeast}
use Rattle.sm_lp.specs.Dictionary.{Dictionary, Solves, IsProper, pivot}
use Rattle.sm_certificate.specs.Totals.{total}
use Rattle.sm_lp.specs.Moves.{IsGood, IsMove}
use Rattle.sm_lp.specs.Turn.{HasLeaving}
use Rattle.sm_certificate.specs.Program.{column_count, low, high, cost}
use Rattle.sm_certificate.specs.Slacks.{half_count, half_at, slack_count, number_count}
use Rattle.sm_lp.specs.First.{affine, half_entry, end_entry, goal_entry, first_entry, first}
use Rattle.sm_lp.specs.Path.{IsDictionary, IsReached}
use Rattle.sm_certificate.proofs.Signs.{moved, both_zero}
use Rattle.sm_certificate.proofs.Totals.{total_same, total-zero, total_split, without, without_at, without_off, low_or_high}
use Rattle.sm_lp.proofs.Points.{column_point, column_point_nonbasic, column_point_solves, unit_at, unit_off}
use Rattle.sm_lp.proofs.PivotLemmas.{solves_pivot, solves_before, replaced_off}
use Rattle.sm_lp.proofs.Clash.{Occurs, point_at_least}
use Rattle.sm_lp.proofs.Return.{entry_not_zero, good_after, occurs_after}
use Rattle.sm_lp.proofs.RuleLemmas.{next_moves}

pub affine_low : (n : ℕ) (a : ℕ → ℚ) (k : ℚ) (j : ℕ) → j < n → affine n a k j ≡ a j
unfolding affine
affine_low n a k j h = grind (arith, nat_tests)

pub affine_at : (n : ℕ) (a : ℕ → ℚ) (k : ℚ) (j : ℕ) → j ≡ n → affine n a k j ≡ k
unfolding affine
affine_at n a k j h = grind (arith, nat_tests)

pub affine_past : (n : ℕ) (a : ℕ → ℚ) (k : ℚ) (j : ℕ) → n < j → affine n a k j ≡ zero_ℚ
unfolding affine
affine_past n a k j h = grind (arith, nat_tests)

pub first_half : (p : Program) (i j : ℕ) → i < half_count p → first_entry p i j ≡ half_entry p (half_at p i) j
unfolding first_entry
first_half p i j h = grind (arith, nat_tests)

pub first_end : (p : Program) (k j : ℕ) → k < column_count p → first_entry p (half_count p + k) j ≡ end_entry p k j
unfolding first_entry
first_end p k j h =
    let e : half_count p + k - half_count p ≡ k = omega arith in
    step (half_count p + k) e (omega arith) (omega arith)
  where
    pick : (i : ℕ) → half_count p ≤ i → i < slack_count p → (if nat_lt i (half_count p) then half_entry p (half_at p i) j else (if nat_lt i (slack_count p) then end_entry p (i - half_count p) j else (if i == slack_count p then goal_entry p j else zero_ℚ))) ≡ end_entry p (i - half_count p) j
    pick i low high = grind (arith, nat_tests)

    step : (i : ℕ) → i - half_count p ≡ k → half_count p ≤ i → i < slack_count p → (if nat_lt i (half_count p) then half_entry p (half_at p i) j else (if nat_lt i (slack_count p) then end_entry p (i - half_count p) j else (if i == slack_count p then goal_entry p j else zero_ℚ))) ≡ end_entry p k j
    step i e low high = pick i low high ∙ ap (λ (x : ℕ). end_entry p x j) e

pub first_goal : (p : Program) (i j : ℕ) → i ≡ slack_count p → first_entry p i j ≡ goal_entry p j
unfolding first_entry
first_goal p i j e = grind (arith, nat_tests)

pub first_past : (p : Program) (i j : ℕ) → slack_count p < i → first_entry p i j ≡ zero_ℚ
unfolding first_entry
first_past p i j e = grind (arith, nat_tests)

pub first_right : (p : Program) (i j : ℕ) → column_count p < j → first_entry p i j ≡ zero_ℚ
first_right p i j h = ⊎_elim
    (λ (a : i < half_count p). first_half p i j a ∙ affine_past (column_count p) (half_at p i).coefficient (total (column_count p) (λ j. (half_at p i).coefficient j *ℚ low p j) -ℚ (half_at p i).bound) j h)
    (λ (b : half_count p ≤ i). ⊎_elim
    (λ (c : i < slack_count p).
    let at : i ≡ half_count p + (i - half_count p) = omega arith in
    ap (λ (x : ℕ). first_entry p x j) at ∙ first_end p (i - half_count p) j (omega arith) ∙ affine_past (column_count p) (λ q. if q == i - half_count p then neg_ℚ one_ℚ else zero_ℚ) (high p (i - half_count p) -ℚ low p (i - half_count p)) j h)
    (λ (d : slack_count p ≤ i). ⊎_elim
    (λ (e : i ≡ slack_count p). first_goal p i j e ∙ affine_past (column_count p) (cost p) (total (column_count p) (λ j. cost p j *ℚ low p j)) j h)
    (λ (ne : i ≢ slack_count p). first_past p i j (omega arith)) (cases_eq i (slack_count p)))
    (low_or_high i (slack_count p)))
    (low_or_high i (half_count p))

basic_number : (s n i : ℕ) → i < suc s → (if nat_lt i (suc s) then n + i else 0) ≡ n + i
basic_number s n i h = grind (arith, nat_tests)

column_number : (n last j : ℕ) → j < n → (if nat_lt j n then j else (if j == n then last else 0)) ≡ j
column_number n last j h = grind (arith, nat_tests)

constant_number : (n last : ℕ) → (if nat_lt n n then n else (if n == n then last else 0)) ≡ last
constant_number n last = grind (arith, nat_tests)

pub first_basic : (p : Program) (i : ℕ) → i < suc (slack_count p) → (first p).basic i ≡ column_count p + i
unfolding first
first_basic p i h = basic_number (slack_count p) (column_count p) i h

pub first_nonbasic : (p : Program) (j : ℕ) → j < column_count p → (first p).nonbasic j ≡ j
unfolding first
first_nonbasic p j h = column_number (column_count p) (suc (number_count p)) j h

pub first_constant : (p : Program) → (first p).nonbasic (column_count p) ≡ suc (number_count p)
unfolding first
first_constant p = constant_number (column_count p) (suc (number_count p))

pub first_height : (p : Program) → (first p).height ≡ suc (slack_count p)
unfolding first
first_height p = refl

pub first_width : (p : Program) → (first p).width ≡ suc (column_count p)
unfolding first
first_width p = refl

pub first_entries : (p : Program) → (first p).entry ≡ first_entry p
unfolding first
first_entries p = refl

-- the number of a column or the constant
column_or_constant : (p : Program) (j : ℕ) → j < suc (column_count p) → ((j < column_count p) × ((first p).nonbasic j ≡ j)) ⊎ ((j ≡ column_count p) × ((first p).nonbasic j ≡ suc (number_count p)))
column_or_constant p j h = ⊎_elim
    (λ (e : j ≡ column_count p). inr (e, ap (first p).nonbasic e ∙ first_constant p))
    (λ (ne : j ≢ column_count p). inl ((omega arith), first_nonbasic p j (omega arith)))
    (cases_eq j (column_count p))

pub first_proper : (p : Program) → IsProper (first p)
first_proper p = record {
  basic_apart = λ i k hi hk e.
      let a = first_basic p i (high i hi) in
      let b = first_basic p k (high k hk) in
      omega arith;
  nonbasic_apart = λ i k hi hk e. ⊎_elim
      (λ (a : (i < column_count p) × ((first p).nonbasic i ≡ i)). ⊎_elim
      (λ (b : (k < column_count p) × ((first p).nonbasic k ≡ k)). sym a.1 ∙ e ∙ b.1)
      (λ (b : (k ≡ column_count p) × ((first p).nonbasic k ≡ suc (number_count p))). absurd (let x = a.1 in let y = b.1 in let l = a.0 in omega arith)) (column_or_constant p k (wide k hk)))
      (λ (a : (i ≡ column_count p) × ((first p).nonbasic i ≡ suc (number_count p))). ⊎_elim
      (λ (b : (k < column_count p) × ((first p).nonbasic k ≡ k)). absurd (let x = a.1 in let y = b.1 in let l = b.0 in omega arith))
      (λ (b : (k ≡ column_count p) × ((first p).nonbasic k ≡ suc (number_count p))). a.0 ∙ sym b.0) (column_or_constant p k (wide k hk)))
      (column_or_constant p i (wide i hi));
  apart = λ i j hi hj e.
      let a = first_basic p i (high i hi) in
      let l = high i hi in
      ⊎_elim
      (λ (b : (j < column_count p) × ((first p).nonbasic j ≡ j)). absurd (let y = b.1 in let x = b.0 in omega arith))
      (λ (b : (j ≡ column_count p) × ((first p).nonbasic j ≡ suc (number_count p))). absurd (let y = b.1 in omega arith))
      (column_or_constant p j (wide j hj));
}
  where
    high : (i : ℕ) → i < (first p).height → i < suc (slack_count p)
    high i h = subst (λ (x : ℕ). i < x) (first_height p) h

    wide : (j : ℕ) → j < (first p).width → j < suc (column_count p)
    wide j h = subst (λ (x : ℕ). j < x) (first_width p) h

pub first_good : (p : Program) → IsGood (first p) (column_count p) (slack_count p) (number_count p)
first_good p = record {
  proper = first_proper p;
  f_inside = let w = first_width p in omega arith;
  g_inside = let h = first_height p in omega arith;
  nonbasic_small = λ j hj ne. let w = first_width p in let e = first_nonbasic p j (omega arith) in omega arith;
  basic_small = λ i hi ne. let h = first_height p in let e = first_basic p i (omega arith) in omega arith;
  f_great = let e = first_constant p in omega arith;
  g_great = let e = first_basic p (slack_count p) (omega arith) in omega arith;
}

-- ---- the solutions of the first dictionary
affine_total : (n : ℕ) (a : ℕ → ℚ) (k : ℚ) (nb : ℕ → ℕ) (c : ℕ) (v : ℕ → ℚ) → ((j : ℕ) → j < n → nb j ≡ j) → nb n ≡ c → total (suc n) (λ j. affine n a k j *ℚ v (nb j)) ≡ total n (λ j. a j *ℚ v j) +ℚ k *ℚ v c
unfolding total
affine_total n a k nb c v low at =
    ap (λ (x : ℚ). x +ℚ affine n a k n *ℚ v (nb n)) (total_same n (λ j. affine n a k j *ℚ v (nb j)) (λ j. a j *ℚ v j) (λ j h. ap (λ (x : ℚ). x *ℚ v (nb j)) (affine_low n a k j h) ∙ ap (λ (x : ℕ). a j *ℚ v x) (low j h)))
    ∙ ap (λ (x : ℚ). total n (λ j. a j *ℚ v j) +ℚ x *ℚ v (nb n)) (affine_at n a k n refl)
    ∙ ap (λ (x : ℕ). total n (λ j. a j *ℚ v j) +ℚ k *ℚ v x) at

alone_here : (k j : ℕ) → j ≡ k → (if j == k then neg_ℚ one_ℚ else zero_ℚ) ≡ neg_ℚ one_ℚ
alone_here k j e = grind (arith, nat_tests)

alone_off : (k j : ℕ) → j ≢ k → (if j == k then neg_ℚ one_ℚ else zero_ℚ) ≡ zero_ℚ
alone_off k j e = grind (arith, nat_tests)

zero_times : (x : ℚ) → zero_ℚ *ℚ x ≡ zero_ℚ
zero_times x = simp ring

alone_sum : (x : ℚ) → zero_ℚ +ℚ neg_ℚ one_ℚ *ℚ x ≡ neg_ℚ x
alone_sum x = simp ring

alone_total : (n k : ℕ) (v : ℕ → ℚ) → k < n → total n (λ j. (if j == k then neg_ℚ one_ℚ else zero_ℚ) *ℚ v j) ≡ neg_ℚ (v k)
alone_total n k v h =
    let F = λ (j : ℕ). (if j == k then neg_ℚ one_ℚ else zero_ℚ) *ℚ v j in
    total_split n k F h
    ∙ ap (λ (x : ℚ). x +ℚ F k) (total-zero n (without k F) (λ j l. ⊎_elim (λ (e : j ≡ k). without_at k F j e) (λ (ne : j ≢ k). without_off k F j ne ∙ ap (λ (x : ℚ). x *ℚ v j) (alone_off k j ne) ∙ zero_times (v j)) (cases_eq j k)))
    ∙ ap (λ (x : ℚ). zero_ℚ +ℚ x *ℚ v k) (alone_here k k refl)
    ∙ alone_sum (v k)

-- the values v of the numbers satisfy the program's equations
pub record Balances (p : Program) (v : ℕ → ℚ) : Type 0 where
  pub rows : (i : ℕ) → i < half_count p → v (column_count p + i) ≡ total (column_count p) (λ j. (half_at p i).coefficient j *ℚ v j) +ℚ (total (column_count p) (λ j. (half_at p i).coefficient j *ℚ low p j) -ℚ (half_at p i).bound) *ℚ v (suc (number_count p))
  pub ends : (k : ℕ) → k < column_count p → v (column_count p + (half_count p + k)) ≡ neg_ℚ (v k) +ℚ (high p k -ℚ low p k) *ℚ v (suc (number_count p))
  pub goal : v (number_count p) ≡ total (column_count p) (λ j. cost p j *ℚ v j) +ℚ total (column_count p) (λ j. cost p j *ℚ low p j) *ℚ v (suc (number_count p))

module _ (p : Program) (v : ℕ → ℚ) where
  row_of_first : ℕ → Type 0
  row_of_first i = v (column_count p + i) ≡ total (suc (column_count p)) (λ j. first_entry p i j *ℚ v ((first p).nonbasic j))

  solved_row : Solves (first p) v → (i : ℕ) → i < suc (slack_count p) → row_of_first i
  unfolding first row_of_first
  solved_row s i h = ap v (sym (basic_number (slack_count p) (column_count p) i h)) ∙ s i h

  spelled : (i : ℕ) (a : ℕ → ℚ) (k : ℚ) → ((j : ℕ) → first_entry p i j ≡ affine (column_count p) a k j) → row_of_first i → v (column_count p + i) ≡ total (column_count p) (λ j. a j *ℚ v j) +ℚ k *ℚ v (suc (number_count p))
  unfolding row_of_first
  spelled i a k e r = r
      ∙ total_same (suc (column_count p)) (λ j. first_entry p i j *ℚ v ((first p).nonbasic j)) (λ j. affine (column_count p) a k j *ℚ v ((first p).nonbasic j)) (λ j l. ap (λ (x : ℚ). x *ℚ v ((first p).nonbasic j)) (e j))
      ∙ affine_total (column_count p) a k (first p).nonbasic (suc (number_count p)) v (first_nonbasic p) (first_constant p)

  pub balances : Solves (first p) v → Balances p v
  balances s = record {
    rows = λ i h. spelled i (half_at p i).coefficient (total (column_count p) (λ j. (half_at p i).coefficient j *ℚ low p j) -ℚ (half_at p i).bound) (λ j. first_half p i j h) (solved_row s i (omega arith));
    ends = λ k h. spelled (half_count p + k) (λ j. if j == k then neg_ℚ one_ℚ else zero_ℚ) (high p k -ℚ low p k) (λ j. first_end p k j h) (solved_row s (half_count p + k) (omega arith))
        ∙ ap (λ (x : ℚ). x +ℚ (high p k -ℚ low p k) *ℚ v (suc (number_count p))) (alone_total (column_count p) k v h);
    goal = spelled (slack_count p) (cost p) (total (column_count p) (λ j. cost p j *ℚ low p j)) (λ j. first_goal p (slack_count p) j refl) (solved_row s (slack_count p) (omega arith));
  }

-- ---- all dictionaries of the path
pub record IsTracked (p : Program) (d : Dictionary) : Type 0 where
  pub dictionary : IsDictionary p d
  pub occurs : (y : ℕ) → y < number_count p → Occurs d y

pub first_tracked : (p : Program) → IsTracked p (first p)
first_tracked p = record {
  dictionary = record {
    good = first_good p;
    constant = first_constant p;
    goal = first_basic p (slack_count p) (omega arith);
    height = first_height p;
    width = first_width p;
    solutions = λ v. (λ s. s, λ s. s);
  };
  occurs = λ y h. ⊎_elim
      (λ (l : y < column_count p). inr (y, (let w = first_width p in omega arith), first_nonbasic p y l))
      (λ (l : column_count p ≤ y). inl (y - column_count p, (let w = first_height p in omega arith), first_basic p (y - column_count p) (omega arith) ∙ omega arith))
      (low_or_high y (column_count p));
}

pub tracked_after : (p : Program) (d : Dictionary) (r c : ℕ) → IsTracked p d → IsMove d (column_count p) (slack_count p) r c → IsTracked p (pivot d r c)
tracked_after p d r c t m =
    let k = t.dictionary in
    let some = entry_not_zero d (column_count p) (slack_count p) r c m in
    record {
      dictionary = record {
        good = good_after d (column_count p) (slack_count p) (number_count p) r c m k.good;
        constant = replaced_off d.width d.nonbasic c (d.basic r) (column_count p) k.good.f_inside (λ e. m.not_constant (sym e)) ∙ k.constant;
        goal = replaced_off d.height d.basic r (d.nonbasic c) (slack_count p) k.good.g_inside (λ e. m.not_goal (sym e)) ∙ k.goal;
        height = k.height;
        width = k.width;
        solutions = λ v. (λ s. solves_pivot d r c v m.row m.column some ((k.solutions v).0 s), λ s. (k.solutions v).1 (solves_before d r c v m.row m.column some s));
      };
      occurs = λ y h. occurs_after d r c y m.row m.column (t.occurs y h);
    }

pub reached_tracked : (p : Program) (k : ℕ) (d : Dictionary) → IsReached p k d → IsTracked p d
reached_tracked p zero d h = subst (IsTracked p) (sym h) (first_tracked p)
reached_tracked p (suc k) d h =
    let t = reached_tracked p k h.0 h.1 in
    let m = next_moves (column_count p) (slack_count p) (number_count p) h.0 d t.dictionary.good h.3 in
    subst (IsTracked p) m.3 (tracked_after p h.0 m.0 m.1 t m.2)

-- ---- a column has two ends, so some number leaves when it enters
no_sum : (x y : ℚ) → AtLeast x → AtLeast y → y ≡ neg_ℚ x → x ≡ zero_ℚ
no_sum x y hx hy e = both_zero x hx (moved y (neg_ℚ x) e hy)

flat : (x k z : ℚ) → z ≡ zero_ℚ → neg_ℚ x +ℚ k *ℚ z ≡ neg_ℚ x
flat x k z e = ap (λ (w : ℚ). neg_ℚ x +ℚ k *ℚ w) e ∙ tidy x k
  where
    tidy : (x k : ℚ) → neg_ℚ x +ℚ k *ℚ zero_ℚ ≡ neg_ℚ x
    tidy x k = simp ring

flat_sum : (s k z : ℚ) → s ≡ zero_ℚ → z ≡ zero_ℚ → s +ℚ k *ℚ z ≡ zero_ℚ
flat_sum s k z es ez = ap (λ (w : ℚ). w +ℚ k *ℚ z) es ∙ ap (λ (w : ℚ). zero_ℚ +ℚ k *ℚ w) ez ∙ tidy k
  where
    tidy : (k : ℚ) → zero_ℚ +ℚ k *ℚ zero_ℚ ≡ zero_ℚ
    tidy k = simp ring

times_none : (a x : ℚ) → x ≡ zero_ℚ → a *ℚ x ≡ zero_ℚ
times_none a x e = ap (λ (w : ℚ). a *ℚ w) e ∙ tidy a
  where
    tidy : (a : ℚ) → a *ℚ zero_ℚ ≡ zero_ℚ
    tidy a = simp ring

pub some_leaves : (p : Program) (d : Dictionary) → IsTracked p d → HasLeaving d (column_count p) (slack_count p)
some_leaves p d t c hc all =
    let k = t.dictionary in
    let g = k.good in
    let w = k.width in
    let inside : c < d.width = omega arith in
    let v = column_point d c in
    let b = balances p v ((k.solutions v).1 (column_point_solves d c g.proper)) in
    let constant : v (suc (number_count p)) ≡ zero_ℚ = ap v (sym k.constant) ∙ column_point_nonbasic d c g.proper (column_count p) g.f_inside ∙ unit_off c (column_count p) (omega arith) in
    let low_all = λ (y : ℕ) (h : y < number_count p). point_at_least d c (number_count p) g.proper inside (λ i hi less. all i (let top = k.height in let big = k.goal in row_low i hi less)) y h (t.occurs y h) in
    let columns = λ (j : ℕ) (h : j < column_count p). no_sum (v j) (v (column_count p + (half_count p + j))) (low_all j (omega arith)) (low_all (column_count p + (half_count p + j)) (omega arith)) (b.ends j h ∙ flat (v j) (high p j -ℚ low p j) (v (suc (number_count p))) constant) in
    let number = d.nonbasic c in
    let small : number < number_count p = g.nonbasic_small c inside (omega arith) in
    let is_one : v number ≡ one_ℚ = column_point_nonbasic d c g.proper c inside ∙ unit_at c c refl in
    one_zero (sym is_one ∙ every v b constant columns number small)
  where
    row_low : (i : ℕ) → i < d.height → d.basic i < number_count p → i < slack_count p
    row_low i hi less =
        let top = t.dictionary.height in
        ⊎_elim (λ (e : i ≡ slack_count p). absurd (let same = ap d.basic e in let big = t.dictionary.goal in omega arith)) (λ (ne : i ≢ slack_count p). omega arith) (cases_eq i (slack_count p))

    one_zero : one_ℚ ≡ zero_ℚ → ⊥
    one_zero e = absurd (let cross = fraction_cross (pos 1) (pos 0) 1 1 (omega arith) (omega arith) e in omega (arith, ints))

    neg_zero : neg_ℚ zero_ℚ ≡ zero_ℚ
    neg_zero = simp ring

    every : (v : ℕ → ℚ) → Balances p v → v (suc (number_count p)) ≡ zero_ℚ → ((j : ℕ) → j < column_count p → v j ≡ zero_ℚ) → (y : ℕ) → y < number_count p → v y ≡ zero_ℚ
    every v b constant columns y h = ⊎_elim
        (λ (l : y < column_count p). columns y l)
        (λ (l : column_count p ≤ y). ⊎_elim
        (λ (m : y - column_count p < half_count p).
        let e : y ≡ column_count p + (y - column_count p) = omega arith in
        ap v e ∙ b.rows (y - column_count p) m ∙ flat_sum (total (column_count p) (λ j. (half_at p (y - column_count p)).coefficient j *ℚ v j)) (total (column_count p) (λ j. (half_at p (y - column_count p)).coefficient j *ℚ low p j) -ℚ (half_at p (y - column_count p)).bound) (v (suc (number_count p)))
        (total-zero (column_count p) (λ j. (half_at p (y - column_count p)).coefficient j *ℚ v j) (λ j hj. times_none ((half_at p (y - column_count p)).coefficient j) (v j) (columns j hj))) constant)
        (λ (m : half_count p ≤ y - column_count p).
        let k = y - column_count p - half_count p in
        let e : y ≡ column_count p + (half_count p + k) = omega arith in
        let hk : k < column_count p = omega arith in
        ap v e ∙ b.ends k hk ∙ flat (v k) (high p k -ℚ low p k) (v (suc (number_count p))) constant ∙ ap neg_ℚ (columns k hk) ∙ neg_zero)
        (low_or_high (y - column_count p) (half_count p)))
        (low_or_high y (column_count p))
