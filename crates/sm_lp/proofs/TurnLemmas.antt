-- The search for the next move.
use Rattle.std.proofs.Common.{◌≡◌, ℕ, suc, ◌<◌, ◌≤◌, ◌≢◌, sym, ap, arith, inl, inr, subst, ◌+◌}
use Rattle.std.specs.Prelude.{MatchOption, Option, Some, None, Bool, true, false}
use Rattle.std.proofs.lemmas.Bool.{cases_eq}
use Rattle.std.proofs.Math.Logic.{⊎_elim}
use Rattle.sm_lp.specs.Dictionary.{Dictionary}
use Rattle.sm_lp.specs.Moves.{IsMove, IsOptimal, IsInfeasible}
use Rattle.sm_certificate.specs.Signs.{AtLeast, Below}
use Rattle.sm_lp.specs.Table.{IsLeaving, NoneLeaves, IsEntering, NoneEnters, HasSign, LacksSign}
use Rattle.sm_lp.specs.Turn.{NeedsByRow, NeedsByColumn}

abbrev pub LeavingSoFar : Dictionary → ℕ → ℕ → Option ℕ → Type 0
LeavingSoFar d c i best = MatchOption best (NoneLeaves d i c) (λ r. IsLeaving d i c r)

abbrev pub EnteringSoFar : Dictionary → ℕ → Bool → ℕ → Option ℕ → Type 0
EnteringSoFar d r positive j best = MatchOption best (NoneEnters d j r positive) (λ c. IsEntering d j r positive c)

-- ---- one more row
pub leaving_skip : (d : Dictionary) (c i : ℕ) (best : Option ℕ) → LeavingSoFar d c i best → AtLeast (d.entry i c) → LeavingSoFar d c (i + 1) best
leaving_skip d c i None h a = record { none = λ k l. ⊎_elim (λ (e : k ≡ i). subst (λ (q : ℕ). AtLeast (d.entry q c)) (sym e) a) (λ (ne : k ≢ i). h.none k (omega arith)) (cases_eq k i) }
leaving_skip d c i (Some r) h a = record {
  row = let low = h.row in omega arith;
  negative = h.negative;
  others = λ k l less. ⊎_elim (λ (e : k ≡ i). subst (λ (q : ℕ). AtLeast (d.entry q c)) (sym e) a) (λ (ne : k ≢ i). h.others k (omega arith) less) (cases_eq k i);
}

pub leaving_keep : (d : Dictionary) (c i r : ℕ) → IsLeaving d i c r → d.basic r ≤ d.basic i → IsLeaving d (i + 1) c r
leaving_keep d c i r h le = record {
  row = let low = h.row in omega arith;
  negative = h.negative;
  others = λ k l less. ⊎_elim (λ (e : k ≡ i). absurd (let same = ap d.basic e in omega arith)) (λ (ne : k ≢ i). h.others k (omega arith) less) (cases_eq k i);
}

pub leaving_take : (d : Dictionary) (c i r : ℕ) → IsLeaving d i c r → d.basic i < d.basic r → Below (d.entry i c) → IsLeaving d (i + 1) c i
leaving_take d c i r h lt b = record {
  row = omega arith;
  negative = b;
  others = λ k l less. ⊎_elim (λ (e : k ≡ i). absurd (let same = ap d.basic e in omega arith)) (λ (ne : k ≢ i). h.others k (omega arith) (omega arith)) (cases_eq k i);
}

pub leaving_first : (d : Dictionary) (c i : ℕ) → NoneLeaves d i c → Below (d.entry i c) → IsLeaving d (i + 1) c i
leaving_first d c i h b = record {
  row = omega arith;
  negative = b;
  others = λ k l less. ⊎_elim (λ (e : k ≡ i). absurd (let same = ap d.basic e in omega arith)) (λ (ne : k ≢ i). h.none k (omega arith)) (cases_eq k i);
}

-- ---- one more column
pub entering_skip : (d : Dictionary) (r : ℕ) (s : Bool) (j : ℕ) (best : Option ℕ) → EnteringSoFar d r s j best → LacksSign s (d.entry r j) → EnteringSoFar d r s (j + 1) best
entering_skip d r s j None h a = record { none = λ k l. ⊎_elim (λ (e : k ≡ j). subst (λ (q : ℕ). LacksSign s (d.entry r q)) (sym e) a) (λ (ne : k ≢ j). h.none k (omega arith)) (cases_eq k j) }
entering_skip d r s j (Some c) h a = record {
  column = let low = h.column in omega arith;
  sign = h.sign;
  others = λ k l less. ⊎_elim (λ (e : k ≡ j). subst (λ (q : ℕ). LacksSign s (d.entry r q)) (sym e) a) (λ (ne : k ≢ j). h.others k (omega arith) less) (cases_eq k j);
}

pub entering_keep : (d : Dictionary) (r : ℕ) (s : Bool) (j c : ℕ) → IsEntering d j r s c → d.nonbasic c ≤ d.nonbasic j → IsEntering d (j + 1) r s c
entering_keep d r s j c h le = record {
  column = let low = h.column in omega arith;
  sign = h.sign;
  others = λ k l less. ⊎_elim (λ (e : k ≡ j). absurd (let same = ap d.nonbasic e in omega arith)) (λ (ne : k ≢ j). h.others k (omega arith) less) (cases_eq k j);
}

pub entering_take : (d : Dictionary) (r : ℕ) (s : Bool) (j c : ℕ) → IsEntering d j r s c → d.nonbasic j < d.nonbasic c → HasSign s (d.entry r j) → IsEntering d (j + 1) r s j
entering_take d r s j c h lt b = record {
  column = omega arith;
  sign = b;
  others = λ k l less. ⊎_elim (λ (e : k ≡ j). absurd (let same = ap d.nonbasic e in omega arith)) (λ (ne : k ≢ j). h.others k (omega arith) (omega arith)) (cases_eq k j);
}

pub entering_first : (d : Dictionary) (r : ℕ) (s : Bool) (j : ℕ) → NoneEnters d j r s → HasSign s (d.entry r j) → IsEntering d (j + 1) r s j
entering_first d r s j h b = record {
  column = omega arith;
  sign = b;
  others = λ k l less. ⊎_elim (λ (e : k ≡ j). absurd (let same = ap d.nonbasic e in omega arith)) (λ (ne : k ≢ j). h.none k (omega arith)) (cases_eq k j);
}

-- ---- what the two searches say together
module _ (d : Dictionary) (f g : ℕ) (high : d.height ≡ suc g) (wide : d.width ≡ suc f) where
  below_g : (i : ℕ) → i < d.height → i ≢ g → i < g
  below_g i l ne = omega arith

  below_f : (j : ℕ) → j < d.width → j ≢ f → j < f
  below_f j l ne = omega arith

  pub optimal_turn : NoneLeaves d g f → NoneEnters d f g false → IsOptimal d f g
  optimal_turn h k = record { goal = λ j l ne. k.none j (below_f j l ne); constants = λ i l ne. h.none i (below_g i l ne) }

  pub infeasible_turn : (r : ℕ) → NeedsByRow d f g r → NoneEnters d f r true → IsInfeasible d f g r
  infeasible_turn r h k = record {
    row = let low = h.row in omega arith;
    not_goal = λ e. let low = h.row in absurd (omega arith);
    constant = h.constant;
    none = λ j l ne. k.none j (below_f j l ne);
    goal = λ j l ne less. h.goal j (below_f j l ne) less;
    constants = λ i l ne less. h.constants i (below_g i l ne) less;
  }

  pub row_turn : (r c : ℕ) → NeedsByRow d f g r → IsEntering d f r true c → IsMove d f g r c
  row_turn r c h k = record {
    row = let low = h.row in omega arith;
    not_goal = λ e. let low = h.row in absurd (omega arith);
    column = let low = k.column in omega arith;
    not_constant = λ e. let low = k.column in absurd (omega arith);
    rule = inl (record {
      constant = h.constant;
      positive = k.sign;
      others = λ j l ne less. k.others j (below_f j l ne) less;
      goal = λ j l ne less. h.goal j (below_f j l ne) less;
      constants = λ i l ne less. h.constants i (below_g i l ne) less;
    });
  }

  pub column_turn : (r c : ℕ) → NeedsByColumn d f g c → IsLeaving d g c r → IsMove d f g r c
  column_turn r c h k = record {
    row = let low = k.row in omega arith;
    not_goal = λ e. let low = k.row in absurd (omega arith);
    column = let low = h.column in omega arith;
    not_constant = λ e. let low = h.column in absurd (omega arith);
    rule = inr (record {
      coefficient = h.coefficient;
      negative = k.negative;
      others = λ i l ne less. k.others i (below_g i l ne) less;
      goal = λ j l ne less. h.goal j (below_f j l ne) less;
      constants = λ i l ne less. h.constants i (below_g i l ne) less;
    });
  }

pub row_alone : (d : Dictionary) (f g r : ℕ) → IsLeaving d g f r → NoneEnters d f g false → NeedsByRow d f g r
row_alone d f g r h k = record { row = h.row; constant = h.negative; goal = λ j l less. k.none j l; constants = h.others }

pub column_alone : (d : Dictionary) (f g c : ℕ) → NoneLeaves d g f → IsEntering d f g false c → NeedsByColumn d f g c
column_alone d f g c h k = record { column = k.column; coefficient = k.sign; goal = k.others; constants = λ i l less. h.none i l }

pub row_before : (d : Dictionary) (f g r c : ℕ) → IsLeaving d g f r → IsEntering d f g false c → d.basic r < d.nonbasic c → NeedsByRow d f g r
row_before d f g r c h k lt = record { row = h.row; constant = h.negative; goal = λ j l less. k.others j l (omega arith); constants = h.others }

pub column_before : (d : Dictionary) (f g r c : ℕ) → IsLeaving d g f r → IsEntering d f g false c → d.nonbasic c ≤ d.basic r → NeedsByColumn d f g c
column_before d f g r c h k le = record { column = k.column; coefficient = k.sign; goal = k.others; constants = λ i l less. h.others i l (omega arith) }
