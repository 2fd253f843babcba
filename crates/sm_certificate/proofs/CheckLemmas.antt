-- What the check of a proposal finds.
use Rattle.std.proofs.Common.{◌≡◌, ℕ, ℤ, List, length, map, sym, ap, ◌∙◌, refl, subst, inl, inr, Vec, Global}
use Rattle.std.specs.Prelude.{All, Some, None, Result, Ok, Err, IfOk}
use Rattle.std.specs.Ordering.{MatchOrdering}
use Rattle.std.specs.declared.cmp.Ordering.{Ordering}
use Rattle.std.specs.declared.cmp.Ordering.TheVariants.{Less, Equal, Greater}
use Rattle.sm_frac.specs.Rational.{ℚ, ◌+ℚ◌, ◌-ℚ◌, ◌<ℚ◌, zero_ℚ, whole_ℚ}
use Rattle.sm_frac.proofs.RationalRing.{ring}
use Rattle.sm_frac.specs.Frac.{value_of}
use Rattle.sm_frac.specs.declared.fraction.Frac.{Frac}
use Rattle.sm_frac.specs.declared.operation.Op.{Op}
use Rattle.sm_frac.specs.declared.operation.RangePassed.{RangePassed}
use Rattle.sm_frac.proofs.Order.{lt_not_le, le_equal}
use Rattle.sm_certificate.specs.declared.program.Program.{Program}
use Rattle.sm_certificate.specs.declared.program.LpRow.{LpRow}
use Rattle.sm_certificate.specs.declared.program.OutOfMemory.{OutOfMemory}
use Rattle.sm_certificate.specs.declared.proposal.Proposal.{Proposal}
use Rattle.sm_certificate.specs.declared.proposal.Proposal.TheVariants.{Optimal, Infeasible}
use Rattle.sm_certificate.specs.declared.proposal.Checked.{Checked}
use Rattle.sm_certificate.specs.declared.proposal.Checked.TheVariants.{Certified, Refuted, Passed}
use Rattle.sm_certificate.specs.Signs.{AtMost, Above}
use Rattle.sm_certificate.specs.Program.{low, high, cost, cost_of, bound_of, target_at, least_rest, rest_coefficient, combined_bound, AreMultipliers, SatisfiesRow, point_value}
use Rattle.sm_certificate.specs.Fine.{AreFine}
use Rattle.sm_certificate.specs.Certificate.{IsOptimalPair, ShowsNoPoint, IsCertificate, IsProven}
use Rattle.sm_certificate.specs.Checking.{PassesAt, NonePasses, Finds, IsBoxed, IsTight, IsRowsStep, IsCostStep, IsBoundStep, IsPairStep, IsCombinationStep, IsCheckStep}
use Rattle.sm_certificate.proofs.CertificateLemmas.{certificate_proves}
use Rattle.sm_certificate.proofs.CombinationLemmas.{above_lt, at_most_not}
use Rattle.sm_certificate.proofs.BoundLemmas.{none_passes}

-- ---- no point
pub no_point_yes : (p : Program) (rows : List LpRow) (ys : List ℚ) (b : ℚ) → rows ≡ p.rows → AreMultipliers rows ys → b ≡ combined_bound p.rows ys +ℚ least_rest p (rest_coefficient p (λ _. zero_ℚ) ys) → Above b → ShowsNoPoint p ys
unfolding bound_of
no_point_yes p rows ys b er lawful eb above = record {
  multipliers_lawful = subst (λ (rs : List LpRow). AreMultipliers rs ys) er lawful;
  positive = subst (λ (x : ℚ). zero_ℚ <ℚ x) eb (above_lt b above);
}

pub no_point_no : (p : Program) (ys : List ℚ) (b : ℚ) → b ≡ combined_bound p.rows ys +ℚ least_rest p (rest_coefficient p (λ _. zero_ℚ) ys) → AtMost b → ShowsNoPoint p ys → ⊥
unfolding bound_of
no_point_no p ys b eb most h = at_most_not b most (subst (λ (x : ℚ). zero_ℚ <ℚ x) (sym eb) h.positive)

-- ---- a pair
pub pair_passed_rows : (p : Program) (k d : ℤ) (point : List ℤ) (ys : List ℚ) (rows : List LpRow) (op : Op) (x y : Frac) → rows ≡ p.rows → PassesAt (IsRowsStep rows point d) op x y → PassesAt (IsPairStep p k d point ys) op x y
pair_passed_rows p k d point ys rows op x y e h = record { step = inl (subst (λ (rs : List LpRow). IsRowsStep rs point d op (value_of x) (value_of y)) e h.step); passes = h.passes }

pub pair_passed_cost : (p : Program) (k d : ℤ) (point : List ℤ) (ys : List ℚ) (op : Op) (x y : Frac) → PassesAt (IsCostStep p k point d) op x y → PassesAt (IsPairStep p k d point ys) op x y
pair_passed_cost p k d point ys op x y h = record { step = inr (inl h.step); passes = h.passes }

-- the costs are the target
pub cost_target : (p : Program) (costs : List ℤ) → costs ≡ p.cost → target_at costs ≡ cost p
unfolding cost
cost_target p costs e = ap (λ (xs : List ℤ). target_at xs) e

pub pair_passed_bound : (p : Program) (k d : ℤ) (point : List ℤ) (ys : List ℚ) (costs : List ℤ) (op : Op) (x y : Frac) → costs ≡ p.cost → PassesAt (IsBoundStep p (target_at costs) (Some k) ys) op x y → PassesAt (IsPairStep p k d point ys) op x y
pair_passed_bound p k d point ys costs op x y e h = record { step = inr (inr (subst (λ (t : ℕ → ℚ). IsBoundStep p t (Some k) ys op (value_of x) (value_of y)) (cost_target p costs e) h.step)); passes = h.passes }

pub pair_none_passes : (p : Program) (k : ℤ) (ys : List ℚ) (costs : List ℤ) → costs ≡ p.cost → AreFine (IsBoundStep p (target_at costs) (Some k) ys) → NonePasses (IsBoundStep p (cost p) (Some k) ys)
pair_none_passes p k ys costs e fine = none_passes (IsBoundStep p (cost p) (Some k) ys) (subst (λ (t : ℕ → ℚ). AreFine (IsBoundStep p t (Some k) ys)) (cost_target p costs e) fine)

-- the constant stands on both sides
pub constant_cancels : (a b c z : ℚ) → a +ℚ z ≡ b +ℚ z +ℚ c → a ≡ b +ℚ c
constant_cancels a b c z e = first a z ∙ ap (λ (x : ℚ). x -ℚ z) e ∙ second b c z
  where
    first : (a z : ℚ) → a ≡ a +ℚ z -ℚ z
    first a z = simp ring

    second : (b c z : ℚ) → b +ℚ z +ℚ c -ℚ z ≡ b +ℚ c
    second b c z = simp ring

pub constant_joins : (a b c z : ℚ) → a ≡ b +ℚ c → a +ℚ z ≡ b +ℚ z +ℚ c
constant_joins a b c z e = ap (λ (x : ℚ). x +ℚ z) e ∙ order b c z
  where
    order : (b c z : ℚ) → b +ℚ c +ℚ z ≡ b +ℚ z +ℚ c
    order b c z = simp ring

pub tight_yes : (p : Program) (k d : ℤ) (point : List ℤ) (ys : List ℚ) (costs : List ℤ) (rows : List LpRow) (x y : ℚ) → rows ≡ p.rows → All (SatisfiesRow (length point) (point_value point d)) rows → costs ≡ p.cost → x ≡ cost_of p (point_value point d) +ℚ whole_ℚ k → y ≡ combined_bound p.rows ys +ℚ whole_ℚ k +ℚ least_rest p (rest_coefficient p (target_at costs) ys) → x ≡ y → IsTight p d point ys
unfolding bound_of
tight_yes p k d point ys costs rows x y er hold et ex ey e = record {
  rows = subst (λ (rs : List LpRow). All (SatisfiesRow (length point) (point_value point d)) rs) er hold;
  bound = constant_cancels (cost_of p (point_value point d)) (combined_bound p.rows ys) (least_rest p (rest_coefficient p (cost p) ys)) (whole_ℚ k) (sym ex ∙ e ∙ ey ∙ ap (λ (t : ℕ → ℚ). combined_bound p.rows ys +ℚ whole_ℚ k +ℚ least_rest p (rest_coefficient p t ys)) (cost_target p costs et));
}

pub tight_equal : (p : Program) (k d : ℤ) (point : List ℤ) (ys : List ℚ) (costs : List ℤ) (x y : ℚ) → costs ≡ p.cost → x ≡ cost_of p (point_value point d) +ℚ whole_ℚ k → y ≡ combined_bound p.rows ys +ℚ whole_ℚ k +ℚ least_rest p (rest_coefficient p (target_at costs) ys) → IsTight p d point ys → x ≡ y
unfolding bound_of
tight_equal p k d point ys costs x y et ex ey t = ex ∙ constant_joins (cost_of p (point_value point d)) (combined_bound p.rows ys) (least_rest p (rest_coefficient p (cost p) ys)) (whole_ℚ k) t.bound ∙ sym (ey ∙ ap (λ (s : ℕ → ℚ). combined_bound p.rows ys +ℚ whole_ℚ k +ℚ least_rest p (rest_coefficient p s ys)) (cost_target p costs et))

pub tight_rows : (p : Program) (d : ℤ) (point : List ℤ) (ys : List ℚ) (rows : List LpRow) → rows ≡ p.rows → IsTight p d point ys → All (SatisfiesRow (length point) (point_value point d)) rows
tight_rows p d point ys rows e t = subst (λ (rs : List LpRow). All (SatisfiesRow (length point) (point_value point d)) rs) (sym e) t.rows

pub not_same : (o : Ordering) (x y : ℚ) → (o ≡ Equal → ⊥) → MatchOrdering o (x <ℚ y) (x ≡ y) (y <ℚ x) → x ≡ y → ⊥
not_same Less x y ne m e = lt_not_le x y m (le_equal y x (sym e))
not_same Equal x y ne m e = ne refl
not_same Greater x y ne m e = lt_not_le y x m (le_equal x y e)

pub pair_boxed : (p : Program) (d : ℤ) (point : List ℤ) (ys : List ℚ) → IsOptimalPair p d point ys → IsBoxed p d point
unfolding low high
pair_boxed p d point ys h = record {
  above = h.above;
  long = h.long;
  inside = record { each = λ j l. record { least = h.satisfies.least_ends j l; greatest = h.satisfies.greatest_ends j l } };
}

pub pair_tight : (p : Program) (d : ℤ) (point : List ℤ) (ys : List ℚ) → IsOptimalPair p d point ys → IsTight p d point ys
pair_tight p d point ys h = record {
  rows = subst (λ (n : ℕ). All (SatisfiesRow n (point_value point d)) p.rows) (sym h.long) h.satisfies.rows;
  bound = h.bound;
}

pub pair_made : (p : Program) (d : ℤ) (point : List ℤ) (ys : List ℚ) (rows : List LpRow) → rows ≡ p.rows → IsBoxed p d point → AreMultipliers rows ys → IsTight p d point ys → IsOptimalPair p d point ys
unfolding low high
pair_made p d point ys rows e b m t = record {
  above = b.above;
  long = b.long;
  satisfies = record {
    least_ends = λ j l. (b.inside.each j l).least;
    greatest_ends = λ j l. (b.inside.each j l).greatest;
    rows = subst (λ (n : ℕ). All (SatisfiesRow n (point_value point d)) p.rows) b.long t.rows;
  };
  multipliers_lawful = subst (λ (rs : List LpRow). AreMultipliers rs ys) e m;
  bound = t.bound;
}

-- ---- what the public call says
-- what was found, and that no step of the combination passes where it is an answer
pub record IsFound (P : Type 0) (IsStep IsCombining : Op → ℚ → ℚ → Type 0) (c : Checked) : Type 0 where
  pub found : Finds P IsStep c
  pub none : c ≡ Certified → NonePasses IsCombining

abbrev pub FoundBy : Program → ℤ → Proposal → Checked → Type 0
FoundBy p k q c = IsFound (IsCertificate p q) (IsCheckStep p k q) (IsCombinationStep p k q) c

pub both_found : (P : Type 0) (S T : Op → ℚ → ℚ → Type 0) (res : Result Checked OutOfMemory) → IfOk res (λ c. Finds P S c) → IfOk res (λ c. c ≡ Certified → NonePasses T) → IfOk res (λ c. IsFound P S T c)
both_found P S T (Ok c) h k = record { found = h; none = k }
both_found P S T (Err x) h k = tt

pub found_optimal : (p : Program) (k : ℤ) (q : Proposal) (d : ℤ) (point : Vec ℤ Global) (ms : Vec Frac Global) (xs : List ℤ) (ys : List Frac) (res : Result Checked OutOfMemory) → q ≡ Optimal d point ms → xs ≡ point.items → ys ≡ ms.items
    → IfOk res (λ c. IsFound (IsOptimalPair p d xs (map value_of ys)) (IsPairStep p k d xs (map value_of ys)) (IsBoundStep p (cost p) (Some k) (map value_of ys)) c) → IfOk res (FoundBy p k q)
found_optimal p k q d point ms xs ys (Ok c) e ex ey h =
    subst (λ (r : Proposal). FoundBy p k r c) (sym e)
    (subst (λ (zs : List Frac). IsFound (IsOptimalPair p d point.items (map value_of zs)) (IsPairStep p k d point.items (map value_of zs)) (IsBoundStep p (cost p) (Some k) (map value_of zs)) c) ey
    (subst (λ (zs : List ℤ). IsFound (IsOptimalPair p d zs (map value_of ys)) (IsPairStep p k d zs (map value_of ys)) (IsBoundStep p (cost p) (Some k) (map value_of ys)) c) ex h))
found_optimal p k q d point ms xs ys (Err x) e ex ey h = tt

pub found_infeasible : (p : Program) (k : ℤ) (q : Proposal) (ms : Vec Frac Global) (ys : List Frac) (res : Result Checked OutOfMemory) → q ≡ Infeasible ms → ys ≡ ms.items
    → IfOk res (λ c. IsFound (ShowsNoPoint p (map value_of ys)) (IsBoundStep p (λ _. zero_ℚ) None (map value_of ys)) (IsBoundStep p (λ _. zero_ℚ) None (map value_of ys)) c) → IfOk res (FoundBy p k q)
found_infeasible p k q ms ys (Ok c) e ey h =
    subst (λ (r : Proposal). FoundBy p k r c) (sym e)
    (subst (λ (zs : List Frac). IsFound (ShowsNoPoint p (map value_of zs)) (IsBoundStep p (λ _. zero_ℚ) None (map value_of zs)) (IsBoundStep p (λ _. zero_ℚ) None (map value_of zs)) c) ey h)
found_infeasible p k q ms ys (Err x) e ey h = tt

pub found_certified : (p : Program) (k : ℤ) (q : Proposal) (res : Result Checked OutOfMemory) → IfOk res (FoundBy p k q) → IfOk res (λ c. c ≡ Certified → IsCertificate p q)
found_certified p k q (Ok Certified) h = λ e. h.found
found_certified p k q (Ok Refuted) h = λ e. absurd (cc)
found_certified p k q (Ok (Passed x)) h = λ e. absurd (cc)
found_certified p k q (Err x) h = tt

pub found_refuted : (p : Program) (k : ℤ) (q : Proposal) (res : Result Checked OutOfMemory) → IfOk res (FoundBy p k q) → IfOk res (λ c. c ≡ Refuted → IsCertificate p q → ⊥)
found_refuted p k q (Ok Certified) h = λ e. absurd (cc)
found_refuted p k q (Ok Refuted) h = λ e. h.found
found_refuted p k q (Ok (Passed x)) h = λ e. absurd (cc)
found_refuted p k q (Err x) h = tt

pub found_proven : (p : Program) (k : ℤ) (q : Proposal) (res : Result Checked OutOfMemory) → IfOk res (FoundBy p k q) → IfOk res (λ c. c ≡ Certified → IsProven p q)
found_proven p k q (Ok Certified) h = λ e. certificate_proves p q h.found
found_proven p k q (Ok Refuted) h = λ e. absurd (cc)
found_proven p k q (Ok (Passed x)) h = λ e. absurd (cc)
found_proven p k q (Err x) h = tt

pub found_none : (p : Program) (k : ℤ) (q : Proposal) (res : Result Checked OutOfMemory) → IfOk res (FoundBy p k q) → IfOk res (λ c. c ≡ Certified → NonePasses (IsCombinationStep p k q))
found_none p k q (Ok c) h = h.none
found_none p k q (Err x) h = tt

pub found_passed : (p : Program) (k : ℤ) (q : Proposal) (res : Result Checked OutOfMemory) → IfOk res (FoundBy p k q) → IfOk res (λ c. (e : RangePassed) → c ≡ Passed e → PassesAt (IsCheckStep p k q) e.op e.left e.right)
found_passed p k q (Ok Certified) h = λ e is. absurd (cc)
found_passed p k q (Ok Refuted) h = λ e is. absurd (cc)
found_passed p k q (Ok (Passed x)) h = λ e is. let same : x ≡ e = cc in subst (λ (y : RangePassed). PassesAt (IsCheckStep p k q) y.op y.left y.right) same h.found
found_passed p k q (Err x) h = tt
