-- That the numbers of a sum of forms fit, and how many literals a clause has.
use Rattle.std.proofs.Common.{◌≡◌, ◌∙◌, ap, subst, arith, ℕ, ◌^◌, ◌+◌, ◌*◌, ◌-◌, ◌<◌, ◌≤◌, Option, Some, None, List, length, get_or, drop}
use Rattle.std.specs.Prelude.{ℤ, unsigned_abs, All, slice_get, sum_by}
use Rattle.std.proofs.lemmas.List.{at_drop_more}
use Rattle.std.proofs.lemmas.List.Sums.{get_or-le-sum_by}
use Rattle.std.proofs.lemmas.Option.{get_or_from_slice_get, slice_get_within}
use Rattle.sm_kinds.specs.declared.literal.Literal.{Literal}
use Rattle.sm_kinds.specs.declared.logic.Clause.{Clause}
use Rattle.sm_kinds.specs.Logic.{clause_size, logic_size}
use Rattle.sm_flat.specs.declared.form.Constraint.{Constraint}
use Rattle.sm_flat.specs.Forms.{IsForm, IsConstraint, size_of}
use Rattle.sm_flat.specs.Limits.{IsFlat}
use Rattle.sm_flat.specs.Models.{FlatModel}
use Rattle.sm_rows.specs.declared.form.ColumnForm.{ColumnForm}
use Rattle.sm_rows.specs.Forms.{add_form, form_of, form_weight}
use Rattle.sm_rows.proofs.Sums.{form_weight-add_form}
use Rattle.rule_basic.specs.ClauseRows.{then_form, add_forms}

times_le : (b w n k : ℕ) → n ≡ w + k → b * w ≤ b * n
times_le b w n k e = rw e (omega arith)

-- the forms before place i, of n, leave room for one more
pub room_for : (by total start w i n : ℕ) → w ≤ 65 → i < n → total ≤ start + i * (by * 65) → start + n * (by * 65) < 2 ^ 63 → total + by * w < 2 ^ 63
room_for by total start w i n small lt so_far room =
    let one = times_le by w 65 (65 - w) (omega (arith, small)) in
    let all = times_le (by * 65) (i + 1) n (n - (i + 1)) (omega arith) in
    omega (arith, one, all, so_far, room)

pub weight_so_far : (sum start f : ColumnForm) (by : ℤ) (i : ℕ) → form_weight f ≤ 65 → form_weight sum ≤ form_weight start + i * (unsigned_abs by * 65) → form_weight (add_form sum by f) ≤ form_weight start + (i + 1) * (unsigned_abs by * 65)
weight_so_far sum start f by i small so_far =
    let one = times_le (unsigned_abs by) (form_weight f) 65 (65 - form_weight f) (omega (arith, small)) in
    omega (arith, one, so_far, form_weight-add_form sum by f)

pub add_forms_more : (m : FlatModel) (by : ℤ) (sum f : ColumnForm) (ls : List Literal) (i : ℕ) (d : Literal) → i < length ls → form_of m (get_or ls i d) ≡ Some f → add_forms m by sum (drop i ls) ≡ add_forms m by (add_form sum by f) (drop (i + 1) ls)
add_forms_more m by sum f ls i d lt e =
    at_drop_more (add_forms m by sum) ls i d lt ∙ ap (λ (o : Option ColumnForm). then_form o (λ g. add_forms m by (add_form sum by g) (drop (i + 1) ls))) e

pub add_forms_none : (m : FlatModel) (by : ℤ) (sum : ColumnForm) (ls : List Literal) (i : ℕ) (d : Literal) → i < length ls → form_of m (get_or ls i d) ≡ None → add_forms m by sum (drop i ls) ≡ None
add_forms_none m by sum ls i d lt e =
    at_drop_more (add_forms m by sum) ls i d lt ∙ ap (λ (o : Option ColumnForm). then_form o (λ g. add_forms m by (add_form sum by g) (drop (i + 1) ls))) e

pub element_of : {X : Type 0} (P : X → Type 0) (xs : List X) (i : ℕ) (x : X) → All P xs → slice_get xs i ≡ Some x → P x
element_of P xs i x all e = subst P (get_or_from_slice_get xs i x x e) (all i x (slice_get_within xs i x e))

pub part_le : {X : Type 0} (f : X → ℕ) (xs : List X) (i : ℕ) (x : X) → slice_get xs i ≡ Some x → f x ≤ sum_by f xs
part_le f xs i x e = subst (λ y. f y ≤ sum_by f xs) (get_or_from_slice_get xs i x x e) (get_or-le-sum_by f xs i x (slice_get_within xs i x e))

pub clause_few : (clauses : List Clause) (i : ℕ) (c : Clause) → slice_get clauses i ≡ Some c → length c.literals ≤ logic_size clauses
clause_few clauses i c e = part_le clause_size clauses i c e

pub constraint_few : (m : FlatModel) (k : ℕ) (c : Constraint) → IsFlat m → slice_get m.constraints k ≡ Some c → size_of c.form ≤ 4194304
constraint_few m k c flat e =
    let one = part_le (λ (x : Constraint). size_of x.form) m.constraints k c e in
    let all = flat.constraints.total in
    omega (arith, one, all)

pub constraint_fits : (m : FlatModel) (k : ℕ) (c : Constraint) → IsFlat m → slice_get m.constraints k ≡ Some c → IsForm m.vars c.form
constraint_fits m k c flat e = let is : IsConstraint m.vars c = element_of (IsConstraint m.vars) m.constraints k c flat.constraints.each e in is.fits
