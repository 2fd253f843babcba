-- What the choice of a constraint and of a half comes to.
use Rattle.std.proofs.Common.{◌≡◌, ℕ, zero, suc, ◌≤◌, Bool, false, Some, None, List, [], ◌∷◌, length, refl, arith, sym, ◌∙◌}
use Rattle.std.specs.Prelude.{◌↔◌, IsTrue, Option, slice_get}
use Rattle.sm_kinds.specs.declared.literal.Literal.{Literal}
use Rattle.sm_kinds.specs.declared.linear.LinRow.{LinRow}
use Rattle.sm_flat.specs.declared.form.Form.{Form}
use Rattle.sm_flat.specs.declared.form.Form.TheVariants as form
use Rattle.sm_flat.specs.Models.{FlatModel}
use Rattle.sm_store.specs.Stores.{Extent}
use Rattle.sm_step.specs.declared.rule.Rule.{Rule}
use Rattle.sm_step.specs.declared.line.Outcome.{Outcome}
use Rattle.sm_rows.specs.Halves.{Bounded, half_of}
use Rattle.sm_rows.specs.Inferences.{constraint_of, WhenCuts, WhenInfers, IsInference}

none_past : {X : Type 0} (xs : List X) (k : ℕ) → length xs ≤ k → slice_get xs k ≡ None
none_past [] k le = refl
none_past (x ∷ xs) zero le = absurd (omega (arith, le))
none_past (x ∷ xs) (suc k) le = none_past xs k (omega (arith, le))

-- where no constraint has the number, nothing is inferred
pub no_constraint : (m : FlatModel) (store : List Extent) (r : Rule) (outcome : Outcome) → length m.constraints ≤ constraint_of r → IsTrue false ↔ IsInference m store r outcome
no_constraint m store r outcome past = (λ t. absurd (cc), λ h. absurd (rw (none_past m.constraints (constraint_of r) past) at h))

-- what a half is told to infer, the constraint does
pub when_told : (store : List Extent) (d : ℕ) (l : Literal) (f : Form) (ls ms : List Literal) (row : LinRow) (r : Option Bounded) (h : Bounded) (b : Bool) → f ≡ form.When ls row → r ≡ half_of row d → r ≡ Some h → ms ≡ ls → IsTrue b ↔ WhenCuts store ms l h → IsTrue b ↔ WhenInfers store d l f
when_told store d l f ls ms row r h b is of some same told =
    let e : half_of row d ≡ Some h = sym of ∙ some in
    let told' : IsTrue b ↔ WhenCuts store ls l h = rw same at told in
    rw (is, e) told'
