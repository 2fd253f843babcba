-- What a constraint that fits the model of a store gives the code of its rules.
use Rattle.std.proofs.Common.{◌≡◌, ℕ, ◌<◌, ◌≤◌, ◌^◌, Bool, true, false, Some, None, List, length, arith, sym, ◌∙◌}
use Rattle.std.specs.Prelude.{ℤ, neg_ℤ, All, Option, option_map, slice_get, unsigned_abs}
use Rattle.std.proofs.lemmas.Int.{ints}
use Rattle.std.proofs.lemmas.List.{length-map}
use Rattle.std.proofs.lemmas.List.Elements.{All-map, All-weaker}
use Rattle.sm_kinds.specs.declared.literal.Literal.{Literal}
use Rattle.sm_kinds.specs.declared.linear.LinRow.{LinRow}
use Rattle.sm_kinds.specs.declared.logic.Clause.{Clause}
use Rattle.sm_kinds.specs.declared.var.Var.{Var}
use Rattle.sm_kinds.specs.Limits.{IsSmall, greatest_number, greatest_clause_bound}
use Rattle.sm_kinds.specs.Literals.{IsLiteral}
use Rattle.sm_kinds.specs.Linear.{IsLinear}
use Rattle.sm_kinds.specs.Logic.{IsClause}
use Rattle.sm_kinds.specs.When.{IsWhen}
use Rattle.sm_flat.specs.declared.form.Form.{Form}
use Rattle.sm_flat.specs.declared.form.Form.TheVariants as form
use Rattle.sm_store.specs.Stores.{Extent}
use Rattle.sm_rows.specs.Halves.{Bounded, negated, side_of, turned_in, half_of, IsGentle, IsOver}
use Rattle.sm_rows.specs.Whole.{AreOrdered, AreNear, IsFormIn}
use Rattle.sm_rows.proofs.Inferring.{at_place}

small_negated : (z : ℤ) → IsSmall z → IsSmall (neg_ℤ z)
small_negated z h = omega (arith, ints, h)

gentle_side : (vars : List Var) (row : LinRow) (turned : Bool) → IsLinear vars row → IsGentle (side_of row turned)
gentle_side vars row false fit = record { few = fit.few; small = fit.sum.small; bound = fit.bound }
gentle_side vars row true fit = record {
  few = rw (length-map row.terms negated) fit.few;
  small = All-map (λ t. IsSmall t.1) negated row.terms (All-weaker (λ t. IsSmall t.1) (λ t. IsSmall (neg_ℤ t.1)) (λ t h. small_negated t.1 h) row.terms fit.sum.small);
  bound = small_negated row.bound fit.bound;
}

over_side : (n : ℕ) (row : LinRow) (turned : Bool) → All (λ t. t.0 < n) row.terms → IsOver n (side_of row turned)
over_side n row false known = known
over_side n row true known = All-map (λ t. t.0 < n) negated row.terms known

-- what is so of both sides of a row is so of each half
of_half : (P : Bounded → Type 0) (row : LinRow) (d : ℕ) (h : Bounded) → ((turned : Bool) → P (side_of row turned)) → half_of row d ≡ Some h → P h
of_half P row d h each e = by_turn (turned_in row.cmp d) e
  where
    by_turn : (turned : Option Bool) → option_map (side_of row) turned ≡ Some h → P h
    by_turn None e = absurd (cc)
    by_turn (Some turned) e = (let same : side_of row turned ≡ h = cc in rw (← same) (each turned))

gentle_row : (vars : List Var) (row : LinRow) (d : ℕ) (h : Bounded) → IsLinear vars row → half_of row d ≡ Some h → IsGentle h
gentle_row vars row d h fit e = of_half IsGentle row d h (λ turned. gentle_side vars row turned fit) e

over_row : (n : ℕ) (row : LinRow) (d : ℕ) (h : Bounded) → All (λ t. t.0 < n) row.terms → half_of row d ≡ Some h → IsOver n h
over_row n row d h known e = of_half (IsOver n) row d h (λ turned. over_side n row turned known) e

pub gentle_linear : (store : List Extent) (f : Form) (row : LinRow) (d : ℕ) (r : Option Bounded) (h : Bounded) → IsFormIn store f → f ≡ form.Linear row → r ≡ half_of row d → r ≡ Some h → IsGentle h
gentle_linear store f row d r h fit is of e =
    let fits : IsLinear fit.model.vars row = rw is at fit.fits in
    gentle_row fit.model.vars row d h fits (sym of ∙ e)

pub over_linear : (store : List Extent) (f : Form) (row : LinRow) (d : ℕ) (r : Option Bounded) (h : Bounded) → IsFormIn store f → f ≡ form.Linear row → r ≡ half_of row d → r ≡ Some h → IsOver (length store) h
over_linear store f row d r h fit is of e =
    let fits : IsLinear fit.model.vars row = rw is at fit.fits in
    over_row (length store) row d h (rw fit.of.wide fits.sum.known) (sym of ∙ e)

pub gentle_when : (store : List Extent) (f : Form) (ls : List Literal) (row : LinRow) (d : ℕ) (r : Option Bounded) (h : Bounded) → IsFormIn store f → f ≡ form.When ls row → r ≡ half_of row d → r ≡ Some h → IsGentle h
gentle_when store f ls row d r h fit is of e =
    let fits : IsWhen fit.model.vars ls row = rw is at fit.fits in
    gentle_row fit.model.vars row d h fits.fits (sym of ∙ e)

pub over_when : (store : List Extent) (f : Form) (ls : List Literal) (row : LinRow) (d : ℕ) (r : Option Bounded) (h : Bounded) → IsFormIn store f → f ≡ form.When ls row → r ≡ half_of row d → r ≡ Some h → IsOver (length store) h
over_when store f ls row d r h fit is of e =
    let fits : IsWhen fit.model.vars ls row = rw is at fit.fits in
    over_row (length store) row d h (rw fit.of.wide fits.fits.sum.known) (sym of ∙ e)

known_literals : (n limit : ℕ) (vars : List Var) (ls : List Literal) → n ≡ length vars → All (IsLiteral vars limit) ls → All (λ (l : Literal). l.var < n) ls
known_literals n limit vars ls wide fit = All-weaker (IsLiteral vars limit) (λ (l : Literal). l.var < n) (λ l is. rw wide is.discrete.known) ls fit

pub known_when : (store : List Extent) (ls : List Literal) (row : LinRow) → IsFormIn store (form.When ls row) → All (λ (l : Literal). l.var < length store) ls
known_when store ls row fit = known_literals (length store) greatest_number fit.model.vars ls fit.of.wide fit.fits.conditions

pub near_when : (store : List Extent) (ls : List Literal) (row : LinRow) → IsFormIn store (form.When ls row) → AreNear ls
near_when store ls row fit = All-weaker (IsLiteral fit.model.vars greatest_number) (λ (l : Literal). unsigned_abs l.bound ≤ 2 ^ 32) (λ l is. omega (arith, is.small)) ls fit.fits.conditions

pub known_clause : (store : List Extent) (clauses : List Clause) (c : ℕ) (k : Clause) → IsFormIn store (form.Logic clauses) → slice_get clauses c ≡ Some k → All (λ (l : Literal). l.var < length store) k.literals
known_clause store clauses c k fit e =
    known_literals (length store) greatest_clause_bound fit.model.vars k.literals fit.of.wide (at_place (IsClause fit.model.vars) clauses c k fit.fits.each e)

pub ordered_in : {f : Form} (store : List Extent) → IsFormIn store f → AreOrdered store
ordered_in store fit i lt = (fit.of.parts i lt).ordered
