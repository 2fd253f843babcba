-- The row that a name names holds, and names no column twice.
use Rattle.std.proofs.Common.{rules, ◌≡◌, refl, sym, ℕ, Bool, true, false, cond, Option, Some, None, List}
use Rattle.std.specs.Prelude.{All, IfSome, slice_get}
use Rattle.std.proofs.lemmas.List.Elements.{All-weaker}
use Rattle.std.proofs.lemmas.List.Sums.{AllPass-from_list_all}
use Rattle.sm_kinds.specs.declared.var.Var.{Var as Variable}
use Rattle.sm_kinds.specs.declared.literal.Literal.{Literal}
use Rattle.sm_kinds.specs.declared.logic.Clause.{Clause}
use Rattle.sm_kinds.specs.Limits.{greatest_clause_bound}
use Rattle.sm_kinds.specs.Literals.{IsLiteral}
use Rattle.sm_kinds.specs.Logic.{IsClause, IsLogic, has_true, satisfies_each, SatLogic}
use Rattle.sm_kinds.specs.Vars.{var_at, IsDiscrete}
use Rattle.sm_kinds.specs.Points.{Point}
use Rattle.sm_flat.specs.declared.form.Constraint.{Constraint}
use Rattle.sm_flat.specs.declared.form.Form.{Form}
use Rattle.sm_flat.specs.declared.form.Form.TheVariants as form
use Rattle.sm_flat.specs.Forms.{Sat, IsForm}
use Rattle.sm_flat.specs.Limits.{IsFlat}
use Rattle.sm_flat.specs.Models.{FlatModel}
use Rattle.sm_flat.specs.Solutions.{Fits}
use Rattle.sm_step.specs.declared.row.RowRef.{RowRef}
use Rattle.sm_step.specs.declared.row.RowRef.TheVariants.{Lin, Link, Mean, Clause as ClauseRow, When, Value, Table, Time, Par, Cap, Pack, Once, SelfLoop, Cut, Goal, Named}
use Rattle.sm_store.specs.Stores.{Extent, In}
use Rattle.sm_rows.specs.declared.row.Row.{Row}
use Rattle.sm_rows.specs.Links.{is_linked}
use Rattle.sm_rows.specs.Rows.{RowHolds}
use Rattle.sm_rows.specs.Terms.{IsApart}
use Rattle.sm_rows.proofs.FormLaws.{linked_parts, linked_pairs}
use Rattle.rule_basic.specs.LinRows.{lin_in}
use Rattle.rule_basic.specs.LinkRows.{link_row}
use Rattle.rule_basic.specs.MeanRows.{mean_row}
use Rattle.rule_basic.specs.ClauseRows.{clause_at, clause_in}
use Rattle.rule_basic.specs.NamedRows.{of_form, row_of, Meets}
use Rattle.rule_basic.proofs.Fitting.{element_of, constraint_fits}
use Rattle.rule_basic.proofs.RowLaws.{lin_holds, lin_apart, link_holds, mean_holds, indicators_apart, mean_apart, clause_holds, clause_apart}

-- ---- by form

some_is : {X : Type 0} (x y : X) → Some x ≡ Some y → y ≡ x
some_is x y e = cc

pub lin_in_holds : (f : Form) (a : Point) (r : Row) → Sat f a → lin_in f ≡ Some r → RowHolds a r
lin_in_holds (form.Linear row) a r sat e = rw (some_is _ r e) (lin_holds a row sat)
lin_in_holds (form.Logic clauses) a r sat e = absurd (cc)
lin_in_holds (form.When literals row) a r sat e = absurd (cc)
lin_in_holds (form.Alldiff positions) a r sat e = absurd (cc)
lin_in_holds (form.Element x entries z) a r sat e = absurd (cc)
lin_in_holds (form.IndexSum choice) a r sat e = absurd (cc)
lin_in_holds (form.Cumulative capacity tasks) a r sat e = absurd (cc)
lin_in_holds (form.Disjunctive tasks) a r sat e = absurd (cc)
lin_in_holds (form.Packing packing) a r sat e = absurd (cc)
lin_in_holds (form.Circuit successors) a r sat e = absurd (cc)
lin_in_holds (form.Assign choice) a r sat e = absurd (cc)

pub lin_in_apart : (vars : List Variable) (f : Form) (r : Row) → IsForm vars f → lin_in f ≡ Some r → IsApart r.terms
lin_in_apart vars (form.Linear row) r fits e = rw (some_is _ r e) (lin_apart row fits.sum.rising)
lin_in_apart vars (form.Logic clauses) r fits e = absurd (cc)
lin_in_apart vars (form.When literals row) r fits e = absurd (cc)
lin_in_apart vars (form.Alldiff positions) r fits e = absurd (cc)
lin_in_apart vars (form.Element x entries z) r fits e = absurd (cc)
lin_in_apart vars (form.IndexSum choice) r fits e = absurd (cc)
lin_in_apart vars (form.Cumulative capacity tasks) r fits e = absurd (cc)
lin_in_apart vars (form.Disjunctive tasks) r fits e = absurd (cc)
lin_in_apart vars (form.Packing packing) r fits e = absurd (cc)
lin_in_apart vars (form.Circuit successors) r fits e = absurd (cc)
lin_in_apart vars (form.Assign choice) r fits e = absurd (cc)

each_true : (a : Point) (cs : List Clause) → satisfies_each a cs ≡ true → All (λ (c : Clause). has_true a c.literals ≡ true) cs
each_true a cs sat = AllPass-from_list_all (λ (c : Clause). has_true a c.literals) cs sat

-- a clause whose constraint is satisfied has a true literal
clause_true : (a : Point) (clauses : List Clause) (i : ℕ) (c : Clause) → SatLogic clauses a → slice_get clauses i ≡ Some c → has_true a c.literals ≡ true
clause_true a clauses i c sat e = element_of (λ (x : Clause). has_true a x.literals ≡ true) clauses i c (each_true a clauses sat) e

clause_discrete : (vars : List Variable) (clauses : List Clause) (i : ℕ) (c : Clause) → IsLogic vars clauses → slice_get clauses i ≡ Some c → All (λ (l : Literal). IsDiscrete vars l.var) c.literals
clause_discrete vars clauses i c fits e = All-weaker (IsLiteral vars greatest_clause_bound) (λ (l : Literal). IsDiscrete vars l.var) (λ l h. h.discrete) c.literals (element_of (IsClause vars) clauses i c fits.each e)

clause_at_holds : (m : FlatModel) (a : Point) (clauses : List Clause) (i : ℕ) (r : Row) → IsFlat m → Fits m a → IsLogic m.vars clauses → SatLogic clauses a → clause_at m (slice_get clauses i) ≡ Some r → RowHolds a r
clause_at_holds m a clauses i r flat fits logic sat e = by_clause (slice_get clauses i) refl e
  where
    by_clause : (o : Option Clause) → slice_get clauses i ≡ o → clause_at m o ≡ Some r → RowHolds a r
    by_clause None x e = absurd (cc)
    by_clause (Some c) x e = clause_holds m a c.literals r flat fits (clause_discrete m.vars clauses i c logic x) (clause_true a clauses i c sat x) e

clause_at_apart : (m : FlatModel) (o : Option Clause) (r : Row) → clause_at m o ≡ Some r → IsApart r.terms
clause_at_apart m None r e = absurd (cc)
clause_at_apart m (Some c) r e = clause_apart m c.literals r e

pub clause_in_holds : (m : FlatModel) (a : Point) (i : ℕ) (f : Form) (r : Row) → IsFlat m → Fits m a → IsForm m.vars f → Sat f a → clause_in m i f ≡ Some r → RowHolds a r
clause_in_holds m a i (form.Linear row) r flat fits is sat e = absurd (cc)
clause_in_holds m a i (form.Logic clauses) r flat fits is sat e = clause_at_holds m a clauses i r flat fits is sat e
clause_in_holds m a i (form.When literals row) r flat fits is sat e = absurd (cc)
clause_in_holds m a i (form.Alldiff positions) r flat fits is sat e = absurd (cc)
clause_in_holds m a i (form.Element x entries z) r flat fits is sat e = absurd (cc)
clause_in_holds m a i (form.IndexSum choice) r flat fits is sat e = absurd (cc)
clause_in_holds m a i (form.Cumulative capacity tasks) r flat fits is sat e = absurd (cc)
clause_in_holds m a i (form.Disjunctive tasks) r flat fits is sat e = absurd (cc)
clause_in_holds m a i (form.Packing packing) r flat fits is sat e = absurd (cc)
clause_in_holds m a i (form.Circuit successors) r flat fits is sat e = absurd (cc)
clause_in_holds m a i (form.Assign choice) r flat fits is sat e = absurd (cc)

pub clause_in_apart : (m : FlatModel) (i : ℕ) (f : Form) (r : Row) → clause_in m i f ≡ Some r → IsApart r.terms
clause_in_apart m i (form.Linear row) r e = absurd (cc)
clause_in_apart m i (form.Logic clauses) r e = clause_at_apart m (slice_get clauses i) r e
clause_in_apart m i (form.When literals row) r e = absurd (cc)
clause_in_apart m i (form.Alldiff positions) r e = absurd (cc)
clause_in_apart m i (form.Element x entries z) r e = absurd (cc)
clause_in_apart m i (form.IndexSum choice) r e = absurd (cc)
clause_in_apart m i (form.Cumulative capacity tasks) r e = absurd (cc)
clause_in_apart m i (form.Disjunctive tasks) r e = absurd (cc)
clause_in_apart m i (form.Packing packing) r e = absurd (cc)
clause_in_apart m i (form.Circuit successors) r e = absurd (cc)
clause_in_apart m i (form.Assign choice) r e = absurd (cc)

-- ---- by name

-- the constraint of which a row was made
record Made (o : Option Constraint) (make : Form → Option Row) (r : Row) : Type 0 where
  constraint : Constraint
  is : o ≡ Some constraint
  made : make constraint.form ≡ Some r

made_of : (o : Option Constraint) (make : Form → Option Row) (r : Row) → of_form o make ≡ Some r → Made o make r
made_of None make r e = absurd (cc)
made_of (Some c) make r e = record { constraint = c; is = refl; made = e }

link_parts : (m : FlatModel) (b : Bool) (r s : Row) → cond b (Some s) None ≡ Some r → (b ≡ true) × (r ≡ s)
link_parts m true r s e = (refl, some_is s r e)
link_parts m false r s e = absurd (cc)

pub row_holds : (m : FlatModel) (store : List Extent) (name : RowRef) (r : Row) → IsFlat m → row_of m store name ≡ Some r → (a : Point) → Fits m a → In a store → Meets m name a → RowHolds a r
row_holds m store (Lin k) r flat e a fits lies meets =
    let made = made_of (slice_get m.constraints k) lin_in r e in
    lin_in_holds made.constraint.form a r (meets k made.constraint refl made.is) made.made
row_holds m store (Link v) r flat e a fits lies meets =
    let parts = link_parts m (is_linked m v) r (link_row v (var_at m.vars v).values) e in rw (parts.1) (link_holds m a v flat fits parts.0)
row_holds m store (Mean v) r flat e a fits lies meets =
    let parts = link_parts m (is_linked m v) r (mean_row v (var_at m.vars v).values) e in rw (parts.1) (mean_holds m a v flat fits parts.0)
row_holds m store (ClauseRow k c) r flat e a fits lies meets =
    let made = made_of (slice_get m.constraints k) (clause_in m c) r e in
    clause_in_holds m a c made.constraint.form r flat fits (constraint_fits m k made.constraint flat made.is) (meets k made.constraint refl made.is) made.made
row_holds m store (When k half) r flat e a fits lies meets = absurd (cc)
row_holds m store (Value k v) r flat e a fits lies meets = absurd (cc)
row_holds m store (Table k) r flat e a fits lies meets = absurd (cc)
row_holds m store (Time k t) r flat e a fits lies meets = absurd (cc)
row_holds m store (Par k tasks) r flat e a fits lies meets = absurd (cc)
row_holds m store (Cap k g) r flat e a fits lies meets = absurd (cc)
row_holds m store (Pack k) r flat e a fits lies meets = absurd (cc)
row_holds m store (Once k v) r flat e a fits lies meets = absurd (cc)
row_holds m store (SelfLoop k i) r flat e a fits lies meets = absurd (cc)
row_holds m store (Cut i) r flat e a fits lies meets = absurd (cc)
row_holds m store (Goal level) r flat e a fits lies meets = absurd (cc)
row_holds m store (Named n) r flat e a fits lies meets = absurd (cc)

pub row_apart : (m : FlatModel) (store : List Extent) (name : RowRef) (r : Row) → IsFlat m → row_of m store name ≡ Some r → IsApart r.terms
row_apart m store (Lin k) r flat e =
    let made = made_of (slice_get m.constraints k) lin_in r e in
    lin_in_apart m.vars made.constraint.form r (constraint_fits m k made.constraint flat made.is) made.made
row_apart m store (Link v) r flat e =
    let parts = link_parts m (is_linked m v) r (link_row v (var_at m.vars v).values) e in rw (parts.1) (indicators_apart v _ (var_at m.vars v).values (linked_pairs m v flat (linked_parts m v parts.0)))
row_apart m store (Mean v) r flat e =
    let parts = link_parts m (is_linked m v) r (mean_row v (var_at m.vars v).values) e in rw (parts.1) (mean_apart v (var_at m.vars v).values (linked_pairs m v flat (linked_parts m v parts.0)))
row_apart m store (ClauseRow k c) r flat e =
    let made = made_of (slice_get m.constraints k) (clause_in m c) r e in clause_in_apart m c made.constraint.form r made.made
row_apart m store (When k half) r flat e = absurd (cc)
row_apart m store (Value k v) r flat e = absurd (cc)
row_apart m store (Table k) r flat e = absurd (cc)
row_apart m store (Time k t) r flat e = absurd (cc)
row_apart m store (Par k tasks) r flat e = absurd (cc)
row_apart m store (Cap k g) r flat e = absurd (cc)
row_apart m store (Pack k) r flat e = absurd (cc)
row_apart m store (Once k v) r flat e = absurd (cc)
row_apart m store (SelfLoop k i) r flat e = absurd (cc)
row_apart m store (Cut i) r flat e = absurd (cc)
row_apart m store (Goal level) r flat e = absurd (cc)
row_apart m store (Named n) r flat e = absurd (cc)

pub if_holds : (m : FlatModel) (store : List Extent) (name : RowRef) (o : Option Row) → IsFlat m → o ≡ row_of m store name → IfSome o (λ (r : Row). (a : Point) → Fits m a → In a store → Meets m name a → RowHolds a r)
if_holds m store name None flat e = search rules
if_holds m store name (Some r) flat e = row_holds m store name r flat (sym e)

pub if_apart : (m : FlatModel) (store : List Extent) (name : RowRef) (o : Option Row) → IsFlat m → o ≡ row_of m store name → IfSome o (λ (r : Row). IsApart r.terms)
if_apart m store name None flat e = search rules
if_apart m store name (Some r) flat e = row_apart m store name r flat (sym e)
