-- The row that a name names in a model, at a store.
use Rattle.std.specs.Prelude.{◌≡◌, ℕ, List, Option, Some, None, slice_get}
use Rattle.sm_flat.specs.declared.form.Constraint.{Constraint}
use Rattle.sm_flat.specs.declared.form.Form.{Form}
use Rattle.sm_flat.specs.Forms.{Sat}
use Rattle.sm_flat.specs.Models.{FlatModel}
use Rattle.sm_kinds.specs.Points.{Point}
use Rattle.sm_step.specs.declared.row.RowRef.{RowRef}
use Rattle.sm_step.specs.declared.row.RowRef.TheVariants.{Lin, Link, Mean, Clause, When, Value, Table, Time, Par, Cap, Pack, Once, SelfLoop, Cut, Goal, Named}
use Rattle.sm_store.specs.Stores.{Extent}
use Rattle.sm_rows.specs.declared.row.Row.{Row}
use Rattle.rule_basic.specs.LinRows.{lin_in}
use Rattle.rule_basic.specs.LinkRows.{link_of}
use Rattle.rule_basic.specs.MeanRows.{mean_of}
use Rattle.rule_basic.specs.ClauseRows.{clause_in}

-- what is made of the constraint's form, where there is a constraint
abbrev pub of_form : Option Constraint → (Form → Option Row) → Option Row
of_form None make = None
of_form (Some c) make = make c.form

-- the row of the name, where it stands and is lawful at the store
abbrev pub row_of : FlatModel → List Extent → RowRef → Option Row
row_of m store (Lin k) = of_form (slice_get m.constraints k) lin_in
row_of m store (Link v) = link_of m v
row_of m store (Mean v) = mean_of m v
row_of m store (Clause k c) = of_form (slice_get m.constraints k) (clause_in m c)
row_of m store (When k half) = None
row_of m store (Value k v) = None
row_of m store (Table k) = None
row_of m store (Time k t) = None
row_of m store (Par k tasks) = None
row_of m store (Cap k g) = None
row_of m store (Pack k) = None
row_of m store (Once k v) = None
row_of m store (SelfLoop k i) = None
row_of m store (Cut i) = None
row_of m store (Goal level) = None
row_of m store (Named n) = None

-- the constraint whose row it is
abbrev pub constraint_of : RowRef → Option ℕ
constraint_of (Lin k) = Some k
constraint_of (Link v) = None
constraint_of (Mean v) = None
constraint_of (Clause k c) = Some k
constraint_of (When k half) = Some k
constraint_of (Value k v) = Some k
constraint_of (Table k) = Some k
constraint_of (Time k t) = Some k
constraint_of (Par k tasks) = Some k
constraint_of (Cap k g) = Some k
constraint_of (Pack k) = Some k
constraint_of (Once k v) = Some k
constraint_of (SelfLoop k i) = Some k
constraint_of (Cut i) = None
constraint_of (Goal level) = None
constraint_of (Named n) = None

-- the point satisfies the constraint whose row the name names, if there is one
abbrev pub Meets : FlatModel → RowRef → Point → Type 0
Meets m name a = (k : ℕ) (c : Constraint) → constraint_of name ≡ Some k → slice_get m.constraints k ≡ Some c → Sat c.form a
