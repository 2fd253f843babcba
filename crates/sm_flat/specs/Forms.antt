-- What a constraint is by the definitions of its kind.
use Rattle.std.specs.Prelude.{ℕ, ◌≤◌, List, IfSome}
use Rattle.sm_kinds.specs.declared.var.Var.{Var}
use Rattle.sm_kinds.specs.Points.{Point}
use Rattle.sm_kinds.specs.Limits.{greatest_branch, greatest_sub}
use Rattle.sm_kinds.specs.Linear.{IsLinear, linear_size, EachLinearVar, SatLinear}
use Rattle.sm_kinds.specs.Logic.{IsLogic, logic_size, EachLogicVar, SatLogic}
use Rattle.sm_kinds.specs.When.{IsWhen, when_size, EachWhenVar, SatWhen}
use Rattle.sm_kinds.specs.Alldiff.{IsAlldiff, alldiff_size, EachAlldiffVar, SatAlldiff}
use Rattle.sm_kinds.specs.Element.{IsElement, element_size, EachElementVar, SatElement}
use Rattle.sm_kinds.specs.IndexSum.{IsIndexSum, indexsum_size, EachIndexSumVar, SatIndexSum}
use Rattle.sm_kinds.specs.Cumulative.{IsCumulative, cumulative_size, EachCumulativeVar, SatCumulative}
use Rattle.sm_kinds.specs.Disjunctive.{IsDisjunctive, disjunctive_size, EachDisjunctiveVar, SatDisjunctive}
use Rattle.sm_kinds.specs.Packing.{IsPacking, packing_size, EachPackingVar, SatPacking}
use Rattle.sm_kinds.specs.Circuit.{IsCircuit, circuit_size, EachCircuitVar, SatCircuit}
use Rattle.sm_kinds.specs.Assign.{IsAssign, assign_size, EachAssignVar, SatAssign}
use Rattle.sm_flat.specs.declared.form.Constraint.{Constraint}
use Rattle.sm_flat.specs.declared.form.Form.{Form}
use Rattle.sm_flat.specs.declared.form.Form.TheVariants as form
use Rattle.sm_flat.specs.declared.form.Kind.{Kind}
use Rattle.sm_flat.specs.declared.form.Kind.TheVariants as kind
use Rattle.sm_flat.specs.declared.tags.Tags.{Tags}

-- the point satisfies the constraint; this speaks of the values alone
abbrev pub Sat : Form → Point → Type 0
Sat (form.Linear row) a = SatLinear row a
Sat (form.Logic clauses) a = SatLogic clauses a
Sat (form.When literals row) a = SatWhen literals row a
Sat (form.Alldiff positions) a = SatAlldiff positions a
Sat (form.Element x entries z) a = SatElement x entries z a
Sat (form.IndexSum choice) a = SatIndexSum choice a
Sat (form.Cumulative capacity tasks) a = SatCumulative capacity tasks a
Sat (form.Disjunctive tasks) a = SatDisjunctive tasks a
Sat (form.Packing packing) a = SatPacking packing a
Sat (form.Circuit successors) a = SatCircuit successors a
Sat (form.Assign choice) a = SatAssign choice a

-- the parts are within the limits of the kind, and fit these variables
abbrev pub IsForm : List Var → Form → Type 0
IsForm vars (form.Linear row) = IsLinear vars row
IsForm vars (form.Logic clauses) = IsLogic vars clauses
IsForm vars (form.When literals row) = IsWhen vars literals row
IsForm vars (form.Alldiff positions) = IsAlldiff vars positions
IsForm vars (form.Element x entries z) = IsElement vars x entries z
IsForm vars (form.IndexSum choice) = IsIndexSum vars choice
IsForm vars (form.Cumulative capacity tasks) = IsCumulative vars capacity tasks
IsForm vars (form.Disjunctive tasks) = IsDisjunctive vars tasks
IsForm vars (form.Packing packing) = IsPacking vars packing
IsForm vars (form.Circuit successors) = IsCircuit vars successors
IsForm vars (form.Assign choice) = IsAssign vars choice

-- how many terms, literals and members of tables it has
abbrev pub size_of : Form → ℕ
size_of (form.Linear row) = linear_size row
size_of (form.Logic clauses) = logic_size clauses
size_of (form.When literals row) = when_size literals row
size_of (form.Alldiff positions) = alldiff_size positions
size_of (form.Element x entries z) = element_size entries
size_of (form.IndexSum choice) = indexsum_size choice
size_of (form.Cumulative capacity tasks) = cumulative_size tasks
size_of (form.Disjunctive tasks) = disjunctive_size tasks
size_of (form.Packing packing) = packing_size packing
size_of (form.Circuit successors) = circuit_size successors
size_of (form.Assign choice) = assign_size choice

-- each of its variables has this property
abbrev pub EachVar : (ℕ → Type 0) → Form → Type 0
EachVar P (form.Linear row) = EachLinearVar P row
EachVar P (form.Logic clauses) = EachLogicVar P clauses
EachVar P (form.When literals row) = EachWhenVar P literals row
EachVar P (form.Alldiff positions) = EachAlldiffVar P positions
EachVar P (form.Element x entries z) = EachElementVar P x entries z
EachVar P (form.IndexSum choice) = EachIndexSumVar P choice
EachVar P (form.Cumulative capacity tasks) = EachCumulativeVar P tasks
EachVar P (form.Disjunctive tasks) = EachDisjunctiveVar P tasks
EachVar P (form.Packing packing) = EachPackingVar P packing
EachVar P (form.Circuit successors) = EachCircuitVar P successors
EachVar P (form.Assign choice) = EachAssignVar P choice

abbrev pub kind_of : Form → Kind
kind_of (form.Linear row) = kind.Linear
kind_of (form.Logic clauses) = kind.Logic
kind_of (form.When literals row) = kind.When
kind_of (form.Alldiff positions) = kind.Alldiff
kind_of (form.Element x entries z) = kind.Element
kind_of (form.IndexSum choice) = kind.IndexSum
kind_of (form.Cumulative capacity tasks) = kind.Cumulative
kind_of (form.Disjunctive tasks) = kind.Disjunctive
kind_of (form.Packing packing) = kind.Packing
kind_of (form.Circuit successors) = kind.Circuit
kind_of (form.Assign choice) = kind.Assign

pub record AreTags (t : Tags) : Type 0 where
  pub branch : t.branch ≤ greatest_branch
  pub subproblem : IfSome t.sub (λ g. g ≤ greatest_sub)

pub record IsConstraint (vars : List Var) (c : Constraint) : Type 0 where
  pub fits : IsForm vars c.form
  pub tagged : AreTags c.tags
