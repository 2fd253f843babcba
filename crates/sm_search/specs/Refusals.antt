-- Why a search of a model has no verdict.
use Rattle.std.specs.Prelude.{◌≡◌, List, Any}
use Rattle.sm_kinds.specs.declared.var.Var.{Var}
use Rattle.sm_kinds.specs.declared.var.VarKind.TheVariants.{Real}
use Rattle.sm_search.specs.declared.running.Halt.{Halt}
use Rattle.sm_search.specs.declared.running.SolveRefusal.{SolveRefusal}
use Rattle.sm_search.specs.declared.running.SolveRefusal.TheVariants.{RealVariable, Halted}

-- some variable is real
abbrev pub HasReal : List Var → Type 0
HasReal vars = Any (λ (v : Var). v.kind ≡ Real) vars

-- where the search halted, this holds of its halt
abbrev pub IfHalted : SolveRefusal → (Halt → Type 0) → Type 0
IfHalted RealVariable P = Unit {0}
IfHalted (Halted h) P = P h
