-- What a refusal says.
use Rattle.sm_flat.specs.Models.{FlatModel}
use Rattle.sm_step.specs.declared.line.Line.{Line}
use Rattle.sm_rules.specs.States.{State}
use Rattle.sm_rules.specs.Transitions.{IsRefusedFor}
use Rattle.sm_rules.specs.declared.log_state.ApplyRefusal.{ApplyRefusal}
use Rattle.sm_rules.specs.declared.log_state.ApplyRefusal.TheVariants.{Refused, OutOfMemory}

-- the line is refused for the cause that is named; want of memory says nothing of it
abbrev pub IsRefusedBy : FlatModel → State → Line → ApplyRefusal → Type 0
IsRefusedBy m s l (Refused cause) = IsRefusedFor m s l cause
IsRefusedBy m s l OutOfMemory = Unit {0}
