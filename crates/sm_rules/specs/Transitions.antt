-- What an allowed line makes of the state, and the replay of a list of lines.
use Rattle.std.specs.Prelude.{◌≡◌, List, [], ◌∷◌, Some, None}
use Rattle.sm_flat.specs.Models.{FlatModel}
use Rattle.sm_store.specs.Stores.{declared}
use Rattle.sm_step.specs.declared.line.Line.{Line}
use Rattle.sm_step.specs.declared.line.Line.TheVariants as line
use Rattle.sm_step.specs.declared.line.Outcome.{Outcome}
use Rattle.sm_step.specs.declared.line.Outcome.TheVariants.{Close, Literals}
use Rattle.sm_rules.specs.declared.cause.Cause.{Cause}
use Rattle.sm_rules.specs.declared.cause.Cause.TheVariants as cause
use Rattle.sm_rules.specs.declared.last_line.LastLine.TheVariants.{Other}
use Rattle.sm_rules.specs.Trees.{Tree, root_of, open_child, close_focus, narrow_focus, raise_focus}
use Rattle.sm_rules.specs.States.{State, current}
use Rattle.sm_rules.specs.Orders.{IsDue}
use Rattle.sm_rules.specs.Laws.{Lawful, Allowed}

-- another tree in the place of the one that lines work on
abbrev pub with_tree : State → Tree → State
with_tree s t = record s { main = t; last = Other }

-- what an inference makes of a tree
abbrev pub concluded : Outcome → Tree → Tree
concluded Close t = close_focus t
concluded (Literals ls) t = narrow_focus ls t

abbrev pub after : FlatModel → State → Line → State
after m s (line.Header version) = record s { version = Some version; last = Other }
after m s (line.Node id parent literal) = with_tree s (open_child m (current s) parent literal)
after m s (line.Infer r outcome) = with_tree s (concluded outcome (current s))
after m s (line.Floor terms) = with_tree s (raise_focus m (current s))
after m s line.CloseFloor = with_tree s (close_focus (current s))
after m s (line.Violated k) = with_tree s (close_focus (current s))
after m s (line.Sol denominator values) = record s { best = Some (record { denominator = denominator; values = values }); last = Other }
after m s (line.Verdict v) = record s { verdict = Some v; last = Other }
after m s _ = record s { last = Other }

-- the state before any line
abbrev pub start : FlatModel → State
start m = record { version = None; main = root_of m (declared m.vars); lemmas = []; cuts = []; best = None; last = Other; verdict = None }

-- each line is allowed in its turn, and new is the state after them
abbrev pub Replays : FlatModel → State → List Line → State → Type 0
Replays m old [] new = new ≡ old
Replays m old (l ∷ ls) new = Allowed m old l × Replays m (after m old l) ls new

abbrev pub SaysVerdict : Line → Type 0
SaysVerdict (line.Verdict v) = Unit {0}
SaysVerdict _ = ⊥

-- the cause for which a line is refused
abbrev pub IsRefusedFor : FlatModel → State → Line → Cause → Type 0
IsRefusedFor m s l cause.Grammar = ⊥
IsRefusedFor m s l cause.Order = ¬ (IsDue s l)
IsRefusedFor m s l cause.Law = IsDue s l × ¬ (Lawful m s l) × ¬ (SaysVerdict l)
IsRefusedFor m s l cause.Verdict = IsDue s l × ¬ (Lawful m s l) × SaysVerdict l
IsRefusedFor m s l cause.End = ⊥
