-- Which lines may come now, whatever they say.
use Rattle.std.specs.Prelude.{◌≡◌, ℕ, None, IsSome}
use Rattle.sm_step.specs.declared.line.Line.{Line}
use Rattle.sm_step.specs.declared.line.Line.TheVariants as line
use Rattle.sm_rules.specs.declared.node.Status.TheVariants.{Open}
use Rattle.sm_rules.specs.Nodes.{TakesChild}
use Rattle.sm_rules.specs.Trees.{node_at, focus_of}
use Rattle.sm_rules.specs.States.{State, current}

-- the header stood, and the focus is open
pub record AtOpenFocus (s : State) : Type 0 where
  pub begun : IsSome s.version
  pub is_open : (focus_of (current s)).status ≡ Open

-- the header stood; the child has the next number, and its parent has room for it
pub record NextChild (s : State) (id parent : ℕ) : Type 0 where
  pub begun : IsSome s.version
  pub next : id ≡ (current s).count
  pub takes : TakesChild (node_at (current s).nodes parent).status

-- No frame is ever open yet, and no log has version 2.
abbrev pub IsInOrder : State → Line → Type 0
IsInOrder s (line.Header version) = s.version ≡ None
IsInOrder s (line.Node id parent literal) = NextChild s id parent
IsInOrder s (line.At id) = IsSome s.version × ((node_at (current s).nodes id).status ≡ Open)
IsInOrder s (line.Infer rule result) = AtOpenFocus s
IsInOrder s (line.Lemma lemma result) = AtOpenFocus s
IsInOrder s (line.CutoffNone literal terms) = AtOpenFocus s
IsInOrder s (line.CutoffCost literal terms) = AtOpenFocus s
IsInOrder s (line.CutoffCostLevel literal level terms) = AtOpenFocus s
IsInOrder s (line.Floor terms) = AtOpenFocus s
IsInOrder s (line.FloorLevel level terms) = AtOpenFocus s
IsInOrder s (line.CloseNone terms) = AtOpenFocus s
IsInOrder s (line.CloseCost terms) = AtOpenFocus s
IsInOrder s (line.CloseCostLevel level terms) = AtOpenFocus s
IsInOrder s line.CloseFloor = AtOpenFocus s
IsInOrder s (line.Violated k) = AtOpenFocus s
IsInOrder s (line.Pair denominator values) = AtOpenFocus s
IsInOrder s (line.Norange of basis op left right) = AtOpenFocus s
IsInOrder s (line.Price k denominator prices scale patterns) = AtOpenFocus s
IsInOrder s (line.Farkas k denominator prices) = AtOpenFocus s
IsInOrder s (line.CutGomory terms) = IsSome s.version
IsInOrder s (line.CutCover row columns) = IsSome s.version
IsInOrder s (line.CutLeave k nodes) = IsSome s.version
IsInOrder s (line.Assume literals) = IsSome s.version
IsInOrder s line.Qed = ⊥
IsInOrder s line.Drop = ⊥
IsInOrder s (line.Feasible sub denominator values) = AtOpenFocus s
IsInOrder s (line.Sol denominator values) = IsSome s.version
IsInOrder s (line.Name name row) = ⊥
IsInOrder s (line.ForgetLemma lemma) = ⊥
IsInOrder s (line.ForgetCut cut) = ⊥
IsInOrder s (line.Verdict v) = IsSome s.version

-- nothing follows a verdict, and the line is in order
pub record IsDue (s : State) (l : Line) : Type 0 where
  pub running : s.verdict ≡ None
  pub order : IsInOrder s l
