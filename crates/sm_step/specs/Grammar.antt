-- Which lines the grammar has.
use Rattle.std.specs.Prelude.{◌≡◌, ◌≤◌, ◌<◌, ◌+◌, ◌^◌, ◌⊎◌, ◌≤ℤ◌, ◌<ℤ◌, ℕ, ℤ, pos, unsigned_abs, List, [], ◌∷◌, length, All, Option, Some, None, FitsSigned}
use Rattle.std.specs.Int.{◌∣◌, w64, w128}
use Rattle.sm_frac.specs.declared.fraction.Frac.{Frac}
use Rattle.sm_kinds.specs.declared.literal.Literal.{Literal}
use Rattle.sm_step.specs.declared.line.Line.{Line}
use Rattle.sm_step.specs.declared.line.Line.TheVariants as line
use Rattle.sm_step.specs.declared.line.Outcome.{Outcome}
use Rattle.sm_step.specs.declared.line.Outcome.TheVariants.{Close, Literals}
use Rattle.sm_step.specs.declared.line.Listed.{Listed}
use Rattle.sm_step.specs.declared.line.Pattern.{Pattern}
use Rattle.sm_step.specs.declared.line.NorangeOf.{NorangeOf}
use Rattle.sm_step.specs.declared.line.NorangeOf.TheVariants.{Relax, Leaf, Pack}
use Rattle.sm_step.specs.declared.row.Col.{Col}
use Rattle.sm_step.specs.declared.row.Col.TheVariants.{Var, Is}
use Rattle.sm_step.specs.declared.row.RowRef.{RowRef}
use Rattle.sm_step.specs.declared.row.RowRef.TheVariants as row
use Rattle.sm_step.specs.declared.row.Term.{Term}
use Rattle.sm_step.specs.declared.rule.Rule.{Rule}
use Rattle.sm_step.specs.declared.rule.Rule.TheVariants as rule
use Rattle.sm_step.specs.declared.verdict.Verdict.{Verdict}
use Rattle.sm_step.specs.declared.verdict.Verdict.TheVariants as verdict
use Rattle.sm_step.specs.Text.{text_of}

-- a number of a node, a lemma or a cut, or a count of nodes
abbrev pub IsLongNumber : ℕ → Type 0
IsLongNumber n = n < 2 ^ 40

-- a number of anything else
abbrev pub IsNumber : ℕ → Type 0
IsNumber n = n < 2 ^ 32

-- a whole number of 128 bits, as the text has it
abbrev pub IsWideNumber : ℤ → Type 0
IsWideNumber = FitsSigned w128

abbrev pub IsDenominator : ℤ → Type 0
IsDenominator d = (pos 1 ≤ℤ d) × (d ≤ℤ pos (2 ^ 52))

abbrev pub IsLiteral : Literal → Type 0
IsLiteral l = IsNumber l.var × (unsigned_abs l.bound ≤ 2 ^ 32)

-- one or more
abbrev pub IsSome : {X : Type 0} → List X → Type 0
IsSome xs = 1 ≤ length xs

-- numbers from a least one on, each greater than the one before
abbrev pub RisesFrom : ℕ → List ℕ → Type 0
RisesFrom least [] = Unit {0}
RisesFrom least (n ∷ ns) = (least ≤ n) × IsNumber n × RisesFrom (n + 1) ns

-- numbers in strictly increasing order
abbrev pub IsList : List ℕ → Type 0
IsList = RisesFrom 0

-- no number but 1 divides the denominator and each numerator
pub record AreInLowestTerms (denominator : ℤ) (numerators : List ℤ) : Type 0 where
  pub apart : (k : ℕ) → k ∣ unsigned_abs denominator → All (λ n. k ∣ unsigned_abs n) numerators → k ≡ 1

-- numerators over a common denominator
abbrev pub AreValues : ℤ → List ℤ → Type 0
AreValues denominator numerators = IsDenominator denominator × All IsWideNumber numerators × AreInLowestTerms denominator numerators

-- prices over a denominator, which need not be in lowest terms
abbrev pub ArePrices : ℤ → List ℤ → Type 0
ArePrices denominator prices = IsDenominator denominator × All IsWideNumber prices

abbrev pub IsColumn : Col → Type 0
IsColumn (Var v) = IsNumber v
IsColumn (Is v x) = IsNumber v × FitsSigned w64 x

-- the order of columns: by variable, a variable before its values, and these by value
abbrev pub ComesBefore : Col → Col → Type 0
ComesBefore (Var v) (Var w) = v < w
ComesBefore (Var v) (Is w y) = v ≤ w
ComesBefore (Is v x) (Var w) = v < w
ComesBefore (Is v x) (Is w y) = (v < w) ⊎ ((v ≡ w) × (x <ℤ y))

-- columns in order behind a first one
abbrev pub FollowInOrder : Col → List Col → Type 0
FollowInOrder c [] = Unit {0}
FollowInOrder c (d ∷ ds) = ComesBefore c d × IsColumn d × FollowInOrder d ds

-- one or more columns in order
abbrev pub AreColumns : List Col → Type 0
AreColumns [] = ⊥
AreColumns (c ∷ cs) = IsColumn c × FollowInOrder c cs

-- rows of objectives and rows with names of their own aren't in the grammar yet
abbrev pub IsRow : RowRef → Type 0
IsRow (row.Lin k) = IsNumber k
IsRow (row.Link v) = IsNumber v
IsRow (row.Mean v) = IsNumber v
IsRow (row.Clause k c) = IsNumber k × IsNumber c
IsRow (row.When k half) = IsNumber k × IsNumber half
IsRow (row.Value k v) = IsNumber k × IsWideNumber v
IsRow (row.Table k) = IsNumber k
IsRow (row.Time k moment) = IsNumber k × IsWideNumber moment
IsRow (row.Par k tasks) = IsNumber k × IsList tasks
IsRow (row.Cap k group) = IsNumber k × IsNumber group
IsRow (row.Pack k) = IsNumber k
IsRow (row.Once k node) = IsNumber k × IsNumber node
IsRow (row.SelfLoop k place) = IsNumber k × IsNumber place
IsRow (row.Cut cut) = IsLongNumber cut
IsRow (row.Goal level) = ⊥
IsRow (row.Named name) = ⊥

abbrev pub IsTerm : Term → Type 0
IsTerm t = IsRow t.row

abbrev pub IsTask : Option ℕ → Type 0
IsTask None = Unit {0}
IsTask (Some task) = IsNumber task

abbrev pub IsRule : Rule → Type 0
IsRule (rule.Sum k half) = IsNumber k × IsNumber half
IsRule (rule.Clause k c) = IsNumber k × IsNumber c
IsRule (rule.When k half) = IsNumber k × IsNumber half
IsRule (rule.Hall k w) = IsNumber k × IsList w
IsRule (rule.Elem k) = IsNumber k
IsRule (rule.Isum k) = IsNumber k
IsRule (rule.Time k moment task) = IsNumber k × IsWideNumber moment × IsTask task
IsRule (rule.Energy k w) = IsNumber k × IsList w
IsRule (rule.Load k w) = IsNumber k × IsList w
IsRule (rule.After k task w v) = IsNumber k × IsNumber task × IsList w × IsList v
IsRule (rule.Before k task w v) = IsNumber k × IsNumber task × IsList w × IsList v
IsRule (rule.Cap k group) = IsNumber k × IsNumber group
IsRule (rule.Pay k) = IsNumber k
IsRule (rule.Chain k place) = IsNumber k × IsNumber place

abbrev pub IsOutcome : Outcome → Type 0
IsOutcome Close = Unit {0}
IsOutcome (Literals literals) = IsSome literals × All IsLiteral literals

-- what a lemma comes to: `close`, or one literal
abbrev pub IsOneOutcome : Outcome → Type 0
IsOneOutcome Close = Unit {0}
IsOneOutcome (Literals literals) = (length literals ≡ 1) × All IsLiteral literals

abbrev pub IsListed : Listed → Type 0
IsListed p = IsNumber p.group × IsList p.items

abbrev pub IsPattern : Pattern → Type 0
IsPattern p = IsNumber p.group × IsList p.items × IsWideNumber p.weight

abbrev pub IsProgram : NorangeOf → Type 0
IsProgram Relax = Unit {0}
IsProgram Leaf = Unit {0}
IsProgram (Pack k patterns) = IsNumber k × All IsListed patterns

abbrev pub IsBest : Option (List Frac) → Type 0
IsBest None = Unit {0}
IsBest (Some values) = IsSome values

abbrev pub IsVerdict : Verdict → Type 0
IsVerdict (verdict.Optimal values) = IsSome values
IsVerdict verdict.Satisfied = Unit {0}
IsVerdict verdict.Infeasible = Unit {0}
IsVerdict (verdict.Limit nodes bound best) = IsLongNumber nodes × IsBest best
IsVerdict (verdict.Range bound best) = IsBest best

-- what a line says is in range; lines of a level and of a second version aren't in the grammar yet
abbrev pub IsInRange : Line → Type 0
IsInRange (line.Header version) = version ≡ 1
IsInRange (line.Node id parent literal) = IsLongNumber id × IsLongNumber parent × IsLiteral literal
IsInRange (line.At id) = IsLongNumber id
IsInRange (line.Infer rule result) = IsRule rule × IsOutcome result
IsInRange (line.Lemma lemma result) = IsLongNumber lemma × IsOneOutcome result
IsInRange (line.CutoffNone literal terms) = IsLiteral literal × All IsTerm terms
IsInRange (line.CutoffCost literal terms) = IsLiteral literal × All IsTerm terms
IsInRange (line.Floor terms) = All IsTerm terms
IsInRange (line.CloseNone terms) = All IsTerm terms
IsInRange (line.CloseCost terms) = All IsTerm terms
IsInRange line.CloseFloor = Unit {0}
IsInRange (line.Violated k) = IsNumber k
IsInRange (line.Pair denominator values) = AreValues denominator values
IsInRange (line.Norange program basis op left right) = IsProgram program × IsList basis
IsInRange (line.Price k denominator prices scale patterns) = IsNumber k × ArePrices denominator prices × IsDenominator scale × All IsPattern patterns
IsInRange (line.Farkas k denominator prices) = IsNumber k × ArePrices denominator prices
IsInRange (line.CutGomory terms) = IsSome terms × All IsTerm terms
IsInRange (line.CutCover row columns) = IsRow row × AreColumns columns
IsInRange (line.CutLeave k nodes) = IsNumber k × IsSome nodes × IsList nodes
IsInRange (line.Assume literals) = IsSome literals × All IsLiteral literals
IsInRange line.Qed = Unit {0}
IsInRange line.Drop = Unit {0}
IsInRange (line.Feasible sub denominator values) = IsNumber sub × AreValues denominator values
IsInRange (line.Sol denominator values) = AreValues denominator values
IsInRange (line.Verdict v) = IsVerdict v
IsInRange _ = ⊥

-- with its end it has at most 16,777,216 bytes; a `norange` line may have any number
abbrev pub IsShort : Line → Type 0
IsShort (line.Norange program basis op left right) = Unit {0}
IsShort l = length (text_of l) ≤ 2 ^ 24

-- the lines of the grammar
unfoldable pub IsLine : Line → Type 0
IsLine l = IsInRange l × IsShort l
