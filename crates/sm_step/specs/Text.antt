-- The one text of each line.
use Rattle.std.specs.Prelude.{◌++◌, ℕ, List, codes, Option, Some, None}
use Rattle.sm_base.specs.Whole.{whole_text}
use Rattle.sm_frac.specs.declared.fraction.Frac.{Frac}
use Rattle.sm_frac.specs.declared.operation.Op.{Op}
use Rattle.sm_frac.specs.declared.operation.Op.TheVariants.{Plus, Minus, Times, Over, Lcm}
use Rattle.sm_step.specs.declared.line.Line.{Line}
use Rattle.sm_step.specs.declared.line.Line.TheVariants as line
use Rattle.sm_step.specs.declared.line.Listed.{Listed}
use Rattle.sm_step.specs.declared.line.Pattern.{Pattern}
use Rattle.sm_step.specs.declared.line.NorangeOf.{NorangeOf}
use Rattle.sm_step.specs.declared.line.NorangeOf.TheVariants.{Relax, Leaf, Pack}
use Rattle.sm_step.specs.declared.verdict.Verdict.{Verdict}
use Rattle.sm_step.specs.declared.verdict.Verdict.TheVariants as verdict
use Rattle.sm_step.specs.PartText.{number_text, list_text, prices_text, literal_text, fraction_text, value_text, each_after, joined, joined_or_none, spaced}
use Rattle.sm_step.specs.RowText.{column_text, row_text, terms_text}
use Rattle.sm_step.specs.RuleText.{rule_text, outcome_text}

-- `group:items`
abbrev pub listed_text : Listed → List ℕ
listed_text p = number_text p.group ++ codes ":" ++ list_text p.items

-- `group:items:weight`
abbrev pub pattern_text : Pattern → List ℕ
pattern_text p = number_text p.group ++ codes ":" ++ list_text p.items ++ codes ":" ++ whole_text p.weight

abbrev pub program_text : NorangeOf → List ℕ
program_text Relax = codes "relax"
program_text Leaf = codes "leaf"
program_text (Pack k patterns) = codes "pack." ++ number_text k ++ codes " " ++ joined_or_none 59 listed_text patterns

abbrev pub operation_text : Op → List ℕ
operation_text Plus = codes "plus"
operation_text Minus = codes "minus"
operation_text Times = codes "times"
operation_text Over = codes "over"
operation_text Lcm = codes "lcm"

abbrev pub best_text : Option (List Frac) → List ℕ
best_text None = codes "none"
best_text (Some values) = value_text values

abbrev pub verdict_text : Verdict → List ℕ
verdict_text (verdict.Optimal values) = codes "optimal " ++ value_text values
verdict_text verdict.Satisfied = codes "satisfied"
verdict_text verdict.Infeasible = codes "infeasible"
verdict_text (verdict.Limit nodes bound best) = codes "limit " ++ number_text nodes ++ codes " " ++ fraction_text bound ++ codes " " ++ best_text best
verdict_text (verdict.Range bound best) = codes "range " ++ fraction_text bound ++ codes " " ++ best_text best

-- the text of a line without its end
abbrev pub body_text : Line → List ℕ
body_text (line.Header version) = codes "simpl-log " ++ number_text version
body_text (line.Node id parent literal) = codes "node " ++ number_text id ++ codes " " ++ number_text parent ++ codes " " ++ literal_text literal
body_text (line.At id) = codes "at " ++ number_text id
body_text (line.Infer rule result) = codes "infer " ++ rule_text rule ++ codes " -> " ++ outcome_text result
body_text (line.Lemma lemma result) = codes "lemma " ++ number_text lemma ++ codes " -> " ++ outcome_text result
body_text (line.CutoffNone literal terms) = codes "cutoff " ++ literal_text literal ++ codes " none" ++ terms_text terms
body_text (line.CutoffCost literal terms) = codes "cutoff " ++ literal_text literal ++ codes " cost" ++ terms_text terms
body_text (line.CutoffCostLevel literal level terms) = codes "cutoff " ++ literal_text literal ++ codes " cost level " ++ number_text level ++ terms_text terms
body_text (line.Floor terms) = codes "floor" ++ terms_text terms
body_text (line.FloorLevel level terms) = codes "floor level " ++ number_text level ++ terms_text terms
body_text (line.CloseNone terms) = codes "close none" ++ terms_text terms
body_text (line.CloseCost terms) = codes "close cost" ++ terms_text terms
body_text (line.CloseCostLevel level terms) = codes "close cost level " ++ number_text level ++ terms_text terms
body_text line.CloseFloor = codes "close floor"
body_text (line.Violated k) = codes "violated " ++ number_text k
body_text (line.Pair denominator values) = codes "pair " ++ whole_text denominator ++ spaced values
body_text (line.Norange program basis op left right) = codes "norange " ++ program_text program ++ codes " " ++ list_text basis ++ codes " " ++ operation_text op
    ++ codes " " ++ fraction_text left ++ codes " " ++ fraction_text right
body_text (line.Price k denominator prices scale patterns) = codes "price " ++ number_text k ++ codes " " ++ whole_text denominator ++ codes " " ++ prices_text prices
    ++ codes " " ++ whole_text scale ++ each_after 32 pattern_text patterns
body_text (line.Farkas k denominator prices) = codes "farkas " ++ number_text k ++ codes " " ++ whole_text denominator ++ codes " " ++ prices_text prices
body_text (line.CutGomory terms) = codes "cut gomory" ++ terms_text terms
body_text (line.CutCover row columns) = codes "cut cover " ++ row_text row ++ codes " " ++ joined 44 column_text columns
body_text (line.CutLeave k nodes) = codes "cut leave " ++ number_text k ++ codes " " ++ list_text nodes
body_text (line.Assume literals) = codes "assume" ++ each_after 32 literal_text literals
body_text line.Qed = codes "qed"
body_text line.Drop = codes "drop"
body_text (line.Feasible sub denominator values) = codes "feasible " ++ number_text sub ++ codes " " ++ whole_text denominator ++ spaced values
body_text (line.Sol denominator values) = codes "sol " ++ whole_text denominator ++ spaced values
body_text (line.Name name row) = codes "name " ++ number_text name ++ codes " " ++ row_text row
body_text (line.ForgetLemma lemma) = codes "forget lemma " ++ number_text lemma
body_text (line.ForgetCut cut) = codes "forget cut " ++ number_text cut
body_text (line.Verdict v) = codes "verdict " ++ verdict_text v

unfoldable pub text_of : Line → List ℕ
text_of l = body_text l ++ codes "\n"
