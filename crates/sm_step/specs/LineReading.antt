-- Reading a line from the left.
use Rattle.std.specs.Prelude.{◌^◌, ℕ, ℤ, List, [], ◌∷◌, codes, Option, Some, None}
use Rattle.sm_frac.specs.declared.fraction.Frac.{Frac}
use Rattle.sm_frac.specs.declared.operation.Op.{Op}
use Rattle.sm_frac.specs.declared.operation.Op.TheVariants.{Plus, Minus, Times, Over, Lcm}
use Rattle.sm_step.specs.declared.line.Line.{Line}
use Rattle.sm_step.specs.declared.line.Line.TheVariants as line
use Rattle.sm_step.specs.declared.line.Listed.{Listed}
use Rattle.sm_step.specs.declared.line.Pattern.{Pattern}
use Rattle.sm_step.specs.declared.line.NorangeOf.{NorangeOf}
use Rattle.sm_step.specs.declared.line.NorangeOf.TheVariants.{Relax, Leaf, Pack}
use Rattle.sm_step.specs.declared.verdict.Verdict.{Verdict}
use Rattle.sm_step.specs.declared.verdict.Verdict.TheVariants as verdict
use Rattle.sm_step.specs.Reading.{Reads, done, ◌>>=◌, rest_behind, either, behind, ahead, end_in, whole_in, narrow_in, natural_in, number_in, list_in, prices_in, each_in, joined_in, listed_in}
use Rattle.sm_step.specs.PartReading.{fraction_in, value_in, literal_in, values_in}
use Rattle.sm_step.specs.RowReading.{column_in, row_in, terms_in}
use Rattle.sm_step.specs.RuleReading.{rule_in, outcome_in}

abbrev pub long_in : Reads ℕ
long_in = natural_in (2 ^ 64)

-- `group:items`
unfoldable pub listed_pattern_in : Reads Listed
listed_pattern_in = number_in >>= λ group. behind (codes ":") (list_in >>= λ items. done (record { group = group; items = items }))

-- `group:items:weight`
unfoldable pub pattern_in : Reads Pattern
pattern_in = number_in >>= λ group. behind (codes ":") (list_in >>= λ items. behind (codes ":") (whole_in >>= λ weight. done (record { group = group; items = items; weight = weight })))

unfoldable pub program_in : Reads NorangeOf
program_in = either (rest_behind (codes "relax")) (done Relax)
    (either (rest_behind (codes "leaf")) (done Leaf)
    (behind (codes "pack.") (number_in >>= λ k. behind (codes " ") (listed_in 59 listed_pattern_in >>= λ patterns. done (Pack k patterns)))))

unfoldable pub operation_in : Reads Op
operation_in = either (rest_behind (codes "plus")) (done Plus)
    (either (rest_behind (codes "minus")) (done Minus)
    (either (rest_behind (codes "times")) (done Times)
    (either (rest_behind (codes "over")) (done Over)
    (behind (codes "lcm") (done Lcm)))))

unfoldable pub best_in : Reads (Option (List Frac))
best_in = either (rest_behind (codes "none")) (done None)
    (value_in >>= λ values. done (Some values))

-- a bound and a best
unfoldable pub bound_in : Reads (Frac × Option (List Frac))
bound_in = fraction_in >>= λ bound. behind (codes " ") (best_in >>= λ best. done (bound, best))

unfoldable pub verdict_in : Reads Verdict
verdict_in = either (rest_behind (codes "optimal ")) (value_in >>= λ values. done (verdict.Optimal values))
    (either (rest_behind (codes "satisfied")) (done verdict.Satisfied)
    (either (rest_behind (codes "infeasible")) (done verdict.Infeasible)
    (either (rest_behind (codes "limit ")) (long_in >>= λ nodes. behind (codes " ") (bound_in >>= λ b. done (verdict.Limit nodes b.0 b.1)))
    (behind (codes "range ") (bound_in >>= λ b. done (verdict.Range b.0 b.1))))))

unfoldable pub node_in : Reads Line
node_in = long_in >>= λ id. behind (codes " ") (long_in >>= λ parent. behind (codes " ") (literal_in >>= λ literal. done (line.Node id parent literal)))

unfoldable pub infer_in : Reads Line
infer_in = rule_in >>= λ rule. behind (codes " -> ") (outcome_in >>= λ result. done (line.Infer rule result))

unfoldable pub lemma_in : Reads Line
lemma_in = long_in >>= λ lemma. behind (codes " -> ") (outcome_in >>= λ result. done (line.Lemma lemma result))

unfoldable pub cutoff_in : Reads Line
cutoff_in = literal_in >>= λ literal. either (rest_behind (codes " none")) (terms_in >>= λ terms. done (line.CutoffNone literal terms))
    (behind (codes " cost") (terms_in >>= λ terms. done (line.CutoffCost literal terms)))

unfoldable pub close_in : Reads Line
close_in = either (rest_behind (codes "none")) (terms_in >>= λ terms. done (line.CloseNone terms))
    (either (rest_behind (codes "cost")) (terms_in >>= λ terms. done (line.CloseCost terms))
    (behind (codes "floor") (done line.CloseFloor)))

-- an operation and its operands
unfoldable pub step_in : Reads (Op × Frac × Frac)
step_in = operation_in >>= λ op. behind (codes " ") (fraction_in >>= λ left. behind (codes " ") (fraction_in >>= λ right. done (op, left, right)))

unfoldable pub norange_in : Reads Line
norange_in = program_in >>= λ program. behind (codes " ") (list_in >>= λ basis. behind (codes " ") (step_in >>= λ s. done (line.Norange program basis s.0 s.1 s.2)))

-- a constraint, a denominator and prices
unfoldable pub packing_in : Reads (ℕ × ℤ × List ℤ)
packing_in = number_in >>= λ k. behind (codes " ") (narrow_in >>= λ denominator. behind (codes " ") (prices_in >>= λ prices. done (k, denominator, prices)))

unfoldable pub price_in : Reads Line
price_in = packing_in >>= λ p. behind (codes " ") (narrow_in >>= λ scale. each_in 32 pattern_in >>= λ patterns. done (line.Price p.0 p.1 p.2 scale patterns))

unfoldable pub cut_in : Reads Line
cut_in = either (rest_behind (codes "gomory")) (terms_in >>= λ terms. done (line.CutGomory terms))
    (either (rest_behind (codes "cover ")) (row_in >>= λ row. behind (codes " ") (joined_in 44 column_in >>= λ columns. done (line.CutCover row columns)))
    (behind (codes "leave ") (number_in >>= λ k. behind (codes " ") (list_in >>= λ nodes. done (line.CutLeave k nodes)))))

-- lines of frames, subs and packings, and the first and the last line
unfoldable pub seldom_in : Reads Line
seldom_in = either (rest_behind (codes "assume")) (each_in 32 literal_in >>= λ literals. done (line.Assume literals))
    (either (rest_behind (codes "qed")) (done line.Qed)
    (either (rest_behind (codes "drop")) (done line.Drop)
    (either (rest_behind (codes "feasible ")) (number_in >>= λ sub. behind (codes " ") (values_in >>= λ v. done (line.Feasible sub v.0 v.1)))
    (either (rest_behind (codes "price ")) price_in
    (either (rest_behind (codes "farkas ")) (packing_in >>= λ p. done (line.Farkas p.0 p.1 p.2))
    (either (rest_behind (codes "verdict ")) (verdict_in >>= λ v. done (line.Verdict v))
    (behind (codes "simpl-log ") (number_in >>= λ version. done (line.Header version)))))))))

-- lines of the relaxation, and solutions
unfoldable pub relaxed_in : Reads Line
relaxed_in = either (rest_behind (codes "cutoff ")) cutoff_in
    (either (rest_behind (codes "floor")) (terms_in >>= λ terms. done (line.Floor terms))
    (either (rest_behind (codes "pair ")) (values_in >>= λ v. done (line.Pair v.0 v.1))
    (either (rest_behind (codes "norange ")) norange_in
    (either (rest_behind (codes "cut ")) cut_in
    (either (rest_behind (codes "sol ")) (values_in >>= λ v. done (line.Sol v.0 v.1))
    (seldom_in))))))

-- a line without its end
unfoldable pub body_in : Reads Line
body_in = either (rest_behind (codes "node ")) node_in
    (either (rest_behind (codes "at ")) (long_in >>= λ id. done (line.At id))
    (either (rest_behind (codes "infer ")) infer_in
    (either (rest_behind (codes "close ")) close_in
    (either (rest_behind (codes "violated ")) (number_in >>= λ k. done (line.Violated k))
    (either (rest_behind (codes "lemma ")) lemma_in
    (relaxed_in))))))

-- a line, and nothing behind it
unfoldable pub line_in : Reads Line
line_in = body_in >>= λ l. behind (codes "\n") (ahead end_in (done l))
