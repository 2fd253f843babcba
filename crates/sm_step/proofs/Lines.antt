-- Each line of the grammar is read from its text.
use Rattle.std.proofs.Common.{◌≡◌, ◌≤◌, ◌^◌, ◌<◌, ℕ, ℤ, pos, Bool, true, false, Option, List, [], ◌∷◌, ◌++◌, length, Some, None, refl, sym, ◌∙◌, ap, subst, arith, append_assoc, length-append}
use Rattle.std.specs.Prelude.{◌==◌, if◌then◌else◌, codes, All, nat_lt}
use Rattle.std.proofs.lemmas.Bool.Decides.{nat_tests}
use Rattle.std.proofs.lemmas.List.Elements.{All-cons, All-nil}
use Rattle.sm_base.specs.Whole.{whole_text}
use Rattle.sm_frac.specs.declared.fraction.Frac.{Frac}
use Rattle.sm_frac.specs.declared.operation.Op.{Op}
use Rattle.sm_frac.specs.declared.operation.Op.TheVariants.{Plus, Minus, Times, Over, Lcm}
use Rattle.sm_kinds.specs.declared.literal.Literal.{Literal}
use Rattle.sm_step.specs.declared.line.Line.{Line}
use Rattle.sm_step.specs.declared.line.Line.TheVariants as line
use Rattle.sm_step.specs.declared.line.Outcome.{Outcome}
use Rattle.sm_step.specs.declared.line.Listed.{Listed}
use Rattle.sm_step.specs.declared.line.Pattern.{Pattern}
use Rattle.sm_step.specs.declared.line.NorangeOf.{NorangeOf}
use Rattle.sm_step.specs.declared.line.NorangeOf.TheVariants.{Relax, Leaf, Pack}
use Rattle.sm_step.specs.declared.row.Col.{Col}
use Rattle.sm_step.specs.declared.row.RowRef.{RowRef}
use Rattle.sm_step.specs.declared.row.Term.{Term}
use Rattle.sm_step.specs.declared.rule.Rule.{Rule}
use Rattle.sm_step.specs.declared.verdict.Verdict.{Verdict}
use Rattle.sm_step.specs.declared.verdict.Verdict.TheVariants as verdict
use Rattle.sm_step.specs.PartText.{number_text, list_text, prices_text, literal_text, fraction_text, spaced, each_after, joined, joined_or_none}
use Rattle.sm_step.specs.RowText.{column_text, row_text, terms_text}
use Rattle.sm_step.specs.RuleText.{rule_text, outcome_text}
use Rattle.sm_step.specs.Text.{listed_text, pattern_text, program_text, operation_text, best_text, verdict_text, body_text, text_of}
use Rattle.sm_step.specs.Grammar.{IsLongNumber, IsNumber, IsList, IsLiteral, IsSome, IsDenominator, AreValues, ArePrices, IsColumn, FollowInOrder, AreColumns, IsRow, IsTerm, IsRule, IsOutcome, IsListed, IsPattern, IsProgram, IsBest, IsVerdict, IsInRange, IsShort, IsLine}
use Rattle.std.specs.Prelude.{Result, Ok, Err, IsOk, IfOk, IfErr, IfSome, IfNone}
use Rattle.std.proofs.lemmas.List.{append-nil}
use Rattle.sm_step.specs.declared.refusal.LineRefusal.{LineRefusal}
use Rattle.sm_step.specs.declared.refusal.LineRefusal.TheVariants.{BadLine, OutOfMemory}
use Rattle.sm_step.specs.Taking.{Place, takes, Takes}
use Rattle.sm_step.specs.Reading.{EndsNumber, rest_behind, rest_behind_none, done, follow, choose, ahead, behind, end_in}
use Rattle.sm_step.specs.PartReading.{literal_in}
use Rattle.sm_step.specs.RowReading.{column_in}
use Rattle.sm_step.specs.LineReading.{listed_pattern_in, pattern_in, program_in, operation_in, best_in, bound_in, verdict_in, node_in, infer_in, lemma_in, cutoff_in, close_in, step_in, norange_in, packing_in, price_in, cut_in, seldom_in, relaxed_in, body_in, line_in}
use Rattle.sm_step.proofs.Numbers.{whole_next}
use Rattle.sm_step.proofs.Exact.{IsExact, EndsFraction, EndsList, number_next, long_next, narrow_next, list_next, prices_next, literal_next, literal_exact, fraction_next, value_next, value_no_word, values_next, whole_no_none, denominator_fits, each_next, joined_next, listed_next, space_ends_number, nest3, nest5}
use Rattle.sm_step.proofs.ExactRows.{EndsColumn, column_exact, comma_ends_column, row_next, terms_next, rule_next, outcome_next, one_outcome}

-- ---- texts in a row

nest_last : (a b c d e rest : List ℕ) → a ++ b ++ c ++ d ++ e ++ rest ≡ a ++ (b ++ (c ++ d ++ e ++ rest))
nest_last a b c d e rest = simp append_assoc

nest_last2 : (a b c d rest : List ℕ) → a ++ b ++ c ++ d ++ rest ≡ a ++ (b ++ (c ++ d ++ rest))
nest_last2 a b c d rest = simp append_assoc

nest9 : (a b c d e f g h i rest : List ℕ) → a ++ b ++ c ++ d ++ e ++ f ++ g ++ h ++ i ++ rest ≡ a ++ (b ++ (c ++ (d ++ (e ++ f ++ g ++ h ++ i ++ rest))))
nest9 a b c d e f g h i rest = simp append_assoc

pub line_in_range : (l : Line) → IsLine l → IsInRange l
unfolding IsLine
line_in_range l is = is.0

-- bytes too many for a line that isn't a `norange` line
pub too_long : (l : Line) (bytes : List ℕ) → IsLine l → bytes ≡ text_of l → 2 ^ 24 < length bytes → rest_behind (codes "norange ") bytes ≡ None → ⊥
unfolding IsLine text_of
too_long (line.Norange program basis op left right) bytes is e long other = let same = ap (rest_behind (codes "norange ")) (sym e) ∙ other in absurd (cc)
too_long l bytes is e long other = omega (arith, is.1, ap length e, long)

still_none : (p bytes more : List ℕ) → length p ≤ length bytes → rest_behind p bytes ≡ None → rest_behind p (bytes ++ more) ≡ None
still_none [] bytes more within none = absurd (cc)
still_none (c ∷ cs) [] more within none = absurd (omega (arith, within))
still_none (c ∷ cs) (b ∷ bs) more within none = pick (c == b) (still_none cs bs more (omega (arith, within))) none
  where
    pick : (t : Bool) → (rest_behind cs bs ≡ None → rest_behind cs (bs ++ more) ≡ None) → (if t then rest_behind cs bs else None) ≡ None → (if t then rest_behind cs (bs ++ more) else None) ≡ None
    pick true further k = further k
    pick false further k = refl

-- no line begins with bytes that are too many
pub begins_none : (bytes : List ℕ) → 2 ^ 24 < length bytes → rest_behind (codes "norange ") bytes ≡ None → (l : Line) (more : List ℕ) → IsLine l → bytes ++ more ≡ text_of l → ⊥
begins_none bytes long other l more is e =
    let sum = length-append bytes more in
    too_long l (bytes ++ more) is e (omega (arith, long, sum)) (still_none (codes "norange ") bytes more (omega (arith, long)) other)

short : (bytes : List ℕ) (l : Line) → bytes ≡ text_of l → (2 ^ 24 < length bytes → rest_behind (codes "norange ") bytes ≡ None → ⊥) → IsShort l
unfolding text_of
short bytes (line.Norange program basis op left right) e fine = tt
short bytes l e fine = subst (λ (t : List ℕ). length t ≤ 2 ^ 24) e (pick (nat_lt (2 ^ 24) (length bytes)) refl)
  where
    pick : (t : Bool) → nat_lt (2 ^ 24) (length bytes) ≡ t → length bytes ≤ 2 ^ 24
    pick true h = absurd (fine (grind (arith, nat_tests)) (ap (rest_behind (codes "norange ")) e ∙ refl))
    pick false h = grind (arith, nat_tests)

pub is_line : (l : Line) (bytes : List ℕ) → IsInRange l → bytes ≡ text_of l → (2 ^ 24 < length bytes → rest_behind (codes "norange ") bytes ≡ None → ⊥) → IsLine l
unfolding IsLine
is_line l bytes here e fine = (here, short bytes l e fine)

-- one text is read as one line
one_read : (l k : Line) (read : Option (Line × List ℕ)) → read ≡ Some (l, []) → read ≡ Some (k, []) → l ≡ k
one_read l k read e f = let pair : ◌≡◌ {A = Line × List ℕ} (l, []) (k, []) = cc in ap (λ (r : Line × List ℕ). r.0) pair

-- ---- parts of some kinds of lines

listed_pattern_next : (p : Listed) (rest : List ℕ) → IsListed p → EndsList rest → listed_pattern_in (listed_text p ++ rest) ≡ Some (p, rest)
unfolding listed_pattern_in
listed_pattern_next p rest is ends =
    ap listed_pattern_in (nest3 (number_text p.group) (codes ":") (list_text p.items) rest)
    ∙ rw (number_next p.group (codes ":" ++ (list_text p.items ++ rest)) is.0 refl, list_next p.items rest is.1 ends) refl

listed_exact : IsExact listed_pattern_in listed_text IsListed EndsList
listed_exact = record { next = listed_pattern_next }

listed_no_none : (p : Listed) (rest : List ℕ) → IsListed p → rest_behind_none (listed_text p ++ rest) ≡ None
listed_no_none p rest is = ap rest_behind_none (nest3 (number_text p.group) (codes ":") (list_text p.items) rest) ∙ whole_no_none (pos p.group) (codes ":" ++ (list_text p.items ++ rest)) (omega (arith, is.0))

pattern_next : (p : Pattern) (rest : List ℕ) → IsPattern p → EndsNumber rest → pattern_in (pattern_text p ++ rest) ≡ Some (p, rest)
unfolding pattern_in
pattern_next p rest is ends =
    let last = codes ":" ++ (whole_text p.weight ++ rest) in
    ap pattern_in (nest5 (number_text p.group) (codes ":") (list_text p.items) (codes ":") (whole_text p.weight) rest)
    ∙ rw (number_next p.group (codes ":" ++ (list_text p.items ++ last)) is.0 refl, list_next p.items last is.1 (record { number = refl; comma = refl }), whole_next p.weight rest is.2 ends) refl

pattern_exact : IsExact pattern_in pattern_text IsPattern EndsNumber
pattern_exact = record { next = pattern_next }

program_next : (p : NorangeOf) (rest : List ℕ) → IsProgram p → program_in (program_text p ++ (codes " " ++ rest)) ≡ Some (p, codes " " ++ rest)
unfolding program_in
program_next Relax rest is = refl
program_next Leaf rest is = refl
program_next (Pack k patterns) rest is =
    let behind = codes " " ++ rest in
    ap (λ (t : List ℕ). program_in (codes "pack." ++ t)) (nest3 (number_text k) (codes " ") (joined_or_none 59 listed_text patterns) behind)
    ∙ rw (
      number_next k (codes " " ++ (joined_or_none 59 listed_text patterns ++ behind)) is.0 refl,
      listed_next 59 listed_pattern_in listed_text IsListed EndsList patterns behind listed_exact (record { ends = λ rest. record { number = refl; comma = refl } }) listed_no_none is.1 (record { number = refl; comma = refl }) refl refl,
    ) refl

operation_next : (o : Op) (rest : List ℕ) → operation_in (operation_text o ++ rest) ≡ Some (o, rest)
unfolding operation_in
operation_next Plus rest = refl
operation_next Minus rest = refl
operation_next Times rest = refl
operation_next Over rest = refl
operation_next Lcm rest = refl

line_ends : EndsFraction (codes "\n")
line_ends = record { number = refl; slash = refl }

best_next : (b : Option (List Frac)) → IsBest b → best_in (best_text b ++ codes "\n") ≡ Some (b, codes "\n")
unfolding best_in
best_next None is = refl
best_next (Some values) is = rw (value_no_word values (codes "\n") is, value_next values (codes "\n") is line_ends refl) refl

bound_next : (f : Frac) (b : Option (List Frac)) → IsBest b → bound_in (fraction_text f ++ codes " " ++ best_text b ++ codes "\n") ≡ Some ((f, b), codes "\n")
unfolding bound_in
bound_next f b is =
    ap bound_in (nest3 (fraction_text f) (codes " ") (best_text b) (codes "\n"))
    ∙ rw (fraction_next f (codes " " ++ (best_text b ++ codes "\n")) (record { number = refl; slash = refl }), best_next b is) refl

verdict_next : (v : Verdict) → IsVerdict v → verdict_in (verdict_text v ++ codes "\n") ≡ Some (v, codes "\n")
unfolding verdict_in
verdict_next (verdict.Optimal values) is = rw (value_next values (codes "\n") is line_ends refl) refl
verdict_next verdict.Satisfied is = refl
verdict_next verdict.Infeasible is = refl
verdict_next (verdict.Limit nodes bound best) is =
    let last = fraction_text bound ++ codes " " ++ best_text best ++ codes "\n" in
    ap (λ (t : List ℕ). verdict_in (codes "limit " ++ t)) (nest_last (number_text nodes) (codes " ") (fraction_text bound) (codes " ") (best_text best) (codes "\n"))
    ∙ rw (long_next nodes (codes " " ++ last) is.0 refl, bound_next bound best is.1) refl
verdict_next (verdict.Range bound best) is = rw (bound_next bound best is) refl

-- ---- lines

node_next : (id parent : ℕ) (l : Literal) (rest : List ℕ) → IsLongNumber id → IsLongNumber parent → IsLiteral l → EndsNumber rest
    → node_in (number_text id ++ codes " " ++ number_text parent ++ codes " " ++ literal_text l ++ rest) ≡ Some (line.Node id parent l, rest)
unfolding node_in
node_next id parent l rest small less is ends =
    let last = codes " " ++ (literal_text l ++ rest) in
    ap node_in (nest5 (number_text id) (codes " ") (number_text parent) (codes " ") (literal_text l) rest)
    ∙ rw (long_next id (codes " " ++ (number_text parent ++ last)) small refl, long_next parent last less refl, literal_next l rest is ends) refl

infer_next : (r : Rule) (o : Outcome) → IsRule r → IsOutcome o → infer_in (rule_text r ++ codes " -> " ++ outcome_text o ++ codes "\n") ≡ Some (line.Infer r o, codes "\n")
unfolding infer_in
infer_next r o is also =
    ap infer_in (nest3 (rule_text r) (codes " -> ") (outcome_text o) (codes "\n"))
    ∙ rw (rule_next r (codes " -> " ++ (outcome_text o ++ codes "\n")) is (record { number = refl; comma = refl }), outcome_next o also) refl

lemma_next : (n : ℕ) (o : Outcome) → IsLongNumber n → IsOutcome o → lemma_in (number_text n ++ codes " -> " ++ outcome_text o ++ codes "\n") ≡ Some (line.Lemma n o, codes "\n")
unfolding lemma_in
lemma_next n o is also =
    ap lemma_in (nest3 (number_text n) (codes " -> ") (outcome_text o) (codes "\n"))
    ∙ rw (long_next n (codes " -> " ++ (outcome_text o ++ codes "\n")) is refl, outcome_next o also) refl

cutoff_none_next : (l : Literal) (ts : List Term) → IsLiteral l → All IsTerm ts → cutoff_in (literal_text l ++ codes " none" ++ terms_text ts ++ codes "\n") ≡ Some (line.CutoffNone l ts, codes "\n")
unfolding cutoff_in
cutoff_none_next l ts is all =
    ap cutoff_in (nest3 (literal_text l) (codes " none") (terms_text ts) (codes "\n"))
    ∙ rw (literal_next l (codes " none" ++ (terms_text ts ++ codes "\n")) is refl, terms_next ts all) refl

cutoff_cost_next : (l : Literal) (ts : List Term) → IsLiteral l → All IsTerm ts → cutoff_in (literal_text l ++ codes " cost" ++ terms_text ts ++ codes "\n") ≡ Some (line.CutoffCost l ts, codes "\n")
unfolding cutoff_in
cutoff_cost_next l ts is all =
    ap cutoff_in (nest3 (literal_text l) (codes " cost") (terms_text ts) (codes "\n"))
    ∙ rw (literal_next l (codes " cost" ++ (terms_text ts ++ codes "\n")) is refl, terms_next ts all) refl

step_next : (op : Op) (f g : Frac) → step_in (operation_text op ++ codes " " ++ fraction_text f ++ codes " " ++ fraction_text g ++ codes "\n") ≡ Some ((op, f, g), codes "\n")
unfolding step_in
step_next op f g =
    let last = codes " " ++ (fraction_text g ++ codes "\n") in
    ap step_in (nest5 (operation_text op) (codes " ") (fraction_text f) (codes " ") (fraction_text g) (codes "\n"))
    ∙ rw (operation_next op (codes " " ++ (fraction_text f ++ last)), fraction_next f last (record { number = refl; slash = refl }), fraction_next g (codes "\n") line_ends) refl

norange_next : (p : NorangeOf) (basis : List ℕ) (op : Op) (f g : Frac) → IsProgram p → IsList basis
    → norange_in (program_text p ++ codes " " ++ list_text basis ++ codes " " ++ operation_text op ++ codes " " ++ fraction_text f ++ codes " " ++ fraction_text g ++ codes "\n") ≡ Some (line.Norange p basis op f g, codes "\n")
unfolding norange_in
norange_next p basis op f g is also =
    let step = operation_text op ++ codes " " ++ fraction_text f ++ codes " " ++ fraction_text g ++ codes "\n" in
    ap norange_in (nest9 (program_text p) (codes " ") (list_text basis) (codes " ") (operation_text op) (codes " ") (fraction_text f) (codes " ") (fraction_text g) (codes "\n"))
    ∙ rw (program_next p (list_text basis ++ (codes " " ++ step)) is, list_next basis (codes " " ++ step) also (record { number = refl; comma = refl }), step_next op f g) refl

packing_next : (k : ℕ) (d : ℤ) (zs : List ℤ) (rest : List ℕ) → IsNumber k → ArePrices d zs → EndsList rest
    → packing_in (number_text k ++ codes " " ++ whole_text d ++ codes " " ++ prices_text zs ++ rest) ≡ Some ((k, d, zs), rest)
unfolding packing_in
packing_next k d zs rest is prices ends =
    let last = codes " " ++ (prices_text zs ++ rest) in
    ap packing_in (nest5 (number_text k) (codes " ") (whole_text d) (codes " ") (prices_text zs) rest)
    ∙ rw (number_next k (codes " " ++ (whole_text d ++ last)) is refl, narrow_next d last (denominator_fits d prices.0) refl, prices_next zs rest prices.1 ends) refl

patterns_end : (ps : List Pattern) → EndsNumber (each_after 32 pattern_text ps ++ codes "\n")
patterns_end [] = refl
patterns_end (p ∷ ps) = refl

price_next : (k : ℕ) (d : ℤ) (zs : List ℤ) (e : ℤ) (ps : List Pattern) → IsNumber k → ArePrices d zs → IsDenominator e → All IsPattern ps
    → price_in (number_text k ++ codes " " ++ whole_text d ++ codes " " ++ prices_text zs ++ codes " " ++ whole_text e ++ each_after 32 pattern_text ps ++ codes "\n") ≡ Some (line.Price k d zs e ps, codes "\n")
unfolding price_in
price_next k d zs e ps is prices scale all =
    let last = each_after 32 pattern_text ps ++ codes "\n" in
    ap price_in (nest3 (number_text k ++ codes " " ++ whole_text d ++ codes " " ++ prices_text zs ++ codes " ") (whole_text e) (each_after 32 pattern_text ps) (codes "\n") ∙ append_assoc (number_text k ++ codes " " ++ whole_text d ++ codes " " ++ prices_text zs) (codes " ") (whole_text e ++ last))
    ∙ rw (
      packing_next k d zs (codes " " ++ (whole_text e ++ last)) is prices (record { number = refl; comma = refl }),
      narrow_next e last (denominator_fits e scale) (patterns_end ps),
      each_next 32 pattern_in pattern_text IsPattern EndsNumber ps (codes "\n") pattern_exact space_ends_number all refl refl,
    ) refl

columns_some : (cs : List Col) → AreColumns cs → IsSome cs × All IsColumn cs
columns_some [] is = absurd is
columns_some (c ∷ cs) is = (omega arith, All-cons IsColumn c cs is.0 (following c cs is.1))
  where
    following : (c : Col) (ds : List Col) → FollowInOrder c ds → All IsColumn ds
    following c [] h = All-nil IsColumn
    following c (d ∷ ds) h = All-cons IsColumn d ds h.1 (following d ds h.2)

cover_next : (r : RowRef) (cs : List Col) → IsRow r → AreColumns cs → cut_in (codes "cover " ++ row_text r ++ codes " " ++ joined 44 column_text cs ++ codes "\n") ≡ Some (line.CutCover r cs, codes "\n")
unfolding cut_in
cover_next r cs is columns =
    let parts = columns_some cs columns in
    ap (λ (t : List ℕ). cut_in (codes "cover " ++ t)) (nest3 (row_text r) (codes " ") (joined 44 column_text cs) (codes "\n"))
    ∙ rw (
      row_next r (codes " " ++ (joined 44 column_text cs ++ codes "\n")) is (record { number = refl; comma = refl }),
      joined_next 44 column_in column_text IsColumn EndsColumn cs (codes "\n") column_exact comma_ends_column parts.0 parts.1 (record { number = refl; equal = refl }) refl,
    ) refl

leave_next : (k : ℕ) (nodes : List ℕ) → IsNumber k → IsList nodes → cut_in (codes "leave " ++ number_text k ++ codes " " ++ list_text nodes ++ codes "\n") ≡ Some (line.CutLeave k nodes, codes "\n")
unfolding cut_in
leave_next k nodes is also =
    ap (λ (t : List ℕ). cut_in (codes "leave " ++ t)) (nest3 (number_text k) (codes " ") (list_text nodes) (codes "\n"))
    ∙ rw (number_next k (codes " " ++ (list_text nodes ++ codes "\n")) is refl, list_next nodes (codes "\n") also (record { number = refl; comma = refl })) refl

feasible_next : (sub : ℕ) (d : ℤ) (zs : List ℤ) → IsNumber sub → AreValues d zs → seldom_in (codes "feasible " ++ number_text sub ++ codes " " ++ whole_text d ++ spaced zs ++ codes "\n") ≡ Some (line.Feasible sub d zs, codes "\n")
unfolding seldom_in
feasible_next sub d zs is values =
    ap (λ (t : List ℕ). seldom_in (codes "feasible " ++ t)) (nest_last2 (number_text sub) (codes " ") (whole_text d) (spaced zs) (codes "\n"))
    ∙ rw (number_next sub (codes " " ++ (whole_text d ++ spaced zs ++ codes "\n")) is refl, values_next d zs (codes "\n") values refl refl) refl

body_next : (l : Line) → IsInRange l → body_in (body_text l ++ codes "\n") ≡ Some (l, codes "\n")
unfolding body_in relaxed_in seldom_in close_in cut_in
body_next (line.Header version) is = rw (number_next version (codes "\n") (omega (arith, is)) refl) refl
body_next (line.Node id parent literal) is = node_next id parent literal (codes "\n") is.0 is.1 is.2 refl
body_next (line.At id) is = rw (long_next id (codes "\n") is refl) refl
body_next (line.Infer rule result) is = infer_next rule result is.0 is.1
body_next (line.Lemma lemma result) is = lemma_next lemma result is.0 (one_outcome result is.1)
body_next (line.CutoffNone literal terms) is = cutoff_none_next literal terms is.0 is.1
body_next (line.CutoffCost literal terms) is = cutoff_cost_next literal terms is.0 is.1
body_next (line.Floor terms) is = rw (terms_next terms is) refl
body_next (line.CloseNone terms) is = rw (terms_next terms is) refl
body_next (line.CloseCost terms) is = rw (terms_next terms is) refl
body_next line.CloseFloor is = refl
body_next (line.Violated k) is = rw (number_next k (codes "\n") is refl) refl
body_next (line.Pair denominator values) is = rw (values_next denominator values (codes "\n") is refl refl) refl
body_next (line.Norange program basis op left right) is = norange_next program basis op left right is.0 is.1
body_next (line.Price k denominator prices scale patterns) is = price_next k denominator prices scale patterns is.0 is.1 is.2 is.3
body_next (line.Farkas k denominator prices) is = rw (packing_next k denominator prices (codes "\n") is.0 is.1 (record { number = refl; comma = refl })) refl
body_next (line.CutGomory terms) is = rw (terms_next terms is.1) refl
body_next (line.CutCover row columns) is = cover_next row columns is.0 is.1
body_next (line.CutLeave k nodes) is = leave_next k nodes is.0 is.2
body_next (line.Assume literals) is = rw (each_next 32 literal_in literal_text IsLiteral EndsNumber literals (codes "\n") literal_exact space_ends_number is.1 refl refl) refl
body_next line.Qed is = refl
body_next line.Drop is = refl
body_next (line.Feasible sub denominator values) is = feasible_next sub denominator values is.0 is.1
body_next (line.Sol denominator values) is = rw (values_next denominator values (codes "\n") is refl refl) refl
body_next (line.Verdict v) is = rw (verdict_next v is) refl
body_next _ is = absurd is

pub line_exact : (l : Line) (bytes : List ℕ) → IsLine l → bytes ≡ text_of l → line_in bytes ≡ Some (l, [])
unfolding line_in text_of
line_exact l bytes is e = rw (e, body_next l (line_in_range l is)) refl

-- nothing stands behind a line that was read
nothing_behind : (bytes rest : List ℕ) (l : Line) → line_in bytes ≡ Some (l, rest) → rest ≡ []
unfolding line_in
nothing_behind bytes rest l h = pick (body_in bytes) h
  where
    last : (k : Line) (r : List ℕ) → choose (end_in r) (done k) None ≡ Some (l, rest) → rest ≡ []
    last k [] h = let pair : ◌≡◌ {A = Line × List ℕ} (k, []) (l, rest) = cc in sym (ap (λ (r : Line × List ℕ). r.1) pair)
    last k (b ∷ bs) h = absurd (cc)

    mid : (k : Line) (o : Option (List ℕ)) → choose o (ahead end_in (done k)) None ≡ Some (l, rest) → rest ≡ []
    mid k None h = absurd (cc)
    mid k (Some r) h = last k r h

    pick : (o : Option (Line × List ℕ)) → follow o (λ k. behind (codes "\n") (ahead end_in (done k))) ≡ Some (l, rest) → rest ≡ []
    pick None h = absurd (cc)
    pick (Some f) h = mid f.0 (rest_behind (codes "\n") f.1) h

-- ---- what is answered for bytes that a reader went through

pub line_found : (bytes : List ℕ) (k : Line) (new : Place) (refusal : Option LineRefusal) (r : Result Line LineRefusal) → Takes line_in (text_of k) (Ok bytes) k new
    → IfNone refusal (IsOk new × IsInRange k) → IfNone refusal (r ≡ Ok k) → IfSome refusal (λ why. r ≡ Err why)
    → (2 ^ 24 < length bytes → rest_behind (codes "norange ") bytes ≡ None → ⊥) → IfOk r (λ l. IsLine l × (bytes ≡ text_of l))
line_found bytes k new (Some why) r read fine ok err few = rw err tt
line_found bytes k new None r read fine ok err few = rw ok (pick new read.is fine)
  where
    pick : (new : Place) → takes line_in (text_of k) (Ok bytes) k new → IsOk new × IsInRange k → IsLine k × (bytes ≡ text_of k)
    pick (Ok rest) h is = let none = nothing_behind bytes rest k h.0 in let text : bytes ≡ text_of k = h.1 ∙ ap (λ (t : List ℕ). text_of k ++ t) none ∙ append-nil (text_of k) in (is_line k bytes is.1 text few, text)
    pick (Err fault) h is = absurd (let no = is.0 in cc)

pub line_bad : (bytes : List ℕ) (k l : Line) (new : Place) (refusal : Option LineRefusal) (r : Result Line LineRefusal) → Takes line_in (text_of k) (Ok bytes) k new
    → (refusal ≡ Some BadLine → IsOk new → IsInRange k → ⊥) → IfSome refusal (λ fault. IfErr new (λ first. fault ≡ first)) → IfNone refusal (r ≡ Ok k) → IfSome refusal (λ why. r ≡ Err why)
    → r ≡ Err BadLine → IsLine l → bytes ≡ text_of l → ⊥
line_bad bytes k l new None r read bad first ok err e is text = let both : ◌≡◌ {A = Result Line LineRefusal} (Ok k) (Err BadLine) = sym ok ∙ e in absurd (cc)
line_bad bytes k l new (Some why) r read bad first ok err e is text = pick new read.is first (λ n. bad (ap Some same) n)
  where
    same : why ≡ BadLine
    same = let both : ◌≡◌ {A = Result Line LineRefusal} (Err why) (Err BadLine) = sym err ∙ e in cc

    exact : line_in bytes ≡ Some (l, [])
    exact = line_exact l bytes is text

    pick : (new : Place) → takes line_in (text_of k) (Ok bytes) k new → IfErr new (λ fault. why ≡ fault) → (IsOk new → IsInRange k → ⊥) → ⊥
    pick (Err BadLine) h f b = let read = exact in absurd (cc)
    pick (Err OutOfMemory) h f b = let bad = same in absurd (cc)
    pick (Ok rest) h f b =
        let read = exact in
        let pair : ◌≡◌ {A = Line × List ℕ} (k, rest) (l, []) = cc in
        b refl (subst IsInRange (sym (ap (λ (r : Line × List ℕ). r.0) pair)) (line_in_range l is))

-- two lines of the grammar have different texts
pub one_text : (l k : Line) → IsLine l → IsLine k → text_of l ≡ text_of k → l ≡ k
one_text l k is also e = one_read l k (line_in (text_of l)) (line_exact l (text_of l) is refl) (line_exact k (text_of l) also e)
