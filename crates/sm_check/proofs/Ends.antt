-- A line's text has one line end, its last byte; so the texts of lines are cut into these.
use Rattle.std.proofs.Common.{◌≡◌, ◌++◌, ◌+◌, ◌<◌, ◌^◌, ℕ, ℤ, pos, negsuc, suc, Bool, true, false, cond, List, [], ◌∷◌, Option, Some, None, refl, ap, ◌∙◌, arith, FitsSigned}
use Rattle.std.specs.Prelude.{◌==◌, All, codes, map, unsigned_abs, if◌then◌else◌}
use Rattle.std.specs.List.{flat_map}
use Rattle.std.specs.Fmt.{decimal}
use Rattle.std.specs.Str.Parse.{AllDigits}
use Rattle.std.specs.Int.{w64}
use Rattle.std.proofs.lemmas.Int.{ints}
use Rattle.std.proofs.lemmas.Fmt.{decimal_is_IsNumeral_wide}
use Rattle.std.proofs.lemmas.Str.Parse.{digit_at}
use Rattle.std.proofs.lemmas.List.Elements.{All-head, All-tail, All-nil, All-cons, All-append}
use Rattle.sm_base.specs.Whole.{whole_text}
use Rattle.sm_frac.specs.declared.fraction.Frac.{Frac}
use Rattle.sm_frac.specs.declared.operation.Op.{Op}
use Rattle.sm_frac.specs.declared.operation.Op.TheVariants.{Plus, Minus, Times, Over, Lcm}
use Rattle.sm_kinds.specs.declared.literal.Literal.{Literal}
use Rattle.sm_kinds.specs.declared.literal.Test.{Test}
use Rattle.sm_kinds.specs.declared.literal.Test.TheVariants.{AtMost, AtLeast, Equal, Unequal}
use Rattle.sm_step.specs.declared.line.Line.{Line}
use Rattle.sm_step.specs.declared.line.Line.TheVariants as line
use Rattle.sm_step.specs.declared.line.Outcome.{Outcome}
use Rattle.sm_step.specs.declared.line.Outcome.TheVariants.{Close, Literals}
use Rattle.sm_step.specs.declared.line.Listed.{Listed}
use Rattle.sm_step.specs.declared.line.Pattern.{Pattern}
use Rattle.sm_step.specs.declared.line.NorangeOf.{NorangeOf}
use Rattle.sm_step.specs.declared.line.NorangeOf.TheVariants.{Relax, Leaf, Pack}
use Rattle.sm_step.specs.declared.row.Col.{Col}
use Rattle.sm_step.specs.declared.row.Col.TheVariants.{Var, Is}
use Rattle.sm_step.specs.declared.row.RowRef.{RowRef}
use Rattle.sm_step.specs.declared.row.RowRef.TheVariants as row
use Rattle.sm_step.specs.declared.row.Term.{Term}
use Rattle.sm_step.specs.declared.rule.Rule.{Rule}
use Rattle.sm_step.specs.declared.rule.Rule.TheVariants as rule
use Rattle.sm_step.specs.declared.verdict.Verdict.{Verdict}
use Rattle.sm_step.specs.declared.verdict.Verdict.TheVariants as verdict
use Rattle.sm_step.specs.PartText.{number_text, test_text, literal_text, fraction_text, each_after, joined, joined_or_none, spaced, value_text, list_text, prices_text}
use Rattle.sm_step.specs.RowText.{column_text, row_text, term_text, terms_text}
use Rattle.sm_step.specs.RuleText.{task_text, rule_text, outcome_text}
use Rattle.sm_step.specs.Text.{listed_text, pattern_text, program_text, operation_text, best_text, verdict_text, body_text, text_of}
use Rattle.sm_step.specs.Grammar.{IsNumber, IsWideNumber, IsDenominator, IsLiteral, IsList, RisesFrom, IsColumn, FollowInOrder, AreColumns, IsRow, IsTerm, IsTask, IsRule, IsOutcome, IsOneOutcome, IsListed, IsPattern, IsProgram, IsVerdict, IsInRange, IsLine}
use Rattle.sm_step.proofs.Lines.{line_in_range}
use Rattle.sm_check.specs.Replays.{cut}
use Rattle.sm_check.specs.Feeds.{HasNoEnd, IsPiece}
use Rattle.sm_check.proofs.Cutting.{cut_piece}

abbrev NotEnd : ℕ → Type 0
NotEnd b = b ≡ 10 → ⊥

-- no line ends in the text
record IsPlain (text : List ℕ) : Type 0 where
  single : HasNoEnd text

plain_none : IsPlain []
plain_none = record { single = All-nil NotEnd }

plain_more : (b : ℕ) (bs : List ℕ) → NotEnd b → IsPlain bs → IsPlain (b ∷ bs)
plain_more b bs other more = record { single = All-cons NotEnd b bs other more.single }

infixl 10 ◌▸◌
◌▸◌ : {xs ys : List ℕ} → IsPlain xs → IsPlain ys → IsPlain (xs ++ ys)
one ▸ two = record { single = All-append NotEnd _ _ one.single two.single }

-- a test for constant texts
abbrev has_none : List ℕ → Bool
has_none [] = true
has_none (b ∷ bs) = if b == 10 then false else has_none bs

say : (bs : List ℕ) → has_none bs ≡ true → IsPlain bs
say [] e = plain_none
say (b ∷ bs) e = pick (b == 10) refl (say bs) e
  where
    pick : (t : Bool) → (b == 10) ≡ t → (has_none bs ≡ true → IsPlain bs) → cond t false (has_none bs) ≡ true → IsPlain (b ∷ bs)
    pick true here more e = absurd (cc)
    pick false here more e = plain_more b bs (λ is. grind arith) (more e)

-- ---- parts

digits_plain : (ds : List ℕ) → AllDigits 10 ds → IsPlain ds
digits_plain [] all = plain_none
digits_plain (d ∷ ds) all =
    let digit = digit_at (d ∷ ds) 0 all (omega arith) in
    plain_more d ds (λ is. omega (arith, digit, is)) (digits_plain ds all.1)

decimal_plain : (n : ℕ) → n < 10 ^ 64 → IsPlain (decimal n)
decimal_plain n small = digits_plain (decimal n) (decimal_is_IsNumeral_wide n small).0.1

whole_plain : (z : ℤ) → IsWideNumber z → IsPlain (whole_text z)
whole_plain (pos n) fits = decimal_plain n (omega (arith, fits))
whole_plain (negsuc n) fits = plain_more 45 (decimal (suc n)) (λ e. omega (arith, e)) (decimal_plain (suc n) (omega (arith, fits)))

long_plain : (n : ℕ) → n < 2 ^ 64 → IsPlain (number_text n)
long_plain n small = decimal_plain n (omega (arith, small))

number_plain : (n : ℕ) → IsNumber n → IsPlain (number_text n)
number_plain n small = decimal_plain n (omega (arith, small))

small_plain : (z : ℤ) → unsigned_abs z < 2 ^ 127 → IsPlain (whole_text z)
small_plain (pos n) small = decimal_plain n (omega (arith, small))
small_plain (negsuc n) small = plain_more 45 (decimal (suc n)) (λ e. omega (arith, e)) (decimal_plain (suc n) (omega (arith, small)))

denominator_small : (d : ℤ) → IsDenominator d → unsigned_abs d < 2 ^ 127
denominator_small (pos n) is = omega (arith, ints, is.1)
denominator_small (negsuc n) is = absurd (omega (arith, ints, is.0))

denominator_plain : (d : ℤ) → IsDenominator d → IsPlain (whole_text d)
denominator_plain d is = small_plain d (denominator_small d is)

test_plain : (t : Test) → IsPlain (test_text t)
test_plain AtMost = say (codes "<=") refl
test_plain AtLeast = say (codes ">=") refl
test_plain Equal = say (codes "=") refl
test_plain Unequal = say (codes "!=") refl

literal_plain : (l : Literal) → IsLiteral l → IsPlain (literal_text l)
literal_plain l (var, bound) = say (codes "v") refl ▸ number_plain l.var var ▸ test_plain l.test ▸ small_plain l.bound (omega (arith, bound))

fraction_plain : (f : Frac) → IsPlain (fraction_text f)
fraction_plain f = pick (unsigned_abs f.d == 1)
  where
    top : IsPlain (whole_text f.n)
    top = small_plain f.n f.bounded

    pick : (b : Bool) → IsPlain (cond b (whole_text f.n) (whole_text f.n ++ codes "/" ++ whole_text f.d))
    pick true = top
    pick false = top ▸ say (codes "/") refl ▸ small_plain f.d f.small

-- ---- lists

each_plain : {X : Type 0} (mark : ℕ) (text : X → List ℕ) (xs : List X) → NotEnd mark → All (λ x. IsPlain (text x)) xs → IsPlain (each_after mark text xs)
each_plain mark text [] other each = plain_none
each_plain mark text (x ∷ xs) other each =
    plain_more mark (text x) other (All-head (λ x. IsPlain (text x)) x xs each) ▸ each_plain mark text xs other (All-tail (λ x. IsPlain (text x)) x xs each)

joined_plain : {X : Type 0} (mark : ℕ) (text : X → List ℕ) (xs : List X) → NotEnd mark → All (λ x. IsPlain (text x)) xs → IsPlain (joined mark text xs)
joined_plain mark text [] other each = plain_none
joined_plain mark text (x ∷ xs) other each =
    All-head (λ x. IsPlain (text x)) x xs each ▸ each_plain mark text xs other (All-tail (λ x. IsPlain (text x)) x xs each)

or_none_plain : {X : Type 0} (mark : ℕ) (text : X → List ℕ) (xs : List X) → NotEnd mark → All (λ x. IsPlain (text x)) xs → IsPlain (joined_or_none mark text xs)
or_none_plain mark text [] other each = say (codes "-") refl
or_none_plain mark text (x ∷ xs) other each = joined_plain mark text (x ∷ xs) other each

-- what holds of each element has a plain text of each
every : {X : Type 0} (P Q : X → Type 0) → ((x : X) → P x → Q x) → (xs : List X) → All P xs → All Q xs
every P Q f [] each = All-nil Q
every P Q f (x ∷ xs) each = All-cons Q x xs (f x (All-head P x xs each)) (every P Q f xs (All-tail P x xs each))

any : {X : Type 0} (Q : X → Type 0) → ((x : X) → Q x) → (xs : List X) → All Q xs
any Q f [] = All-nil Q
any Q f (x ∷ xs) = All-cons Q x xs (f x) (any Q f xs)

rising_plain : (least : ℕ) (ns : List ℕ) → RisesFrom least ns → All (λ n. IsPlain (number_text n)) ns
rising_plain least [] rises = All-nil (λ n. IsPlain (number_text n))
rising_plain least (n ∷ ns) rises = All-cons (λ n. IsPlain (number_text n)) n ns (number_plain n rises.1) (rising_plain (n + 1) ns rises.2)

list_plain : (ns : List ℕ) → IsList ns → IsPlain (list_text ns)
list_plain ns is = or_none_plain 44 number_text ns (λ e. omega (arith, e)) (rising_plain 0 ns is)

wholes_plain : (zs : List ℤ) → All IsWideNumber zs → All (λ z. IsPlain (whole_text z)) zs
wholes_plain zs each = every IsWideNumber (λ z. IsPlain (whole_text z)) whole_plain zs each

spaced_plain : (zs : List ℤ) → All IsWideNumber zs → IsPlain (spaced zs)
spaced_plain zs each = each_plain 32 whole_text zs (λ e. omega (arith, e)) (wholes_plain zs each)

prices_plain : (zs : List ℤ) → All IsWideNumber zs → IsPlain (prices_text zs)
prices_plain zs each = or_none_plain 44 whole_text zs (λ e. omega (arith, e)) (wholes_plain zs each)

value_plain : (fs : List Frac) → IsPlain (value_text fs)
value_plain fs = joined_plain 44 fraction_text fs (λ e. omega (arith, e)) (any (λ f. IsPlain (fraction_text f)) fraction_plain fs)

literals_plain : (ls : List Literal) → All IsLiteral ls → All (λ l. IsPlain (literal_text l)) ls
literals_plain ls each = every IsLiteral (λ l. IsPlain (literal_text l)) literal_plain ls each

-- ---- rows and rules

column_plain : (c : Col) → IsColumn c → IsPlain (column_text c)
column_plain (Var v) is = say (codes "v") refl ▸ number_plain v is
column_plain (Is v x) is = say (codes "v") refl ▸ number_plain v is.0 ▸ say (codes "=") refl ▸ narrow_plain x is.1
  where
    narrow_plain : (x : ℤ) → FitsSigned w64 x → IsPlain (whole_text x)
    narrow_plain (pos n) fits = decimal_plain n (omega (arith, fits))
    narrow_plain (negsuc n) fits = plain_more 45 (decimal (suc n)) (λ e. omega (arith, e)) (decimal_plain (suc n) (omega (arith, fits)))

following_plain : (c : Col) (cs : List Col) → FollowInOrder c cs → All (λ c. IsPlain (column_text c)) cs
following_plain c [] is = All-nil (λ c. IsPlain (column_text c))
following_plain c (d ∷ ds) is = All-cons (λ c. IsPlain (column_text c)) d ds (column_plain d is.1) (following_plain d ds is.2)

columns_plain : (cs : List Col) → AreColumns cs → IsPlain (joined 44 column_text cs)
columns_plain [] is = absurd is
columns_plain (c ∷ cs) is = joined_plain 44 column_text (c ∷ cs) (λ e. omega (arith, e)) (All-cons (λ c. IsPlain (column_text c)) c cs (column_plain c is.0) (following_plain c cs is.1))

row_plain : (r : RowRef) → IsRow r → IsPlain (row_text r)
row_plain (row.Lin k) is = say (codes "lin.") refl ▸ number_plain k is
row_plain (row.Link v) is = say (codes "link.") refl ▸ number_plain v is
row_plain (row.Mean v) is = say (codes "mean.") refl ▸ number_plain v is
row_plain (row.Clause k c) is = say (codes "clause.") refl ▸ number_plain k is.0 ▸ say (codes ".") refl ▸ number_plain c is.1
row_plain (row.When k half) is = say (codes "when.") refl ▸ number_plain k is.0 ▸ say (codes ".") refl ▸ number_plain half is.1
row_plain (row.Value k v) is = say (codes "value.") refl ▸ number_plain k is.0 ▸ say (codes ".") refl ▸ whole_plain v is.1
row_plain (row.Table k) is = say (codes "table.") refl ▸ number_plain k is
row_plain (row.Time k moment) is = say (codes "time.") refl ▸ number_plain k is.0 ▸ say (codes ".") refl ▸ whole_plain moment is.1
row_plain (row.Par k tasks) is = say (codes "par.") refl ▸ number_plain k is.0 ▸ say (codes ".") refl ▸ list_plain tasks is.1
row_plain (row.Cap k group) is = say (codes "cap.") refl ▸ number_plain k is.0 ▸ say (codes ".") refl ▸ number_plain group is.1
row_plain (row.Pack k) is = say (codes "pack.") refl ▸ number_plain k is
row_plain (row.Once k node) is = say (codes "once.") refl ▸ number_plain k is.0 ▸ say (codes ".") refl ▸ number_plain node is.1
row_plain (row.SelfLoop k place) is = say (codes "self.") refl ▸ number_plain k is.0 ▸ say (codes ".") refl ▸ number_plain place is.1
row_plain (row.Cut cut) is = say (codes "cut.") refl ▸ long_plain cut (omega (arith, is))
row_plain (row.Goal level) is = absurd is
row_plain (row.Named name) is = absurd is

term_plain : (t : Term) → IsTerm t → IsPlain (term_text t)
term_plain t is = fraction_plain t.by ▸ say (codes "@") refl ▸ row_plain t.row is

terms_plain : (ts : List Term) → All IsTerm ts → IsPlain (terms_text ts)
terms_plain ts each = each_plain 32 term_text ts (λ e. omega (arith, e)) (every IsTerm (λ t. IsPlain (term_text t)) term_plain ts each)

task_plain : (t : Option ℕ) → IsTask t → IsPlain (task_text t)
task_plain None is = say (codes "-") refl
task_plain (Some task) is = number_plain task is

rule_plain : (r : Rule) → IsRule r → IsPlain (rule_text r)
rule_plain (rule.Sum k half) is = say (codes "sum ") refl ▸ number_plain k is.0 ▸ say (codes " ") refl ▸ number_plain half is.1
rule_plain (rule.Clause k c) is = say (codes "clause ") refl ▸ number_plain k is.0 ▸ say (codes " ") refl ▸ number_plain c is.1
rule_plain (rule.When k half) is = say (codes "when ") refl ▸ number_plain k is.0 ▸ say (codes " ") refl ▸ number_plain half is.1
rule_plain (rule.Hall k w) is = say (codes "hall ") refl ▸ number_plain k is.0 ▸ say (codes " ") refl ▸ list_plain w is.1
rule_plain (rule.Elem k) is = say (codes "elem ") refl ▸ number_plain k is
rule_plain (rule.Isum k) is = say (codes "isum ") refl ▸ number_plain k is
rule_plain (rule.Time k moment task) is = say (codes "time ") refl ▸ number_plain k is.0 ▸ say (codes " ") refl ▸ whole_plain moment is.1 ▸ say (codes " ") refl ▸ task_plain task is.2
rule_plain (rule.Energy k w) is = say (codes "energy ") refl ▸ number_plain k is.0 ▸ say (codes " ") refl ▸ list_plain w is.1
rule_plain (rule.Load k w) is = say (codes "load ") refl ▸ number_plain k is.0 ▸ say (codes " ") refl ▸ list_plain w is.1
rule_plain (rule.After k task w v) is = say (codes "after ") refl ▸ number_plain k is.0 ▸ say (codes " ") refl ▸ number_plain task is.1 ▸ say (codes " ") refl ▸ list_plain w is.2 ▸ say (codes " ") refl ▸ list_plain v is.3
rule_plain (rule.Before k task w v) is = say (codes "before ") refl ▸ number_plain k is.0 ▸ say (codes " ") refl ▸ number_plain task is.1 ▸ say (codes " ") refl ▸ list_plain w is.2 ▸ say (codes " ") refl ▸ list_plain v is.3
rule_plain (rule.Cap k group) is = say (codes "cap ") refl ▸ number_plain k is.0 ▸ say (codes " ") refl ▸ number_plain group is.1
rule_plain (rule.Pay k) is = say (codes "pay ") refl ▸ number_plain k is
rule_plain (rule.Chain k place) is = say (codes "chain ") refl ▸ number_plain k is.0 ▸ say (codes " ") refl ▸ number_plain place is.1

outcome_plain : (o : Outcome) → IsOutcome o → IsPlain (outcome_text o)
outcome_plain Close is = say (codes "close") refl
outcome_plain (Literals literals) is = joined_plain 32 literal_text literals (λ e. omega (arith, e)) (literals_plain literals is.1)

one_outcome_plain : (o : Outcome) → IsOneOutcome o → IsPlain (outcome_text o)
one_outcome_plain Close is = say (codes "close") refl
one_outcome_plain (Literals literals) is = joined_plain 32 literal_text literals (λ e. omega (arith, e)) (literals_plain literals is.1)

-- ---- lines

listed_plain : (p : Listed) → IsListed p → IsPlain (listed_text p)
listed_plain p is = number_plain p.group is.0 ▸ say (codes ":") refl ▸ list_plain p.items is.1

pattern_plain : (p : Pattern) → IsPattern p → IsPlain (pattern_text p)
pattern_plain p is = number_plain p.group is.0 ▸ say (codes ":") refl ▸ list_plain p.items is.1 ▸ say (codes ":") refl ▸ whole_plain p.weight is.2

program_plain : (p : NorangeOf) → IsProgram p → IsPlain (program_text p)
program_plain Relax is = say (codes "relax") refl
program_plain Leaf is = say (codes "leaf") refl
program_plain (Pack k patterns) is = say (codes "pack.") refl ▸ number_plain k is.0 ▸ say (codes " ") refl ▸ or_none_plain 59 listed_text patterns (λ e. omega (arith, e)) (every IsListed (λ p. IsPlain (listed_text p)) listed_plain patterns is.1)

operation_plain : (o : Op) → IsPlain (operation_text o)
operation_plain Plus = say (codes "plus") refl
operation_plain Minus = say (codes "minus") refl
operation_plain Times = say (codes "times") refl
operation_plain Over = say (codes "over") refl
operation_plain Lcm = say (codes "lcm") refl

best_plain : (b : Option (List Frac)) → IsPlain (best_text b)
best_plain None = say (codes "none") refl
best_plain (Some values) = value_plain values

verdict_plain : (v : Verdict) → IsVerdict v → IsPlain (verdict_text v)
verdict_plain (verdict.Optimal values) is = say (codes "optimal ") refl ▸ value_plain values
verdict_plain verdict.Satisfied is = say (codes "satisfied") refl
verdict_plain verdict.Infeasible is = say (codes "infeasible") refl
verdict_plain (verdict.Limit nodes bound best) is = say (codes "limit ") refl ▸ long_plain nodes (omega (arith, is.0)) ▸ say (codes " ") refl ▸ fraction_plain bound ▸ say (codes " ") refl ▸ best_plain best
verdict_plain (verdict.Range bound best) is = say (codes "range ") refl ▸ fraction_plain bound ▸ say (codes " ") refl ▸ best_plain best

body_plain : (l : Line) → IsInRange l → IsPlain (body_text l)
body_plain (line.Header version) is = say (codes "simpl-log ") refl ▸ long_plain version (omega (arith, is))
body_plain (line.Node id parent literal) is = say (codes "node ") refl ▸ long_plain id (omega (arith, is.0)) ▸ say (codes " ") refl ▸ long_plain parent (omega (arith, is.1)) ▸ say (codes " ") refl ▸ literal_plain literal is.2
body_plain (line.At id) is = say (codes "at ") refl ▸ long_plain id (omega (arith, is))
body_plain (line.Infer rule result) is = say (codes "infer ") refl ▸ rule_plain rule is.0 ▸ say (codes " -> ") refl ▸ outcome_plain result is.1
body_plain (line.Lemma lemma result) is = say (codes "lemma ") refl ▸ long_plain lemma (omega (arith, is.0)) ▸ say (codes " -> ") refl ▸ one_outcome_plain result is.1
body_plain (line.CutoffNone literal terms) is = say (codes "cutoff ") refl ▸ literal_plain literal is.0 ▸ say (codes " none") refl ▸ terms_plain terms is.1
body_plain (line.CutoffCost literal terms) is = say (codes "cutoff ") refl ▸ literal_plain literal is.0 ▸ say (codes " cost") refl ▸ terms_plain terms is.1
body_plain (line.Floor terms) is = say (codes "floor") refl ▸ terms_plain terms is
body_plain (line.CloseNone terms) is = say (codes "close none") refl ▸ terms_plain terms is
body_plain (line.CloseCost terms) is = say (codes "close cost") refl ▸ terms_plain terms is
body_plain line.CloseFloor is = say (codes "close floor") refl
body_plain (line.Violated k) is = say (codes "violated ") refl ▸ number_plain k is
body_plain (line.Pair denominator values) is = say (codes "pair ") refl ▸ denominator_plain denominator is.0 ▸ spaced_plain values is.1
body_plain (line.Norange program basis op left right) is =
    say (codes "norange ") refl ▸ program_plain program is.0 ▸ say (codes " ") refl ▸ list_plain basis is.1 ▸ say (codes " ") refl ▸ operation_plain op
    ▸ say (codes " ") refl ▸ fraction_plain left ▸ say (codes " ") refl ▸ fraction_plain right
body_plain (line.Price k denominator prices scale patterns) is =
    say (codes "price ") refl ▸ number_plain k is.0 ▸ say (codes " ") refl ▸ denominator_plain denominator is.1.0 ▸ say (codes " ") refl ▸ prices_plain prices is.1.1
    ▸ say (codes " ") refl ▸ denominator_plain scale is.2 ▸ each_plain 32 pattern_text patterns (λ e. omega (arith, e)) (every IsPattern (λ p. IsPlain (pattern_text p)) pattern_plain patterns is.3)
body_plain (line.Farkas k denominator prices) is = say (codes "farkas ") refl ▸ number_plain k is.0 ▸ say (codes " ") refl ▸ denominator_plain denominator is.1.0 ▸ say (codes " ") refl ▸ prices_plain prices is.1.1
body_plain (line.CutGomory terms) is = say (codes "cut gomory") refl ▸ terms_plain terms is.1
body_plain (line.CutCover row columns) is = say (codes "cut cover ") refl ▸ row_plain row is.0 ▸ say (codes " ") refl ▸ columns_plain columns is.1
body_plain (line.CutLeave k nodes) is = say (codes "cut leave ") refl ▸ number_plain k is.0 ▸ say (codes " ") refl ▸ list_plain nodes is.2
body_plain (line.Assume literals) is = say (codes "assume") refl ▸ each_plain 32 literal_text literals (λ e. omega (arith, e)) (literals_plain literals is.1)
body_plain line.Qed is = say (codes "qed") refl
body_plain line.Drop is = say (codes "drop") refl
body_plain (line.Feasible sub denominator values) is = say (codes "feasible ") refl ▸ number_plain sub is.0 ▸ say (codes " ") refl ▸ denominator_plain denominator is.1.0 ▸ spaced_plain values is.1.1
body_plain (line.Sol denominator values) is = say (codes "sol ") refl ▸ denominator_plain denominator is.0 ▸ spaced_plain values is.1
body_plain (line.Verdict v) is = say (codes "verdict ") refl ▸ verdict_plain v is
body_plain _ is = absurd is

text_is : (l : Line) → text_of l ≡ body_text l ++ 10 ∷ []
unfolding text_of
text_is l = refl

pub line_piece : (l : Line) → IsLine l → IsPiece (text_of l)
line_piece l good = record { body = body_text l; single = (body_plain l (line_in_range l good)).single; is = text_is l }

-- the texts of lines are cut into these texts
pub cut_lines : (lines : List Line) → All IsLine lines → cut (flat_map text_of lines) ≡ map text_of lines
cut_lines [] each = refl
cut_lines (l ∷ ls) each =
    cut_piece (text_of l) (flat_map text_of ls) (line_piece l (All-head IsLine l ls each))
    ∙ ap (λ (x : List (List ℕ)). text_of l ∷ x) (cut_lines ls (All-tail IsLine l ls each))
