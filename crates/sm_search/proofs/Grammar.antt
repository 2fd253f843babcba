-- Each line that the loop puts is one of the grammar.
use Rattle.std.proofs.Common.{◌≡◌, ℕ, ◌+◌, ◌*◌, ◌^◌, ◌<◌, ◌≤◌, List, [], ◌∷◌, ◌++◌, length, Option, Some, None, ℤ, pos, negsuc, suc, refl, ap, subst, arith, length-append}
use Rattle.std.specs.Prelude.{◌==◌, All, codes, map, unsigned_abs, Bool, true, false, cond, MatchOption}
use Rattle.std.proofs.lemmas.Int.{ints}
use Rattle.std.proofs.lemmas.Fmt.{length-decimal-le_wide}
use Rattle.std.proofs.Math.Nat.{eq-one_of_dvd-one}
use Rattle.std.proofs.lemmas.Option.{slice_get_within}
use Rattle.std.proofs.lemmas.List.Elements.{All-head, All-tail, All-nil, All-cons}
use Rattle.sm_base.specs.Whole.{whole_text}
use Rattle.sm_frac.specs.declared.fraction.Frac.{Frac}
use Rattle.sm_kinds.specs.declared.literal.Literal.{Literal}
use Rattle.sm_kinds.specs.declared.literal.Test.{Test}
use Rattle.sm_kinds.specs.declared.literal.Test.TheVariants.{AtMost, AtLeast, Equal, Unequal}
use Rattle.sm_flat.specs.declared.goal.Goal.{Goal}
use Rattle.sm_flat.specs.Models.{FlatModel}
use Rattle.sm_kinds.specs.Points.{Point}
use Rattle.sm_flat.specs.Assignments.{point_of}
use Rattle.sm_flat.specs.Assignments.{Numbers}
use Rattle.sm_flat.specs.Goals.{HasValuesBy, HasValues}
use Rattle.sm_step.specs.declared.line.Line.{Line}
use Rattle.sm_step.specs.declared.line.Line.TheVariants as line
use Rattle.sm_step.specs.declared.verdict.Verdict.{Verdict}
use Rattle.sm_step.specs.declared.verdict.Verdict.TheVariants as verdict
use Rattle.sm_step.specs.Verdicts.{parts_of}
use Rattle.sm_step.specs.PartText.{test_text, literal_text, fraction_text, each_after, spaced, value_text}
use Rattle.sm_step.specs.Text.{body_text, text_of}
use Rattle.sm_step.specs.Grammar.{IsWideNumber, IsLiteral, IsInRange, IsShort, IsLine}
use Rattle.sm_rules.specs.Nodes.{NodeView, TakesChild}
use Rattle.sm_rules.specs.Trees.{node_at}
use Rattle.sm_rules.specs.States.{State}
use Rattle.sm_rules.specs.Laws.{Allowed, LawfulVerdict}
use Rattle.sm_rules.specs.Sound.{IsNodeOf}
use Rattle.sm_rules.proofs.Keeping.{all_at}
use Rattle.sm_search.specs.Fits.{IsFit, IsOwn, IsNear}
use Rattle.sm_search.specs.Went.{Place, IsCounted}
use Rattle.sm_search.proofs.Fits.{child_near}

-- ---- lengths of texts

both : (a b : ℕ) (xs ys : List ℕ) → length xs ≤ a → length ys ≤ b → length (xs ++ ys) ≤ a + b
both a b xs ys one two = let sum = length-append xs ys in omega (arith, sum, one, two)

whole_short : (z : ℤ) → IsWideNumber z → length (whole_text z) ≤ 40
whole_short (pos n) fits = let short = length-decimal-le_wide 39 n (omega arith) (omega (arith, fits)) (omega (arith, fits)) in omega (arith, short)
whole_short (negsuc n) fits = let short = length-decimal-le_wide 39 (suc n) (omega arith) (omega (arith, fits)) (omega (arith, fits)) in omega (arith, short)

natural_whole : (n : ℕ) → n < 2 ^ 64 → IsWideNumber (pos n)
natural_whole n small = omega (arith, small)

test_short : (t : Test) → length (test_text t) ≤ 2
test_short AtMost = omega arith
test_short AtLeast = omega arith
test_short Equal = omega arith
test_short Unequal = omega arith

small_whole : (z : ℤ) → unsigned_abs z < 2 ^ 127 → IsWideNumber z
small_whole (pos n) small = omega (arith, small)
small_whole (negsuc n) small = omega (arith, small)

literal_short : (l : Literal) → IsLiteral l → length (literal_text l) ≤ 83
literal_short l (var, bound) =
    both 1 82 (codes "v") (whole_text (pos l.var) ++ test_text l.test ++ whole_text l.bound) (omega arith)
    (both 42 40 (whole_text (pos l.var) ++ test_text l.test) (whole_text l.bound)
    (both 40 2 (whole_text (pos l.var)) (test_text l.test) (whole_short (pos l.var) (natural_whole l.var (omega (arith, var)))) (test_short l.test))
    (whole_short l.bound (small_whole l.bound (omega (arith, bound)))))

spaced_short : (zs : List ℤ) → All IsWideNumber zs → length (spaced zs) ≤ 41 * length zs
spaced_short [] each = omega arith
spaced_short (z ∷ zs) each =
    let more = spaced_short zs (All-tail IsWideNumber z zs each) in
    let whole = whole_short z (All-head IsWideNumber z zs each) in
    let sum = length-append (32 ∷ whole_text z) (spaced zs) in
    omega (arith, sum, whole, more)

fraction_short : (f : Frac) → length (fraction_text f) ≤ 81
fraction_short f = by_test (unsigned_abs f.d == 1)
  where
    top : length (whole_text f.n) ≤ 40
    top = whole_short f.n (small_whole f.n f.bounded)

    by_test : (b : Bool) → length (cond b (whole_text f.n) (whole_text f.n ++ codes "/" ++ whole_text f.d)) ≤ 81
    by_test true = omega (arith, top)
    by_test false = both 41 40 (whole_text f.n ++ codes "/") (whole_text f.d) (both 40 1 (whole_text f.n) (codes "/") top (omega arith)) (whole_short f.d (small_whole f.d f.small))

rest_short : (fs : List Frac) → length (each_after 44 fraction_text fs) ≤ 82 * length fs
rest_short [] = omega arith
rest_short (f ∷ fs) =
    let more = rest_short fs in
    let first = fraction_short f in
    let sum = length-append (44 ∷ fraction_text f) (each_after 44 fraction_text fs) in
    omega (arith, more, first, sum)

value_short : (fs : List Frac) → length (value_text fs) ≤ 82 * length fs
value_short [] = omega arith
value_short (f ∷ fs) =
    let more = rest_short fs in
    let first = fraction_short f in
    let sum = length-append (fraction_text f) (each_after 44 fraction_text fs) in
    omega (arith, more, first, sum)

-- ---- lines

text_length : (l : Line) → length (text_of l) ≡ length (body_text l) + 1
unfolding text_of
text_length l = length-append (body_text l) (codes "\n")

node_long : (id parent : ℕ) (l : Literal) → 5 ≤ length (body_text (line.Node id parent l))
node_long id parent l = omega arith

node_short : (id parent : ℕ) (l : Literal) → id < 2 ^ 40 → parent < 2 ^ 40 → IsLiteral l → length (body_text (line.Node id parent l)) ≤ 170
node_short id parent l one two near =
    both 87 83 (codes "node " ++ whole_text (pos id) ++ codes " " ++ whole_text (pos parent) ++ codes " ") (literal_text l)
    (both 86 1 (codes "node " ++ whole_text (pos id) ++ codes " " ++ whole_text (pos parent)) (codes " ")
    (both 46 40 (codes "node " ++ whole_text (pos id) ++ codes " ") (whole_text (pos parent))
    (both 45 1 (codes "node " ++ whole_text (pos id)) (codes " ")
    (both 5 40 (codes "node ") (whole_text (pos id)) (omega arith) (whole_short (pos id) (natural_whole id (omega (arith, one)))))
    (omega arith))
    (whole_short (pos parent) (natural_whole parent (omega (arith, two)))))
    (omega arith))
    (literal_short l near)

is_short : (l : Line) → length (text_of l) ≤ 2 ^ 24 → IsShort l
is_short (line.Norange program basis op left right) short = tt
is_short _ short = short

short_of : (l : Line) → length (body_text l) ≤ 2 ^ 20 → IsShort l
short_of l short = is_short l (let sum = text_length l in omega (arith, sum, short))

number_at : (ns : List NodeView) (k : ℕ) → TakesChild (node_at ns k).status → (node_at ns k).number ≡ k
number_at [] k takes = absurd takes
number_at (n ∷ ns) k takes = by_test (n.number == k) refl (number_at ns k) takes
  where
    by_test : (b : Bool) → (n.number == k) ≡ b → (TakesChild (node_at ns k).status → (node_at ns k).number ≡ k) → TakesChild (cond b n (node_at ns k)).status → (cond b n (node_at ns k)).number ≡ k
    by_test true e more takes = grind arith
    by_test false e more takes = more takes

node_line : (m : FlatModel) (p : Place) (id parent : ℕ) (l : Literal) → IsFit m p.state → IsCounted p → Allowed m p.state (line.Node id parent l) → p.bytes + length (text_of (line.Node id parent l)) ≤ 2 ^ 40 → IsLine (line.Node id parent l)
unfolding IsLine
node_line m p id parent l fit counted ok limit =
    let nodes = p.state.main.nodes in
    let takes = ok.due.order.takes in
    let long = node_long id parent l in
    let sum = text_length (line.Node id parent l) in
    let below = all_at (λ (n : NodeView). n.number < p.state.main.count) nodes parent fit.of.numbered.below takes in
    let is = number_at nodes parent takes in
    let node = all_at (λ (n : NodeView). IsNodeOf m n) nodes parent fit.of.nodes takes in
    let near : IsLiteral l = child_near (node_at nodes parent).store (node_at nodes parent).status l (omega (arith, node.store.wide, fit.of.flat.vars.few)) ok.law (all_at (λ (n : NodeView). IsNear n.status) nodes parent fit.near takes) in
    let one : id < 2 ^ 40 = omega (arith, ok.due.order.next, counted.nodes, long, sum, limit) in
    let two : parent < 2 ^ 40 = omega (arith, ok.due.order.next, counted.nodes, long, sum, limit, below, is) in
    ((one, two, near), short_of (line.Node id parent l) (let short = node_short id parent l one two near in omega (arith, short)))

small_values : (vs : List ℤ) → All (λ n. unsigned_abs n ≤ 1 * 2 ^ 31) vs → All IsWideNumber vs
small_values [] each = All-nil IsWideNumber
small_values (v ∷ vs) each = All-cons IsWideNumber v vs (small_whole v (omega (arith, All-head (λ n. unsigned_abs n ≤ 1 * 2 ^ 31) v vs each))) (small_values vs (All-tail (λ n. unsigned_abs n ≤ 1 * 2 ^ 31) v vs each))

sol_line : (values : List ℤ) → length values ≤ 4096 → All (λ n. unsigned_abs n ≤ 1 * 2 ^ 31) values → IsLine (line.Sol (pos 1) values)
unfolding IsLine
sol_line values few small =
    let whole = small_values values small in
    let short = spaced_short values whole in (
      ((omega (arith, ints), omega (arith, ints)), whole, record { apart = λ k one all. eq-one_of_dvd-one one }),
      short_of (line.Sol (pos 1) values) (let most = both 44 200000 (codes "sol " ++ whole_text (pos 1)) (spaced values) (both 4 40 (codes "sol ") (whole_text (pos 1)) (omega arith) (whole_short (pos 1) (natural_whole 1 (omega arith)))) (omega (arith, short, few)) in omega (arith, most)),
    )

values_count : (gs : List Goal) (a : Point) (vs : List Frac) → HasValuesBy gs a (map parts_of vs) → length vs ≡ length gs
values_count [] a [] h = refl
values_count [] a (v ∷ vs) h = absurd h
values_count (g ∷ gs) a [] h = absurd h
values_count (g ∷ gs) a (v ∷ vs) h = ap suc (values_count gs a vs h.1)

optimal_line : (values : List Frac) → 1 ≤ length values → length values ≤ 4 → IsLine (line.Verdict (verdict.Optimal values))
unfolding IsLine
optimal_line values some few =
    let short = value_short values in
    (some, short_of (line.Verdict (verdict.Optimal values)) (let most = both 8 1000 (codes "verdict ") (codes "optimal " ++ value_text values) (omega arith) (both 8 992 (codes "optimal ") (value_text values) (omega arith) (omega (arith, short, few))) in omega (arith, most)))

small_line : (l : Line) → IsInRange l → length (body_text l) ≤ 2 ^ 20 → IsLine l
unfolding IsLine
small_line l range short = (range, short_of l short)

verdict_line : (m : FlatModel) (s : State) (v : Verdict) → IsFit m s → LawfulVerdict m s v → IsLine (line.Verdict v)
verdict_line m s (verdict.Optimal values) fit (any, best, refuted) = by_best s.best best
  where
    by_best : (b : Option Numbers) → MatchOption b ⊥ (λ b. HasValues m (point_of b) (map parts_of values)) → IsLine (line.Verdict (verdict.Optimal values))
    by_best None best = absurd best
    by_best (Some b) best = let count = values_count m.goals (point_of b) values best in optimal_line values (omega (arith, count, fit.of.flat.goals.some)) (omega (arith, count, fit.of.flat.goals.few))
verdict_line m s verdict.Satisfied fit law = small_line (line.Verdict verdict.Satisfied) tt (omega arith)
verdict_line m s verdict.Infeasible fit law = small_line (line.Verdict verdict.Infeasible) tt (omega arith)
verdict_line m s (verdict.Limit nodes bound best) fit law = absurd law
verdict_line m s (verdict.Range bound best) fit law = absurd law

-- an allowed line of the loop's own that keeps the log within its limit is one of the grammar
pub own_line : (m : FlatModel) (p : Place) (l : Line) → IsFit m p.state → IsCounted p → Allowed m p.state l → IsOwn p.state l → p.bytes + length (text_of l) ≤ 2 ^ 40 → IsLine l
own_line m p (line.Header version) fit counted ok own limit = rw ok.law (small_line (line.Header 1) refl (let short = both 10 40 (codes "simpl-log ") (whole_text (pos 1)) (omega arith) (whole_short (pos 1) (natural_whole 1 (omega arith))) in omega (arith, short)))
own_line m p (line.Node id parent l) fit counted ok own limit = node_line m p id parent l fit counted ok limit
own_line m p (line.Infer rule outcome) fit counted ok own limit = absurd own
own_line m p (line.Floor terms) fit counted ok own limit = absurd own
own_line m p line.CloseFloor fit counted ok own limit = small_line line.CloseFloor tt (omega arith)
own_line m p (line.Violated k) fit counted ok own limit =
    let within = slice_get_within m.constraints k ok.law.constraint ok.law.is in
    let small : k < 2 ^ 32 = omega (arith, within, fit.of.flat.constraints.few) in
    small_line (line.Violated k) small (let short = both 9 40 (codes "violated ") (whole_text (pos k)) (omega arith) (whole_short (pos k) (natural_whole k (omega (arith, small)))) in omega (arith, short))
own_line m p (line.Sol denominator values) fit counted ok own limit =
    let P : ℤ → Type 0 = λ d. All (λ n. unsigned_abs n ≤ unsigned_abs d * 2 ^ 31) values in
    let small : P (pos 1) = subst P own ok.law.fit.small in
    rw own (sol_line values (omega (arith, ok.law.each, fit.of.flat.vars.few)) small)
own_line m p (line.Verdict v) fit counted ok own limit = verdict_line m p.state v fit ok.law
own_line m p _ fit counted ok own limit = absurd ok.law
