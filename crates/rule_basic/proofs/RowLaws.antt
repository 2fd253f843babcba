-- The rows hold, and name no column twice.
use Rattle.std.proofs.Common.{◌≡◌, ◌∙◌, refl, sym, ap, subst, arith, ℕ, suc, ◌+◌, ◌<◌, ◌≤◌, Bool, true, false, cond, Option, Some, None, List, [], ◌∷◌, get_or}
use Rattle.std.specs.Prelude.{ℤ, pos, neg_ℤ, ◌+ℤ◌, ◌-ℤ◌, ◌*ℤ◌, ◌<ℤ◌, ◌≤ℤ◌, ◌==◌, ◌&&◌, All, AllPairs, filter}
use Rattle.std.specs.Ordering.{int_eq}
use Rattle.std.proofs.lemmas.Int.{ints}
use Rattle.std.proofs.lemmas.List.Elements.{All-head, All-tail}
use Rattle.std.proofs.Math.IntN.{*ℤ-zero}
use Rattle.sm_kinds.proofs.Multiples.{+ℤ-*ℤ, -ℤ-*ℤ, *ℤ-+ℤ}
use Rattle.sm_kinds.specs.declared.linear.Cmp.{Cmp}
use Rattle.sm_kinds.specs.declared.linear.Cmp.TheVariants.{AtMost, AtLeast, Equal}
use Rattle.sm_kinds.specs.declared.linear.LinRow.{LinRow}
use Rattle.sm_kinds.specs.declared.literal.Literal.{Literal}
use Rattle.sm_kinds.specs.Linear.{Compares, SatLinear}
use Rattle.sm_kinds.specs.Literals.{is_true}
use Rattle.sm_kinds.specs.Logic.{has_true}
use Rattle.sm_kinds.specs.Sums.{sum_at, VariablesRise}
use Rattle.sm_kinds.specs.Vars.{var_at, IsDiscrete}
use Rattle.sm_kinds.specs.Points.{Point}
use Rattle.sm_flat.specs.Models.{FlatModel}
use Rattle.sm_flat.specs.Limits.{IsFlat}
use Rattle.sm_flat.specs.Solutions.{Fits}
use Rattle.sm_step.specs.declared.row.Col.{Col}
use Rattle.sm_step.specs.declared.row.Col.TheVariants.{Var, Is}
use Rattle.sm_rows.specs.declared.row.Row.{Row}
use Rattle.sm_rows.specs.declared.form.ColumnForm.{ColumnForm}
use Rattle.sm_rows.specs.Rows.{row_sum, RowHolds}
use Rattle.sm_rows.specs.Links.{is_linked}
use Rattle.sm_rows.specs.Terms.{Lacks, IsApart}
use Rattle.sm_rows.specs.Forms.{form_at, add_form, form_of, indicators, same_each}
use Rattle.sm_rows.proofs.Sums.{row_sum-without_zeros, form_at-add_form, IsApart-add_terms, IsApart-without_zeros, zero_left}
use Rattle.sm_rows.proofs.FormLaws.{Rises, rises_of, pairs_tail, indicators_sum, LinkedValue, linked_parts, linked_value, form_law}
use Rattle.rule_basic.specs.LinRows.{column_terms, turned_terms, lin_row_by, lin_row}
use Rattle.rule_basic.specs.LinkRows.{link_row}
use Rattle.rule_basic.specs.MeanRows.{mean_terms, mean_row}
use Rattle.rule_basic.specs.ClauseRows.{then_form, add_forms, no_sum, at_least_one, if_sum, clause_row}

-- ---- linear constraints

pub neg_left : (a b : ℤ) → neg_ℤ a *ℤ b ≡ neg_ℤ (a *ℤ b)
neg_left a b = omega (arith, ints, sym (+ℤ-*ℤ a (neg_ℤ a) b), ap (λ (z : ℤ). z *ℤ b) (cancels a), zero_left b)
  where
    cancels : (x : ℤ) → x +ℤ neg_ℤ x ≡ pos 0
    cancels x = omega (arith, ints)

pub row_sum-column_terms : (a : Point) (ts : List (ℕ × ℤ)) → row_sum a (column_terms ts) ≡ sum_at ts a.numerator
row_sum-column_terms a [] = refl
row_sum-column_terms a (t ∷ ts) = ap (λ (z : ℤ). (t.1 *ℤ a.numerator t.0) +ℤ z) (row_sum-column_terms a ts)

pub row_sum-turned_terms : (a : Point) (ts : List (ℕ × ℤ)) → row_sum a (turned_terms ts) ≡ neg_ℤ (sum_at ts a.numerator)
row_sum-turned_terms a [] = refl
row_sum-turned_terms a (t ∷ ts) = rw (neg_left t.1 (a.numerator t.0)) (omega (arith, ints, row_sum-turned_terms a ts))

lin_by : (a : Point) (c : Cmp) (row : LinRow) → Compares c (sum_at row.terms a.numerator) (row.bound *ℤ a.denominator) → RowHolds a (lin_row_by c row)
lin_by a AtMost row h = rw (row_sum-turned_terms a row.terms, neg_left row.bound a.denominator) (omega (arith, ints, h))
lin_by a AtLeast row h = rw (row_sum-column_terms a row.terms) h
lin_by a Equal row h = rw (row_sum-column_terms a row.terms) h

-- a linear constraint that is satisfied holds as a row
pub lin_holds : (a : Point) (row : LinRow) → SatLinear row a → RowHolds a (lin_row row)
lin_holds a row h = lin_by a row.cmp row h

-- each variable is above the one before it, and the first above this number
abbrev RiseFrom : ℕ → List (ℕ × ℤ) → Type 0
RiseFrom low [] = Unit {0}
RiseFrom low (t ∷ ts) = (low < t.0) × RiseFrom t.0 ts

rise_tail : (t : ℕ × ℤ) (ts : List (ℕ × ℤ)) → VariablesRise (t ∷ ts) → VariablesRise ts
rise_tail t ts rise k lt =
    let next : suc k + 1 ≡ suc (k + 1) = omega arith in
    let P : ℕ → Type 0 = λ n. (get_or (t ∷ ts) (suc k) (0, pos 0)).0 < (get_or (t ∷ ts) n (0, pos 0)).0 in
    subst P next (rise (suc k) (omega arith))

rise_from : (t : ℕ × ℤ) (ts : List (ℕ × ℤ)) → VariablesRise (t ∷ ts) → RiseFrom t.0 ts
rise_from t [] rise = tt
rise_from t (u ∷ us) rise = (rise 0 (omega arith), rise_from u us (rise_tail t (u ∷ us) rise))

module _ (f : ℤ → ℤ) where
  abbrev over : List (ℕ × ℤ) → List (Col × ℤ)
  over [] = []
  over (t ∷ ts) = (Var t.0, f t.1) ∷ over ts

  over_lacks : (v low : ℕ) (ts : List (ℕ × ℤ)) → v ≤ low → RiseFrom low ts → Lacks (Var v) (over ts)
  over_lacks v low [] le rise = tt
  over_lacks v low (t ∷ ts) le rise = (let less = rise.0 in grind arith, over_lacks v t.0 ts (omega (arith, rise.0)) rise.1)

  over_apart : (ts : List (ℕ × ℤ)) → VariablesRise ts → IsApart (over ts)
  over_apart [] rise = tt
  over_apart (t ∷ ts) rise = (over_lacks t.0 t.0 ts (omega arith) (rise_from t ts rise), over_apart ts (rise_tail t ts rise))

column_over : (ts : List (ℕ × ℤ)) → column_terms ts ≡ over (λ (z : ℤ). z) ts
column_over [] = refl
column_over (t ∷ ts) = ap (λ (xs : List (Col × ℤ)). (Var t.0, t.1) ∷ xs) (column_over ts)

turned_over : (ts : List (ℕ × ℤ)) → turned_terms ts ≡ over neg_ℤ ts
turned_over [] = refl
turned_over (t ∷ ts) = ap (λ (xs : List (Col × ℤ)). (Var t.0, neg_ℤ t.1) ∷ xs) (turned_over ts)

pub column_terms_apart : (ts : List (ℕ × ℤ)) → VariablesRise ts → IsApart (column_terms ts)
column_terms_apart ts rise = rw (column_over ts) (over_apart (λ (z : ℤ). z) ts rise)

pub turned_terms_apart : (ts : List (ℕ × ℤ)) → VariablesRise ts → IsApart (turned_terms ts)
turned_terms_apart ts rise = rw (turned_over ts) (over_apart neg_ℤ ts rise)

lin_by_apart : (c : Cmp) (row : LinRow) → VariablesRise row.terms → IsApart (lin_row_by c row).terms
lin_by_apart AtMost row rise = turned_terms_apart row.terms rise
lin_by_apart AtLeast row rise = column_terms_apart row.terms rise
lin_by_apart Equal row rise = column_terms_apart row.terms rise

pub lin_apart : (row : LinRow) → VariablesRise row.terms → IsApart (lin_row row).terms
lin_apart row rise = lin_by_apart row.cmp row rise

-- ---- linked variables

all_kept : (ws : List ℤ) → filter (λ (w : ℤ). true) ws ≡ ws
all_kept [] = refl
all_kept (w ∷ ws) = ap (λ (xs : List ℤ). w ∷ xs) (all_kept ws)

-- the indicators of the declared values, each with its coefficient, are the coefficient of the assignment's value
indicators_all : (m : FlatModel) (a : Point) (v : ℕ) (f : ℤ → ℤ) (at : LinkedValue m a v) → pos 0 <ℤ a.denominator → row_sum a (indicators v f (var_at m.vars v).values) ≡ f at.value *ℤ a.denominator
indicators_all m a v f at p =
    let ws = (var_at m.vars v).values in
    ap (λ (xs : List ℤ). row_sum a (indicators v f xs)) (sym (all_kept ws)) ∙ indicators_sum a v f (λ (w : ℤ). true) at.value ws p at.is at.one at.pairs

pub link_holds : (m : FlatModel) (a : Point) (v : ℕ) → IsFlat m → Fits m a → is_linked m v ≡ true → RowHolds a (link_row v (var_at m.vars v).values)
link_holds m a v flat fits linked = indicators_all m a v (same_each (pos 1)) (linked_value m a v flat fits (linked_parts m v linked)) fits.positive

pub mean_holds : (m : FlatModel) (a : Point) (v : ℕ) → IsFlat m → Fits m a → is_linked m v ≡ true → RowHolds a (mean_row v (var_at m.vars v).values)
mean_holds m a v flat fits linked =
    let at = linked_value m a v flat fits (linked_parts m v linked) in
    let sum = indicators_all m a v neg_ℤ at fits.positive in
    let all = row_sum-without_zeros a (mean_terms v (var_at m.vars v).values) in
    let is = at.is in
    rw (all, sum, neg_left at.value a.denominator, is, zero_left a.denominator) (omega (arith, ints))

Lacks-indicators : (v : ℕ) (f : ℤ → ℤ) (w low : ℤ) (ws : List ℤ) → w ≤ℤ low → Rises low ws → Lacks (Is v w) (indicators v f ws)
Lacks-indicators v f w low [] le rises = tt
Lacks-indicators v f w low (x ∷ xs) le rises = (let less = rises.0 in let other : int_eq x w ≡ false = grind (arith, ints) in rw other (never (v == v)), Lacks-indicators v f w x xs (omega (arith, ints, rises.0, le)) rises.1)
  where
    never : (b : Bool) → (b && false) ≡ false
    never true = refl
    never false = refl

pub indicators_apart : (v : ℕ) (f : ℤ → ℤ) (ws : List ℤ) → AllPairs (λ (x y : ℤ). x <ℤ y) ws → IsApart (indicators v f ws)
indicators_apart v f [] pairs = tt
indicators_apart v f (w ∷ ws) pairs = (Lacks-indicators v f w w ws (omega (arith, ints)) (rises_of w ws pairs), indicators_apart v f ws (pairs_tail w ws pairs))

Lacks-variable : (v : ℕ) (f : ℤ → ℤ) (ws : List ℤ) → Lacks (Var v) (indicators v f ws)
Lacks-variable v f [] = tt
Lacks-variable v f (w ∷ ws) = (refl, Lacks-variable v f ws)

pub mean_apart : (v : ℕ) (ws : List ℤ) → AllPairs (λ (x y : ℤ). x <ℤ y) ws → IsApart (mean_row v ws).terms
mean_apart v ws pairs = IsApart-without_zeros (mean_terms v ws) (Lacks-variable v neg_ℤ ws, indicators_apart v neg_ℤ ws pairs)

-- ---- sums of the forms of literals

-- how many of the literals are true, times the denominator
abbrev pub truths : Point → List Literal → ℤ
truths a [] = pos 0
truths a (l ∷ ls) = cond (is_true a l) a.denominator (pos 0) +ℤ truths a ls

-- What the sum with the forms of literals comes to: `by` more for each true literal.
pub add_forms_law : (m : FlatModel) (a : Point) (by : ℤ) (ls : List Literal) (sum total : ColumnForm) → IsFlat m → Fits m a → All (λ (l : Literal). IsDiscrete m.vars l.var) ls → add_forms m by sum ls ≡ Some total → form_at a total ≡ form_at a sum +ℤ by *ℤ truths a ls
add_forms_law m a by [] sum total flat fits discrete e = let same : total ≡ sum = cc in rw (same, *ℤ-zero by) (omega (arith, ints))
add_forms_law m a by (l ∷ ls) sum total flat fits discrete e =
    by_form (form_of m l) refl e (λ s. add_forms_law m a by ls s total flat fits (All-tail (λ (x : Literal). IsDiscrete m.vars x.var) l ls discrete))
  where
    by_form : (o : Option ColumnForm) → form_of m l ≡ o → then_form o (λ f. add_forms m by (add_form sum by f) ls) ≡ Some total → ((s : ColumnForm) → add_forms m by s ls ≡ Some total → form_at a total ≡ form_at a s +ℤ by *ℤ truths a ls) → form_at a total ≡ form_at a sum +ℤ by *ℤ truths a (l ∷ ls)
    by_form None x e rest = absurd (cc)
    by_form (Some f) x e rest =
        let more = rest (add_form sum by f) e in
        let one = form_at-add_form a sum by f in
        let truth = form_law m l f flat x a fits (All-head (λ (y : Literal). IsDiscrete m.vars y.var) l ls discrete) in
        let both : form_at a (add_form sum by f) ≡ form_at a sum +ℤ by *ℤ cond (is_true a l) a.denominator (pos 0) = one ∙ ap (λ (z : ℤ). form_at a sum +ℤ by *ℤ z) truth in
        rw (*ℤ-+ℤ by (cond (is_true a l) a.denominator (pos 0)) (truths a ls)) (omega (arith, ints, more, both))

pub add_forms_apart : (m : FlatModel) (by : ℤ) (ls : List Literal) (sum total : ColumnForm) → IsApart sum.terms → add_forms m by sum ls ≡ Some total → IsApart total.terms
add_forms_apart m by [] sum total apart e = let same : total ≡ sum = cc in rw same apart
add_forms_apart m by (l ∷ ls) sum total apart e = by_form (form_of m l) e (λ s. add_forms_apart m by ls s total)
  where
    by_form : (o : Option ColumnForm) → then_form o (λ f. add_forms m by (add_form sum by f) ls) ≡ Some total → ((s : ColumnForm) → IsApart s.terms → add_forms m by s ls ≡ Some total → IsApart total.terms) → IsApart total.terms
    by_form None e rest = absurd (cc)
    by_form (Some f) e rest = rest (add_form sum by f) (IsApart-add_terms sum.terms by f.terms apart) e

truths_low : (a : Point) (ls : List Literal) → pos 0 <ℤ a.denominator → pos 0 ≤ℤ truths a ls
truths_low a [] p = omega (arith, ints)
truths_low a (l ∷ ls) p = by_test (is_true a l) (truths_low a ls p)
  where
    by_test : (b : Bool) → pos 0 ≤ℤ truths a ls → pos 0 ≤ℤ (cond b a.denominator (pos 0) +ℤ truths a ls)
    by_test true rest = omega (arith, ints, p, rest)
    by_test false rest = omega (arith, ints, rest)

later : (a : Point) (l : Literal) (ls : List Literal) → is_true a l ≡ false → has_true a (l ∷ ls) ≡ true → has_true a ls ≡ true
later a l ls e h = rw (e, has_true) at h

has_truth : (a : Point) (ls : List Literal) → pos 0 <ℤ a.denominator → has_true a ls ≡ true → a.denominator ≤ℤ truths a ls
has_truth a [] p h = absurd (cc)
has_truth a (l ∷ ls) p h = by_test (is_true a l) refl (truths_low a ls p) (has_truth a ls p) h
  where
    by_test : (b : Bool) → is_true a l ≡ b → pos 0 ≤ℤ truths a ls → (has_true a ls ≡ true → a.denominator ≤ℤ truths a ls) → has_true a (l ∷ ls) ≡ true → a.denominator ≤ℤ (cond b a.denominator (pos 0) +ℤ truths a ls)
    by_test true e low rest h = omega (arith, ints, low)
    by_test false e low rest h = let more = rest (later a l ls e h) in omega (arith, ints, more)

-- the row of a clause that has a true literal holds
clause_holds_at : (m : FlatModel) (a : Point) (ls : List Literal) (total : ColumnForm) → IsFlat m → Fits m a → All (λ (l : Literal). IsDiscrete m.vars l.var) ls → has_true a ls ≡ true → add_forms m (pos 1) no_sum ls ≡ Some total → RowHolds a (at_least_one total)
clause_holds_at m a ls total flat fits discrete h e =
    let sum = add_forms_law m a (pos 1) ls no_sum total flat fits discrete e in
    let some = has_truth a ls fits.positive h in
    let zero = zero_left a.denominator in
    let terms = row_sum-without_zeros a total.terms in
    let bound : (pos 1 -ℤ total.constant) *ℤ a.denominator ≡ pos 1 *ℤ a.denominator -ℤ total.constant *ℤ a.denominator = -ℤ-*ℤ (pos 1) total.constant a.denominator in
    rw (terms, bound) (omega (arith, ints, sum, some, zero))

pub clause_holds : (m : FlatModel) (a : Point) (ls : List Literal) (r : Row) → IsFlat m → Fits m a → All (λ (l : Literal). IsDiscrete m.vars l.var) ls → has_true a ls ≡ true → clause_row m ls ≡ Some r → RowHolds a r
clause_holds m a ls r flat fits discrete h e = by_sum (add_forms m (pos 1) no_sum ls) refl e
  where
    by_sum : (o : Option ColumnForm) → add_forms m (pos 1) no_sum ls ≡ o → if_sum o ≡ Some r → RowHolds a r
    by_sum None x e = absurd (cc)
    by_sum (Some total) x e =
        let same : r ≡ at_least_one total = cc in rw same (clause_holds_at m a ls total flat fits discrete h x)

pub clause_apart : (m : FlatModel) (ls : List Literal) (r : Row) → clause_row m ls ≡ Some r → IsApart r.terms
clause_apart m ls r e = by_sum (add_forms m (pos 1) no_sum ls) refl e
  where
    by_sum : (o : Option ColumnForm) → add_forms m (pos 1) no_sum ls ≡ o → if_sum o ≡ Some r → IsApart r.terms
    by_sum None x e = absurd (cc)
    by_sum (Some total) x e =
        let same : r ≡ at_least_one total = cc in
        rw same (IsApart-without_zeros total.terms (add_forms_apart m (pos 1) ls no_sum total tt x))
