-- A number that enters at one dictionary and leaves at another of the same program, both times by the rule of the least number, while no greater number moves between: the two dictionaries contradict each other.
use Rattle.std.proofs.Common.{◌≡◌, ℕ, ◌<◌, sym, ap, ◌∙◌, refl, arith, ◌≢◌, subst}
use Rattle.std.specs.Prelude.{◌⊎◌, pos}
use Rattle.std.proofs.lemmas.Int.{ints}
use Rattle.std.proofs.lemmas.Bool.{cases_eq, cases_order}
use Rattle.std.proofs.Math.Logic.{⊎_elim}
use Rattle.sm_frac.specs.Rational.{ℚ, ◌+ℚ◌, ◌*ℚ◌, neg_ℚ, zero_ℚ, one_ℚ, is_nonnegative-fraction}
use Rattle.sm_frac.proofs.RationalRing.{ring, add_right_cancel, neg_cancel}
use Rattle.sm_certificate.specs.Totals.{total}
use Rattle.sm_lp.specs.Dictionary.{Dictionary, Solves, IsProper}
use Rattle.sm_certificate.proofs.Totals.{total_split, without, without_at, without_off}
use Rattle.sm_lp.proofs.Points.{column_point, column_point_nonbasic, column_point_basic, column_point_solves, unit, unit_at, unit_off}
use Rattle.sm_certificate.proofs.Signs.{AtLeast, Below, AtMost, Above, at_most, product_at_least, zero_at_least, moved, product_at_most, product_below, above_below, total_below, total_at_least, total_turned}

-- the number x is one of those of d
abbrev pub Occurs : Dictionary → ℕ → Type 0
Occurs d x = ((i : ℕ) × (i < d.height) × (d.basic i ≡ x)) ⊎ ((j : ℕ) × (j < d.width) × (d.nonbasic j ≡ x))

-- x enters, since its coefficient in the goal is negative and no lesser number needs a move. f is the place of the constant, g that of the goal
pub record EntersByGoal (d : Dictionary) (f g x : ℕ) : Type 0 where
  pub column : ℕ
  pub inside : column < d.width
  pub free : column ≢ f
  pub is : d.nonbasic column ≡ x
  pub negative : Below (d.entry g column)
  pub goal : (j : ℕ) → j < d.width → j ≢ f → d.nonbasic j < x → AtLeast (d.entry g j)
  pub constants : (i : ℕ) → i < d.height → d.basic i < x → AtLeast (d.entry i f)

-- x enters, as the least that can, since a lesser number with a negative constant leaves
pub record EntersByRow (d : Dictionary) (f x : ℕ) : Type 0 where
  pub column : ℕ
  pub inside : column < d.width
  pub free : column ≢ f
  pub is : d.nonbasic column ≡ x
  pub row : ℕ
  pub row_inside : row < d.height
  pub lesser : d.basic row < x
  pub constant : Below (d.entry row f)
  pub positive : Above (d.entry row column)
  pub others : (j : ℕ) → j < d.width → j ≢ f → d.nonbasic j < x → AtMost (d.entry row j)

pub record LeavesByConstant (d : Dictionary) (f g x : ℕ) : Type 0 where
  pub row : ℕ
  pub inside : row < d.height
  pub is : d.basic row ≡ x
  pub negative : Below (d.entry row f)
  pub goal : (j : ℕ) → j < d.width → j ≢ f → d.nonbasic j < x → AtLeast (d.entry g j)
  pub constants : (i : ℕ) → i < d.height → d.basic i < x → AtLeast (d.entry i f)

pub record LeavesByColumn (d : Dictionary) (f g x : ℕ) : Type 0 where
  pub row : ℕ
  pub inside : row < d.height
  pub is : d.basic row ≡ x
  pub column : ℕ
  pub column_inside : column < d.width
  pub free : column ≢ f
  pub lesser : d.nonbasic column < x
  pub goal : Below (d.entry g column)
  pub negative : Below (d.entry row column)
  pub others : (i : ℕ) → i < d.height → d.basic i < x → AtLeast (d.entry i column)

-- two dictionaries of one program, between which no number above x moved
pub record Related (d e : Dictionary) (f g x : ℕ) : Type 0 where
  pub proper : IsProper d
  pub other_proper : IsProper e
  pub forth : (v : ℕ → ℚ) → Solves d v → Solves e v
  pub back : (v : ℕ → ℚ) → Solves e v → Solves d v
  pub f_inside : f < d.width
  pub f_other : f < e.width
  pub g_inside : g < d.height
  pub g_other : g < e.height
  pub same_f : d.nonbasic f ≡ e.nonbasic f
  pub same_g : d.basic g ≡ e.basic g
  pub stays : (j : ℕ) → j < d.width → j ≢ f → x < d.nonbasic j → (k : ℕ) × (k < e.width) × (k ≢ f) × (e.nonbasic k ≡ d.nonbasic j)
  pub stayed : (k : ℕ) → k < e.width → k ≢ f → x < e.nonbasic k → (j : ℕ) × (j < d.width) × (j ≢ f) × (d.nonbasic j ≡ e.nonbasic k)
  pub occurs_basic : (i : ℕ) → i < d.height → Occurs e (d.basic i)
  pub occurs_nonbasic : (j : ℕ) → j < d.width → Occurs e (d.nonbasic j)
  pub other_basic : (i : ℕ) → i < e.height → Occurs d (e.basic i)
  pub other_nonbasic : (j : ℕ) → j < e.width → Occurs d (e.nonbasic j)

pub one_at_least : AtLeast one_ℚ
one_at_least = record { is = (is_nonnegative-fraction (pos 1) 1 (omega arith)).1 (omega (arith, ints)) }

unit_at_least : (c j : ℕ) → AtLeast (unit c j)
unit_at_least c j = ⊎_elim (λ (e : j ≡ c). moved one_ℚ (unit c j) (sym (unit_at c j e)) one_at_least) (λ (ne : j ≢ c). moved zero_ℚ (unit c j) (sym (unit_off c j ne)) zero_at_least) (cases_eq j c)

-- a column whose entries are at least 0 for numbers below x gives a point that is so too
pub point_at_least : (d : Dictionary) (c x : ℕ) → IsProper d → c < d.width → ((i : ℕ) → i < d.height → d.basic i < x → AtLeast (d.entry i c)) → (y : ℕ) → y < x → Occurs d y → AtLeast (column_point d c y)
point_at_least d c x p hc h y l o = ⊎_elim
    (λ (b : (i : ℕ) × (i < d.height) × (d.basic i ≡ y)). moved (d.entry b.0 c) (column_point d c y) (sym (column_point_basic d c p hc b.0 b.1) ∙ ap (column_point d c) b.2) (h b.0 b.1 (omega arith)))
    (λ (n : (j : ℕ) × (j < d.width) × (d.nonbasic j ≡ y)). moved (unit c n.0) (column_point d c y) (sym (column_point_nonbasic d c p n.0 n.1) ∙ ap (column_point d c) n.2) (unit_at_least c n.0))
    o

zero_product : (t v : ℚ) → v ≡ zero_ℚ → AtMost (t *ℚ v)
zero_product t v e = moved zero_ℚ (neg_ℚ (t *ℚ v)) (sym (ap (λ (w : ℚ). neg_ℚ (t *ℚ w)) e ∙ tidy t)) zero_at_least
  where
    tidy : (t : ℚ) → neg_ℚ (t *ℚ zero_ℚ) ≡ zero_ℚ
    tidy t = simp ring

zero_product_least : (t v : ℚ) → v ≡ zero_ℚ → AtLeast (t *ℚ v)
zero_product_least t v e = moved zero_ℚ (t *ℚ v) (sym (ap (λ (w : ℚ). t *ℚ w) e ∙ tidy t)) zero_at_least
  where
    tidy : (t : ℚ) → t *ℚ zero_ℚ ≡ zero_ℚ
    tidy t = simp ring

back_twice : (x : ℚ) → AtLeast x → AtMost (neg_ℚ x)
back_twice x h = moved x (neg_ℚ (neg_ℚ x)) (simp ring) h

-- the row that made x enter gives its number a negative value at such a point
row_clash : (d : Dictionary) (f x : ℕ) (m : EntersByRow d f x) (v : ℕ → ℚ) → IsProper d → Solves d v → AtLeast (v (d.nonbasic f)) → Below (v x) → ((j : ℕ) → j < d.width → j ≢ f → d.nonbasic j < x → AtLeast (v (d.nonbasic j))) → ((j : ℕ) → j < d.width → j ≢ f → x < d.nonbasic j → v (d.nonbasic j) ≡ zero_ℚ) → Below (v (d.basic m.row))
row_clash d f x m v p s const neg low high =
    subst Below (sym (s m.row m.row_inside))
    (total_below d.width m.column (λ j. d.entry m.row j *ℚ v (d.nonbasic j)) m.inside
    (λ j l ne. ⊎_elim
    (λ (at : j ≡ f). subst (λ (k : ℕ). AtMost (d.entry m.row k *ℚ v (d.nonbasic k))) (sym at) (product_at_most (d.entry m.row f) (v (d.nonbasic f)) (at_most (d.entry m.row f) m.constant) const))
    (λ (off : j ≢ f). ⊎_elim
    (λ (e : d.nonbasic j ≡ x). absurd (ne (p.nonbasic_apart j m.column l m.inside (e ∙ sym m.is))))
    (λ o. ⊎_elim
    (λ (less : d.nonbasic j < x). product_at_most (d.entry m.row j) (v (d.nonbasic j)) (m.others j l off less) (low j l off less))
    (λ (more : x < d.nonbasic j). zero_product (d.entry m.row j) (v (d.nonbasic j)) (high j l off more)) o)
    (cases_order (d.nonbasic j) x))
    (cases_eq j f))
    (above_below (d.entry m.row m.column) (v (d.nonbasic m.column)) m.positive (subst (λ (k : ℕ). Below (v k)) (sym m.is) neg)))

-- the goal's row that made x enter: the goal's value is above its constant part
pub goal_clash : (d : Dictionary) (f g x : ℕ) (m : EntersByGoal d f g x) (v : ℕ → ℚ) → IsProper d → f < d.width → g < d.height → Solves d v → Below (v x) → ((j : ℕ) → j < d.width → j ≢ f → d.nonbasic j < x → AtLeast (v (d.nonbasic j))) → ((j : ℕ) → j < d.width → j ≢ f → x < d.nonbasic j → v (d.nonbasic j) ≡ zero_ℚ) → (s : ℚ) × (Above s) × (v (d.basic g) ≡ s +ℚ d.entry g f *ℚ v (d.nonbasic f))
goal_clash d f g x m v p hf hg s neg low high =
    let t = λ (j : ℕ). d.entry g j *ℚ v (d.nonbasic j) in
    let w = without f t in (
      total d.width w,
      subst Below (total_turned d.width w)
          (total_below d.width m.column (λ j. neg_ℚ (w j)) m.inside
          (λ j l ne. ⊎_elim
          (λ (at : j ≡ f). back_twice (w j) (moved zero_ℚ (w j) (sym (without_at f t j at)) zero_at_least))
          (λ (off : j ≢ f). back_twice (w j) (moved (t j) (w j) (sym (without_off f t j off)) (⊎_elim
          (λ (e : d.nonbasic j ≡ x). absurd (ne (p.nonbasic_apart j m.column l m.inside (e ∙ sym m.is))))
          (λ o. ⊎_elim
          (λ (less : d.nonbasic j < x). product_at_least (d.entry g j) (v (d.nonbasic j)) (m.goal j l off less) (low j l off less))
          (λ (more : x < d.nonbasic j). zero_product_least (d.entry g j) (v (d.nonbasic j)) (high j l off more)) o)
          (cases_order (d.nonbasic j) x))))
          (cases_eq j f))
          (subst Above (sym (without_off f t m.column m.free)) (product_below (d.entry g m.column) (v (d.nonbasic m.column)) m.negative (subst (λ (k : ℕ). Below (v k)) (sym m.is) neg)))),
      s g hg ∙ total_split d.width f t hf,
    )

above_not_below : (s : ℚ) → Above s → Below s → ⊥
above_not_below s h k = h.is (at_most s k)

-- the point of the column c of e, by which x leaves, seen from d
pub leaving_low : (d e : Dictionary) (f g x : ℕ) (r : Related d e f g x) (c : ℕ) → c < e.width → ((i : ℕ) → i < e.height → e.basic i < x → AtLeast (e.entry i c)) → (j : ℕ) → j < d.width → j ≢ f → d.nonbasic j < x → AtLeast (column_point e c (d.nonbasic j))
leaving_low d e f g x r c hc h j l off less = point_at_least e c x r.other_proper hc h (d.nonbasic j) less (r.occurs_nonbasic j l)

pub leaving_high : (d e : Dictionary) (f g x : ℕ) (r : Related d e f g x) (c : ℕ) → c < e.width → ((k : ℕ) → k < e.width → k ≢ f → x < e.nonbasic k → k ≢ c) → (j : ℕ) → j < d.width → j ≢ f → x < d.nonbasic j → column_point e c (d.nonbasic j) ≡ zero_ℚ
leaving_high d e f g x r c hc h j l off more =
    let k = r.stays j l off more in
    ap (column_point e c) (sym k.3) ∙ column_point_nonbasic e c r.other_proper k.0 k.1 ∙ unit_off c k.0 (h k.0 k.1 k.2 (subst (λ (y : ℕ). x < y) (sym k.3) more))

row_constant : (d e : Dictionary) (f g x : ℕ) → Related d e f g x → EntersByRow d f x → LeavesByConstant e f g x → ⊥
row_constant d e f g x r m l =
    let v = column_point e f in
    let solves = r.back v (column_point_solves e f r.other_proper) in
    let const : AtLeast (v (d.nonbasic f)) = moved (unit f f) (v (d.nonbasic f)) (sym (ap v r.same_f ∙ column_point_nonbasic e f r.other_proper f r.f_other)) (unit_at_least f f) in
    let neg : Below (v x) = subst Below (sym (column_point_basic e f r.other_proper r.f_other l.row l.inside) ∙ ap v l.is) l.negative in
    let low = leaving_low d e f g x r f r.f_other l.constants in
    let high = leaving_high d e f g x r f r.f_other (λ k p q more. q) in
    let below = row_clash d f x m v r.proper solves const neg low high in
    below.is (point_at_least e f x r.other_proper r.f_other l.constants (d.basic m.row) m.lesser (r.occurs_basic m.row m.row_inside))

column_apart : (e : Dictionary) (f g x : ℕ) (l : LeavesByColumn e f g x) → (k : ℕ) → k < e.width → k ≢ f → x < e.nonbasic k → k ≢ l.column
column_apart e f g x l k p q more at = let less = l.lesser in let same = ap e.nonbasic at in omega arith

row_column : (d e : Dictionary) (f g x : ℕ) → Related d e f g x → EntersByRow d f x → LeavesByColumn e f g x → ⊥
row_column d e f g x r m l =
    let v = column_point e l.column in
    let solves = r.back v (column_point_solves e l.column r.other_proper) in
    let const : AtLeast (v (d.nonbasic f)) = moved (unit l.column f) (v (d.nonbasic f)) (sym (ap v r.same_f ∙ column_point_nonbasic e l.column r.other_proper f r.f_other)) (unit_at_least l.column f) in
    let neg : Below (v x) = subst Below (sym (column_point_basic e l.column r.other_proper l.column_inside l.row l.inside) ∙ ap v l.is) l.negative in
    let low = leaving_low d e f g x r l.column l.column_inside l.others in
    let high = leaving_high d e f g x r l.column l.column_inside (column_apart e f g x l) in
    let below = row_clash d f x m v r.proper solves const neg low high in
    below.is (point_at_least e l.column x r.other_proper l.column_inside l.others (d.basic m.row) m.lesser (r.occurs_basic m.row m.row_inside))

goal_column : (d e : Dictionary) (f g x : ℕ) → Related d e f g x → EntersByGoal d f g x → LeavesByColumn e f g x → ⊥
goal_column d e f g x r m l =
    let v = column_point e l.column in
    let solves = r.back v (column_point_solves e l.column r.other_proper) in
    let neg : Below (v x) = subst Below (sym (column_point_basic e l.column r.other_proper l.column_inside l.row l.inside) ∙ ap v l.is) l.negative in
    let low = leaving_low d e f g x r l.column l.column_inside l.others in
    let high = leaving_high d e f g x r l.column l.column_inside (column_apart e f g x l) in
    let goal = goal_clash d f g x m v r.proper r.f_inside r.g_inside solves neg low high in
    let const : v (d.nonbasic f) ≡ zero_ℚ = ap v r.same_f ∙ column_point_nonbasic e l.column r.other_proper f r.f_other ∙ unit_off l.column f (λ at. l.free (sym at)) in
    let value : v (d.basic g) ≡ goal.0 = goal.2 ∙ ap (λ (y : ℚ). goal.0 +ℚ d.entry g f *ℚ y) const ∙ tidy goal.0 (d.entry g f) in
    above_not_below goal.0 goal.1 (subst Below (sym (column_point_basic e l.column r.other_proper l.column_inside g r.g_other) ∙ ap v (sym r.same_g) ∙ value) l.goal)
  where
    tidy : (s t : ℚ) → s +ℚ t *ℚ zero_ℚ ≡ s
    tidy s t = simp ring

goal_constant : (d e : Dictionary) (f g x : ℕ) → Related d e f g x → EntersByGoal d f g x → LeavesByConstant e f g x → ⊥
goal_constant d e f g x r m l =
    let v = column_point e f in
    let solves = r.back v (column_point_solves e f r.other_proper) in
    let neg : Below (v x) = subst Below (sym (column_point_basic e f r.other_proper r.f_other l.row l.inside) ∙ ap v l.is) l.negative in
    let low = leaving_low d e f g x r f r.f_other l.constants in
    let high = leaving_high d e f g x r f r.f_other (λ k p q more. q) in
    let goal = goal_clash d f g x m v r.proper r.f_inside r.g_inside solves neg low high in
    let const : v (d.nonbasic f) ≡ one_ℚ = ap v r.same_f ∙ column_point_nonbasic e f r.other_proper f r.f_other ∙ unit_at f f refl in
    let greater : e.entry g f ≡ goal.0 +ℚ d.entry g f = sym (column_point_basic e f r.other_proper r.f_other g r.g_other) ∙ ap v (sym r.same_g) ∙ goal.2 ∙ ap (λ (y : ℚ). goal.0 +ℚ d.entry g f *ℚ y) const ∙ tidy goal.0 (d.entry g f) in
    let y = column_point d f in
    let solves_e = r.forth y (column_point_solves d f r.proper) in
    let t = λ (j : ℕ). e.entry g j *ℚ y (e.nonbasic j) in
    let rest = total e.width (without f t) in
    let least : AtLeast rest = total_at_least e.width (without f t) (λ j h. ⊎_elim
    (λ (at : j ≡ f). moved zero_ℚ (without f t j) (sym (without_at f t j at)) zero_at_least)
    (λ (off : j ≢ f). moved (t j) (without f t j) (sym (without_off f t j off)) (⊎_elim
    (λ (at : e.nonbasic j ≡ x). absurd (r.other_proper.apart l.row j l.inside h (l.is ∙ sym at)))
    (λ o. ⊎_elim
    (λ (less : e.nonbasic j < x). product_at_least (e.entry g j) (y (e.nonbasic j)) (l.goal j h off less) (point_at_least d f x r.proper r.f_inside m.constants (e.nonbasic j) less (r.other_nonbasic j h)))
    (λ (more : x < e.nonbasic j). let k = r.stayed j h off more in zero_product_least (e.entry g j) (y (e.nonbasic j)) (ap y (sym k.3) ∙ column_point_nonbasic d f r.proper k.0 k.1 ∙ unit_off f k.0 k.2)) o)
    (cases_order (e.nonbasic j) x)))
    (cases_eq j f)) in
    let one : y (e.nonbasic f) ≡ one_ℚ = ap y (sym r.same_f) ∙ column_point_nonbasic d f r.proper f r.f_inside ∙ unit_at f f refl in
    let lesser : d.entry g f ≡ rest +ℚ e.entry g f = sym (column_point_basic d f r.proper r.f_inside g r.g_inside) ∙ ap y r.same_g ∙ solves_e g r.g_other ∙ total_split e.width f t r.f_other ∙ ap (λ (z : ℚ). rest +ℚ e.entry g f *ℚ z) one ∙ tidy rest (e.entry g f) in
    let both : neg_ℚ goal.0 ≡ rest = opposite goal.0 rest (d.entry g f) (e.entry g f) greater lesser in
    goal.1.is (moved rest (neg_ℚ goal.0) (sym both) least)
  where
    tidy : (s t : ℚ) → s +ℚ t *ℚ one_ℚ ≡ s +ℚ t
    tidy s t = simp ring

    opposite : (s t a b : ℚ) → b ≡ s +ℚ a → a ≡ t +ℚ b → neg_ℚ s ≡ t
    opposite s t a b h k =
        let first : neg_ℚ s +ℚ b ≡ a = ap (λ (z : ℚ). neg_ℚ s +ℚ z) h ∙ neg_cancel s a in
        add_right_cancel (neg_ℚ s) t b (first ∙ k)

-- The two dictionaries contradict each other.
pub clash : (d e : Dictionary) (f g x : ℕ) → Related d e f g x → EntersByGoal d f g x ⊎ EntersByRow d f x → LeavesByConstant e f g x ⊎ LeavesByColumn e f g x → ⊥
clash d e f g x r m l = ⊎_elim
    (λ (a : EntersByGoal d f g x). ⊎_elim (λ (b : LeavesByConstant e f g x). goal_constant d e f g x r a b) (λ (b : LeavesByColumn e f g x). goal_column d e f g x r a b) l)
    (λ (a : EntersByRow d f x). ⊎_elim (λ (b : LeavesByConstant e f g x). row_constant d e f g x r a b) (λ (b : LeavesByColumn e f g x). row_column d e f g x r a b) l)
    m
