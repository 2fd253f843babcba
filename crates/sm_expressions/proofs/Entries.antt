-- Entries of tables at one index and at two.
use Rattle.std.proofs.Common.{◌≡◌, sym, refl, arith, ℕ, List, [], ◌∷◌, length, map, get_or, ℤ, pos, Result}
use Rattle.std.specs.Prelude.{not, unsigned_abs, slice_index_or}
use Rattle.sm_syntax.specs.declared.place.Place.{Place}
use Rattle.sm_syntax.specs.declared.expression.Expr.{Expr}
use Rattle.sm_syntax.specs.Expressions.{expression_of, expressions_of}
use Rattle.sm_meaning.specs.declared.range.Range.{Range}
use Rattle.sm_meaning.specs.declared.refusal.Wrong.TheVariants.{Index}
use Rattle.sm_meaning.specs.declared.refusal.ExpandRefusal.{ExpandRefusal}
use Rattle.sm_meaning.specs.Refusals.{wrong_if}
use Rattle.sm_meaning.specs.Places.{place_of}
use Rattle.sm_meaning.specs.Trials.{Trial, Outcome, stopped, reached, resumed, ◌▸◌, nothing_tried, tried, GoesThrough}
use Rattle.sm_meaning.specs.ExpressionTrials.{is_within, indices_within}
use Rattle.std.specs.Prelude.{None, Some}
use Rattle.sm_forms.specs.declared.form.Form.{Form}
use Rattle.sm_forms.specs.Forms.{IsFormOf}
use Rattle.sm_data.specs.declared.table.Table.TheVariants as table
use Rattle.sm_meaning.specs.Scopes as thing
use Rattle.sm_meaning.specs.Scopes.{Scope, count_of}
use Rattle.sm_meaning.specs.Worths.{whole, named_worth}
use Rattle.sm_meaning.specs.ExpressionTrials.{places_of, value_tried}
use Rattle.sm_expressions.specs.Named.{behind_indices}
use Rattle.sm_expressions.proofs.Trying.{goes_from}

pub one_of : {A : Type 0} → (xs : List A) (d : A) → length xs ≡ 1 → xs ≡ get_or xs 0 d ∷ []
one_of [] d h = absurd (omega arith)
one_of (x ∷ []) d h = refl
one_of (x ∷ y ∷ ys) d h = absurd (omega arith)

pub two_of : {A : Type 0} → (xs : List A) (d : A) → length xs ≡ 2 → xs ≡ get_or xs 0 d ∷ get_or xs 1 d ∷ []
two_of [] d h = absurd (omega arith)
two_of (x ∷ []) d h = absurd (omega arith)
two_of (x ∷ y ∷ []) d h = refl
two_of (x ∷ y ∷ z ∷ zs) d h = absurd (omega arith)

-- where an index lies
abbrev pub lies : Range → ℤ → Expr → Trial
lies r z x = tried (wrong_if (not (is_within r z)) (place_of (expression_of x)) Index)

-- nothing behind a part is the part
and_nothing : (o : Outcome) (next : Trial) → resumed (resumed o nothing_tried) next ≡ resumed o next
and_nothing (stopped e) next = refl
and_nothing (reached n) next = refl

-- one index, and then the rest
pub one_index : (r : Range) (z : ℤ) (x : Expr) (zs : List ℤ) (xs : List Expr) (next : Trial) (count : ℕ) → zs ≡ z ∷ [] → xs ≡ x ∷ []
    → (indices_within (r ∷ []) zs (expressions_of (map expression_of xs)) ▸ next) count ≡ (lies r z x ▸ next) count
one_index r z x zs xs next count is_z is_x = rw (is_z, is_x) (and_nothing (lies r z x count) next)

two_parts : (o : Outcome) (second next : Trial) → resumed (resumed o (second ▸ nothing_tried)) next ≡ resumed o (second ▸ next)
two_parts (stopped e) second next = refl
two_parts (reached n) second next = and_nothing (second n) next

pub two_indices : (r q : Range) (y z : ℤ) (x w : Expr) (zs : List ℤ) (xs : List Expr) (next : Trial) (count : ℕ) → zs ≡ y ∷ z ∷ [] → xs ≡ x ∷ w ∷ []
    → (indices_within (r ∷ q ∷ []) zs (expressions_of (map expression_of xs)) ▸ next) count ≡ (lies r y x ▸ lies q z w ▸ next) count
two_indices r q y z x w zs xs next count is_z is_x = rw (is_z, is_x) (two_parts (lies r y x count) (lies q z w) next)

-- ---- entries

-- an entry of a list: there is one index, and what then goes through it goes through all
pub list_goes : (s : Scope) (p : Place) (entries zs : List ℤ) (xs : List Expr) (z : ℤ) (x : Expr) (visited : ℕ) (r : Result Form ExpandRefusal) → zs ≡ z ∷ [] → xs ≡ x ∷ []
    → GoesThrough (lies (places_of (length entries)) z x ▸ value_tried s (whole (slice_index_or entries (unsigned_abs z) (pos 0)))) visited visited
    (IsFormOf (count_of s) (whole (slice_index_or entries (unsigned_abs z) (pos 0)))) r
    → GoesThrough (behind_indices p None (Some (thing.table (table.List entries))) zs (expressions_of (map expression_of xs)) s) visited visited
    (IsFormOf (count_of s) (named_worth None (Some (thing.table (table.List entries))) zs)) r
list_goes s p entries zs xs z x visited r is_z is_x h =
    let value = value_tried s (whole (slice_index_or entries (unsigned_abs z) (pos 0))) in
    let P : Form → Type 0 = IsFormOf (count_of s) (whole (slice_index_or entries (unsigned_abs z) (pos 0))) in
    rw (is_z, is_x) (goes_from (lies (places_of (length entries)) z x ▸ value) ((lies (places_of (length entries)) z x ▸ nothing_tried) ▸ value) visited visited visited P r
    (and_nothing (lies (places_of (length entries)) z x visited) value) h)

-- an entry of a grid, at two indices
pub grid_goes : (s : Scope) (p : Place) (rows : List (List ℤ)) (zs : List ℤ) (xs : List Expr) (y z : ℤ) (x w : Expr) (visited : ℕ) (r : Result Form ExpandRefusal) → zs ≡ y ∷ z ∷ [] → xs ≡ x ∷ w ∷ []
    → GoesThrough (lies (places_of (length rows)) y x ▸ lies (places_of (length (slice_index_or rows 0 []))) z w ▸ value_tried s (whole (slice_index_or (slice_index_or rows (unsigned_abs y) []) (unsigned_abs z) (pos 0)))) visited visited
    (IsFormOf (count_of s) (whole (slice_index_or (slice_index_or rows (unsigned_abs y) []) (unsigned_abs z) (pos 0)))) r
    → GoesThrough (behind_indices p None (Some (thing.table (table.Grid rows))) zs (expressions_of (map expression_of xs)) s) visited visited
    (IsFormOf (count_of s) (named_worth None (Some (thing.table (table.Grid rows))) zs)) r
grid_goes s p rows zs xs y z x w visited r is_z is_x h =
    let first = lies (places_of (length rows)) y x in
    let second = lies (places_of (length (slice_index_or rows 0 []))) z w in
    let value = value_tried s (whole (slice_index_or (slice_index_or rows (unsigned_abs y) []) (unsigned_abs z) (pos 0))) in
    let P : Form → Type 0 = IsFormOf (count_of s) (whole (slice_index_or (slice_index_or rows (unsigned_abs y) []) (unsigned_abs z) (pos 0))) in
    rw (is_z, is_x) (goes_from (first ▸ second ▸ value) ((first ▸ second ▸ nothing_tried) ▸ value) visited visited visited P r (two_parts (first visited) second value) h)

pub two_by : {A : Type 0} → (xs : List A) (x y : A) → length xs ≡ 2 → x ≡ get_or xs 0 x → y ≡ get_or xs 1 y → xs ≡ x ∷ y ∷ []
two_by [] x y h p q = absurd (omega arith)
two_by (a ∷ []) x y h p q = absurd (omega arith)
two_by (a ∷ b ∷ []) x y h p q = λ i. sym p i ∷ sym q i ∷ []
two_by (a ∷ b ∷ c ∷ cs) x y h p q = absurd (omega arith)
