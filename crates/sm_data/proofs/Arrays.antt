-- Arrays of a document as lists of their values.
use Rattle.std.proofs.Common.{◌≡◌, ◌∙◌, ap, sym, refl, subst, arith, ℕ, zero, suc, ℤ, false, true, nat_eq, List, [], ◌∷◌, length, map, slice_get, Option, Some, None, Result, Ok, Err}
use Rattle.std.proofs.lemmas.List.{length-map}
use Rattle.toml.specs.Data.{Data, Items, as_array}
use Rattle.toml.specs.View.{items_of, items_view, view}
use Rattle.toml.specs.declared.value.Value.{Value}
use Rattle.sm_data.specs.Numbers.{◌>>=◌, Fails, bad, each}
use Rattle.sm_data.specs.Documents.{data_in, number_in, row_in, row_from, grid_in, array_in, array_from}
use Rattle.sm_data.specs.declared.refusal.DataRefusal.{DataRefusal}
use Rattle.sm_data.specs.declared.refusal.DataCause.TheVariants as cause
use Rattle.sm_data.specs.declared.table.Table.TheVariants as table
use Rattle.sm_data.proofs.Each.{fails-bind}

nat_eq_self : (n : ℕ) → nat_eq n n ≡ true
nat_eq_self n = grind arith

pub data_in-items : (ds : List Data) → data_in (items_of ds) ≡ ds
data_in-items [] = refl
data_in-items (d ∷ ds) = ap (λ (es : List Data). d ∷ es) (data_in-items ds)

pub data_in-view : (vs : List Value) → data_in (items_view vs) ≡ map view vs
data_in-view vs = data_in-items (map view vs)

pub each-view : {A : Type 0} (f : Data → Result A DataRefusal) (vs : List Value) → each (λ v. f (view v)) vs ≡ each f (map view vs)
each-view f [] = refl
each-view f (v ∷ vs) = ap (λ (r : Result (List _) DataRefusal). f (view v) >>= λ y. r >>= λ ys. Ok (y ∷ ys)) (each-view f vs)

pub length-view : (vs : List Value) → length (data_in (items_view vs)) ≡ length vs
length-view vs = ap length (data_in-view vs) ∙ length-map vs view

pub grid_fails : (e : DataRefusal) (width : ℕ) (vs : List Value) → nat_eq width 0 ≡ false → Fails e (each (λ v. row_in width (view v)) vs) → Fails e (grid_in width (map view vs))
grid_fails e width vs some h =
    rw some (fails-bind e (each (row_in width) (map view vs)) (λ rows. Ok (table.Grid rows)) (subst (Fails e) (each-view (row_in width) vs) h))

pub grid_ok : (width : ℕ) (vs : List Value) (rows : List (List ℤ)) → nat_eq width 0 ≡ false → each (λ v. row_in width (view v)) vs ≡ Ok rows → grid_in width (map view vs) ≡ Ok (table.Grid rows)
grid_ok width vs rows some h =
    rw some (ap (λ (r : Result (List (List ℤ)) DataRefusal). r >>= λ xs. Ok (table.Grid xs)) (sym (each-view (row_in width) vs) ∙ h))

-- the first member of an array decides what it is
pub array_by : (vs : List Value) (f : Value) → slice_get vs 0 ≡ Some f → array_in (map view vs) ≡ array_from (as_array (view f)) (map view vs)
array_by [] f h = cc
array_by (v ∷ vs) f h = let same : v ≡ f = cc in ap (λ (w : Value). array_from (as_array (view w)) (view v ∷ map view vs)) same

pub list_fails : (e : DataRefusal) (vs : List Value) (f : Value) → slice_get vs 0 ≡ Some f → as_array (view f) ≡ None → Fails e (each (λ v. number_in (view v)) vs) → Fails e (array_in (map view vs))
list_fails e vs f first plain h =
    rw (array_by vs f first, plain) (fails-bind e (each number_in (map view vs)) (λ zs. Ok (table.List zs)) (subst (Fails e) (each-view number_in vs) h))

pub list_ok : (vs : List Value) (f : Value) (zs : List ℤ) → slice_get vs 0 ≡ Some f → as_array (view f) ≡ None → each (λ v. number_in (view v)) vs ≡ Ok zs → array_in (map view vs) ≡ Ok (table.List zs)
list_ok vs f zs first plain h =
    rw (array_by vs f first, plain) (ap (λ (r : Result (List ℤ) DataRefusal). r >>= λ xs. Ok (table.List xs)) (sym (each-view number_in vs) ∙ h))

pub grid_by : (vs : List Value) (f : Value) (fs : List Value) → slice_get vs 0 ≡ Some f → as_array (view f) ≡ Some (items_view fs) → array_in (map view vs) ≡ grid_in (length fs) (map view vs)
grid_by vs f fs first is = array_by vs f first ∙ ap (λ (o : Option Items). array_from o (map view vs)) is ∙ ap (λ (n : ℕ). grid_in n (map view vs)) (length-view fs)

pub row_by : (width : ℕ) (d : Data) (fs : List Value) → as_array d ≡ Some (items_view fs) → length fs ≡ width → row_in width d ≡ each (λ v. number_in (view v)) fs
row_by width d fs is long =
    ap (row_from width) is ∙ rw (length-view fs, long, nat_eq_self width) (ap (each number_in) (data_in-view fs) ∙ sym (each-view number_in fs))

pub row_other : (width : ℕ) (d : Data) (fs : List Value) → as_array d ≡ Some (items_view fs) → nat_eq (length fs) width ≡ false → row_in width d ≡ Err (bad cause.Shape)
row_other width d fs is long = ap (row_from width) is ∙ rw (length-view fs, long) refl

pub not_zero : (n : ℕ) → (n ≡ 0 → ⊥) → nat_eq n 0 ≡ false
not_zero zero h = absurd (h refl)
not_zero (suc n) h = grind arith
