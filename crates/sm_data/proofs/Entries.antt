-- Tables by name: what stands at a name, and that a new name goes last.
use Rattle.std.proofs.Common.{◌≡◌, ap, refl, subst, arith, ◌||◌, ℕ, ◌<◌, Bool, true, false, List, [], ◌∷◌, ◌++◌, map, length, take, slice_get, zero, suc, ◌∙◌, is_some, String, string_bytes, codes, Result, Ok, Err}
use Rattle.std.specs.Prelude.{if◌then◌else◌, Option, Some, None}
use Rattle.std.specs.Map.{lookup}
use Rattle.std.specs.Str.{bytes_eq}
use Rattle.std.specs.String.{string_eq, string_eq_equiv}
use Rattle.std.specs.List.{AllByRecursion, IsDistinct}
use Rattle.std.proofs.lemmas.List.{map-append}
use Rattle.std.specs.declared.alloc.Global.{Global}
use Rattle.toml.specs.Data.{Data}
use Rattle.toml.specs.declared.value.Value.{Value}
use Rattle.indexmap.specs.IndexMap.{insert_entry}
use Rattle.sm_data.specs.declared.table.Table.{Table}
use Rattle.sm_data.specs.declared.refusal.DataCause.TheVariants as cause
use Rattle.sm_data.specs.declared.refusal.DataRefusal.{DataRefusal}
use Rattle.sm_data.specs.declared.refusal.DataRefusal.TheVariants as refusal
use Rattle.sm_words.specs.Names.{is_name}
use Rattle.sm_data.specs.Paths.{file_name, stem_of}
use Rattle.sm_data.specs.Numbers.{◌>>=◌, Fails, bad}
use Rattle.sm_data.specs.Documents.{Entry, is_known, table_in, entry_in, with_entry}
use Rattle.sm_data.specs.Files.{entry_view, table_of, Answers, NamedComesTo, RecordsComeTo, FileComesTo}
use Rattle.sm_data.proofs.Each.{fails-bind}

looked_by : (b : Bool) (t : Table) (o : Option Table) (d : Bool) → is_some o ≡ d → is_some (if b then Some t else o) ≡ (b || d)
looked_by true t o d h = refl
looked_by false t o d h = h

pub looked_up : (name : List ℕ) (es : List (String Global × Table)) → is_some (lookup (λ k. bytes_eq name (string_bytes k)) es) ≡ is_known name (map entry_view es)
looked_up name [] = refl
looked_up name (e ∷ es) = looked_by (bytes_eq name (string_bytes e.0)) e.1 (lookup (λ k. bytes_eq name (string_bytes k)) es) (is_known name (map entry_view es)) (looked_up name es)

pub found_at : (name : List ℕ) (es : List (String Global × Table)) → lookup (λ k. bytes_eq name (string_bytes k)) es ≡ table_of (map entry_view es) name
found_at name [] = refl
found_at name (e ∷ es) = ap (λ (o : Option Table). if bytes_eq name (string_bytes e.0) then Some e.1 else o) (found_at name es)

-- the head isn't the name, and the rest hasn't it
parts : (a b : Bool) → (a || b) ≡ false → (a ≡ false) × (b ≡ false)
parts true b h = let wrong : true ≡ false = h in cc
parts false b h = (refl, h)

pub new_last : (key : String Global) (table : Table) (es : List (String Global × Table)) → is_known (string_bytes key) (map entry_view es) ≡ false
    → insert_entry string_eq es key table ≡ es ++ (key, table) ∷ []
new_last key table [] fresh = refl
new_last key table (e ∷ es) fresh =
    let p = parts (bytes_eq (string_bytes key) (string_bytes e.0)) (is_known (string_bytes key) (map entry_view es)) fresh in
    let other : string_eq key e.0 ≡ false = p.0 in
    rw other (ap (λ (ts : List (String Global × Table)). e ∷ ts) (new_last key table es p.1))

pub doubled_is : (name : List ℕ) (d : Data) (known : List Entry) → is_name name ≡ true → is_known name known ≡ true → with_entry known (entry_in name d known) ≡ Err (bad cause.Doubled)
doubled_is name d known named old = rw (named, old) refl

pub refused_in : (e : DataRefusal) (name : List ℕ) (d : Data) (known : List Entry) → is_name name ≡ true → is_known name known ≡ false → Fails e (table_in d) → Fails e (with_entry known (entry_in name d known))
refused_in e name d known named new h =
    rw (named, new) (fails-bind e (table_in d >>= λ t. Ok (name, t)) (λ x. Ok (known ++ x ∷ [])) (fails-bind e (table_in d) (λ t. Ok (name, t)) h))

pub added_is : (name : List ℕ) (d : Data) (known : List Entry) (t : Table) → is_name name ≡ true → is_known name known ≡ false → table_in d ≡ Ok t → with_entry known (entry_in name d known) ≡ Ok (known ++ (name, t) ∷ [])
added_is name d known t named new h = rw (named, new) (ap (λ (r : Result Table DataRefusal). (r >>= λ t. Ok (name, t)) >>= λ x. Ok (known ++ x ∷ [])) h)

pub view_push : (es : List (String Global × Table)) (k : String Global) (t : Table) → map entry_view (es ++ (k, t) ∷ []) ≡ map entry_view es ++ (string_bytes k, t) ∷ []
view_push es k t = map-append entry_view es ((k, t) ∷ [])

pub none_left : (ms : List (String Global × Value)) → (0 < length ms → false ≡ true) → ms ≡ []
none_left [] h = refl
none_left (m ∷ ms) h = let some : 0 < length (m ∷ ms) = omega arith in let wrong : false ≡ true = h some in cc

-- an answer of one meaning is one of another that follows from it
pub answers_also : {X : Type 0} (P Q : Result (List Entry) DataRefusal → Type 0) (after : List Entry) (r : Result X DataRefusal)
    → ((found : Result (List Entry) DataRefusal) → P found → Q found) → Answers P after r → Answers Q after r
answers_also P Q after (Ok x) f h = f (Ok after) h
answers_also P Q after (Err (refusal.BadData c)) f h = f (Err (refusal.BadData c)) h
answers_also P Q after (Err (refusal.Limit w n b)) f h = f (Err (refusal.Limit w n b)) h
answers_also P Q after (Err refusal.OutOfMemory) f h = tt

pub named_records : (name stem bytes : List ℕ) (known : List Entry) (found : Result (List Entry) DataRefusal) → name ≡ stem → is_name stem ≡ true → is_known stem known ≡ false
    → RecordsComeTo name bytes known found → NamedComesTo (is_name stem) (is_known stem known) stem bytes known found
named_records name stem bytes known found is named new h = rw (named, new) (subst (λ (n : List ℕ). RecordsComeTo n bytes known found) is h)

pub csv_file : (path bytes stem : List ℕ) (known : List Entry) (found : Result (List Entry) DataRefusal) → stem_of (codes ".toml") (file_name path) ≡ None → stem_of (codes ".csv") (file_name path) ≡ Some stem
    → NamedComesTo (is_name stem) (is_known stem known) stem bytes known found → FileComesTo path bytes known found
csv_file path bytes stem known found toml csv h = rw (toml, csv) h

-- ---- a table by its number

nothing : {X : Type 0} (x : X) → None ≡ Some x → ⊥
nothing x h = cc

-- what holds of each key holds of this one
key_at : (P : String Global → Type 0) (es : List (String Global × Table)) (i : ℕ) (e : String Global × Table) → AllByRecursion P (map (λ x. x.0) es) → slice_get es i ≡ Some e → P e.0
key_at P [] i e h is = absurd (nothing e is)
key_at P (x ∷ es) zero e h is = let same : x ≡ e = cc in subst (λ (y : String Global × Table). P y.0) same h.0
key_at P (x ∷ es) (suc i) e h is = key_at P es i e h.1 is

-- no table before it has its name
pub new_at : (es : List (String Global × Table)) (i : ℕ) (e : String Global × Table) → IsDistinct string_eq (map (λ x. x.0) es) → slice_get es i ≡ Some e
    → is_known (string_bytes e.0) (take i (map entry_view es)) ≡ false
unfolding IsDistinct
new_at [] i e h is = absurd (nothing e is)
new_at (x ∷ es) zero e h is = refl
new_at (x ∷ es) (suc i) e h is =
    let other : bytes_eq (string_bytes e.0) (string_bytes x.0) ≡ false = string_eq_equiv.symm e.0 x.0 ∙ key_at (λ k. string_eq x.0 k ≡ false) es i e h.0 is in
    rw other (new_at es i e h.1 is)
