-- What is found for an argument once rows changed.
use Rattle.std.proofs.Common.{◌≡◌, ◌∙◌, refl, sym, ap, Bool, cond, true, false, true≢false, ◌||◌, List, [], ◌∷◌, ◌++◌, Option, Some, None}
use Rattle.std.specs.Prelude.{find, option_and_then, slice_get}
use Rattle.std.specs.Option.{option_map, is_some}
use Rattle.std.specs.Str.{bytes_eq}
use Rattle.std.proofs.lemmas.Slice.Eq.{bytes_eq-Decides}
use Rattle.clap.specs.Walk.{Row, Text, all_of, first_of, has_row, with_values, without}
use Rattle.clap.specs.declared.builder.value_parser.Reading.{Reading}
use Rattle.clap.specs.declared.parser.matches.ValueSource.{ValueSource}

some_is_none : {X : Type 0} (x : X) → Some x ≡ None → ⊥
some_is_none x e = true≢false (ap is_some e)

pub first_of-all_of : (id : Text) (rows : List Row) → first_of id rows ≡ option_and_then (λ vs. slice_get vs 0) (all_of id rows)
first_of-all_of id rows = go (find (λ r. bytes_eq r.id id) rows)
  where
    go : (o : Option Row) → option_and_then (λ (r : Row). slice_get r.values 0) o ≡ option_and_then (λ vs. slice_get vs 0) (option_map (λ (r : Row). r.values) o)
    go None = refl
    go (Some r) = refl

pub has_row-None : (id : Text) (rows : List Row) → all_of id rows ≡ None → has_row id rows ≡ false
has_row-None id [] e = refl
has_row-None id (r ∷ rs) e = go (bytes_eq r.id id) e (has_row-None id rs)
  where
    go : (b : Bool) → option_map (λ (x : Row). x.values) (cond b (Some r) (find (λ x. bytes_eq x.id id) rs)) ≡ None
        → (all_of id rs ≡ None → has_row id rs ≡ false) → (b || has_row id rs) ≡ false
    go true h ih = absurd (some_is_none r.values h)
    go false h ih = ih h

pub has_row-Some : (id : Text) (rows : List Row) (values : List Text) → all_of id rows ≡ Some values → has_row id rows ≡ true
has_row-Some id [] values e = absurd (some_is_none values (sym e))
has_row-Some id (r ∷ rs) values e = go (bytes_eq r.id id) e (has_row-Some id rs values)
  where
    go : (b : Bool) → option_map (λ (x : Row). x.values) (cond b (Some r) (find (λ x. bytes_eq x.id id) rs)) ≡ Some values
        → (all_of id rs ≡ Some values → has_row id rs ≡ true) → (b || has_row id rs) ≡ true
    go true h ih = refl
    go false h ih = ih h

-- without a row that isn't there
pub without-missing : (id : Text) (rows : List Row) → has_row id rows ≡ false → without id rows ≡ rows
without-missing id [] e = refl
without-missing id (r ∷ rs) e = go (bytes_eq r.id id) e (without-missing id rs)
  where
    go : (b : Bool) → (b || has_row id rs) ≡ false → (has_row id rs ≡ false → without id rs ≡ rs) → cond b ([] ++ rs) (r ∷ without id rs) ≡ r ∷ rs
    go true h ih = absurd (true≢false h)
    go false h ih = ap (λ xs. r ∷ xs) (ih h)

same : (id : Text) → bytes_eq id id ≡ true
same id = (bytes_eq-Decides id id).1 refl

module _ (id : Text) (how : Reading) (s : ValueSource) (values : List Text) where
  pub put-new : (rows : List Row) → has_row id rows ≡ false → all_of id (with_values id how s values rows) ≡ Some values
  put-new [] e = rw (same id) refl
  put-new (r ∷ rs) e = go (bytes_eq r.id id) refl e (put-new rs)
    where
      go : (b : Bool) → bytes_eq r.id id ≡ b → (b || has_row id rs) ≡ false → (has_row id rs ≡ false → all_of id (with_values id how s values rs) ≡ Some values)
          → all_of id (with_values id how s values (r ∷ rs)) ≡ Some values
      go true is h ih = absurd (true≢false h)
      go false is h ih = rw (is, is) (ih h)

  pub put-more : (rows : List Row) (old : List Text) → all_of id rows ≡ Some old → all_of id (with_values id how s values rows) ≡ Some (old ++ values)
  put-more [] old e = absurd (some_is_none old (sym e))
  put-more (r ∷ rs) old e = go (bytes_eq r.id id) refl e (put-more rs old)
    where
      go : (b : Bool) → bytes_eq r.id id ≡ b → option_map (λ (x : Row). x.values) (cond b (Some r) (find (λ x. bytes_eq x.id id) rs)) ≡ Some old
          → (all_of id rs ≡ Some old → all_of id (with_values id how s values rs) ≡ Some (old ++ values))
          → all_of id (with_values id how s values (r ∷ rs)) ≡ Some (old ++ values)
      go true is h ih = rw (is, is) (ap (option_map (λ vs. vs ++ values)) h)
      go false is h ih = rw (is, is) (ih h)

  -- what is found for another argument
  pub put-other : (other : Text) (rows : List Row) → bytes_eq id other ≡ false → all_of other (with_values id how s values rows) ≡ all_of other rows
  put-other other [] apart = rw apart refl
  put-other other (r ∷ rs) apart = go (bytes_eq r.id id) refl (put-other other rs apart)
    where
      later : (b : Bool) (xs ys : List Row) → all_of other xs ≡ all_of other ys
          → option_map (λ (x : Row). x.values) (cond b (Some r) (find (λ x. bytes_eq x.id other) xs)) ≡ option_map (λ (x : Row). x.values) (cond b (Some r) (find (λ x. bytes_eq x.id other) ys))
      later true xs ys e = refl
      later false xs ys e = e

      go : (b : Bool) → bytes_eq r.id id ≡ b → all_of other (with_values id how s values rs) ≡ all_of other rs
          → all_of other (with_values id how s values (r ∷ rs)) ≡ all_of other (r ∷ rs)
      go true is ih =
          let differs : bytes_eq r.id other ≡ false = ap (λ (t : Text). bytes_eq t other) ((bytes_eq-Decides r.id id).0 is) ∙ apart in
          rw (is, differs) refl
      go false is ih = rw is (later (bytes_eq r.id other) (with_values id how s values rs) rs ih)
