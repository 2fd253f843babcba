-- The readings of fields, place by place; each text has one reading.
use Rattle.std.proofs.Common.{◌≡◌, sym, refl, subst, arith, ℕ, ℤ, zero, suc, ◌<◌, ◌≤◌, List, [], ◌∷◌, length, map, get_or, Option, Some, None}
use Rattle.csv.specs.Records.{field_at}
use Rattle.sm_data.specs.Records.{Fields, HasReading, HaveReadings, RowsHaveReadings}

-- the reading of a field
pub record At (f : List ℕ) (rs : List (Option ℤ)) (i : ℕ) : Type 0 where
  pub within : i < length rs
  pub reads : HasReading f (get_or rs i None)

pub reading_at : (fs : List (List ℕ)) (rs : List (Option ℤ)) (i : ℕ) (f : List ℕ) → HaveReadings fs rs → Some f ≡ field_at fs i → At f rs i
unfolding field_at
reading_at [] rs i f h is = cc
reading_at (x ∷ fs) [] i f h is = absurd h
reading_at (x ∷ fs) (r ∷ rs) zero f h is = (let same : f ≡ x = cc in record { within = omega arith; reads = subst (λ (t : List ℕ). HasReading t r) (sym same) h.0 })
reading_at (x ∷ fs) (r ∷ rs) (suc i) f h is = (let more = reading_at fs rs i f h.1 is in record { within = omega (arith, more.within); reads = more.reads })

-- past the last field
pub reading_past : (fs : List (List ℕ)) (rs : List (Option ℤ)) (i : ℕ) → HaveReadings fs rs → None ≡ field_at fs i → length rs ≤ i
unfolding field_at
reading_past [] [] i h is = omega arith
reading_past [] (r ∷ rs) i h is = absurd h
reading_past (x ∷ fs) [] i h is = absurd h
reading_past (x ∷ fs) (r ∷ rs) zero h is = cc
reading_past (x ∷ fs) (r ∷ rs) (suc i) h is = (let more = reading_past fs rs i h.1 is in omega (arith, more))

pub record RowAt (f : Fields) (rss : List (List (Option ℤ))) (i : ℕ) : Type 0 where
  pub within : i < length rss
  pub reads : HaveReadings f (get_or rss i [])

module _ {X : Type 0} (see : X → Fields) where
  pub row_at : (xs : List X) (rss : List (List (Option ℤ))) (i : ℕ) (x : X) → RowsHaveReadings (map see xs) rss → i < length xs → x ≡ get_or xs i x → RowAt (see x) rss i
  row_at [] rss i x h lt is = absurd (omega arith)
  row_at (y ∷ xs) [] i x h lt is = absurd h
  row_at (y ∷ xs) (rs ∷ rss) zero x h lt is = record { within = omega arith; reads = subst (λ (z : X). HaveReadings (see z) rs) (sym is) h.0 }
  row_at (y ∷ xs) (rs ∷ rss) (suc i) x h lt is = (let more = row_at xs rss i x h.1 (omega arith) is in record { within = omega (arith, more.within); reads = more.reads })

  pub row_past : (xs : List X) (rss : List (List (Option ℤ))) (i : ℕ) → RowsHaveReadings (map see xs) rss → length xs ≤ i → length rss ≤ i
  row_past [] [] i h le = omega arith
  row_past [] (rs ∷ rss) i h le = absurd h
  row_past (y ∷ xs) [] i h le = absurd h
  row_past (y ∷ xs) (rs ∷ rss) zero h le = absurd (omega arith)
  row_past (y ∷ xs) (rs ∷ rss) (suc i) h le = (let more = row_past xs rss i h.1 (omega arith) in omega (arith, more))

-- what stands at a place within, whatever stands beyond the end
pub at_place : {X : Type 0} (xs : List X) (i : ℕ) (d e : X) → i < length xs → get_or xs i d ≡ get_or xs i e
at_place [] i d e lt = absurd (omega arith)
at_place (x ∷ xs) zero d e lt = refl
at_place (x ∷ xs) (suc i) d e lt = at_place xs i d e (omega arith)
