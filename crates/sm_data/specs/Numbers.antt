-- Entries of tables, and lists of them: the first refusal counts.
use Rattle.std.specs.Prelude.{◌≡◌, ◌-◌, ◌^◌, ℤ, pos, min, nat_le, unsigned_abs, List, [], ◌∷◌, Option, Some, None, Result, Ok, Err, if◌then◌else◌}
use Rattle.sm_data.specs.declared.refusal.DataCause.{DataCause}
use Rattle.sm_data.specs.declared.refusal.DataCause.TheVariants as cause
use Rattle.sm_data.specs.declared.refusal.Counted.TheVariants as counted
use Rattle.sm_data.specs.declared.refusal.DataRefusal.{DataRefusal}
use Rattle.sm_data.specs.declared.refusal.DataRefusal.TheVariants as refusal

infixl 10 ◌>>=◌
abbrev pub ◌>>=◌ : {A B : Type 0} → Result A DataRefusal → (A → Result B DataRefusal) → Result B DataRefusal
(Ok x) >>= f = f x
(Err e) >>= f = Err e

abbrev pub bad : DataCause → DataRefusal
bad c = refusal.BadData c

-- a number above 2^31 in absolute value; the number told is at most 2^127 - 1
abbrev pub too_large : ℤ → DataRefusal
too_large z = refusal.Limit counted.Entry (pos (min (unsigned_abs z) (2 ^ 127 - 1))) (pos (2 ^ 31))

-- a number is at most 2^31 in absolute value
abbrev pub entry_of : ℤ → Result ℤ DataRefusal
entry_of z = if nat_le (unsigned_abs z) (2 ^ 31) then Ok z else Err (too_large z)

-- what may be a number has to be one
abbrev pub number_of : Option ℤ → Result ℤ DataRefusal
number_of None = Err (bad cause.Shape)
number_of (Some z) = entry_of z

-- each in its turn
abbrev pub each : {X A : Type 0} → (X → Result A DataRefusal) → List X → Result (List A) DataRefusal
each f [] = Ok []
each f (x ∷ xs) = f x >>= λ y. each f xs >>= λ ys. Ok (y ∷ ys)

-- what a reading answers, where the definition says found; want of memory may come anywhere
abbrev pub Fails : {Y : Type 0} → DataRefusal → Result Y DataRefusal → Type 0
Fails refusal.OutOfMemory found = Unit {0}
Fails (refusal.BadData c) found = found ≡ Err (refusal.BadData c)
Fails (refusal.Limit what number bound) found = found ≡ Err (refusal.Limit what number bound)

abbrev pub Gives : {X Y : Type 0} → (X → Y) → Result X DataRefusal → Result Y DataRefusal → Type 0
Gives see (Ok x) found = found ≡ Ok (see x)
Gives see (Err e) found = Fails e found

-- what is so far, and what comes
abbrev pub with_front : {A : Type 0} → List A → Result (List A) DataRefusal → Result (List A) DataRefusal
with_front [] found = found
with_front (x ∷ xs) found = with_front xs found >>= λ ys. Ok (x ∷ ys)
