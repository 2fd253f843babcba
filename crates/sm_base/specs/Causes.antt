-- When a refusal may be answered.
use Rattle.std.specs.Prelude.{◌≡◌, ℕ, ◌+◌, ◌-◌, ◌^◌, ◌≤◌, ◌<◌, min, List, length, Option, IfSome, Result, IfOk, OnOk, OnErr}
use Rattle.sm_base.specs.declared.transfers.ReadRefusal.{ReadRefusal}
use Rattle.sm_base.specs.declared.transfers.ReadRefusal.TheVariants.{ReadFault, TooLarge, OutOfMemory}

-- one more, or the same at the end of `u64`
abbrev pub next_count : ℕ → ℕ
next_count n = min (n + 1) (2 ^ 64 - 1)

-- the count rose, or stands at the end of its type
abbrev pub Rose : ℕ → ℕ → Type 0
Rose before now = next_count before ≤ now

-- the count of faults has not fallen, and a refusal is answered only where it rose in this call
pub record HasCause {T E : Type 0} (before now : ℕ) (result : Result T E) : Type 0 where
  pub later : before ≤ now
  pub failed : OnErr result (Rose before now)

-- where a put took nothing of a piece that has bytes, the count rose
abbrev pub CountsStall : {E : Type 0} → ℕ → ℕ → Result ℕ E → List ℕ → Type 0
CountsStall before now result piece = IfOk result (λ n. n ≡ 0 → 0 < length piece → Rose before now)

-- the count went up by one at a refusal, and stayed otherwise
pub record CountsErr {T E : Type 0} (before now : ℕ) (result : Result T E) : Type 0 where
  pub ok : OnOk result (now ≡ before)
  pub err : OnErr result (now ≡ next_count before)

-- why a file was refused: the count of faults rose, or one byte more than the bound was taken, which the file then has.
-- Want of memory needs no cause.
abbrev pub IsReadCause : Option (List ℕ) → ℕ → ℕ → ℕ → ReadRefusal → Type 0
IsReadCause held bound before now ReadFault = Rose before now
IsReadCause held bound before now (TooLarge found) = (found ≡ bound + 1) × IfSome held (λ file. found ≤ length file)
IsReadCause held bound before now OutOfMemory = Unit {0}

-- why one more piece of a file was refused: as above, but no bound is tried
abbrev pub IsFetchCause : ℕ → ℕ → ReadRefusal → Type 0
IsFetchCause before now ReadFault = Rose before now
IsFetchCause before now OutOfMemory = Unit {0}
IsFetchCause before now other = ⊥
