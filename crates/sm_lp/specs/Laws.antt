-- What holds of the dictionaries of a program and of its path.
use Rattle.std.specs.Prelude.{◌≡◌, ℕ, ◌<◌, ◌^◌}
use Rattle.sm_certificate.specs.declared.program.Program.{Program}
use Rattle.sm_lp.specs.Dictionary.{Dictionary}
use Rattle.sm_certificate.specs.Slacks.{number_count}
use Rattle.sm_lp.specs.Path.{IsDictionary, IsReached, basis_of}

-- each nonbasic number of e is one of d
abbrev pub HaveOneBasis : Dictionary → Dictionary → Type 0
HaveOneBasis d e = (k : ℕ) → k < e.width → (j : ℕ) × (j < d.width) × (d.nonbasic j ≡ e.nonbasic k)

-- the same numbers have the same entry in both, at whatever places they stand
abbrev pub AgreeByNumber : Dictionary → Dictionary → Type 0
AgreeByNumber d e = (i j a b : ℕ) → i < d.height → j < d.width → a < e.height → b < e.width → d.basic i ≡ e.basic a → d.nonbasic j ≡ e.nonbasic b → d.entry i j ≡ e.entry a b

abbrev pub OneDictionary : Program → Type 0
OneDictionary p = (d e : Dictionary) → IsDictionary p d → IsDictionary p e → HaveOneBasis d e → AgreeByNumber d e

abbrev pub NoBasisReturns : Program → Type 0
NoBasisReturns p = (j k : ℕ) (d e : Dictionary) → IsReached p j d → IsReached p k e → basis_of p d ≡ basis_of p e → j ≡ k

abbrev pub PathEnds : Program → Type 0
PathEnds p = (k : ℕ) (d : Dictionary) → IsReached p k d → k < 2 ^ number_count p
