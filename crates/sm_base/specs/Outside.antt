-- What contracts see of the shelf over the file system and the sink over standard output.
use Rattle.std.specs.Prelude.{ℕ, List, Option, None}
use Rattle.sm_base.specs.declared.outside.DiskShelf.{DiskShelf}
use Rattle.sm_base.specs.declared.outside.StdSink.{StdSink}

-- the bytes of the file of that name, which are never told
abbrev pub disk_file : {R : Type 0} → DiskShelf R → List ℕ → Option (List ℕ)
disk_file s name = None

-- how many fetches met an error of the file system
abbrev pub disk_faults : {R : Type 0} → DiskShelf R → ℕ
disk_faults s = s.faults

-- the bytes that were put, which are never told
abbrev pub output_bytes : {R : Type 0} → StdSink R → Option (List ℕ)
output_bytes s = None

-- how many puts met an error of standard output, or gave it bytes of which it took none
abbrev pub output_faults : {R : Type 0} → StdSink R → ℕ
output_faults s = s.faults
