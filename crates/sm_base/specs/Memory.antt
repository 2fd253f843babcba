-- What contracts see of a shelf and a sink in memory.
use Rattle.std.specs.Prelude.{ℕ, ◌-◌, List, length, min, Option}
use Rattle.std.specs.BTreeMap.{get_by_text}
use Rattle.std.specs.Option.{option_map}
use Rattle.sm_base.specs.declared.memory.MemShelf.{MemShelf}
use Rattle.sm_base.specs.declared.memory.MemSink.{MemSink}

-- the bytes of the file of that name, if there is one
abbrev pub file_of : MemShelf → List ℕ → Option (List ℕ)
file_of s name = option_map (λ v. v.items) (get_by_text s.files name)

-- the numbers of the fetches that fail, from 1
abbrev pub failing_fetches : MemShelf → List ℕ
failing_fetches s = s.failing.items

-- how many fetches were made
abbrev pub fetch_count : MemShelf → ℕ
fetch_count s = s.calls

-- how many fetches failed
abbrev pub fetch_faults : MemShelf → ℕ
fetch_faults s = s.faults

-- the bytes that were put
abbrev pub bytes_of : MemSink → List ℕ
bytes_of s = s.bytes.items

-- how many bytes it takes in all
abbrev pub room_of : MemSink → ℕ
room_of s = s.room

-- how many bytes it takes at a put
abbrev pub most_of : MemSink → ℕ
most_of s = s.most

-- how many bytes the next put takes at most
abbrev pub space_of : MemSink → ℕ
space_of s = min (most_of s) (room_of s - length (bytes_of s))

-- the numbers of the puts that fail, from 1
abbrev pub failing_puts : MemSink → List ℕ
failing_puts s = s.failing.items

-- how many puts were made
abbrev pub put_count : MemSink → ℕ
put_count s = s.calls

-- how many puts failed
abbrev pub put_faults : MemSink → ℕ
put_faults s = s.faults
