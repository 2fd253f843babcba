-- Places in a text: lines and columns count from 1, columns in bytes, and a number stands still at its type's end.
use Rattle.std.specs.Prelude.{ℕ, ◌+◌, ◌-◌, ◌^◌, min}
use Rattle.sm_syntax.specs.declared.place.Place.{Place}

-- so much more, up to the greatest number of 32 bits
abbrev pub counted_on : ℕ → ℕ → ℕ
counted_on n more = min (n + more) (2 ^ 32 - 1)

-- the place of the first byte
abbrev pub start_place : Place
start_place = record { line = 1; column = 1 }

-- the place behind a line feed
abbrev pub next_line : Place → Place
next_line p = record { line = counted_on p.line 1; column = 1 }

-- the place so many bytes further on in the line
abbrev pub along : Place → ℕ → Place
along p bytes = record { line = p.line; column = counted_on p.column bytes }
