-- The parts of the name of a file.
use Rattle.std.specs.Prelude.{ℕ, ◌-◌, ◌==◌, List, [], ◌∷◌, length, drop, take, nat_eq, Option, Some, None, if◌then◌else◌}
use Rattle.std.specs.Cmp.Lexicographic.{pointwise}

-- the name begins anew behind each slash
abbrev pub name_in : List ℕ → List ℕ → List ℕ
name_in [] name = name
name_in (b ∷ bs) name = name_in bs (if b == 47 then bs else name)

-- the part of a path after its last slash
abbrev pub file_name : List ℕ → List ℕ
file_name path = name_in path path

-- what stands before an ending, if the name has it
abbrev pub stem_of : List ℕ → List ℕ → Option (List ℕ)
stem_of ending name = if pointwise nat_eq (drop (length name - length ending) name) ending then Some (take (length name - length ending) name) else None
