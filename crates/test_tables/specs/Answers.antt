-- What the cases answered, as text.
use Rattle.std.specs.Prelude.{ℕ, List, [], ◌∷◌, ◌++◌, ◌==◌, codes, if◌then◌else◌}

-- the text of all cases, and the lines that the present one has answered since they were put last
pub record Answered : Type 0 where
  pub text : List ℕ
  pub lines : List ℕ

-- what stands before each line of an answer
abbrev pub margin : List ℕ
margin = codes "  | "

-- a text with the margin behind each line feed
abbrev pub indented : List ℕ → List ℕ
indented [] = []
indented (b ∷ bs) = (if b == 10 then b ∷ margin else b ∷ []) ++ indented bs
