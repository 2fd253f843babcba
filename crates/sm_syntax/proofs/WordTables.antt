-- Looking up a word entry by entry.
use Rattle.std.proofs.Common.{◌≡◌, ◌∙◌, refl, Bool, true, false, List, [], ◌∷◌, ℕ, Option, Some, None, if◌then◌else◌}
use Rattle.std.specs.Option.{option_or}
use Rattle.std.specs.Str.{bytes_eq}
use Rattle.sm_syntax.specs.declared.terminal.Terminal.{Terminal}
use Rattle.sm_syntax.specs.Words.{WordTable, terminal_in}

-- what was found before, or by the first entry that has the word
abbrev pub found_in : WordTable → Option Terminal → List ℕ → Option Terminal
found_in [] found w = found
found_in (e ∷ es) found w = found_in es (option_or found (terminal_in (e ∷ []) w)) w

found_then : (es : WordTable) (found : Option Terminal) (w : List ℕ) → found_in es found w ≡ option_or found (terminal_in es w)
found_then [] None w = refl
found_then [] (Some t) w = refl
found_then (e ∷ es) None w = found_then es (terminal_in (e ∷ []) w) w ∙ one (bytes_eq w e.0) e.1 (terminal_in es w)
  where
    one : (b : Bool) (t : Terminal) (o : Option Terminal) → option_or (if b then Some t else None) o ≡ (if b then Some t else o)
    one true t o = refl
    one false t o = refl
found_then (e ∷ es) (Some t) w = found_then es (Some t) w

pub found_first : (es : WordTable) (w : List ℕ) → found_in es None w ≡ terminal_in es w
found_first es w = found_then es None w
