-- What terminals words, digits and signs can be.
use Rattle.std.proofs.Common.{◌≡◌, ◌∙◌, subst, refl, arith, ◌≤◌, ◌==◌, ◌&&◌, not, ℕ, Bool, true, false, List, [], ◌∷◌, Option, Some, None, codes, length, if◌then◌else◌}
use Rattle.std.specs.Prelude.{nat_le}
use Rattle.std.specs.Str.{bytes_eq}
use Rattle.std.proofs.lemmas.Bool.{and_parts}
use Rattle.std.proofs.lemmas.Bool.Decides.{nat_tests}
use Rattle.sm_words.specs.Names.{longest_name}
use Rattle.sm_syntax.specs.declared.terminal.Terminal.{Terminal}
use Rattle.sm_syntax.specs.declared.terminal.Terminal.TheVariants as terminal
use Rattle.sm_syntax.specs.declared.terminal.Piece.{Piece}
use Rattle.sm_syntax.specs.declared.terminal.Piece.TheVariants.{Blank, Comment, Word, Digits, Sign}
use Rattle.sm_syntax.specs.Terminals.{code_of}
use Rattle.sm_syntax.specs.Words.{WordTable, terminal_in, or_else, item_words, goal_words, binder_words, constraint_words, grouping_words, formula_words, tag_words, level_words, branching_words, item_word, goal_word, binder_word, constraint_word, grouping_word, formula_word, tag_word, level_word, branching_word, outline_word, body_word, setting_word, reserved_word}
use Rattle.sm_syntax.specs.Tokens.{name_or_bad, word_terminal, digits_terminal, sign_terminal, terminal_of}

-- no number and not the end
abbrev is_other : Terminal → Bool
is_other t = not (code_of t == 1) && not (code_of t == 69)

abbrev IsOther : Option Terminal → Type 0
IsOther None = Unit {0}
IsOther (Some t) = is_other t ≡ true

word_if : (b : Bool) (t : Terminal) (o : Option Terminal) → is_other t ≡ true → IsOther o → IsOther (if b then Some t else o)
word_if true t o h k = h
word_if false t o h k = k

sign_if : (b : Bool) (s t : Terminal) → is_other s ≡ true → is_other t ≡ true → is_other (if b then s else t) ≡ true
sign_if true s t h k = h
sign_if false s t h k = k

either_word : (a b : Option Terminal) → IsOther a → IsOther b → IsOther (or_else a b)
either_word None b h k = k
either_word (Some t) b h k = h

-- each terminal of the table is such
abbrev others : WordTable → Bool
others [] = true
others (e ∷ es) = is_other e.1 && others es

table_other : (es : WordTable) (w : List ℕ) → others es ≡ true → IsOther (terminal_in es w)
table_other [] w h = tt
table_other (e ∷ es) w h = let parts = and_parts (is_other e.1) (others es) h in word_if (bytes_eq w e.0) e.1 (terminal_in es w) parts.0 (table_other es w parts.1)

reserved_other : (w : List ℕ) → IsOther (reserved_word w)
unfolding reserved_word
reserved_other w =
    either_word (outline_word w) (or_else (body_word w) (setting_word w))
    (either_word (item_word w) (or_else (goal_word w) (binder_word w)) (table_other item_words w refl)
    (either_word (goal_word w) (binder_word w) (table_other goal_words w refl) (table_other binder_words w refl)))
    (either_word (body_word w) (setting_word w)
    (either_word (constraint_word w) (or_else (grouping_word w) (formula_word w)) (table_other constraint_words w refl)
    (either_word (grouping_word w) (formula_word w) (table_other grouping_words w refl) (table_other formula_words w refl)))
    (either_word (tag_word w) (or_else (level_word w) (branching_word w)) (table_other tag_words w refl)
    (either_word (level_word w) (branching_word w) (table_other level_words w refl) (table_other branching_words w refl))))

name_other : (o : Option Terminal) (w : List ℕ) → IsOther o → is_other (name_or_bad o w) ≡ true
name_other (Some t) w h = h
name_other None w h = sign_if (nat_le (length w) longest_name) terminal.Name terminal.Bad refl refl

word_other : (w : List ℕ) → is_other (word_terminal w) ≡ true
word_other w = name_other (reserved_word w) w (reserved_other w)

sign_other : (w : List ℕ) → is_other (sign_terminal w) ≡ true
sign_other w =
    sign_if (bytes_eq w (codes ";")) terminal.Semicolon _ refl (
    sign_if (bytes_eq w (codes ",")) terminal.Comma _ refl (
    sign_if (bytes_eq w (codes ":")) terminal.Colon _ refl (
    sign_if (bytes_eq w (codes "..")) terminal.To _ refl (
    sign_if (bytes_eq w (codes "<")) terminal.Less _ refl (
    sign_if (bytes_eq w (codes "<=")) terminal.AtMost _ refl (
    sign_if (bytes_eq w (codes ">")) terminal.Greater _ refl (
    sign_if (bytes_eq w (codes ">=")) terminal.AtLeast _ refl (
    sign_if (bytes_eq w (codes "=")) terminal.Equal _ refl (
    sign_if (bytes_eq w (codes "!=")) terminal.Unequal _ refl (
    sign_if (bytes_eq w (codes "+")) terminal.Plus _ refl (
    sign_if (bytes_eq w (codes "-")) terminal.Minus _ refl (
    sign_if (bytes_eq w (codes "*")) terminal.Times _ refl (
    sign_if (bytes_eq w (codes "(")) terminal.OpenRound _ refl (
    sign_if (bytes_eq w (codes ")")) terminal.CloseRound _ refl (
    sign_if (bytes_eq w (codes "[")) terminal.OpenSquare _ refl (
    sign_if (bytes_eq w (codes "]")) terminal.CloseSquare _ refl (
    sign_if (bytes_eq w (codes "{")) terminal.OpenBrace _ refl (
    sign_if (bytes_eq w (codes "}")) terminal.CloseBrace _ refl (
    refl)))))))))))))))))))

no_number : (t : Terminal) → is_other t ≡ true → t ≡ terminal.Number → ⊥
no_number t h e = let wrong : false ≡ true = subst (λ (s : Terminal). is_other s ≡ true) e h in cc

inner : (a b : Bool) → (not a && not b) ≡ true → b ≡ false
inner true b h = cc
inner false true h = cc
inner false false h = refl

same_some : (s t : Terminal) → Some s ≡ Some t → s ≡ t
same_some s t e = cc

digits_case : (b : Bool) → code_of (if b then terminal.Number else terminal.Bad) == 69 ≡ false
digits_case true = refl
digits_case false = refl

-- the end is no piece
pub no_end : (piece : Piece) (bytes : List ℕ) (t : Terminal) → terminal_of piece bytes ≡ Some t → (code_of t == 69) ≡ false
no_end Blank bytes t e = cc
no_end Comment bytes t e = cc
no_end Word bytes t e = subst (λ (s : Terminal). (code_of s == 69) ≡ false) (same_some (word_terminal bytes) t e) (inner (code_of (word_terminal bytes) == 1) (code_of (word_terminal bytes) == 69) (word_other bytes))
no_end Digits bytes t e = subst (λ (s : Terminal). (code_of s == 69) ≡ false) (same_some (digits_terminal bytes) t e) (digits_case (nat_le (length bytes) 18))
no_end Sign bytes t e = subst (λ (s : Terminal). (code_of s == 69) ≡ false) (same_some (sign_terminal bytes) t e) (inner (code_of (sign_terminal bytes) == 1) (code_of (sign_terminal bytes) == 69) (sign_other bytes))

-- only digits are a number
pub number_piece : (piece : Piece) (bytes : List ℕ) (t : Terminal) → terminal_of piece bytes ≡ Some t → t ≡ terminal.Number → piece ≡ Digits
number_piece Blank bytes t e n = cc
number_piece Comment bytes t e n = cc
number_piece Word bytes t e n = absurd (no_number (word_terminal bytes) (word_other bytes) (same_some (word_terminal bytes) t e ∙ n))
number_piece Digits bytes t e n = refl
number_piece Sign bytes t e n = absurd (no_number (sign_terminal bytes) (sign_other bytes) (same_some (sign_terminal bytes) t e ∙ n))

few_case : (b : Bool) → (if b then terminal.Number else terminal.Bad) ≡ terminal.Number → b ≡ true
few_case true e = refl
few_case false e = cc

few_digits : (n : ℕ) → nat_le n 18 ≡ true → n ≤ 18
few_digits n h = grind (arith, nat_tests)

-- and at most 18 of them
pub number_few : (piece : Piece) (bytes : List ℕ) (t : Terminal) → terminal_of piece bytes ≡ Some t → t ≡ terminal.Number → length bytes ≤ 18
number_few Blank bytes t e n = cc
number_few Comment bytes t e n = cc
number_few Word bytes t e n = absurd (no_number (word_terminal bytes) (word_other bytes) (same_some (word_terminal bytes) t e ∙ n))
number_few Digits bytes t e n = few_digits (length bytes) (few_case (nat_le (length bytes) 18) (same_some (digits_terminal bytes) t e ∙ n))
number_few Sign bytes t e n = absurd (no_number (sign_terminal bytes) (sign_other bytes) (same_some (sign_terminal bytes) t e ∙ n))
