-- The words that have a terminal are the reserved ones.
use Rattle.std.proofs.Common.{◌≡◌, ◌∙◌, ap, ap₂, sym, refl, ◌||◌, ◌++◌, Bool, true, false, ℕ, List, [], ◌∷◌, map, Option, Some, None, if◌then◌else◌}
use Rattle.std.specs.Prelude.{is_some}
use Rattle.std.specs.List.{list_any}
use Rattle.std.specs.Str.{bytes_eq}
use Rattle.std.proofs.lemmas.List.Folds.{list_any-append}
use Rattle.sm_words.specs.Names.{is_reserved, reserved_words}
use Rattle.sm_syntax.specs.declared.terminal.Terminal.{Terminal}
use Rattle.sm_syntax.specs.Words.{WordTable, terminal_in, or_else, item_words, goal_words, binder_words, constraint_words, grouping_words, formula_words, tag_words, level_words, branching_words, item_word, goal_word, binder_word, constraint_word, grouping_word, formula_word, tag_word, level_word, branching_word, outline_word, body_word, setting_word, reserved_word}

abbrev words_in : WordTable → List (List ℕ)
words_in es = map (λ (e : List ℕ × Terminal). e.0) es

some_if : (b : Bool) (t : Terminal) (o : Option Terminal) → is_some (if b then Some t else o) ≡ (b || is_some o)
some_if true t o = refl
some_if false t o = refl

some_in : (es : WordTable) (w : List ℕ) → is_some (terminal_in es w) ≡ list_any (bytes_eq w) (words_in es)
some_in [] w = refl
some_in (e ∷ es) w = some_if (bytes_eq w e.0) e.1 (terminal_in es w) ∙ ap (λ (b : Bool). bytes_eq w e.0 || b) (some_in es w)

some_else : (a b : Option Terminal) → is_some (or_else a b) ≡ (is_some a || is_some b)
some_else None b = refl
some_else (Some t) b = refl

-- the first of two has one of the first words, or the second one of the second
some_either : (w : List ℕ) (a b : Option Terminal) (xs ys : List (List ℕ)) → is_some a ≡ list_any (bytes_eq w) xs → is_some b ≡ list_any (bytes_eq w) ys
    → is_some (or_else a b) ≡ list_any (bytes_eq w) (xs ++ ys)
some_either w a b xs ys h k = some_else a b ∙ ap₂ (λ (c d : Bool). c || d) h k ∙ sym (list_any-append (bytes_eq w) xs ys)

abbrev outline_words : List (List ℕ)
outline_words = words_in item_words ++ words_in goal_words ++ words_in binder_words

abbrev body_words : List (List ℕ)
body_words = words_in constraint_words ++ words_in grouping_words ++ words_in formula_words

abbrev setting_words : List (List ℕ)
setting_words = words_in tag_words ++ words_in level_words ++ words_in branching_words

all_listed : outline_words ++ body_words ++ setting_words ≡ reserved_words
unfolding reserved_words
all_listed = refl

pub some_reserved : (w : List ℕ) → is_some (reserved_word w) ≡ is_reserved w
unfolding reserved_word
some_reserved w =
    some_either w (outline_word w) (or_else (body_word w) (setting_word w)) outline_words (body_words ++ setting_words)
    (some_either w (item_word w) (or_else (goal_word w) (binder_word w)) (words_in item_words) (words_in goal_words ++ words_in binder_words) (some_in item_words w)
    (some_either w (goal_word w) (binder_word w) (words_in goal_words) (words_in binder_words) (some_in goal_words w) (some_in binder_words w)))
    (some_either w (body_word w) (setting_word w) body_words setting_words
    (some_either w (constraint_word w) (or_else (grouping_word w) (formula_word w)) (words_in constraint_words) (words_in grouping_words ++ words_in formula_words) (some_in constraint_words w)
    (some_either w (grouping_word w) (formula_word w) (words_in grouping_words) (words_in formula_words) (some_in grouping_words w) (some_in formula_words w)))
    (some_either w (tag_word w) (or_else (level_word w) (branching_word w)) (words_in tag_words) (words_in level_words ++ words_in branching_words) (some_in tag_words w)
    (some_either w (level_word w) (branching_word w) (words_in level_words) (words_in branching_words) (some_in level_words w) (some_in branching_words w))))
    ∙ ap (list_any (bytes_eq w)) all_listed
