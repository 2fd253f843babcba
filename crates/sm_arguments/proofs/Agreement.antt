-- The command that clap is given reads words as they are defined.
use Rattle.std.proofs.Common.{◌≡◌, ◌∙◌, refl, sym, ap, subst, codes, Bool, true, false, true≢false, List, [], ◌∷◌, ◌++◌, append-nil, append_assoc, Option, Some, None, fold, inl, inr}
use Rattle.std.proofs.lemmas.Bool.{cases_Bool}
use Rattle.std.proofs.lemmas.Slice.Eq.{bytes_eq-Decides}
use Rattle.std.specs.Prelude.{IsUtf8, if◌then◌else◌}
use Rattle.std.specs.Str.{bytes_eq}
use Rattle.clap.specs.Kinds.{Kinds, or_else}
use Rattle.clap.specs.Walk.{Held, Waiting, Walk, idle, nothing_held, reacted, walk, walk_from, walked}
use Rattle.clap.specs.Words.{matches_of, fault_of}
use Rattle.clap.specs.Faults.{built_fault, turn_fault, walk_fault}
use Rattle.sm_arguments.specs.Request.{Word, asked_by, asked_with, brief_in, is_end, is_option, options_in, others_in}
use Rattle.sm_arguments.specs.App.{simpl, asked_by_rows}
use Rattle.sm_arguments.proofs.Built.{app, brief_rule, built-simpl, rules, shape}
use Rattle.sm_arguments.proofs.Held.{Holds, flag_holds, nothing_holds, place, with_word, word_holds}
use Rattle.sm_arguments.proofs.Turns.{at, end_turn, end_walked, first_fails, flag_again, flag_turn, flag_walked, free_after, has_fault, is_free, option_refused, plain_met, plain_passes, value_turn, value_walked, waiting_after}
use Rattle.sm_arguments.proofs.Finish.{asked_at_end, end_passes}

abbrev pub AreTexts : List Word → Type 0
AreTexts [] = Unit {0}
AreTexts (w ∷ ws) = IsUtf8 w × AreTexts ws

-- whether the flag was given after more option words; nothing where one of them is refused
abbrev brief_after : Bool → List Word → Option Bool
brief_after brief [] = Some brief
brief_after brief (o ∷ os) = if bytes_eq o (codes "--brief") then (if brief then None else brief_after true os) else None

brief_after-start : (os : List Word) → brief_after false os ≡ brief_in os
brief_after-start [] = refl
brief_after-start (o ∷ []) = refl
brief_after-start (o ∷ p ∷ os) = two (bytes_eq o (codes "--brief")) (bytes_eq p (codes "--brief"))
  where
    two : (a b : Bool) → ◌≡◌ {A = Option Bool} (if a then (if b then None else None) else None) None
    two true true = refl
    two true false = refl
    two false b = refl

-- a walk ends with a fault, or without one and with these words
abbrev Ends : Option Bool → List Word → Kinds → Walk → Type 0
Ends None others faults end = has_fault faults ≡ true
Ends (Some brief) others faults end = (faults ≡ []) × Holds end.held brief others × (end.stopped ≡ None)

-- one more word, which has no fault
goes_on : (brief : Option Bool) (others : List Word) (before after : Walk) (w : Word) (ws : List Word) → turn_fault shape [] before w ≡ [] → walked rules [] before w ≡ after
    → Ends brief others (walk_fault shape [] after ws) (fold (walked rules []) after ws)
    → Ends brief others (walk_fault shape [] before (w ∷ ws)) (fold (walked rules []) before (w ∷ ws))
unfolding walk_fault
goes_on brief others before after w ws passes goes ends =
    let same : ◌≡◌ {A = Kinds × Walk} (walk_fault shape [] before (w ∷ ws), fold (walked rules []) before (w ∷ ws)) (walk_fault shape [] after ws, fold (walked rules []) after ws)
    = λ i. (or_else (passes i) (walk_fault shape [] (goes i) ws), fold (walked rules []) (goes i) ws) in
    subst (λ (p : Kinds × Walk). Ends brief others p.0 p.1) (sym same) ends

-- one more word, which has one
stops : (others : List Word) (before : Walk) (w : Word) (ws : List Word) → has_fault (turn_fault shape [] before w) ≡ true
    → Ends None others (walk_fault shape [] before (w ∷ ws)) (fold (walked rules []) before (w ∷ ws))
unfolding walk_fault
stops others before w ws fault = first_fails (turn_fault shape [] before w) _ fault

-- ---- once the option words have ended

reads_on : (ws : List Word) (h : Held) (waiting : Waiting) (brief : Bool) (others : List Word) → Holds h brief others
    → Ends (Some brief) (others ++ ws) (walk_fault shape [] (at h waiting others true) ws) (fold (walked rules []) (at h waiting others true) ws)
unfolding walk_fault
reads_on [] h waiting brief others s = (refl, subst (Holds h brief) (sym (append-nil others)) s, refl)
reads_on (w ∷ ws) h waiting brief others s =
    let rest = reads_on ws (with_word h others w) (waiting_after others) brief (others ++ w ∷ []) (word_holds h brief others w s) in
    goes_on (Some brief) (others ++ w ∷ ws) (at h waiting others true) (at (with_word h others w) (waiting_after others) (others ++ w ∷ []) true) w ws
    (value_turn h waiting brief others true w s refl refl) (value_walked h waiting others true w refl)
    (subst (λ xs. Ends (Some brief) xs (walk_fault shape [] (at (with_word h others w) (waiting_after others) (others ++ w ∷ []) true) ws)
    (fold (walked rules []) (at (with_word h others w) (waiting_after others) (others ++ w ∷ []) true) ws)) (append_assoc others (w ∷ []) ws) rest)

-- ---- before

abbrev Reads : List Word → Held → Waiting → Bool → List Word → Type 0
Reads ws h waiting brief others = Ends (brief_after brief (options_in ws)) (others ++ others_in ws) (walk_fault shape [] (at h waiting others false) ws)
    (fold (walked rules []) (at h waiting others false) ws)

end_reads : (ws : List Word) (h : Held) (waiting : Waiting) (brief : Bool) (others : List Word) → is_free waiting ≡ true → Holds h brief others
    → Reads (codes "--" ∷ ws) h waiting brief others
end_reads ws h waiting brief others free s =
    goes_on (Some brief) (others ++ ws) (at h waiting others false) (at h waiting others true) (codes "--") ws
    (end_turn h waiting others free) (end_walked h waiting others free) (reads_on ws h waiting brief others s)

flag_reads : (ws : List Word) (h : Held) (waiting : Waiting) (brief : Bool) (others : List Word) → is_free waiting ≡ true → Holds h brief others
    → ((g : Held) → Holds g true others → Reads ws g idle true others) → Reads (codes "--brief" ∷ ws) h waiting brief others
flag_reads ws h waiting true others free s rest = stops (others ++ others_in ws) (at h waiting others false) (codes "--brief") ws (flag_again h waiting others free s)
flag_reads ws h waiting false others free s rest =
    goes_on (brief_after true (options_in ws)) (others ++ others_in ws) (at h waiting others false) (at (reacted rules brief_rule [] h) idle others false) (codes "--brief") ws
    (flag_turn h waiting others free s) (flag_walked h waiting others free) (rest (reacted rules brief_rule [] h) (flag_holds h others s))

option_reads : (w : Word) (ws : List Word) (h : Held) (waiting : Waiting) (brief : Bool) (others : List Word) → IsUtf8 w → is_free waiting ≡ true → Holds h brief others
    → is_end w ≡ false → is_option w ≡ true → bytes_eq w (codes "--brief") ≡ false → Reads (w ∷ ws) h waiting brief others
option_reads w ws h waiting brief others text free s no_end hyphen other =
    let refused : brief_after brief (options_in (w ∷ ws)) ≡ None = rw (no_end, hyphen, other) refl in
    subst (λ o. Ends o (others ++ others_in (w ∷ ws)) (walk_fault shape [] (at h waiting others false) (w ∷ ws)) (fold (walked rules []) (at h waiting others false) (w ∷ ws))) (sym refused)
    (stops (others ++ others_in (w ∷ ws)) (at h waiting others false) w ws (option_refused h waiting others w free s.skip text no_end hyphen other))

plain_reads : (w : Word) (ws : List Word) (h : Held) (waiting : Waiting) (brief : Bool) (others : List Word) → is_free waiting ≡ true → Holds h brief others
    → is_end w ≡ false → is_option w ≡ false → Reads ws (with_word h others w) (waiting_after others) brief (others ++ w ∷ []) → Reads (w ∷ ws) h waiting brief others
plain_reads w ws h waiting brief others free s no_end no_option rest =
    let options : options_in ws ≡ options_in (w ∷ ws) = rw (no_end, no_option) refl in
    let joined : (others ++ w ∷ []) ++ others_in ws ≡ others ++ others_in (w ∷ ws) = append_assoc others (w ∷ []) (others_in ws) ∙ ap (λ xs. others ++ xs) (rw (no_end, no_option) refl) in
    subst (λ (p : List Word × List Word). Ends (brief_after brief p.0) p.1 (walk_fault shape [] (at h waiting others false) (w ∷ ws)) (fold (walked rules []) (at h waiting others false) (w ∷ ws)))
    (λ i. (options i, joined i))
    (goes_on (brief_after brief (options_in ws)) ((others ++ w ∷ []) ++ others_in ws) (at h waiting others false) (at (with_word h others w) (waiting_after others) (others ++ w ∷ []) false) w ws
    (value_turn h waiting brief others false w s (plain_met waiting (place others) h w free no_end no_option) (plain_passes waiting h w free no_end no_option))
    (value_walked h waiting others false w (plain_met waiting (place others) h w free no_end no_option)) rest)

reads : (ws : List Word) (h : Held) (waiting : Waiting) (brief : Bool) (others : List Word) → AreTexts ws → is_free waiting ≡ true → Holds h brief others → Reads ws h waiting brief others
unfolding walk_fault
reads [] h waiting brief others texts free s = (refl, subst (Holds h brief) (sym (append-nil others)) s, refl)
reads (w ∷ ws) h waiting brief others texts free s = elim (cases_Bool (is_end w)) [
  | inl e ↦ subst (λ v. Reads (v ∷ ws) h waiting brief others) (sym ((bytes_eq-Decides w (codes "--")).0 e)) (end_reads ws h waiting brief others free s)
  | inr no_end ↦ elim (cases_Bool (is_option w)) [
    | inl hyphen ↦ elim (cases_Bool (bytes_eq w (codes "--brief"))) [
      | inl e ↦ subst (λ v. Reads (v ∷ ws) h waiting brief others) (sym ((bytes_eq-Decides w (codes "--brief")).0 e))
          (flag_reads ws h waiting brief others free s (λ g t. reads ws g idle true others texts.1 refl t))
      | inr other ↦ option_reads w ws h waiting brief others texts.0 free s no_end hyphen other
    ]
    | inr no_option ↦ plain_reads w ws h waiting brief others free s no_end no_option
        (reads ws (with_word h others w) (waiting_after others) brief (others ++ w ∷ []) texts.1 (free_after others) (word_holds h brief others w s))
  ]
]

-- ---- the whole

whole : (words : List Word) → AreTexts words → Ends (brief_in (options_in words)) (others_in words) (walk_fault shape [] (walk_from nothing_held) words) (walk rules [] nothing_held words)
whole words texts =
    subst (λ o. Ends o (others_in words) (walk_fault shape [] (walk_from nothing_held) words) (walk rules [] nothing_held words)) (brief_after-start (options_in words))
    (reads words nothing_held idle false [] texts refl nothing_holds)

fault_is : (words : List Word) → fault_of simpl words ≡ built_fault app nothing_held words
fault_is words = ap (λ a. built_fault a nothing_held words) built-simpl

fault_stays : (words : List Word) → has_fault (walk_fault shape [] (walk_from nothing_held) words) ≡ true → fault_of simpl words ≡ [] → ⊥
fault_stays words fault none =
    true≢false (sym (first_fails (walk_fault shape [] (walk_from nothing_held) words) _ fault) ∙ ap has_fault (sym (fault_is words) ∙ none))

taken_as : (o : Option Bool) (words : List Word) → Ends o (others_in words) (walk_fault shape [] (walk_from nothing_held) words) (walk rules [] nothing_held words)
    → fault_of simpl words ≡ [] → asked_by_rows (matches_of simpl words) ≡ asked_with (others_in words) o
taken_as None words ends none = absurd (fault_stays words ends none)
taken_as (Some brief) words ends none = asked_at_end (walk rules [] nothing_held words).held brief (others_in words) ends.1

refused_as : (o : Option Bool) (words : List Word) → Ends o (others_in words) (walk_fault shape [] (walk_from nothing_held) words) (walk rules [] nothing_held words)
    → (fault_of simpl words ≡ [] → ⊥) → asked_with (others_in words) o ≡ None
refused_as None words ends some = nothing (others_in words)
  where
    nothing : (others : List Word) → asked_with others None ≡ None
    nothing [] = refl
    nothing (command ∷ []) = refl
    nothing (command ∷ model ∷ files) = refl
refused_as (Some brief) words ends some =
    absurd (some (fault_is words ∙ end_passes (walk rules [] nothing_held words) (walk_fault shape [] (walk_from nothing_held) words) brief (others_in words) ends.0 ends.1 ends.2))

-- where clap takes the words, its matches ask for what the words do
pub taken : (words : List Word) → AreTexts words → fault_of simpl words ≡ [] → asked_by_rows (matches_of simpl words) ≡ asked_by words
unfolding asked_by
taken words texts none = taken_as (brief_in (options_in words)) words (whole words texts) none

-- where clap refuses the words, they ask for nothing
pub refused : (words : List Word) → AreTexts words → (fault_of simpl words ≡ [] → ⊥) → asked_by words ≡ None
unfolding asked_by
refused words texts some = refused_as (brief_in (options_in words)) words (whole words texts) some
