-- What clap makes of one more word.
use Rattle.std.proofs.Common.{◌≡◌, ◌∙◌, refl, sym, ap, ap₂, subst, codes, Bool, cond, true, false, true≢false, ◌||◌, ℕ, ◌+◌, suc, arith, List, [], ◌∷◌, ◌++◌, Option, Some, None, is_some, eqb-true, inl, inr}
use Rattle.std.proofs.Math.Bool.{and-false, or-false}
use Rattle.std.proofs.lemmas.Bool.{cases_Bool, or_parts}
use Rattle.std.specs.Prelude.{IsUtf8, encode_utf8_all, ◌==◌, if◌then◌else◌, option_and_then, slice_get}
use Rattle.std.specs.List.{after_first, before_first, position_or_len}
use lib.Utf8.{scalars}
use Rattle.std.specs.Str.{bytes_eq, chars}
use Rattle.std.proofs.lemmas.Str.{chars-encodes, IsUtf8-drop, IsCharBoundary-after_ascii}
use Rattle.std.proofs.lemmas.Slice.Eq.{bytes_eq-Decides}
use Rattle.clap.specs.Lexer.{has_byte, name_and_value, long_of, long_of_rest, short_of, short_of_rest, strip_byte}
use Rattle.clap.specs.Kinds.{Kinds, or_else}
use Rattle.clap.specs.Walk.{Held, Waiting, Walk, after_step, arg_by_index, arg_by_long, idle, is_pending, option, positional, pushed, reacted, settled, to_positional, value, walked, word_met}
use Rattle.clap.specs.Faults.{bundle_fault, flags_fault, long_fault, react_fault, settle_fault, step_fault, turn_fault, word_fault}
use Rattle.sm_arguments.specs.Request.{Word, is_end, is_option}
use Rattle.sm_arguments.proofs.Built.{command_rule, model_rule, files_rule, brief_rule, rules, shape}
use Rattle.sm_arguments.proofs.Held.{Holds, flag_passes, id_at, place, with_word}
use Rattle.sm_arguments.proofs.Views.{has_row-Some}

-- a word is refused where the kinds of its faults are some
abbrev pub has_fault : Kinds → Bool
has_fault [] = false
has_fault (k ∷ ks) = true

-- between two words: the words before that are no options, and whether the options have ended
abbrev pub at : Held → Waiting → List Word → Bool → Walk
at h waiting others ended = record { held = h; waiting = waiting; position = place others; is_trailing = ended; stopped = None }

-- no option waits for a value
abbrev pub is_free : Waiting → Bool
is_free idle = true
is_free (option id) = false
is_free positional = true

-- ---- a word that is no option

abbrev pub waiting_after : List Word → Waiting
waiting_after [] = idle
waiting_after (command ∷ []) = idle
waiting_after (command ∷ model ∷ files) = positional

pub free_after : (others : List Word) → is_free (waiting_after others) ≡ true
free_after [] = refl
free_after (command ∷ []) = refl
free_after (command ∷ model ∷ files) = refl

no_long : (w : Word) → is_option w ≡ false → long_of w ≡ None
no_long [] e = refl
no_long (x ∷ []) e = elim (x == 45) as (λ b. option_and_then long_of_rest (option_and_then (strip_byte 45) (cond b (Some []) None)) ≡ None) [ true ↦ refl | false ↦ refl ]
no_long (x ∷ y ∷ w) e = rw e refl

no_short : (w : Word) → is_option w ≡ false → short_of w ≡ None
no_short [] e = refl
no_short (x ∷ []) e = elim (x == 45) as (λ b. option_and_then short_of_rest (cond b (Some []) None) ≡ None) [ true ↦ refl | false ↦ refl ]
no_short (x ∷ y ∷ w) e = rw e refl

pub plain_met : (waiting : Waiting) (p : ℕ) (h : Held) (w : Word) → is_free waiting ≡ true → is_end w ≡ false → is_option w ≡ false
    → word_met rules [] false waiting p w h ≡ (h, value)
plain_met idle p h w free no_end no_option = rw (no_end, no_long w no_option, no_short w no_option) refl
plain_met (option id) p h w free no_end no_option = absurd (true≢false (sym free))
plain_met positional p h w free no_end no_option = rw (no_end, no_long w no_option, no_short w no_option) refl

pub plain_passes : (waiting : Waiting) (h : Held) (w : Word) → is_free waiting ≡ true → is_end w ≡ false → is_option w ≡ false
    → word_fault shape [] false waiting w h ≡ []
plain_passes idle h w free no_end no_option = rw (no_end, no_long w no_option, no_short w no_option) refl
plain_passes (option id) h w free no_end no_option = absurd (true≢false (sym free))
plain_passes positional h w free no_end no_option = rw (no_end, no_long w no_option, no_short w no_option) refl

value_passes : (h : Held) (brief : Bool) (others : List Word) → Holds h brief others → step_fault shape (place others) h value ≡ []
value_passes h brief [] s = ap (λ b. if b then [] else settle_fault rules false h) (and-false (is_pending command_rule h.pending)) ∙ s.settles
value_passes h brief (command ∷ []) s = ap (λ b. if b then [] else settle_fault rules false h) (and-false (is_pending model_rule h.pending)) ∙ s.settles
value_passes h brief (command ∷ model ∷ files) s = ap (λ b. if b then [] else settle_fault rules false h) (and-false (is_pending files_rule h.pending)) ∙ s.settles

pub value_turn : (h : Held) (waiting : Waiting) (brief : Bool) (others : List Word) (ended : Bool) (w : Word) → Holds h brief others
    → word_met rules [] ended waiting (place others) w h ≡ (h, value) → word_fault shape [] ended waiting w h ≡ []
    → turn_fault shape [] (at h waiting others ended) w ≡ []
value_turn h waiting brief others ended w s met passes =
    (λ i. or_else (passes i) (step_fault shape (place others) (met i).0 (met i).1)) ∙ value_passes h brief others s

-- the walk after a value, if it joins what is pending and if the options have ended
pushed_at : Held → List Word → Word → Bool → Bool → Walk
pushed_at h others w joins ended = record {
  held = pushed (id_at others) w (if joins then h else settled rules h);
  waiting = waiting_after others;
  position = place (others ++ w ∷ []);
  is_trailing = ended;
  stopped = None;
}

valued : (h : Held) (waiting : Waiting) (others : List Word) (ended : Bool) (w : Word)
    → to_positional rules (arg_by_index rules (place others)) w (at h waiting others ended) h ≡ at (with_word h others w) (waiting_after others) (others ++ w ∷ []) ended
unfolding pushed_at
valued h waiting [] ended w = ap₂ (pushed_at h [] w) (and-false (is_pending command_rule h.pending)) (or-false ended)
valued h waiting (command ∷ []) ended w = ap₂ (pushed_at h (command ∷ []) w) (and-false (is_pending model_rule h.pending)) (or-false ended)
valued h waiting (command ∷ model ∷ files) ended w = ap₂ (pushed_at h (command ∷ model ∷ files) w) (and-false (is_pending files_rule h.pending)) (or-false ended)

pub value_walked : (h : Held) (waiting : Waiting) (others : List Word) (ended : Bool) (w : Word) → word_met rules [] ended waiting (place others) w h ≡ (h, value)
    → walked rules [] (at h waiting others ended) w ≡ at (with_word h others w) (waiting_after others) (others ++ w ∷ []) ended
unfolding walked
value_walked h waiting others ended w met =
    (λ i. after_step rules w (at h waiting others ended) (met i).0 (met i).1) ∙ valued h waiting others ended w

-- ---- `--`

pub end_turn : (h : Held) (waiting : Waiting) (others : List Word) → is_free waiting ≡ true → turn_fault shape [] (at h waiting others false) (codes "--") ≡ []
end_turn h idle others free = refl
end_turn h (option id) others free = absurd (true≢false (sym free))
end_turn h positional others free = refl

pub end_walked : (h : Held) (waiting : Waiting) (others : List Word) → is_free waiting ≡ true
    → walked rules [] (at h waiting others false) (codes "--") ≡ at h waiting others true
unfolding walked
end_walked h idle others free = refl
end_walked h (option id) others free = absurd (true≢false (sym free))
end_walked h positional others free = refl

-- ---- `--brief`

flag_fault : (h : Held) (waiting : Waiting) (others : List Word) → is_free waiting ≡ true
    → turn_fault shape [] (at h waiting others false) (codes "--brief") ≡ or_else (react_fault rules false brief_rule [] h) []
flag_fault h idle others free = refl
flag_fault h (option id) others free = absurd (true≢false (sym free))
flag_fault h positional others free = refl

pub flag_turn : (h : Held) (waiting : Waiting) (others : List Word) → is_free waiting ≡ true → Holds h false others
    → turn_fault shape [] (at h waiting others false) (codes "--brief") ≡ []
flag_turn h waiting others free s = flag_fault h waiting others free ∙ ap (λ ks. or_else ks []) (flag_passes h others s)

pub flag_again : (h : Held) (waiting : Waiting) (others : List Word) → is_free waiting ≡ true → Holds h true others
    → has_fault (turn_fault shape [] (at h waiting others false) (codes "--brief")) ≡ true
flag_again h waiting others free s =
    let there = has_row-Some (codes "brief") (settled rules h).rows _ s.views.flag in
    ap has_fault (flag_fault h waiting others free) ∙ rw (s.settles, there) refl

pub flag_walked : (h : Held) (waiting : Waiting) (others : List Word) → is_free waiting ≡ true
    → walked rules [] (at h waiting others false) (codes "--brief") ≡ at (reacted rules brief_rule [] h) idle others false
unfolding walked
flag_walked h idle others free = refl
flag_walked h (option id) others free = absurd (true≢false (sym free))
flag_walked h positional others free = refl

-- ---- another option word

-- a text without the byte stands whole before it
whole_before : (c : ℕ) (text : Word) → has_byte c text ≡ false → before_first (λ x. x == c) text ≡ text
whole_before c [] e = refl
whole_before c (x ∷ text) e =
    let parts = or_parts (x == c) (has_byte c text) e in
    let next : 1 + position_or_len (λ x. x == c) text ≡ suc (position_or_len (λ x. x == c) text) = omega arith in
    rw (parts.0, next) (ap (λ t. x ∷ t) (whole_before c text parts.1))

-- `--name` or `--name=value`, where the name is that of the flag or none
long_at : (h : Held) (is_flag : Bool) (v : Option Word) → (is_flag ≡ true → is_some v ≡ true)
    → has_fault (long_fault rules false (if is_flag then Some brief_rule else None) v h) ≡ true
long_at h false v given = refl
long_at h true (Some v) given = refl
long_at h true None given = absurd (true≢false (sym (given refl)))

long_refused : (h : Held) (w : Word) → bytes_eq (45 ∷ 45 ∷ w) (codes "--brief") ≡ false
    → has_fault (long_fault rules false (arg_by_long rules (name_and_value w).0) (name_and_value w).1 h) ≡ true
long_refused h w other = long_at h (bytes_eq (codes "brief") (name_and_value w).0 || false) (name_and_value w).1 has_value
  where
    with_byte : (b : Bool) → (b ≡ false → ⊥) → is_some (if b then Some (after_first (λ x. x == 61) w) else None) ≡ true
    with_byte true some = refl
    with_byte false some = absurd (some refl)

    has_value : (bytes_eq (codes "brief") (name_and_value w).0 || false) ≡ true → is_some (name_and_value w).1 ≡ true
    has_value e = with_byte (has_byte 61 w) (λ none.
        let named : codes "brief" ≡ (name_and_value w).0 = (bytes_eq-Decides (codes "brief") (name_and_value w).0).0 (sym (or-false (bytes_eq (codes "brief") (name_and_value w).0)) ∙ e) in
        let whole : codes "brief" ≡ w = named ∙ whole_before 61 w none in
        true≢false (ap (λ t. bytes_eq (45 ∷ 45 ∷ t) (codes "--brief")) whole ∙ other))

begins : Word → Bool
begins [] = false
begins (x ∷ w) = true

-- the first character of what follows `-`
first_char : (y : ℕ) (w : Word) → IsUtf8 (45 ∷ y ∷ w) → (k : ℕ) × (slice_get (chars (y ∷ w)) 0 ≡ Some k)
unfolding begins
first_char y w text =
    let rest : IsUtf8 (y ∷ w) = IsUtf8-drop (45 ∷ y ∷ w) 1 text (IsCharBoundary-after_ascii (45 ∷ y ∷ w) 0 text (omega arith) (omega arith)) in
    go rest.0 rest.1.0 rest.1.1
  where
    go : (cs : List ℕ) → scalars cs ≡ true → encode_utf8_all cs ≡ y ∷ w → (k : ℕ) × (slice_get (chars (y ∷ w)) 0 ≡ Some k)
    go [] s e = absurd (true≢false (sym (ap begins e)))
    go (k ∷ cs) s e = (k, ap (λ t. slice_get (chars t) 0) (sym e) ∙ ap (λ xs. slice_get xs 0) (chars-encodes (k ∷ cs) s))

bundle_refused : (h : Held) (y : ℕ) (w : Word) (k : ℕ) → h.skip ≡ 0 → slice_get (chars (y ∷ w)) 0 ≡ Some k → has_fault (bundle_fault rules false (y ∷ w) h) ≡ true
unfolding flags_fault
bundle_refused h y w k skip first = rw (skip, first) refl

pub first_fails : (a b : Kinds) → has_fault a ≡ true → has_fault (or_else a b) ≡ true
first_fails [] b e = absurd (true≢false (sym e))
first_fails (k ∷ ks) b e = refl

long_word : (h : Held) (waiting : Waiting) (z : ℕ) (w : Word) → is_free waiting ≡ true → bytes_eq (45 ∷ 45 ∷ z ∷ w) (codes "--brief") ≡ false
    → has_fault (word_fault shape [] false waiting (45 ∷ 45 ∷ z ∷ w) h) ≡ true
long_word h idle z w free other = long_refused h (z ∷ w) other
long_word h (option id) z w free other = absurd (true≢false (sym free))
long_word h positional z w free other = long_refused h (z ∷ w) other

short_word : (h : Held) (waiting : Waiting) (y : ℕ) (w : Word) → is_free waiting ≡ true → (y == 45) ≡ false
    → word_fault shape [] false waiting (45 ∷ y ∷ w) h ≡ bundle_fault rules false (y ∷ w) h
short_word h idle y w free e = rw (e, e) refl
short_word h (option id) y w free e = absurd (true≢false (sym free))
short_word h positional y w free e = rw (e, e) refl

hyphen_refused : (h : Held) (waiting : Waiting) (y : ℕ) (w : Word) → is_free waiting ≡ true → h.skip ≡ 0 → IsUtf8 (45 ∷ y ∷ w) → is_end (45 ∷ y ∷ w) ≡ false
    → bytes_eq (45 ∷ y ∷ w) (codes "--brief") ≡ false → has_fault (word_fault shape [] false waiting (45 ∷ y ∷ w) h) ≡ true
hyphen_refused h waiting y w free skip text no_end other = elim (cases_Bool (y == 45)) [
  | inl e ↦ subst (λ x. is_end (45 ∷ x ∷ w) ≡ false → bytes_eq (45 ∷ x ∷ w) (codes "--brief") ≡ false → has_fault (word_fault shape [] false waiting (45 ∷ x ∷ w) h) ≡ true)
      (sym (eqb-true y 45 e)) (long w) no_end other
  | inr e ↦ let char = first_char y w text in ap has_fault (short_word h waiting y w free e) ∙ bundle_refused h y w char.0 skip char.1
]
  where
    long : (v : Word) → is_end (45 ∷ 45 ∷ v) ≡ false → bytes_eq (45 ∷ 45 ∷ v) (codes "--brief") ≡ false
        → has_fault (word_fault shape [] false waiting (45 ∷ 45 ∷ v) h) ≡ true
    long [] no_end other = absurd (true≢false no_end)
    long (z ∷ v) no_end other = long_word h waiting z v free other

pub option_refused : (h : Held) (waiting : Waiting) (others : List Word) (w : Word) → is_free waiting ≡ true → h.skip ≡ 0 → IsUtf8 w → is_end w ≡ false
    → is_option w ≡ true → bytes_eq w (codes "--brief") ≡ false → has_fault (turn_fault shape [] (at h waiting others false) w) ≡ true
option_refused h waiting others [] free skip text no_end hyphen other = absurd (true≢false (sym hyphen))
option_refused h waiting others (x ∷ []) free skip text no_end hyphen other = absurd (true≢false (sym hyphen))
option_refused h waiting others (x ∷ y ∷ w) free skip text no_end hyphen other =
    first_fails (word_fault shape [] false waiting (x ∷ y ∷ w) h) _
    (subst (λ z. IsUtf8 (z ∷ y ∷ w) → is_end (z ∷ y ∷ w) ≡ false → bytes_eq (z ∷ y ∷ w) (codes "--brief") ≡ false → has_fault (word_fault shape [] false waiting (z ∷ y ∷ w) h) ≡ true)
    (sym (eqb-true x 45 hyphen)) (hyphen_refused h waiting y w free skip) text no_end other)
