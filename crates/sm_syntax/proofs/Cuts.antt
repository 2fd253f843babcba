-- How one piece is cut off a text.
use Rattle.std.proofs.Common.{◌≡◌, ◌∙◌, refl, sym, ap, ℕ, zero, suc, ◌+◌, ◌-◌, ◌*◌, ◌^◌, ◌<◌, ◌≤◌, Bool, true, false, List, [], ◌∷◌, length, take, drop, get_or, All, arith, add-one, add-zero, add-suc, length-take, get_or-take, length-drop, take_all, subst, if◌then◌else◌, ◌==◌}
use Rattle.std.specs.List.{prefix_len}
use Rattle.std.proofs.Math.Nat.{pow-succ'}
use Rattle.std.proofs.lemmas.List.Sums.{prefix_len-le-length, prefix_len_passes}
use Rattle.std.proofs.lemmas.Bool.Decides.{nat_tests}
use Rattle.sm_syntax.specs.declared.terminal.Piece.{Piece}
use Rattle.sm_syntax.specs.declared.terminal.Piece.TheVariants.{Blank, Comment, Word, Digits, Sign}
use Rattle.sm_syntax.specs.declared.place.Place.{Place}
use Rattle.sm_words.specs.Letters.{is_digit, is_letter}
use Rattle.sm_syntax.specs.Tokens.{is_blank, piece_of, length_behind, terminal_of, place_behind, before, tokens_behind, tokens_from}

pub run_within : (p : ℕ → Bool) (bs : List ℕ) → prefix_len p bs ≤ length bs
run_within p bs = prefix_len-le-length p bs

tokens_behind-drop : (k : ℕ) (bs : List ℕ) (p : Place) → tokens_behind k bs p ≡ tokens_from (drop k bs) p
tokens_behind-drop zero [] p = refl
tokens_behind-drop (suc k) [] p = refl
tokens_behind-drop zero (b ∷ bs) p = refl
tokens_behind-drop (suc k) (b ∷ bs) p = tokens_behind-drop k bs p

cut_at : (b n : ℕ) (bs : List ℕ) (p : Place) → n ≡ length_behind (piece_of b) b bs
    → tokens_from (b ∷ bs) p ≡ before (terminal_of (piece_of b) (b ∷ take n bs)) (b ∷ take n bs) p (tokens_from (drop n bs) (place_behind p b (n + 1)))
cut_at b n bs p is = ap (λ (k : ℕ). before (terminal_of (piece_of b) (b ∷ take k bs)) (b ∷ take k bs) p (tokens_behind k bs (place_behind p b (k + 1)))) (sym is)
    ∙ ap (before (terminal_of (piece_of b) (b ∷ take n bs)) (b ∷ take n bs) p) (tokens_behind-drop n bs (place_behind p b (n + 1)))

tail_is : (k : ℕ) (bs : List ℕ) → take (length bs - k) (drop k bs) ≡ drop k bs
tail_is k bs = take_all (length bs - k) (drop k bs) (omega (arith, length-drop {A = ℕ}))

-- the first piece, and the tokens behind it
pub first_piece : (text : List ℕ) (p : Place) (piece : Piece) (n : ℕ) → 0 < length text → piece ≡ piece_of (get_or text 0 0)
    → n ≡ length_behind piece (get_or text 0 0) (take (length text - 1) (drop 1 text))
    → tokens_from text p ≡ before (terminal_of piece (take (n + 1) text)) (take (n + 1) text) p
    (tokens_from (take (length text - (n + 1)) (drop (n + 1) text)) (place_behind p (get_or text 0 0) (n + 1)))
first_piece [] p piece n some first is = absurd (omega arith)
first_piece (b ∷ bs) p piece n some first is =
    let length_is : n ≡ length_behind (piece_of b) b bs = is ∙ ap (length_behind piece b) (tail_is 1 (b ∷ bs)) ∙ ap (λ (p : Piece). length_behind p b bs) first in
    let t : take (n + 1) (b ∷ bs) ≡ b ∷ take n bs = rw add-one refl in
    let d : drop (n + 1) (b ∷ bs) ≡ drop n bs = rw add-one refl in
    rw (tail_is (n + 1) (b ∷ bs), first, t, d) (cut_at b n bs p length_is)

digits_run : (bs : List ℕ) → All (λ d. is_digit d ≡ true) (take (prefix_len is_digit bs) bs)
digits_run bs = λ k d lt. let below : k < prefix_len is_digit bs = omega (arith, length-take {A = ℕ}) in rw get_or-take (prefix_len_passes is_digit bs k d below)

digits_case : (p q r s : Bool) → (if p then Blank else (if q then Comment else (if r then Word else (if s then Digits else Sign)))) ≡ Digits → s ≡ true
digits_case true q r s e = absurd (cc)
digits_case false true r s e = absurd (cc)
digits_case false false true s e = absurd (cc)
digits_case false false false true e = refl
digits_case false false false false e = absurd (cc)

piece_digits : (b : ℕ) → piece_of b ≡ Digits → is_digit b ≡ true
piece_digits b e = digits_case (is_blank b) (b == 35) (is_letter b) (is_digit b) e

digits_length : (b n : ℕ) (bs : List ℕ) → n ≡ length_behind (piece_of b) b bs → piece_of b ≡ Digits → n + 1 ≡ prefix_len is_digit (b ∷ bs)
digits_length b n bs is e =
    let length : n ≡ prefix_len is_digit bs = is ∙ ap (λ (p : Piece). length_behind p b bs) e in
    rw (piece_digits b e) (omega arith)

-- the bytes of a number are digits
pub digits_of : (text : List ℕ) (piece : Piece) (n : ℕ) → 0 < length text → piece ≡ piece_of (get_or text 0 0)
    → n ≡ length_behind piece (get_or text 0 0) (take (length text - 1) (drop 1 text))
    → piece ≡ Digits → All (λ d. is_digit d ≡ true) (take (n + 1) text)
digits_of [] piece n some first is e = absurd (omega arith)
digits_of (b ∷ bs) piece n some first is e =
    let length_is : n ≡ length_behind (piece_of b) b bs = is ∙ ap (length_behind piece b) (tail_is 1 (b ∷ bs)) ∙ ap (λ (p : Piece). length_behind p b bs) first in
    rw (digits_length b n bs length_is (sym first ∙ e)) (digits_run (b ∷ bs))

digit_below : (d : ℕ) → is_digit d ≡ true → d ≤ 57
digit_below d e = grind (arith, nat_tests)

-- one digit more
pub more_digits : (v k d : ℕ) → v < 10 ^ k → is_digit d ≡ true → 10 * v + (d - 48) < 10 ^ (k + 1)
more_digits v k d h e = let below = digit_below d e in rw (add-one, pow-succ') (omega arith)

more_places : (k m : ℕ) → 10 ^ k ≤ 10 ^ (k + m)
more_places k zero = rw add-zero (omega arith)
more_places k (suc m) = rw (add-suc, pow-succ') (omega (arith, more_places k m))

pub few_digits : (k : ℕ) → k ≤ 18 → 10 ^ k ≤ 10 ^ 18
few_digits k few = let P : ℕ → Type 0 = λ n. 10 ^ k ≤ 10 ^ n in let sum : k + (18 - k) ≡ 18 = omega arith in subst P sum (more_places k (18 - k))
