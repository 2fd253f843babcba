-- Cutting bytes after each line end, and the lines' texts as pieces.
use Rattle.std.proofs.Common.{◌≡◌, ◌≢◌, ◌++◌, ◌<◌, ℕ, false, List, [], ◌∷◌, length, refl, arith, length-append}
use Rattle.std.specs.Prelude.{◌==◌}
use Rattle.std.proofs.lemmas.List.Elements.{All-head, All-tail}
use Rattle.sm_step.specs.declared.line.Line.{Line}
use Rattle.sm_step.specs.Text.{text_of, body_text}
use Rattle.sm_check.specs.Replays.{cut}
use Rattle.sm_check.specs.Feeds.{HasNoEnd, IsPiece}

other_test : (a b : ℕ) → a ≢ b → (a == b) ≡ false
other_test a b differ = grind arith

not_end : (b : ℕ) (bs : List ℕ) → HasNoEnd (b ∷ bs) → (b == 10) ≡ false
not_end b bs none = other_test b 10 (All-head (λ b. b ≡ 10 → ⊥) b bs none)

rest_none : (b : ℕ) (bs : List ℕ) → HasNoEnd (b ∷ bs) → HasNoEnd bs
rest_none b bs none = All-tail (λ b. b ≡ 10 → ⊥) b bs none

cut_body : (body rest : List ℕ) → HasNoEnd body → cut (body ++ 10 ∷ rest) ≡ (body ++ 10 ∷ []) ∷ cut rest
cut_body [] rest none = refl
cut_body (b ∷ bs) rest none = rw (not_end b bs none, cut_body bs rest (rest_none b bs none)) refl

append_end : (body rest : List ℕ) → (body ++ 10 ∷ []) ++ rest ≡ body ++ 10 ∷ rest
append_end [] rest = refl
append_end (b ∷ bs) rest = rw (append_end bs rest) refl

-- a whole line is the first piece
pub cut_piece : (piece rest : List ℕ) → IsPiece piece → cut (piece ++ rest) ≡ piece ∷ cut rest
cut_piece piece rest p = rw (p.is, append_end p.body rest) (cut_body p.body rest p.single)

-- bytes in which no line ends are one piece
pub cut_last : (xs : List ℕ) → HasNoEnd xs → 0 < length xs → cut xs ≡ xs ∷ []
cut_last [] none lt = absurd (omega (arith, lt))
cut_last (b ∷ []) none lt = rw (not_end b [] none) refl
cut_last (b ∷ c ∷ cs) none lt = rw (not_end b (c ∷ cs) none, cut_last (c ∷ cs) (rest_none b (c ∷ cs) none) (omega arith)) refl

-- bytes that no line end is in yet, with what comes before the next one, and the pieces behind
pub record Begun (bytes more : List ℕ) : Type 0 where
  pub front : List ℕ
  pub rest : List (List ℕ)
  pub is : cut (bytes ++ more) ≡ (bytes ++ front) ∷ rest

begun_more : (b : ℕ) (xs more front : List ℕ) (rest : List (List ℕ)) → (b == 10) ≡ false → cut (xs ++ more) ≡ (xs ++ front) ∷ rest → cut ((b ∷ xs) ++ more) ≡ ((b ∷ xs) ++ front) ∷ rest
begun_more b xs more front rest other e = rw (other, e) refl

-- they are the beginning of one piece
pub cut_begun : (xs more : List ℕ) → HasNoEnd xs → 0 < length xs → Begun xs more
cut_begun [] more none lt = absurd (omega (arith, lt))
cut_begun (b ∷ []) more none lt = pick (cut more) refl
  where
    pick : (pieces : List (List ℕ)) → cut more ≡ pieces → Begun (b ∷ []) more
    pick [] e = record { front = []; rest = []; is = rw (not_end b [] none, e) refl }
    pick (p ∷ ps) e = record { front = p; rest = ps; is = rw (not_end b [] none, e) refl }
cut_begun (b ∷ c ∷ cs) more none lt =
    let begun : Begun (c ∷ cs) more = cut_begun (c ∷ cs) more (rest_none b (c ∷ cs) none) (omega arith) in
    record { front = begun.front; rest = begun.rest; is = begun_more b (c ∷ cs) more begun.front begun.rest (not_end b (c ∷ cs) none) begun.is }

-- ---- lines

has_end : (xs : List ℕ) → HasNoEnd (xs ++ 10 ∷ []) → ⊥
has_end [] none = All-head (λ b. b ≡ 10 → ⊥) 10 [] none refl
has_end (x ∷ xs) none = has_end xs (rest_none x (xs ++ 10 ∷ []) none)

text_is : (l : Line) → text_of l ≡ body_text l ++ 10 ∷ []
unfolding text_of
text_is l = refl

-- a line's text has its end
pub text_has_end : (l : Line) (piece : List ℕ) → piece ≡ text_of l → HasNoEnd piece → ⊥
text_has_end l piece is none = let none = rw (is, text_is l) at none in has_end (body_text l) none

pub text_some : (l : Line) → 0 < length (text_of l)
text_some l = rw (text_is l, length-append (body_text l) (10 ∷ [])) (omega arith)
