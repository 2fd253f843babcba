-- Texts in a row, each piece of which is itself such a row.
use Rattle.std.proofs.Common.{◌≡◌, ℕ, List, [], ◌++◌, append_assoc}
use Rattle.std.proofs.lemmas.List.{append-nil}

pub row_1 : (a : List ℕ) → a ++ [] ≡ a
row_1 a = simp (append_assoc, append-nil)

pub row_1_1 : (a b : List ℕ) → a ++ (b ++ []) ≡ a ++ b
row_1_1 a b = simp (append_assoc, append-nil)

pub row_1_1_1 : (a b c : List ℕ) → a ++ (b ++ (c ++ [])) ≡ a ++ b ++ c
row_1_1_1 a b c = simp (append_assoc, append-nil)

pub row_1_1_1_1 : (a b c d : List ℕ) → a ++ (b ++ (c ++ (d ++ []))) ≡ a ++ b ++ c ++ d
row_1_1_1_1 a b c d = simp (append_assoc, append-nil)

pub row_1_1_1_1_1 : (a b c d e : List ℕ) → a ++ (b ++ (c ++ (d ++ (e ++ [])))) ≡ a ++ b ++ c ++ d ++ e
row_1_1_1_1_1 a b c d e = simp (append_assoc, append-nil)

pub row_1_1_1_1_1_1 : (a b c d e f : List ℕ) → a ++ (b ++ (c ++ (d ++ (e ++ (f ++ []))))) ≡ a ++ b ++ c ++ d ++ e ++ f
row_1_1_1_1_1_1 a b c d e f = simp (append_assoc, append-nil)

pub row_1_1_1_1_1_5 : (a b c d e f g h i j : List ℕ) → a ++ (b ++ (c ++ (d ++ (e ++ ((f ++ g ++ h ++ i ++ j) ++ []))))) ≡ a ++ b ++ c ++ d ++ e ++ f ++ g ++ h ++ i ++ j
row_1_1_1_1_1_5 a b c d e f g h i j = simp (append_assoc, append-nil)

pub row_1_1_1_2 : (a b c d e : List ℕ) → a ++ (b ++ (c ++ ((d ++ e) ++ []))) ≡ a ++ b ++ c ++ d ++ e
row_1_1_1_2 a b c d e = simp (append_assoc, append-nil)

pub row_1_1_1_3 : (a b c d e f : List ℕ) → a ++ (b ++ (c ++ ((d ++ e ++ f) ++ []))) ≡ a ++ b ++ c ++ d ++ e ++ f
row_1_1_1_3 a b c d e f = simp (append_assoc, append-nil)

pub row_1_2 : (a b c : List ℕ) → a ++ ((b ++ c) ++ []) ≡ a ++ b ++ c
row_1_2 a b c = simp (append_assoc, append-nil)

pub row_1_3 : (a b c d : List ℕ) → a ++ ((b ++ c ++ d) ++ []) ≡ a ++ b ++ c ++ d
row_1_3 a b c d = simp (append_assoc, append-nil)

pub row_1_5 : (a b c d e f : List ℕ) → a ++ ((b ++ c ++ d ++ e ++ f) ++ []) ≡ a ++ b ++ c ++ d ++ e ++ f
row_1_5 a b c d e f = simp (append_assoc, append-nil)

pub row_1_5_1_1_1 : (a b c d e f g h i : List ℕ) → a ++ ((b ++ c ++ d ++ e ++ f) ++ (g ++ (h ++ (i ++ [])))) ≡ a ++ b ++ c ++ d ++ e ++ f ++ g ++ h ++ i
row_1_5_1_1_1 a b c d e f g h i = simp (append_assoc, append-nil)

pub row_1_7 : (a b c d e f g h : List ℕ) → a ++ ((b ++ c ++ d ++ e ++ f ++ g ++ h) ++ []) ≡ a ++ b ++ c ++ d ++ e ++ f ++ g ++ h
row_1_7 a b c d e f g h = simp (append_assoc, append-nil)

pub row_3_1_1_1_1 : (a b c d e f g : List ℕ) → (a ++ b ++ c) ++ (d ++ (e ++ (f ++ (g ++ [])))) ≡ a ++ b ++ c ++ d ++ e ++ f ++ g
row_3_1_1_1_1 a b c d e f g = simp (append_assoc, append-nil)
