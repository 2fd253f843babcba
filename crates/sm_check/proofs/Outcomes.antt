-- A log comes to one outcome.
use Rattle.std.proofs.Common.{◌≡◌, ◌++◌, ◌+◌, ℕ, suc, List, [], ◌∷◌, length, Some, refl, sym, ap, ◌∙◌, subst, ◌⊎◌, inl, inr}
use Rattle.std.specs.Prelude.{All, map}
use Rattle.std.proofs.lemmas.List.Elements.{All-head, All-tail}
use Rattle.sm_flat.specs.Models.{FlatModel}
use Rattle.sm_step.specs.declared.line.Line.{Line}
use Rattle.sm_step.specs.declared.verdict.Verdict.{Verdict}
use Rattle.sm_step.specs.Text.{text_of}
use Rattle.sm_step.specs.Grammar.{IsLine}
use Rattle.sm_step.proofs.Lines.{one_text}
use Rattle.sm_rules.specs.declared.cause.Cause.{Cause}
use Rattle.sm_rules.specs.declared.cause.Cause.TheVariants.{Grammar, Order, Law, End}
use Rattle.sm_rules.specs.declared.cause.Cause.TheVariants as cause
use Rattle.sm_rules.specs.States.{State}
use Rattle.sm_rules.specs.Laws.{Allowed}
use Rattle.sm_rules.specs.Transitions.{after, start, Replays, IsRefusedFor}
use Rattle.sm_check.specs.Replays.{EndsIn, IsRefusedPiece, FailsNext, FailsAt}

allowed_or_refused : (m : FlatModel) (s : State) (l : Line) (c : Cause) → Allowed m s l → IsRefusedFor m s l c → ⊥
allowed_or_refused m s l Grammar ok fact = fact
allowed_or_refused m s l Order ok fact = fact ok.due
allowed_or_refused m s l Law ok fact = fact.1 ok.law
allowed_or_refused m s l cause.Verdict ok fact = fact.1 ok.law
allowed_or_refused m s l End ok fact = fact

-- a piece is an allowed line, or is refused
piece_allowed : (m : FlatModel) (s : State) (l : Line) (piece : List ℕ) (c : Cause) → IsLine l → piece ≡ text_of l → Allowed m s l → IsRefusedPiece m s piece c → ⊥
piece_allowed m s l piece Grammar good is ok fact = fact l good is
piece_allowed m s l piece c good is ok fact = other c fact
  where
    by_line : (c : Cause) (k : Line) → IsLine k → piece ≡ text_of k → IsRefusedFor m s k c → ⊥
    by_line c k also same refused = let P : Line → Type 0 = λ x. IsRefusedFor m s x c in allowed_or_refused m s l c ok (subst P (one_text k l also good (sym same ∙ is)) refused)

    other : (c : Cause) → IsRefusedPiece m s piece c → ⊥
    other Grammar fact = fact l good is
    other Order (k, also, same, refused) = by_line Order k also same refused
    other Law (k, also, same, refused) = by_line Law k also same refused
    other cause.Verdict (k, also, same, refused) = by_line cause.Verdict k also same refused
    other End (k, also, same, refused) = refused

one_cause : (m : FlatModel) (s : State) (l : Line) (c d : Cause) → IsRefusedFor m s l c → IsRefusedFor m s l d → c ≡ d
one_cause m s l Grammar d a b = absurd a
one_cause m s l End d a b = absurd a
one_cause m s l Order Grammar a b = absurd b
one_cause m s l Order Order a b = refl
one_cause m s l Order Law a b = absurd (a b.0)
one_cause m s l Order cause.Verdict a b = absurd (a b.0)
one_cause m s l Order End a b = absurd b
one_cause m s l Law Grammar a b = absurd b
one_cause m s l Law Order a b = absurd (b a.0)
one_cause m s l Law Law a b = refl
one_cause m s l Law cause.Verdict a b = absurd (a.2 b.2)
one_cause m s l Law End a b = absurd b
one_cause m s l cause.Verdict Grammar a b = absurd b
one_cause m s l cause.Verdict Order a b = absurd (b a.0)
one_cause m s l cause.Verdict Law a b = absurd (b.2 a.2)
one_cause m s l cause.Verdict cause.Verdict a b = refl
one_cause m s l cause.Verdict End a b = absurd b

-- the line of a piece that is refused for another cause than its form
record RefusedLine (m : FlatModel) (s : State) (piece : List ℕ) (c : Cause) : Type 0 where
  line : Line
  good : IsLine line
  text : piece ≡ text_of line
  refused : IsRefusedFor m s line c

read_or_not : (m : FlatModel) (s : State) (piece : List ℕ) (c : Cause) → IsRefusedPiece m s piece c → ((c ≡ Grammar) × ((l : Line) → IsLine l → piece ≡ text_of l → ⊥)) ⊎ RefusedLine m s piece c
read_or_not m s piece Grammar fact = inl (refl, fact)
read_or_not m s piece Order (l, good, text, refused) = inr (record { line = l; good = good; text = text; refused = refused })
read_or_not m s piece Law (l, good, text, refused) = inr (record { line = l; good = good; text = text; refused = refused })
read_or_not m s piece cause.Verdict (l, good, text, refused) = inr (record { line = l; good = good; text = text; refused = refused })
read_or_not m s piece End (l, good, text, refused) = inr (record { line = l; good = good; text = text; refused = refused })

piece_cause : (m : FlatModel) (s : State) (piece : List ℕ) (c d : Cause) → IsRefusedPiece m s piece c → IsRefusedPiece m s piece d → c ≡ d
piece_cause m s piece c d a b = pick (read_or_not m s piece c a) (read_or_not m s piece d b)
  where
    pick : ((c ≡ Grammar) × ((l : Line) → IsLine l → piece ≡ text_of l → ⊥)) ⊎ RefusedLine m s piece c → ((d ≡ Grammar) × ((l : Line) → IsLine l → piece ≡ text_of l → ⊥)) ⊎ RefusedLine m s piece d → c ≡ d
    pick (inl x) (inl y) = x.0 ∙ sym y.0
    pick (inl x) (inr y) = absurd (x.1 y.line y.good y.text)
    pick (inr x) (inl y) = absurd (y.1 x.line x.good x.text)
    pick (inr x) (inr y) = let P : Line → Type 0 = λ l. IsRefusedFor m s l c in one_cause m s y.line c d (subst P (one_text x.line y.line x.good y.good (sym x.text ∙ y.text)) x.refused) y.refused

first_same : {X : Type 0} (x y : X) (xs ys : List X) → x ∷ xs ≡ y ∷ ys → (x ≡ y) × (xs ≡ ys)
first_same x y xs ys e = (cc, cc)

none_cons : {X : Type 0} (x : X) (xs : List X) → [] ≡ x ∷ xs → ⊥
none_cons x xs e = cc

-- pieces can't be allowed to the end and fail before
ends_or_fails : (m : FlatModel) (s new mid : State) (ls ks : List Line) (rest : List (List ℕ)) (v : Verdict) (c : Cause) → All IsLine ls → All IsLine ks → map text_of ls ≡ map text_of ks ++ rest → Replays m s ls new → Replays m s ks mid → new.verdict ≡ Some v → FailsNext m mid rest c → ⊥
ends_or_fails m s new mid [] [] [] v c one two e runs goes stands fails = let a : new ≡ s = runs in let b : mid ≡ s = goes in let none = fails.1 in cc
ends_or_fails m s new mid [] [] (p ∷ ps) v c one two e runs goes stands fails = none_cons p ps e
ends_or_fails m s new mid [] (k ∷ ks) rest v c one two e runs goes stands fails = none_cons (text_of k) (map text_of ks ++ rest) e
ends_or_fails m s new mid (l ∷ ls) [] [] v c one two e runs goes stands fails = none_cons (text_of l) (map text_of ls) (sym e)
ends_or_fails m s new mid (l ∷ ls) [] (p ∷ ps) v c one two e runs goes stands fails =
    let b : mid ≡ s = goes in
    let here = rw b at fails in
    piece_allowed m s l p c (All-head IsLine l ls one) (sym (first_same (text_of l) p (map text_of ls) ps e).0) runs.0 here
ends_or_fails m s new mid (l ∷ ls) (k ∷ ks) rest v c one two e runs goes stands fails =
    let same = first_same (text_of l) (text_of k) (map text_of ls) (map text_of ks ++ rest) e in
    let is : l ≡ k = one_text l k (All-head IsLine l ls one) (All-head IsLine k ks two) same.0 in
    let P : Line → Type 0 = λ x. Replays m (after m s x) ls new in
    ends_or_fails m (after m s k) new mid ls ks rest v c (All-tail IsLine l ls one) (All-tail IsLine k ks two) same.1 (subst P is runs.1) goes.1 stands fails

one_end : (m : FlatModel) (s new mid : State) (ls ks : List Line) → All IsLine ls → All IsLine ks → map text_of ls ≡ map text_of ks → Replays m s ls new → Replays m s ks mid → new ≡ mid
one_end m s new mid [] [] one two e runs goes = let a : new ≡ s = runs in let b : mid ≡ s = goes in a ∙ sym b
one_end m s new mid [] (k ∷ ks) one two e runs goes = absurd (none_cons (text_of k) (map text_of ks) e)
one_end m s new mid (l ∷ ls) [] one two e runs goes = absurd (none_cons (text_of l) (map text_of ls) (sym e))
one_end m s new mid (l ∷ ls) (k ∷ ks) one two e runs goes =
    let same = first_same (text_of l) (text_of k) (map text_of ls) (map text_of ks) e in
    let is : l ≡ k = one_text l k (All-head IsLine l ls one) (All-head IsLine k ks two) same.0 in
    let P : Line → Type 0 = λ x. Replays m (after m s x) ls new in
    one_end m (after m s k) new mid ls ks (All-tail IsLine l ls one) (All-tail IsLine k ks two) same.1 (subst P is runs.1) goes.1

one_failure : (m : FlatModel) (s new mid : State) (ls ks : List Line) (xs ys : List (List ℕ)) (c d : Cause) → All IsLine ls → All IsLine ks → map text_of ls ++ xs ≡ map text_of ks ++ ys → Replays m s ls new → Replays m s ks mid → FailsNext m new xs c → FailsNext m mid ys d → (length ls ≡ length ks) × (c ≡ d)
one_failure m s new mid [] [] [] [] c d one two e runs goes a b = (refl, a.0 ∙ sym b.0)
one_failure m s new mid [] [] [] (y ∷ ys) c d one two e runs goes a b = absurd (none_cons y ys e)
one_failure m s new mid [] [] (x ∷ xs) [] c d one two e runs goes a b = absurd (none_cons x xs (sym e))
one_failure m s new mid [] [] (x ∷ xs) (y ∷ ys) c d one two e runs goes a b =
    let first : new ≡ s = runs in
    let second : mid ≡ s = goes in
    let left = rw first at a in
    let right = rw second at b in
    let P : List ℕ → Type 0 = λ p. IsRefusedPiece m s p c in
    (refl, piece_cause m s y c d (subst P (first_same x y xs ys e).0 left) right)
one_failure m s new mid [] (k ∷ ks) [] ys c d one two e runs goes a b = absurd (none_cons (text_of k) (map text_of ks ++ ys) e)
one_failure m s new mid [] (k ∷ ks) (x ∷ xs) ys c d one two e runs goes a b =
    let first : new ≡ s = runs in
    let left = rw first at a in
    absurd (piece_allowed m s k x c (All-head IsLine k ks two) (first_same x (text_of k) xs (map text_of ks ++ ys) e).0 goes.0 left)
one_failure m s new mid (l ∷ ls) [] xs [] c d one two e runs goes a b = absurd (none_cons (text_of l) (map text_of ls ++ xs) (sym e))
one_failure m s new mid (l ∷ ls) [] xs (y ∷ ys) c d one two e runs goes a b =
    let second : mid ≡ s = goes in
    let right = rw second at b in
    absurd (piece_allowed m s l y d (All-head IsLine l ls one) (sym (first_same (text_of l) y (map text_of ls ++ xs) ys e).0) runs.0 right)
one_failure m s new mid (l ∷ ls) (k ∷ ks) xs ys c d one two e runs goes a b =
    let same = first_same (text_of l) (text_of k) (map text_of ls ++ xs) (map text_of ks ++ ys) e in
    let is : l ≡ k = one_text l k (All-head IsLine l ls one) (All-head IsLine k ks two) same.0 in
    let P : Line → Type 0 = λ x. Replays m (after m s x) ls new in
    let more = one_failure m (after m s k) new mid ls ks xs ys c d (All-tail IsLine l ls one) (All-tail IsLine k ks two) same.1 (subst P is runs.1) goes.1 a b in
    (ap suc more.0, more.1)

-- ---- outcomes

pub one_verdict : (m : FlatModel) (log : List ℕ) (v w : Verdict) → EndsIn m log v → EndsIn m log w → v ≡ w
one_verdict m log v w a b =
    let same = one_end m (start m) a.state b.state a.lines b.lines a.replays.each b.replays.each (sym a.replays.text ∙ b.replays.text) a.replays.runs b.replays.runs in
    let one = a.verdict in
    let two = b.verdict in
    cc

pub ends_apart : (m : FlatModel) (log : List ℕ) (v : Verdict) (k : ℕ) (c : Cause) → EndsIn m log v → FailsAt m log k c → ⊥
ends_apart m log v k c a b =
    ends_or_fails m (start m) a.state b.state a.lines b.lines b.rest v c a.replays.each b.replays.each
    (sym a.replays.text ∙ b.pieces ∙ ap (λ (x : List (List ℕ)). x ++ b.rest) b.replays.text) a.replays.runs b.replays.runs a.verdict b.fails

pub one_refusal : (m : FlatModel) (log : List ℕ) (j k : ℕ) (c d : Cause) → FailsAt m log j c → FailsAt m log k d → (j ≡ k) × (c ≡ d)
one_refusal m log j k c d a b =
    let same = one_failure m (start m) a.state b.state a.lines b.lines a.rest b.rest c d a.replays.each b.replays.each
    (sym (a.pieces ∙ ap (λ (x : List (List ℕ)). x ++ a.rest) a.replays.text) ∙ b.pieces ∙ ap (λ (x : List (List ℕ)). x ++ b.rest) b.replays.text) a.replays.runs b.replays.runs a.fails b.fails in
    (a.number ∙ ap (λ (x : ℕ). x + 1) same.0 ∙ sym b.number, same.1)
