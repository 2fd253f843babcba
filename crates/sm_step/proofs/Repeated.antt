-- Lists of parts, each after a mark.
use Rattle.std.proofs.Common.{◌≡◌, ℕ, suc, ◌+◌, ◌-◌, ◌≤◌, List, [], ◌∷◌, ◌++◌, length, Option, Some, None, refl, sym, ◌∙◌, ap, arith, append_assoc, length-append}
use Rattle.std.proofs.lemmas.List.{append-nil}
use Rattle.sm_step.specs.PartText.{each_after}
use Rattle.sm_step.specs.Reading.{Reads, rest_behind, each_up_to, each_in}

-- these parts, and then the others
abbrev pub prepended : {X : Type 0} → List X → Option (List X × List ℕ) → Option (List X × List ℕ)
prepended xs None = None
prepended xs (Some r) = Some (xs ++ r.0, r.1)

-- the parts so far and those of the rest are those of the whole
pub record Reached {X : Type 0} (mark : ℕ) (part : Reads X) (whole : List ℕ) (xs : List X) (rest : List ℕ) : Type 0 where
  pub goes_on : (most : ℕ) → prepended xs (each_up_to mark part most rest) ≡ each_up_to mark part (length xs + most) whole

prepended_none : {X : Type 0} (o : Option (List X × List ℕ)) → prepended [] o ≡ o
prepended_none None = refl
prepended_none (Some r) = refl

pub reached_none : {X : Type 0} (mark : ℕ) (part : Reads X) (whole : List ℕ) → Reached mark part whole [] whole
reached_none mark part whole = record { goes_on = λ most. prepended_none (each_up_to mark part most whole) ∙ ap (λ (k : ℕ). each_up_to mark part k whole) (omega arith) }

longer : {X : Type 0} (xs : List X) (x : X) (most : ℕ) → length xs + suc most ≡ length (xs ++ x ∷ []) + most
longer xs x most = omega (arith, length-append xs (x ∷ []))

pub reached_more : {X : Type 0} (mark : ℕ) (part : Reads X) (whole before after rest : List ℕ) (xs ys : List X) (x : X)
    → Reached mark part whole xs before → rest_behind (mark ∷ []) before ≡ Some after → part after ≡ Some (x, rest) → ys ≡ xs ++ x ∷ [] → Reached mark part whole ys rest
reached_more {X} mark part whole before after rest xs ys x so_far marked read is = record { goes_on = λ most. rw is (split most (each_up_to mark part most rest) refl) }
  where
    split : (most : ℕ) (o : Option (List X × List ℕ)) → each_up_to mark part most rest ≡ o → prepended (xs ++ x ∷ []) o ≡ each_up_to mark part (length (xs ++ x ∷ []) + most) whole
    split most None e =
        let one : each_up_to mark part (suc most) before ≡ None = rw (marked, read, e) refl in
        ap (prepended xs) (sym one) ∙ so_far.goes_on (suc most) ∙ ap (λ (k : ℕ). each_up_to mark part k whole) (longer xs x most)
    split most (Some r) e =
        let one : each_up_to mark part (suc most) before ≡ Some (x ∷ r.0, r.1) = rw (marked, read, e) refl in
        ap (λ (zs : List X). Some (zs, r.1)) (append_assoc xs (x ∷ []) r.0) ∙ ap (prepended xs) (sym one) ∙ so_far.goes_on (suc most) ∙ ap (λ (k : ℕ). each_up_to mark part k whole) (longer xs x most)

count_each : {X : Type 0} (mark : ℕ) (text : X → List ℕ) (xs : List X) → length xs ≤ length (each_after mark text xs)
count_each mark text [] = omega arith
count_each mark text (x ∷ xs) = omega (arith, count_each mark text xs, length-append (text x) (each_after mark text xs))

enough : {X : Type 0} (mark : ℕ) (text : X → List ℕ) (whole rest : List ℕ) (xs : List X) → whole ≡ each_after mark text xs ++ rest → length xs + suc (length whole - length xs) ≡ suc (length whole)
enough mark text whole rest xs e = omega (arith, count_each mark text xs, length-append (each_after mark text xs) rest, ap length e)

pub reached_all : {X : Type 0} (mark : ℕ) (part : Reads X) (text : X → List ℕ) (whole rest : List ℕ) (xs : List X)
    → Reached mark part whole xs rest → whole ≡ each_after mark text xs ++ rest → rest_behind (mark ∷ []) rest ≡ None → each_in mark part whole ≡ Some (xs, rest)
unfolding each_in
reached_all {X} mark part text whole rest xs so_far is ends =
    let most = length whole - length xs in
    let one : each_up_to mark part (suc most) rest ≡ Some ([], rest) = rw ends refl in
    ap (λ (k : ℕ). each_up_to mark part k whole) (sym (enough mark text whole rest xs is)) ∙ sym (so_far.goes_on (suc most)) ∙ ap (prepended xs) one ∙ ap (λ (zs : List X). Some (zs, rest)) (append-nil xs)

pub reached_bad : {X : Type 0} (mark : ℕ) (part : Reads X) (text : X → List ℕ) (whole before after : List ℕ) (xs : List X)
    → Reached mark part whole xs before → whole ≡ each_after mark text xs ++ before → rest_behind (mark ∷ []) before ≡ Some after → part after ≡ None → each_in mark part whole ≡ None
unfolding each_in
reached_bad {X} mark part text whole before after xs so_far is marked bad =
    let most = length whole - length xs in
    let one : each_up_to mark part (suc most) before ≡ None = rw (marked, bad) refl in
    ap (λ (k : ℕ). each_up_to mark part k whole) (sym (enough mark text whole before xs is)) ∙ sym (so_far.goes_on (suc most)) ∙ ap (prepended xs) one

each_joins : {X : Type 0} (mark : ℕ) (text : X → List ℕ) (xs : List X) (x : X) → each_after mark text (xs ++ x ∷ []) ≡ each_after mark text xs ++ (mark ∷ text x)
each_joins mark text [] x = append-nil (mark ∷ text x)
each_joins mark text (y ∷ ys) x = ap (λ (t : List ℕ). (mark ∷ text y) ++ t) (each_joins mark text ys x) ∙ sym (append_assoc (mark ∷ text y) (each_after mark text ys) (mark ∷ text x))

pub each_more : {X : Type 0} (mark : ℕ) (text : X → List ℕ) (whole before after rest : List ℕ) (xs ys : List X) (x : X)
    → whole ≡ each_after mark text xs ++ before → before ≡ (mark ∷ []) ++ after → after ≡ text x ++ rest → ys ≡ xs ++ x ∷ [] → whole ≡ each_after mark text ys ++ rest
each_more mark text whole before after rest xs ys x is marked read all =
    is ∙ ap (λ (t : List ℕ). each_after mark text xs ++ t) (marked ∙ ap (λ (t : List ℕ). mark ∷ t) read)
    ∙ sym (append_assoc (each_after mark text xs) (mark ∷ text x) rest)
    ∙ ap (λ (t : List ℕ). t ++ rest) (sym (each_joins mark text xs x) ∙ ap (each_after mark text) (sym all))
