-- An element that is read by its index.
use Rattle.std.proofs.Common.{◌≡◌, ℕ, ◌<◌, ◌≤◌, Some, List, [], ◌∷◌, length, get_or, arith, sym, ap, ◌∙◌, ◌↔◌}
use Rattle.std.proofs.lemmas.List.{get_or_default}
use Rattle.std.proofs.lemmas.Option.{slice_get-get_or, slice_get_within}
use Rattle.std.specs.Prelude.{ℤ, pos, ◌*ℤ◌, ◌≤ℤ◌, slice_get}
use Rattle.sm_kinds.specs.Vars.{IsBetween}

-- what is read at an index is the element there
pub read_is_element : {X : Type 0} (xs : List X) (i j : ℕ) (r d : X) → i ≡ j → slice_get xs j ≡ Some d → r ≡ get_or xs i r → r ≡ d
read_is_element xs i j r d same is read =
    let within = slice_get_within xs j d is in
    let at = slice_get-get_or xs j r within in
    let again : get_or xs j r ≡ d = cc in
    read ∙ ap (λ n. get_or xs n r) same ∙ again

pub read_at_default : {X : Type 0} (xs : List X) (i : ℕ) (r e : X) → i < length xs → r ≡ get_or xs i r → r ≡ get_or xs i e
read_at_default xs i r e within read = read ∙ get_or_default xs i r e within

-- a range of two ends
pub between_ends : (n d : ℤ) (values : List ℤ) → 2 ≤ length values → IsBetween n d values ↔ (((get_or values 0 (pos 0) *ℤ d) ≤ℤ n) × (n ≤ℤ (get_or values 1 (pos 0) *ℤ d)))
between_ends n d [] h = absurd (omega arith)
between_ends n d (v ∷ []) h = absurd (omega arith)
between_ends n d (v ∷ w ∷ vs) h = ((λ x. x), (λ x. x))

pub between_needs_two : (n d : ℤ) (values : List ℤ) → IsBetween n d values → 2 ≤ length values
between_needs_two n d [] h = absurd h
between_needs_two n d (v ∷ []) h = absurd h
between_needs_two n d (v ∷ w ∷ vs) h = omega arith
