-- What stands in a list, one after another: what is left to try, and what is left to make.
use Rattle.std.proofs.Common.{◌≡◌, ◌∙◌, ap, sym, refl, ℕ, ◌+◌, ◌-◌, ◌≤◌, arith, List, [], ◌∷◌, ◌++◌, map, length, take, drop, get_or, append_assoc, append-nil, Ok, Err, None}
use Rattle.std.specs.Prelude.{Result}
use Rattle.std.specs.List.{flat_map}
use Rattle.std.proofs.Math.ListN.{drop_of_length-le}
use Rattle.sm_meaning.specs.declared.refusal.ExpandRefusal.{ExpandRefusal}
use Rattle.sm_meaning.specs.Trials.{Trial, reached, IsStopped, tried, ◌▸◌, each_tried, GoesThrough}
use Rattle.sm_meaning.proofs.Steps.{stops, goes_on, stopped_same}

-- What is left to try comes to what all comes to, and so does what is left to make, behind what is made.
pub record Left {X Y : Type 0} (f : X → Trial) (g : X → Y) (all : List X) (start : ℕ) (rest : List X) (now : ℕ) (made : List Y) : Type 0 where
  pub tried : each_tried f rest now ≡ each_tried f all start
  pub makes : made ++ map g rest ≡ map g all

pub left_first : {X Y : Type 0} (f : X → Trial) (g : X → Y) (x : X) (xs : List X) (start after : ℕ) (made : List Y)
    → f x start ≡ reached after → made ≡ g x ∷ [] → Left f g (x ∷ xs) start xs after made
left_first f g x xs start after made goes is = record {
  tried = sym (goes_on (f x) (each_tried f xs) start after goes);
  makes = ap (λ ys. ys ++ map g xs) is;
}

pub left_more : {X Y : Type 0} (f : X → Trial) (g : X → Y) (all : List X) (start : ℕ) (x : X) (rest : List X) (now after : ℕ) (made new : List Y)
    → Left f g all start (x ∷ rest) now made → f x now ≡ reached after → new ≡ made ++ g x ∷ [] → Left f g all start rest after new
left_more f g all start x rest now after made new h goes is = record {
  tried = sym (goes_on (f x) (each_tried f rest) now after goes) ∙ h.tried;
  makes = ap (λ ys. ys ++ map g rest) is ∙ append_assoc made (g x ∷ []) (map g rest) ∙ h.makes;
}

pub left_stops : {X Y : Type 0} (e : ExpandRefusal) (f : X → Trial) (g : X → Y) (all : List X) (start : ℕ) (x : X) (rest : List X) (now : ℕ) (made : List Y)
    → Left f g all start (x ∷ rest) now made → IsStopped e (f x now) → IsStopped e (each_tried f all start)
left_stops e f g all start x rest now made h stop = stopped_same e _ _ h.tried (stops e (f x) (each_tried f rest) now stop)

-- nothing is refused behind it
pub then_nothing : {X : Type 0} (part : Trial) (before after : ℕ) (P : X → Type 0) (r : Result X ExpandRefusal) → GoesThrough part before after P r
    → GoesThrough (part ▸ tried None) before after P r
then_nothing part before after P (Ok x) h = (goes_on part (tried None) before after h.0, h.1)
then_nothing part before after P (Err e) h = stops e part (tried None) before h

-- what is made at each, one after another
pub flat_more : {X Y : Type 0} (g : X → List Y) (xs : List X) (i : ℕ) (x : X) (old made new : List Y) → drop i xs ≡ x ∷ drop (i + 1) xs
    → made ++ flat_map g (drop i xs) ≡ old ++ flat_map g xs → new ≡ made ++ g x → new ++ flat_map g (drop (i + 1) xs) ≡ old ++ flat_map g xs
flat_more g xs i x old made new split before is =
    ap (λ ys. ys ++ flat_map g (drop (i + 1) xs)) is ∙ append_assoc made (g x) (flat_map g (drop (i + 1) xs))
    ∙ sym (ap (λ ys. made ++ flat_map g ys) split) ∙ before

pub flat_ends : {X Y : Type 0} (g : X → List Y) (xs : List X) (i : ℕ) (old made : List Y) → length xs ≤ i → made ++ flat_map g (drop i xs) ≡ old ++ flat_map g xs → made ≡ old ++ flat_map g xs
flat_ends g xs i old made end before = sym (ap (λ ys. made ++ flat_map g ys) (drop_of_length-le xs end) ∙ append-nil made) ∙ before

-- ---- the first and the rest

take_all : {X : Type 0} (xs : List X) → take (length xs) xs ≡ xs
take_all [] = refl
take_all (x ∷ xs) = ap (λ ys. x ∷ ys) (take_all xs)

pub first_and_rest : {X : Type 0} (xs : List X) (d : X) → 1 ≤ length xs → xs ≡ get_or xs 0 d ∷ take (length xs - 1) (drop 1 xs)
first_and_rest [] d some = absurd (omega arith)
first_and_rest (x ∷ xs) d some =
    let e : length (x ∷ xs) - 1 ≡ length xs = omega arith in
    ap (λ ys. x ∷ ys) (sym (ap (λ (n : ℕ). take n xs) e ∙ take_all xs))
