-- What holds of the elements of a list, of their images, of what is read by index and of lists that are made of others; and
-- sums and lengths.
use Rattle.std.proofs.Common.{◌≡◌, ◌∙◌, ap, ap₂, refl, sym, subst, ◌↔◌, ℕ, ◌≤◌, ◌+◌, ◌*◌, suc-mul, arith, List, [], ◌∷◌, ◌++◌, map, length, get_or, Bool, true, Some, sum_by}
use Rattle.std.specs.Prelude.{All, slice_get}
use Rattle.std.specs.List.{filter, flat_map}
use Rattle.std.proofs.lemmas.List.{get_or-map, length-map, length-append}
use Rattle.std.proofs.lemmas.List.Elements.{All-nil, All-cons, All-head, All-tail, All-append, All-map, All-filter, filter_passes}
use Rattle.std.proofs.lemmas.List.Sums.{sum_by-cons}
use Rattle.std.proofs.lemmas.Option.{slice_get-get_or, slice_get_within, get_or_from_slice_get}

module _ {X : Type 0} (P : X → Type 0) where
  -- of all that is read
  pub read_all : (xs : List X) → ((k : ℕ) (x : X) → slice_get xs k ≡ Some x → P x) ↔ All P xs
  read_all xs = (
    (λ h k d lt. h k (get_or xs k d) (slice_get-get_or xs k d lt)),
    (λ h k x is. subst P (get_or_from_slice_get xs k x x is) (h k x (slice_get_within xs k x is))),
  )

  -- of all images
  pub all_map : {Y : Type 0} (f : Y → X) (ys : List Y) → All (λ y. P (f y)) ys ↔ All P (map f ys)
  all_map f ys = (
    All-map P f ys,
    (λ h k d lt. subst P (get_or-map f ys k d (f d) lt) (h k (f d) (omega (arith, length-map ys f)))),
  )

module _ {X : Type 0} where
  -- where each element counts the same
  pub sum_same : (f g : X → ℕ) (xs : List X) → All (λ x. f x ≡ g x) xs → sum_by f xs ≡ sum_by g xs
  sum_same f g [] h = refl
  sum_same f g (x ∷ xs) h =
      sum_by-cons f x xs
      ∙ ap₂ (λ (a b : ℕ). a + b) (All-head (λ y. f y ≡ g y) x xs h) (sum_same f g xs (All-tail (λ y. f y ≡ g y) x xs h))
      ∙ sym (sum_by-cons g x xs)

  pub sum_images : {Y : Type 0} (f : X → ℕ) (g : Y → X) (ys : List Y) → sum_by f (map g ys) ≡ sum_by (λ y. f (g y)) ys
  sum_images f g [] = refl
  sum_images f g (y ∷ ys) = sum_by-cons f (g y) (map g ys) ∙ ap (λ (n : ℕ). f (g y) + n) (sum_images f g ys) ∙ sym (sum_by-cons (λ y. f (g y)) y ys)

pub sum_constant : {X : Type 0} (c : ℕ) (xs : List X) → sum_by (λ x. c) xs ≡ length xs * c
sum_constant c [] = omega arith
sum_constant c (x ∷ xs) = omega (arith, sum_by-cons (λ y. c) x xs, sum_constant c xs, suc-mul (length xs) c)

pub sum_at_most : {X : Type 0} (f g : X → ℕ) (xs : List X) → All (λ x. f x ≤ g x) xs → sum_by f xs ≤ sum_by g xs
sum_at_most f g [] h = omega arith
sum_at_most f g (x ∷ xs) h =
    let first = All-head (λ y. f y ≤ g y) x xs h in
    let rest = sum_at_most f g xs (All-tail (λ y. f y ≤ g y) x xs h) in
    omega (arith, sum_by-cons f x xs, sum_by-cons g x xs)

-- so many for each
pub flat_length : {X Y : Type 0} (f : X → List Y) (c : ℕ) (xs : List X) → ((x : X) → length (f x) ≡ c) → length (flat_map f xs) ≡ length xs * c
flat_length f c [] each = omega arith
flat_length f c (x ∷ xs) each = omega (arith, length-append (f x) (flat_map f xs), each x, flat_length f c xs each, suc-mul (length xs) c)

-- ---- of lists that are made of others

-- what holds of each that passes holds of all that are kept
pub kept_all : {X : Type 0} (p : X → Bool) (P : X → Type 0) (xs : List X) → All (λ x. p x ≡ true → P x) xs → All P (filter p xs)
kept_all p P xs h =
    let kept = All-filter p (λ x. p x ≡ true → P x) xs h in
    let passes = filter_passes p xs in
    λ k d lt. kept k d lt (passes k d lt)

pub All-flat_map : {X Y : Type 0} (P : X → Type 0) (f : Y → List X) (ys : List Y) → All (λ y. All P (f y)) ys → All P (flat_map f ys)
All-flat_map P f [] h = All-nil P
All-flat_map P f (y ∷ ys) h =
    All-append P (f y) (flat_map f ys) (All-head (λ z. All P (f z)) y ys h) (All-flat_map P f ys (All-tail (λ z. All P (f z)) y ys h))

pub All-parts : {X : Type 0} (P : X → Type 0) (xs ys : List X) → All P (xs ++ ys) → All P xs × All P ys
All-parts P [] ys h = (All-nil P, h)
All-parts P (x ∷ xs) ys h =
    let r = All-parts P xs ys (All-tail P x (xs ++ ys) h) in (All-cons P x xs (All-head P x (xs ++ ys) h) r.0, r.1)

pub All-each : {X Y : Type 0} (P : X → Type 0) (f : Y → List X) (ys : List Y) → All P (flat_map f ys) → All (λ y. All P (f y)) ys
All-each P f [] h = All-nil (λ y. All P (f y))
All-each P f (y ∷ ys) h = let r = All-parts P (f y) (flat_map f ys) h in All-cons (λ z. All P (f z)) y ys r.0 (All-each P f ys r.1)
