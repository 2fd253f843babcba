-- How the last of some wheels turns, and what that makes of the tuples to come.
use Rattle.std.proofs.Common.{◌≡◌, ◌∙◌, ap, sym, refl, subst, arith, ℕ, zero, suc, ◌+◌, List, [], ◌∷◌, ◌++◌, map, ℤ, pos, ◌+ℤ◌, ◌≤ℤ◌, ◌<ℤ◌, int_le, int_lt, Bool, true, false, ◌||◌, ◌-◌, ◌<◌, ◌≤◌, length, take, drop, drop-cons, get_or, set, All, append_assoc, append-nil, Some}
use Rattle.std.proofs.Math.Path.{fun_ext}
use Rattle.std.proofs.lemmas.Int.{ints}
use Rattle.std.proofs.lemmas.Grind.{take_at_read, common_steps}
use Rattle.std.proofs.lemmas.List.{map-append}
use Rattle.std.proofs.lemmas.List.Concat.{flat_map-append}
use Rattle.std.specs.List.{flat_map}
use Rattle.std.specs.Str.{bytes_eq}
use Rattle.sm_meaning.specs.declared.range.Range.{Range}
use Rattle.sm_meaning.specs.Scopes.{found, Tuple, with_number}
use Rattle.sm_meaning.specs.Tuples.{size_of, count_up, numbers_of, tuples}
use Rattle.sm_scopes.specs.declared.cases.Wheel.{Wheel}
use Rattle.sm_scopes.specs.Wheels.{tuple_of, span, spans, numbers_behind, behind, IsWheel, IsAtFirst, has_empty, Follows, IsFirst}

-- ---- lists of lists

flat_map-flat_map : {X Y Z : Type 0} (f : Y → List Z) (g : X → List Y) (xs : List X) → flat_map f (flat_map g xs) ≡ flat_map (λ x. flat_map f (g x)) xs
flat_map-flat_map f g [] = refl
flat_map-flat_map f g (x ∷ xs) = flat_map-append f (g x) (flat_map g xs) ∙ ap (λ ys. flat_map f (g x) ++ ys) (flat_map-flat_map f g xs)

flat_map-same : {X Y : Type 0} (f g : X → List Y) (xs : List X) → ((x : X) → f x ≡ g x) → flat_map f xs ≡ flat_map g xs
flat_map-same f g xs h = ap (λ k. flat_map k xs) (fun_ext h)

-- ---- one binder more, behind the others

tuples-append : (xs : List (List ℕ × List ℤ)) (y : List ℕ × List ℤ) (b : Tuple) → tuples (xs ++ y ∷ []) b ≡ flat_map (tuples (y ∷ [])) (tuples xs b)
tuples-append [] y b = sym (append-nil (tuples (y ∷ []) b))
tuples-append (x ∷ xs) y b =
    flat_map-same (λ z. tuples (xs ++ y ∷ []) (with_number b x.0 z)) (λ z. flat_map (tuples (y ∷ [])) (tuples xs (with_number b x.0 z))) x.1 (λ z. tuples-append xs y (with_number b x.0 z))
    ∙ sym (flat_map-flat_map (tuples (y ∷ [])) (λ z. tuples xs (with_number b x.0 z)) x.1)

-- the tuples to come of some wheels and a last one: those of the last alone, and then all of it for each of the others'
pub behind-append : (ws : List Wheel) (w : Wheel) (b : Tuple) → behind (ws ++ w ∷ []) b ≡ behind (w ∷ []) (b ++ tuple_of ws) ++ flat_map (tuples (span w ∷ [])) (behind ws b)
behind-append [] w b = ap (behind (w ∷ [])) (sym (append-nil b)) ∙ sym (append-nil (behind (w ∷ []) (b ++ [])))
behind-append (v ∷ vs) w b =
    let here : Tuple = with_number b v.name.now v.number in
    let last = tuples (span w ∷ []) in
    let each : ℤ → List Tuple = λ z. tuples (map span vs) (with_number b v.name.now z) in
    let more : (z : ℤ) → tuples (map span (vs ++ w ∷ [])) (with_number b v.name.now z) ≡ flat_map last (each z) =
    λ z. ap (λ spans. tuples spans (with_number b v.name.now z)) (map-append span vs (w ∷ [])) ∙ tuples-append (map span vs) (span w) (with_number b v.name.now z) in
    let others : flat_map (λ z. tuples (map span (vs ++ w ∷ [])) (with_number b v.name.now z)) (numbers_behind v) ≡ flat_map last (flat_map each (numbers_behind v)) =
    flat_map-same (λ z. tuples (map span (vs ++ w ∷ [])) (with_number b v.name.now z)) (λ z. flat_map last (each z)) (numbers_behind v) more ∙ sym (flat_map-flat_map last each (numbers_behind v)) in
    let front : behind (w ∷ []) (here ++ tuple_of vs) ≡ behind (w ∷ []) (b ++ tuple_of (v ∷ vs)) = ap (behind (w ∷ [])) (append_assoc b ((v.name.now, v.number) ∷ []) (tuple_of vs)) in
    ap (λ xs. xs ++ flat_map (λ z. tuples (map span (vs ++ w ∷ [])) (with_number b v.name.now z)) (numbers_behind v)) (behind-append vs w here)
    ∙ ap (λ ys. (behind (w ∷ []) (here ++ tuple_of vs) ++ flat_map last (behind vs here)) ++ ys) others
    ∙ append_assoc (behind (w ∷ []) (here ++ tuple_of vs)) (flat_map last (behind vs here)) (flat_map last (flat_map each (numbers_behind v)))
    ∙ ap (λ ys. behind (w ∷ []) (here ++ tuple_of vs) ++ ys) (sym (flat_map-append last (behind vs here) (flat_map each (numbers_behind v))))
    ∙ ap (λ xs. xs ++ flat_map last (behind (v ∷ vs) b)) front

-- ---- ranges

size_step-by : (least greatest : ℤ) (b c : Bool) → least ≤ℤ greatest → int_le least greatest ≡ b → int_le (least +ℤ pos 1) greatest ≡ c
    → size_of (record { least = least; greatest = greatest }) ≡ suc (size_of (record { least = least +ℤ pos 1; greatest = greatest }))
size_step-by least greatest true true h p q = rw (p, q) (omega (arith, ints))
size_step-by least greatest true false h p q = rw (p, q) (omega (arith, ints))
size_step-by least greatest false c h p q = grind arith

size_step : (least greatest : ℤ) → least ≤ℤ greatest → size_of (record { least = least; greatest = greatest }) ≡ suc (size_of (record { least = least +ℤ pos 1; greatest = greatest }))
size_step least greatest h = size_step-by least greatest (int_le least greatest) (int_le (least +ℤ pos 1) greatest) h refl refl

size_none : (least greatest : ℤ) → greatest <ℤ least → size_of (record { least = least; greatest = greatest }) ≡ 0
size_none least greatest h = grind arith

pub numbers_step : (r : Range) → r.least ≤ℤ r.greatest → numbers_of r ≡ r.least ∷ numbers_of (record { least = r.least +ℤ pos 1; greatest = r.greatest })
numbers_step r h = ap (λ k. count_up k r.least) (size_step r.least r.greatest h)

pub numbers_none : (r : Range) → r.greatest <ℤ r.least → numbers_of r ≡ []
numbers_none r h = ap (λ k. count_up k r.least) (size_none r.least r.greatest h)

-- ---- the last wheel

pub split_last : (ws : List Wheel) (c : ℕ) (d : Wheel) → (c ≡ 0 → ⊥) → c ≤ length ws → take c ws ≡ take (c - 1) ws ++ get_or ws (c - 1) d ∷ []
split_last ws c d some le =
    let lt : c - 1 < length ws = omega arith in
    let e : (c - 1) + 1 ≡ c = omega arith in
    ap (λ k. take k ws) (sym e) ∙ (take_at_read ws (c - 1) d lt).1

pub set_last : (ws : List Wheel) (c : ℕ) (v : Wheel) → (c ≡ 0 → ⊥) → c ≤ length ws → take c (set ws (c - 1) v) ≡ take (c - 1) ws ++ v ∷ []
set_last ws c v some le =
    let lt : c - 1 < length (set ws (c - 1) v) = grind (arith, common_steps) in
    let e : (c - 1) + 1 ≡ c = omega arith in
    let read : get_or (set ws (c - 1) v) (c - 1) v ≡ v = grind (arith, common_steps) in
    let front : take (c - 1) (set ws (c - 1) v) ≡ take (c - 1) ws = grind (arith, common_steps) in
    ap (λ k. take k (set ws (c - 1) v)) (sym e) ∙ (take_at_read (set ws (c - 1) v) (c - 1) v lt).1 ∙ ap (λ w. take (c - 1) (set ws (c - 1) v) ++ w ∷ []) read ∙ ap (λ us. us ++ v ∷ []) front

-- what the last wheel by itself is to come to
alone : (w : Wheel) (b : Tuple) → behind (w ∷ []) b ≡ flat_map (λ z. with_number b w.name.now z ∷ []) (numbers_behind w)
alone w b = refl

last_tuple : (ws : List Wheel) (v : Wheel) → with_number (tuple_of ws) v.name.now v.number ≡ tuple_of (ws ++ v ∷ [])
last_tuple ws v = sym (map-append (λ (w : Wheel). (w.name.now, w.number)) ws (v ∷ []))

-- It turns by one: what it shows then comes first, and then what it still turns to, before the others turn.
pub turned : (ws : List Wheel) (w v : Wheel) → Follows w v → behind (ws ++ w ∷ []) [] ≡ tuple_of (ws ++ v ∷ []) ∷ behind (ws ++ v ∷ []) []
turned ws w v f =
    let b : Tuple = tuple_of ws in
    let others : List Wheel → Wheel → List Tuple = λ us u. flat_map (tuples (span u ∷ [])) (behind us []) in
    let same_name : v.name.now ≡ w.name.now = ap (λ n. n.now) f.same.name in
    let same_span : span v ≡ span w = λ i. (same_name i, numbers_of (f.same.range i)) in
    let now : behind (w ∷ []) b ≡ with_number b v.name.now v.number ∷ behind (v ∷ []) b =
    ap (λ zs. flat_map (λ z. with_number b w.name.now z ∷ []) zs) f.next ∙ ap (λ n. flat_map (λ z. with_number b n z ∷ []) (v.number ∷ numbers_behind v)) (sym same_name) in
    behind-append ws w []
    ∙ ap (λ xs. xs ++ others ws w) now
    ∙ ap (λ s. with_number b v.name.now v.number ∷ (behind (v ∷ []) b ++ flat_map (tuples (s ∷ [])) (behind ws []))) (sym same_span)
    ∙ ap (λ t. t ∷ (behind (v ∷ []) b ++ others ws v)) (last_tuple ws v)
    ∙ ap (λ ts. tuple_of (ws ++ v ∷ []) ∷ ts) (sym (behind-append ws v []))

-- It stands at its end, and so do the others.
pub ended : (ws : List Wheel) (w : Wheel) → numbers_behind w ≡ [] → behind ws [] ≡ [] → behind (ws ++ w ∷ []) [] ≡ []
ended ws w none before =
    behind-append ws w []
    ∙ ap (λ zs. flat_map (λ z. with_number (tuple_of ws) w.name.now z ∷ []) zs ++ flat_map (tuples (span w ∷ [])) (behind ws [])) none
    ∙ ap (flat_map (tuples (span w ∷ []))) before

-- It stands at its end, and begins anew where the others turn.
pub begun_anew : (ws us : List Wheel) (w v : Wheel) → numbers_behind w ≡ [] → IsFirst w v → behind ws [] ≡ tuple_of us ∷ behind us []
    → behind (ws ++ w ∷ []) [] ≡ tuple_of (us ++ v ∷ []) ∷ behind (us ++ v ∷ []) []
begun_anew ws us w v none f before =
    let b : Tuple = tuple_of us in
    let others : List Wheel → Wheel → List Tuple = λ xs u. flat_map (tuples (span u ∷ [])) (behind xs []) in
    let same_name : v.name.now ≡ w.name.now = ap (λ n. n.now) f.same.name in
    let same_span : span v ≡ span w = λ i. (same_name i, numbers_of (f.same.range i)) in
    let now : tuples (span w ∷ []) b ≡ with_number b v.name.now v.number ∷ behind (v ∷ []) b =
    ap (λ zs. flat_map (λ z. with_number b w.name.now z ∷ []) zs) f.first ∙ ap (λ n. flat_map (λ z. with_number b n z ∷ []) (v.number ∷ numbers_behind v)) (sym same_name) in
    behind-append ws w []
    ∙ ap (λ zs. flat_map (λ z. with_number (tuple_of ws) w.name.now z ∷ []) zs ++ others ws w) none
    ∙ ap (flat_map (tuples (span w ∷ []))) before
    ∙ ap (λ xs. xs ++ others us w) now
    ∙ ap (λ s. with_number b v.name.now v.number ∷ (behind (v ∷ []) b ++ flat_map (tuples (s ∷ [])) (behind us []))) (sym same_span)
    ∙ ap (λ t. t ∷ (behind (v ∷ []) b ++ others us v)) (last_tuple us v)
    ∙ ap (λ ts. tuple_of (us ++ v ∷ []) ∷ ts) (sym (behind-append us v []))

-- ---- the same, of the first n wheels of a list

pub turned_at : (ws : List Wheel) (n : ℕ) (d v : Wheel) → (n ≡ 0 → ⊥) → n ≤ length ws → Follows (get_or ws (n - 1) d) v
    → behind (take n ws) [] ≡ tuple_of (take n (set ws (n - 1) v)) ∷ behind (take n (set ws (n - 1) v)) []
turned_at ws n d v some le f =
    rw (split_last ws n d some le, set_last ws n v some le) (turned (take (n - 1) ws) (get_or ws (n - 1) d) v f)

pub ended_at : (ws : List Wheel) (n : ℕ) (d : Wheel) → (n ≡ 0 → ⊥) → n ≤ length ws → numbers_behind (get_or ws (n - 1) d) ≡ [] → behind (take (n - 1) ws) [] ≡ []
    → behind (take n ws) [] ≡ []
ended_at ws n d some le none before = rw (split_last ws n d some le) (ended (take (n - 1) ws) (get_or ws (n - 1) d) none before)

same_at : (ws us : List Wheel) (k : ℕ) (d : Wheel) → k < length ws → length us ≡ length ws → drop k us ≡ drop k ws → get_or us k d ≡ get_or ws k d
same_at ws us k d lt long same =
    let lt' : k < length us = omega arith in
    head (get_or us k d) (get_or ws k d) (drop (suc k) us) (drop (suc k) ws) (sym (drop-cons us k d lt') ∙ same ∙ drop-cons ws k d lt)
  where
    head : (x y : Wheel) (xs ys : List Wheel) → x ∷ xs ≡ y ∷ ys → x ≡ y
    head x y xs ys h = cc

pub anew_at : (ws us : List Wheel) (n : ℕ) (d v : Wheel) → (n ≡ 0 → ⊥) → n ≤ length ws → length us ≡ length ws → drop (n - 1) us ≡ drop (n - 1) ws
    → numbers_behind (get_or ws (n - 1) d) ≡ [] → behind (take (n - 1) ws) [] ≡ tuple_of (take (n - 1) us) ∷ behind (take (n - 1) us) [] → IsFirst (get_or us (n - 1) d) v
    → behind (take n ws) [] ≡ tuple_of (take n (set us (n - 1) v)) ∷ behind (take n (set us (n - 1) v)) []
anew_at ws us n d v some le long same none before f =
    let lt : n - 1 < length ws = omega arith in
    let le' : n ≤ length us = omega arith in
    rw (split_last ws n d some le, set_last us n v some le')
    (begun_anew (take (n - 1) ws) (take (n - 1) us) (get_or ws (n - 1) d) v none (subst (λ w. IsFirst w v) (same_at ws us (n - 1) d lt long same) f) before)

pub wheels_set : (ws : List Wheel) (k : ℕ) (v : Wheel) → All IsWheel ws → IsWheel v → All IsWheel (set ws k v)
wheels_set ws k v h f = grind (arith, common_steps)

-- ---- before the wheels turn

pub all_head : {X : Type 0} (P : X → Type 0) (x : X) (xs : List X) → All P (x ∷ xs) → P x
all_head P x xs h = h 0 x (omega arith)

pub all_tail : {X : Type 0} (P : X → Type 0) (x : X) (xs : List X) → All P (x ∷ xs) → All P xs
all_tail P x xs h = λ k d lt. h (suc k) d (omega arith)

all_cons : {X : Type 0} (P : X → Type 0) (x : X) (xs : List X) → P x → All P xs → All P (x ∷ xs)
all_cons P x xs h t zero d lt = h
all_cons P x xs h t (suc k) d lt = t k d (omega arith)

flat_map-nil : {X Y : Type 0} (f : X → List Y) (xs : List X) → ((x : X) → f x ≡ []) → flat_map f xs ≡ []
flat_map-nil f [] h = refl
flat_map-nil f (x ∷ xs) h = ap (λ ys. ys ++ flat_map f xs) (h x) ∙ flat_map-nil f xs h

-- where some range has no number there is no tuple
pub no_tuples : (ws : List Wheel) (b : Tuple) → has_empty ws ≡ true → tuples (spans ws) b ≡ []
no_tuples [] b h = cc
no_tuples (w ∷ ws) b h = by_head (int_lt w.range.greatest w.range.least) refl h (λ some z. no_tuples ws (with_number b w.name.now z) some)
  where
    by_head : (e : Bool) → int_lt w.range.greatest w.range.least ≡ e → (e || has_empty ws) ≡ true → (has_empty ws ≡ true → (z : ℤ) → tuples (spans ws) (with_number b w.name.now z) ≡ [])
        → tuples (spans (w ∷ ws)) b ≡ []
    by_head true is h none = ap (flat_map (λ z. tuples (spans ws) (with_number b w.name.now z))) (numbers_none w.range (grind arith))
    by_head false is h none = flat_map-nil (λ z. tuples (spans ws) (with_number b w.name.now z)) (numbers_of w.range) (none h)

-- elsewhere the first tuple has the least number of each, and the others come behind it
pub first_tuple : (ws : List Wheel) (b : Tuple) → has_empty ws ≡ false → All IsAtFirst ws → tuples (spans ws) b ≡ (b ++ tuple_of ws) ∷ behind ws b
first_tuple [] b h set = ap (λ t. t ∷ []) (sym (append-nil b))
first_tuple (w ∷ ws) b h set =
    let here : Tuple = with_number b w.name.now w.number in
    let at : w.number ≡ w.range.least = (all_head IsAtFirst w ws set).first in
    let le : w.range.least ≤ℤ w.range.greatest = grind arith in
    let some : has_empty ws ≡ false = grind arith in
    let numbers : numbers_of w.range ≡ w.number ∷ numbers_behind w = numbers_step w.range le ∙ ap (λ z. z ∷ numbers_of (record { least = z +ℤ pos 1; greatest = w.range.greatest })) (sym at) in
    ap (flat_map (λ z. tuples (spans ws) (with_number b w.name.now z))) numbers
    ∙ ap (λ ts. ts ++ flat_map (λ z. tuples (spans ws) (with_number b w.name.now z)) (numbers_behind w)) (first_tuple ws here some (all_tail IsAtFirst w ws set))
    ∙ ap (λ t. t ∷ behind (w ∷ ws) b) (append_assoc b ((w.name.now, w.number) ∷ []) (tuple_of ws))

pub at_wheels : (ws : List Wheel) → has_empty ws ≡ false → All IsAtFirst ws → All IsWheel ws
at_wheels [] h set = λ k d lt. absurd (omega arith)
at_wheels (w ∷ ws) h set =
    let at : w.number ≡ w.range.least = (all_head IsAtFirst w ws set).first in
    let first : IsWheel w = record { least = grind arith; greatest = grind arith } in
    let some : has_empty ws ≡ false = grind arith in
    all_cons IsWheel w ws first (at_wheels ws some (all_tail IsAtFirst w ws set))

-- ---- looking for a name

pub found_first : (ws : List Wheel) (name : List ℕ) (d : Wheel) → 1 ≤ length ws → bytes_eq name (get_or ws 0 d).name.now ≡ true → found (tuple_of ws) name ≡ Some (get_or ws 0 d).number
found_first [] name d some is = absurd (omega arith)
found_first (w ∷ ws) name d some is = rw is refl

pub found_later : (ws : List Wheel) (name : List ℕ) (d : Wheel) → 1 ≤ length ws → bytes_eq name (get_or ws 0 d).name.now ≡ false → found (tuple_of ws) name ≡ found (tuple_of (drop 1 ws)) name
found_later [] name d some is = absurd (omega arith)
found_later (w ∷ ws) name d some is = rw is refl
