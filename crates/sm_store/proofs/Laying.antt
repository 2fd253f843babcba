-- Parts of a block: what a write to one does, and what one more adds.
use Rattle.std.proofs.Common.{◌≡◌, ◌≢◌, ℕ, ◌+◌, ◌-◌, ◌^◌, ◌<◌, ◌≤◌, ◌⊎◌, ◌↔◌, Bool, true, List, [], ◌∷◌, ◌++◌, length, get_or, set, take, drop, map, refl, arith, ap, sym, ◌∙◌, inl, inr, get_or-set_same, get_or-set_other}
use Rattle.std.specs.Prelude.{ℤ, Any, IsTrue, unsigned_abs}
use Rattle.std.specs.List.{between}
use Rattle.std.proofs.lemmas.Bool.{cases_eq, cases_lt}
use Rattle.std.proofs.lemmas.List.{length-set, length-map, length-append, length-take, length-drop, ext_get_or, get_or_default, take-append-le, get_or-append_right, get_or_append_left, drop_at, take_all, map_push, length_push}
use Rattle.std.proofs.Math.ListN.{get_or-map}
use Rattle.std.proofs.lemmas.List.Edits.{length-between}
use Rattle.std.proofs.lemmas.List.Quantifiers.{any-set}
use Rattle.std.proofs.lemmas.Slice.{between_is, take-put_mid_below, drop-put_mid, between-put_mid}
use borrow.Rule.Slice.PartMut.{put_mid}
use Rattle.sm_kinds.specs.declared.literal.Literal.{Literal}
use Rattle.sm_kinds.specs.declared.var.VarKind.{VarKind}
use Rattle.sm_kinds.specs.declared.var.VarKind.TheVariants.{Set, Int, Real}
use Rattle.sm_store.specs.declared.place.Place.{Place}
use Rattle.sm_store.specs.Stores.{Extent, Changes, Narrows, no_extent, extent_at, kept, narrowed, narrow}
use Rattle.sm_store.specs.Blocks.{IsPart, IsPlaced, AreParts, IsBlock, no_place, values_in, place_at, part_at, extent_in, extent_there, extents}

-- ---- one extent

pub extent_is : (places : List Place) (block : List ℕ) (i : ℕ) → extent_at (extents places block) i ≡ extent_there block (place_at places i)
extent_is places block i = get_or-map (extent_there block) places i no_place

part_room : (block : List ℕ) (p : Place) → IsPlaced block p → (p.start ≤ p.end) × (length (part_at block p) ≡ p.end - p.start)
part_room block p placed =
    let room = placed.room in
    let long = placed.part.cells.long in
    let size = length-between block p.start p.end placed.room in
    (omega arith, size)

-- ---- a write to one part

length_put : (a k : ℕ) (xs ys : List ℕ) → a + k ≤ length xs → length ys ≡ k → length (put_mid a k xs ys) ≡ length xs
length_put a k xs ys room same =
    omega (arith, length-append (take a xs) (ys ++ drop k (drop a xs)), length-append ys (drop k (drop a xs)), length-take a xs, length-drop k (drop a xs), length-drop a xs)

part_same : (a k i j : ℕ) (xs ys : List ℕ) → a + k ≤ length xs → length ys ≡ k → (j ≤ a) ⊎ (a + k ≤ i) → between i j (put_mid a k xs ys) ≡ between i j xs
part_same a k i j xs ys room same (inl before) =
    between_is (put_mid a k xs ys) i j
    ∙ ap (λ (zs : List ℕ). drop i zs) (take-put_mid_below a k xs ys j before (omega arith))
    ∙ sym (between_is xs i j)
part_same a k i j xs ys room same (inr after) = ap (λ (zs : List ℕ). take (j - i) zs) (drop-put_mid a k xs ys i after (omega arith) same)

-- the block with this in the place
abbrev pub written : List ℕ → Place → List ℕ → List ℕ
written block p ys = put_mid p.start (p.end - p.start) block ys

module _ (places : List Place) (block : List ℕ) (v : ℕ) (ys : List ℕ) (parts : AreParts places block) (lt : v < length places) (long : length ys ≡ length (part_at block (place_at places v))) where
  length_written : length (written block (place_at places v) ys) ≡ length block
  length_written =
      let placed = parts.each v lt in
      let room = placed.room in
      let sizes = part_room block (place_at places v) placed in
      let start = sizes.0 in
      let size = sizes.1 in
      length_put (place_at places v).start ((place_at places v).end - (place_at places v).start) block ys (omega arith) (omega arith)

  part_written : part_at (written block (place_at places v) ys) (place_at places v) ≡ ys
  part_written =
      let placed = parts.each v lt in
      let room = placed.room in
      let sizes = part_room block (place_at places v) placed in
      let start = sizes.0 in
      let size = sizes.1 in
      between-put_mid (place_at places v).start ((place_at places v).end - (place_at places v).start) block ys (place_at places v).end (omega arith) (omega arith)

  sides : (i : ℕ) → i < length places → i ≢ v → ((place_at places i).end ≤ (place_at places v).start) ⊎ ((place_at places v).end ≤ (place_at places i).start)
  sides i inside other = elim (cases_lt i v) [
    | inl before ↦ inl (parts.apart.apart i v before lt)
    | inr after ↦ inr (parts.apart.apart v i (omega arith) inside)
  ]

  part_kept : (i : ℕ) → i < length places → i ≢ v → part_at (written block (place_at places v) ys) (place_at places i) ≡ part_at block (place_at places i)
  part_kept i inside other =
      let placed = parts.each v lt in
      let room = placed.room in
      let sizes = part_room block (place_at places v) placed in
      let start = sizes.0 in
      let size = sizes.1 in
      let whole : (place_at places v).start + ((place_at places v).end - (place_at places v).start) ≡ (place_at places v).end = omega arith in
      part_same (place_at places v).start ((place_at places v).end - (place_at places v).start) (place_at places i).start (place_at places i).end block ys (omega arith) (omega arith) (rw whole (sides i inside other))

  parts_written : IsPart (place_at places v).kind (place_at places v).base ys → AreParts places (written block (place_at places v) ys)
  parts_written is = record {
    each = λ i inside.
        let room = (parts.each i inside).room in
        let same = length_written in
        elim (cases_eq i v) [
          | inl here ↦ rw here (record { room = omega (arith, (parts.each v lt).room); part = rw part_written is })
          | inr other ↦ record { room = omega arith; part = rw (part_kept i inside other) (parts.each i inside).part }
        ];
    apart = parts.apart;
  }

  extents_written : extents places (written block (place_at places v) ys) ≡ set (extents places block) v (extent_in (place_at places v).kind (place_at places v).base ys)
  extents_written =
      let new = extents places (written block (place_at places v) ys) in
      let old = extents places block in
      let e = extent_in (place_at places v).kind (place_at places v).base ys in
      let wide : length new ≡ length places = length-map places (extent_there (written block (place_at places v) ys)) in
      let was : length old ≡ length places = length-map places (extent_there block) in
      ext_get_or no_extent new (set old v e) (omega (arith, length-set old v e)) (λ i inside. elim (cases_eq i v) [
        | inl here ↦ rw here (extent_is places (written block (place_at places v) ys) v ∙ ap (λ (part : List ℕ). extent_in (place_at places v).kind (place_at places v).base part) part_written ∙ sym (get_or-set_same old v e no_extent (omega arith)))
        | inr other ↦ extent_is places (written block (place_at places v) ys) i ∙ ap (λ (part : List ℕ). extent_in (place_at places i).kind (place_at places i).base part) (part_kept i (omega arith) other) ∙ sym (extent_is places block i) ∙ sym (get_or-set_other old v i e no_extent other)
      ])

-- ---- whether some variable has no value

abbrev pub IsEmpty : Extent → Type 0
IsEmpty e = e.values ≡ []

pub some_empty : (es : List Extent) (v : ℕ) (e : Extent) → v < length es → e.values ≡ [] → IsTrue true ↔ Any (λ e. e.values ≡ []) (set es v e)
some_empty es v e lt empty = (λ t. any-set IsEmpty es v e lt empty, λ any. refl)

pub still_empty : (es : List Extent) (v : ℕ) (e : Extent) (was : Bool) → v < length es → IsTrue was ↔ Any (λ e. e.values ≡ []) es → (e.values ≡ [] → ⊥) → ((extent_at es v).values ≡ [] → e.values ≡ []) → IsTrue was ↔ Any (λ e. e.values ≡ []) (set es v e)
still_empty es v e was lt flag some kept = (there, back)
  where
    there : IsTrue was → Any (λ e. e.values ≡ []) (set es v e)
    there t =
        let any = flag.0 t in
        elim (cases_eq any.0 v) [
          | inl same ↦
              let found : get_or es v no_extent ≡ any.1 = ap (λ (k : ℕ). get_or es k no_extent) (sym same) ∙ get_or_default es any.0 no_extent any.1 any.2 ∙ any.3 in
              let none : (extent_at es v).values ≡ [] = ap (λ (x : Extent). x.values) found ∙ any.4 in
              absurd (some (kept none))
          | inr other ↦ (any.0, any.1, omega (arith, length-set es v e, any.2), get_or-set_other es v any.0 e any.1 other ∙ any.3, any.4)
        ]

    back : Any (λ e. e.values ≡ []) (set es v e) → IsTrue was
    back any =
        let inside : any.0 < length es = omega (arith, length-set es v e, any.2) in
        elim (cases_eq any.0 v) [
          | inl same ↦
              let found : e ≡ any.1 = sym (get_or-set_same es v e any.1 lt) ∙ ap (λ (k : ℕ). get_or (set es v e) k any.1) (sym same) ∙ any.3 in
              absurd (some (ap (λ (x : Extent). x.values) found ∙ any.4))
          | inr other ↦ flag.1 (any.0, any.1, inside, sym (get_or-set_other es v any.0 e any.1 other) ∙ any.3, any.4)
        ]

kept_nothing : (kind : VarKind) (l : Literal) (vs : List ℤ) → vs ≡ [] → kept kind l vs ≡ []
kept_nothing Set l vs e = rw e refl
kept_nothing Int l vs e = rw e refl
kept_nothing Real l vs e = e

-- ---- narrowing

-- what narrowing one part makes of a block
pub record IsNarrowed (places : List Place) (old new : List ℕ) (l : Literal) (is_empty : Bool) : Type 0 where
  pub block : IsBlock places new is_empty
  pub narrowed : extents places new ≡ narrow (extents places old) l

module _ (places : List Place) (block : List ℕ) (was : Bool) (l : Literal) (ys : List ℕ) (is : IsBlock places block was) (lt : l.var < length places) (long : length ys ≡ length (part_at block (place_at places l.var))) (part : IsPart (place_at places l.var).kind (place_at places l.var).base ys) (values : values_in (place_at places l.var).kind (place_at places l.var).base ys ≡ kept (place_at places l.var).kind l (values_in (place_at places l.var).kind (place_at places l.var).base (part_at block (place_at places l.var)))) where
  wide_extents : l.var < length (extents places block)
  wide_extents = omega (arith, length-map places (extent_there block))

  extent_narrowed : extent_in (place_at places l.var).kind (place_at places l.var).base ys ≡ narrowed l (extent_at (extents places block) l.var)
  extent_narrowed = rw (extent_is places block l.var, values) refl

  store_narrowed : extents places (written block (place_at places l.var) ys) ≡ narrow (extents places block) l
  store_narrowed =
      extents_written places block l.var ys is.parts lt long
      ∙ ap (λ (e : Extent). set (extents places block) l.var e) extent_narrowed

  pub narrowed_empty : values_in (place_at places l.var).kind (place_at places l.var).base ys ≡ [] → IsNarrowed places block (written block (place_at places l.var) ys) l true
  narrowed_empty none = record {
    block = record {
      parts = parts_written places block l.var ys is.parts lt long part;
      empty = rw (extents_written places block l.var ys is.parts lt long) (some_empty (extents places block) l.var (extent_in (place_at places l.var).kind (place_at places l.var).base ys) wide_extents none);
    };
    narrowed = store_narrowed;
  }

  pub narrowed_some : (values_in (place_at places l.var).kind (place_at places l.var).base ys ≡ [] → ⊥) → IsNarrowed places block (written block (place_at places l.var) ys) l was
  narrowed_some some = record {
    block = record {
      parts = parts_written places block l.var ys is.parts lt long part;
      empty = rw (extents_written places block l.var ys is.parts lt long) (still_empty (extents places block) l.var (extent_in (place_at places l.var).kind (place_at places l.var).base ys) was wide_extents is.empty some (λ none. values ∙ kept_nothing (place_at places l.var).kind l (values_in (place_at places l.var).kind (place_at places l.var).base (part_at block (place_at places l.var))) (rw (extent_is places block l.var) at none)));
    };
    narrowed = store_narrowed;
  }

-- ---- changes

pub changes_there : (places : List Place) (block : List ℕ) (l : Literal) → (kept (place_at places l.var).kind l (values_in (place_at places l.var).kind (place_at places l.var).base (part_at block (place_at places l.var))) ≢ values_in (place_at places l.var).kind (place_at places l.var).base (part_at block (place_at places l.var))) → Changes (extents places block) l
changes_there places block l h = record { changes = rw (extent_is places block l.var) h }

pub changes_back : (places : List Place) (block : List ℕ) (l : Literal) → Changes (extents places block) l → kept (place_at places l.var).kind l (values_in (place_at places l.var).kind (place_at places l.var).base (part_at block (place_at places l.var))) ≢ values_in (place_at places l.var).kind (place_at places l.var).base (part_at block (place_at places l.var))
changes_back places block l h = rw (extent_is places block l.var) at h.changes

pub narrows_is : (store : List Extent) (l : Literal) (e : Extent) (r : Bool) → e ≡ extent_at store l.var → l.var < length store → unsigned_abs l.bound ≤ 2 ^ 32 → 0 < length (kept e.kind l e.values) → IsTrue r ↔ (kept e.kind l e.values ≢ e.values) → IsTrue r ↔ Narrows store l
narrows_is store l e r same known bounded leaves changes =
    (λ t. record { known = known; bounded = bounded; leaves = rw same at leaves; changes = rw same at (changes.0 t) }, λ n. changes.1 (rw (sym same) at n.changes))

-- ---- one part more

before_same : (i j : ℕ) (xs ys : List ℕ) → j ≤ length xs → between i j (xs ++ ys) ≡ between i j xs
before_same i j xs ys inside =
    between_is (xs ++ ys) i j
    ∙ ap (λ (zs : List ℕ). drop i zs) (take-append-le j xs ys inside)
    ∙ sym (between_is xs i j)

after_new : (n : ℕ) (xs ys : List ℕ) → n ≡ length (xs ++ ys) → between (length xs) n (xs ++ ys) ≡ ys
after_new n xs ys end =
    let both = length-append xs ys in
    ap (λ (zs : List ℕ). take (n - length xs) zs) (drop_at xs ys (length xs) refl)
    ∙ take_all (n - length xs) ys (omega arith)

module _ (places : List Place) (block part : List ℕ) (p : Place) (parts : AreParts places block) (start : p.start ≡ length block) (end : p.end ≡ length (block ++ part)) (is : IsPart p.kind p.base part) where
  new_part : part_at (block ++ part) p ≡ part
  new_part = rw start (after_new p.end block part end)

  old_place : (i : ℕ) → i < length places → place_at (places ++ p ∷ []) i ≡ place_at places i
  old_place i inside = get_or_append_left places (p ∷ []) no_place i inside

  new_place : place_at (places ++ p ∷ []) (length places) ≡ p
  new_place =
      let first : length places - length places ≡ 0 = omega arith in
      get_or-append_right places (p ∷ []) (length places) (length places) no_place refl (omega arith) ∙ ap (λ (k : ℕ). get_or (p ∷ []) k no_place) first

  old_part : (i : ℕ) → i < length places → part_at (block ++ part) (place_at places i) ≡ part_at block (place_at places i)
  old_part i inside = before_same (place_at places i).start (place_at places i).end block part (parts.each i inside).room

  pub parts_more : AreParts (places ++ p ∷ []) (block ++ part)
  parts_more = record {
    each = λ i inside. elim (cases_lt i (length places)) [
      | inl old ↦ rw (old_place i old) (record { room = omega (arith, (parts.each i old).room, length-append block part); part = rw (old_part i old) (parts.each i old).part })
      | inr new ↦
          let last : i ≡ length places = omega (arith, length_push places p) in
          rw (last, new_place) (record { room = omega arith; part = rw new_part is })
    ];
    apart = record {
      apart = λ i j less inside. elim (cases_lt j (length places)) [
        | inl old ↦ rw (old_place i (omega arith), old_place j old) (parts.apart.apart i j less old)
        | inr new ↦
            let last : j ≡ length places = omega (arith, length_push places p) in
            let before : i < length places = omega arith in
            let room = (parts.each i before).room in
            rw (old_place i before, last, new_place) (omega arith)
      ];
    };
  }

  pub extents_more : extents (places ++ p ∷ []) (block ++ part) ≡ extents places block ++ extent_in p.kind p.base part ∷ []
  extents_more =
      map_push (extent_there (block ++ part)) places p
      ∙ ap (λ (es : List Extent). es ++ extent_there (block ++ part) p ∷ []) kept_extents
      ∙ ap (λ (xs : List ℕ). extents places block ++ extent_in p.kind p.base xs ∷ []) new_part
    where
      kept_extents : map (extent_there (block ++ part)) places ≡ map (extent_there block) places
      kept_extents = ext_get_or no_extent (map (extent_there (block ++ part)) places) (map (extent_there block) places)
          (length-map places (extent_there (block ++ part)) ∙ sym (length-map places (extent_there block)))
          (λ i inside.
          extent_is places (block ++ part) i
          ∙ ap (λ (xs : List ℕ). extent_in (place_at places i).kind (place_at places i).base xs) (old_part i (omega (arith, length-map places (extent_there (block ++ part)))))
          ∙ sym (extent_is places block i))

-- what one variable more makes of the parts
pub record IsAdded (places : List Place) (block : List ℕ) (new_places : List Place) (new_block : List ℕ) (e : Extent) : Type 0 where
  pub parts : AreParts new_places new_block
  pub extents : extents new_places new_block ≡ extents places block ++ e ∷ []

pub added : (places : List Place) (block part : List ℕ) (p : Place) (new_places : List Place) (new_block : List ℕ) (e : Extent) → AreParts places block → new_places ≡ places ++ p ∷ [] → new_block ≡ block ++ part → p.start ≡ length block → p.end ≡ length new_block → IsPart p.kind p.base part → extent_in p.kind p.base part ≡ e → IsAdded places block new_places new_block e
added places block part p new_places new_block e parts more longer start end is same =
    let last : p.end ≡ length (block ++ part) = end ∙ ap length longer in
    record {
      parts = rw (more, longer) (parts_more places block part p parts start last is);
      extents = rw (more, longer) (extents_more places block part p parts start last is ∙ ap (λ (x : Extent). extents places block ++ x ∷ []) same);
    }
