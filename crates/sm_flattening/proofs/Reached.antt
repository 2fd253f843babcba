-- Parts of a text that are gone through with nothing refused: then each part of theirs is, and each test on the way passes.
use Rattle.std.proofs.Common.{◌≡◌, refl, ℕ, ◌≤◌, arith, ℤ, List, [], ◌∷◌, Bool, true, false, All, Option, Some, None, if◌then◌else◌}
use Rattle.std.specs.Prelude.{unsigned_abs, option_map}
use Rattle.std.proofs.lemmas.Grind.{common_steps}
use Rattle.std.proofs.lemmas.List.Elements.{All-nil, All-cons}
use Rattle.sm_data.specs.declared.refusal.Counted.{Counted}
use Rattle.sm_syntax.specs.declared.place.Place.{Place}
use Rattle.sm_forms.specs.Meanings.{above}
use Rattle.sm_meaning.specs.declared.refusal.Wrong.{Wrong}
use Rattle.sm_meaning.specs.declared.refusal.ExpandRefusal.{ExpandRefusal}
use Rattle.sm_meaning.specs.Refusals.{wrong_if, over, number_over, count_over}
use Rattle.sm_meaning.specs.Trials.{Trial, Outcome, stopped, reached, resumed, ◌▸◌, nothing_tried, tried, each_tried}
use Rattle.sm_meaning.specs.Limits.{numbers_tried}

-- the part is gone through, from some count of tuples on
pub record Reaches (part : Trial) : Type 0 where
  pub before : ℕ
  pub after : ℕ
  pub goes : part before ≡ reached after

pub reaches : (part : Trial) (before after : ℕ) → part before ≡ reached after → Reaches part
reaches part before after h = record { before = before; after = after; goes = h }

-- ---- one part after another

split : (o : Outcome) (next : Trial) (after : ℕ) → resumed o next ≡ reached after → (count : ℕ) × (o ≡ reached count) × (next count ≡ reached after)
split (stopped r) next after h = absurd (cc)
split (reached count) next after h = (count, refl, h)

pub both : (part next : Trial) → Reaches (part ▸ next) → Reaches part × Reaches next
both part next h =
    let r = split (part h.before) next h.after h.goes in
    (record { before = h.before; after = r.0; goes = r.1 }, record { before = r.0; after = h.after; goes = r.2 })

-- what follows of each element where it is gone through holds of all of a list
pub each_all : {X : Type 0} (P : X → Type 0) (part : X → Trial) → ((x : X) → Reaches (part x) → P x) → (xs : List X) → Reaches (each_tried part xs) → All P xs
each_all P part f [] h = All-nil P
each_all P part f (x ∷ xs) h =
    let r = both (part x) (each_tried part xs) h in All-cons P x xs (f x r.0) (each_all P part f xs r.1)

-- where the test holds, its part is gone through
pub taken : (test : Bool) (part : Trial) → test ≡ true → Reaches (if test then part else nothing_tried) → Reaches part
taken true part e h = h
taken false part e h = absurd (cc)

-- ---- what passes

pub nothing_refused : (o : Option ExpandRefusal) → Reaches (tried o) → o ≡ None
nothing_refused None h = refl
nothing_refused (Some r) h = absurd (let q : stopped r ≡ reached h.after = h.goes in cc)

pub nothing_wrong : (test : Bool) (p : Place) (what : Wrong) → Reaches (tried (wrong_if test p what)) → test ≡ false
nothing_wrong false p what h = refl
nothing_wrong true p what h = absurd (let q = nothing_refused (wrong_if true p what) h in cc)

pub none_over : (what : Counted) (bound : ℕ) (o : Option ℕ) → Reaches (tried (option_map (over what bound) o)) → o ≡ None
none_over what bound None h = refl
none_over what bound (Some n) h = absurd (let q = nothing_refused (Some (over what bound n)) h in cc)

pub not_above : (limit : ℕ) (z : ℤ) → above limit z ≡ None → unsigned_abs z ≤ limit
not_above limit z h = grind (arith, common_steps)

pub number_within : (what : Counted) (bound : ℕ) (z : ℤ) → Reaches (tried (number_over what bound z)) → unsigned_abs z ≤ bound
number_within what bound z h = not_above bound z (none_over what bound (above bound z) h)

pub count_within : (what : Counted) (bound n : ℕ) → Reaches (tried (count_over what bound n)) → n ≤ bound
count_within what bound n h = let q = nothing_refused (count_over what bound n) h in grind (arith, common_steps)

pub numbers_within : (what : Counted) (bound : ℕ) (zs : List ℤ) → Reaches (numbers_tried what bound zs) → All (λ z. unsigned_abs z ≤ bound) zs
numbers_within what bound zs h = each_all (λ z. unsigned_abs z ≤ bound) (λ z. tried (number_over what bound z)) (number_within what bound) zs h
