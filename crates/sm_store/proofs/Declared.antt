-- The parts of declared domains.
use Rattle.std.proofs.Common.{negsuc, ◌≡◌, ◌≢◌, ℕ, zero, suc, ◌+◌, ◌-◌, ◌*◌, ◌/◌, ◌%◌, ◌<◌, ◌≤◌, false, List, [], ◌∷◌, ◌++◌, length, get_or, take, drop, replicate, refl, arith, ap, sym, ◌∙◌, inl, inr}
use Rattle.std.specs.Prelude.{ℤ, pos, ◌+ℤ◌, ◌*ℤ◌, ◌<ℤ◌, ◌≤ℤ◌, All, Any}
use Rattle.std.specs.Int.{bit_at}
use Rattle.std.proofs.lemmas.Bool.{cases_eq, cases_lt}
use Rattle.std.proofs.lemmas.Int.{ints}
use Rattle.std.proofs.lemmas.List.{take_more, take_all, drop-replicate, length-replicate, get_or-replicate, get_or_past, get_or-map, length-map}
use Rattle.std.proofs.lemmas.Nat.Bits.{bit_at-zero}
use Rattle.sm_kinds.specs.declared.var.Var.{Var}
use Rattle.sm_kinds.specs.declared.var.VarKind.{VarKind}
use Rattle.sm_kinds.specs.declared.var.VarKind.TheVariants.{Set, Int, Real}
use Rattle.sm_kinds.specs.Vars.{IsRising, IsSetDomain, IsDomain, first_of, last_of, no_var}
use Rattle.sm_store.proofs.Listed.{listed_none, listed_more}
use Rattle.sm_store.proofs.Orders.{rising_far}
use Rattle.sm_store.proofs.WordPlaces.{zero_false}
use Rattle.sm_store.specs.declared.place.Place.{Place}
use Rattle.sm_store.specs.Stores.{Extent, base_below, base_of, extent_of, declared}
use Rattle.sm_store.specs.Blocks.{is_one, listed, values_of, HasMore, AreWide, AreParts, IsBlock, extents}

-- ---- the base

pub base_near : (v : ℤ) → (base_below v ≤ℤ v) × (v ≤ℤ (base_below v +ℤ pos 63))
base_near (pos n) = let few : n % 64 < 64 = omega arith in (omega (arith, ints), omega (arith, ints))
base_near (negsuc n) = let few : n % 64 < 64 = omega arith in (omega (arith, ints), omega (arith, ints))

-- the base of declared values isn't above the least, and less than 64 below it
pub base_of_near : (values : List ℤ) → (base_of values ≤ℤ first_of values) × (first_of values ≤ℤ (base_of values +ℤ pos 63))
unfolding base_of
base_of_near values = base_near (first_of values)

below_multiple : (v : ℤ) → (z : ℤ) × (base_below v ≡ z *ℤ pos 64)
below_multiple (pos n) = (pos (n / 64), omega (arith, ints))
below_multiple (negsuc n) = (negsuc (n / 64), omega (arith, ints))

pub base_of_multiple : (values : List ℤ) → (z : ℤ) × (base_of values ≡ z *ℤ pos 64)
unfolding base_of
base_of_multiple values = below_multiple (first_of values)

-- ---- words of zeros

abbrev zeros : ℕ → List ℕ
zeros n = replicate n 0

zero_there : (n k : ℕ) → get_or (zeros n) k 0 ≡ 0
zero_there n k = elim (cases_lt k n) [
  | inl inside ↦ get_or-replicate n k 0 0 inside
  | inr past ↦ get_or_past (zeros n) k 0 (omega (arith, length-replicate {A = ℕ} n 0))
]

zeros_clean : (n p : ℕ) → is_one (zeros n) p ≡ false
zeros_clean n p = zero_false (zeros n) p (ap (λ (w : ℕ). bit_at w (p % 64)) (zero_there n (p / 64)) ∙ bit_at-zero (p % 64))

pub zeros_wide : (n : ℕ) (base : ℤ) (values : List ℤ) → base ≤ℤ first_of values → last_of values <ℤ (base +ℤ pos (64 * n)) → AreWide (drop 3 (zeros (3 + n))) base values
zeros_wide n base values low high =
    let fewer : 3 + n - 3 ≡ n = omega arith in
    let rest : drop 3 (zeros (3 + n)) ≡ zeros n = drop-replicate 3 (3 + n) 0 ∙ ap zeros fewer in
    rw rest (record { clean = zeros_clean n; low = low; high = omega (arith, ints, length-replicate {A = ℕ} n 0) })

-- ---- the places of values, one after another

-- the words of the first values; no later one has a place that is 1
pub record IsPutting (base : ℤ) (values : List ℤ) (start words : List ℕ) (i : ℕ) : Type 0 where
  pub long : length words ≡ length start
  pub listed : values_of base words ≡ take i values
  pub above : (p : ℕ) → i < length values → (get_or values i (pos 0)) ≤ℤ (base +ℤ pos p) → is_one words p ≡ false

pub putting_none : (base : ℤ) (values : List ℤ) (words : List ℕ) → AreWide words base values → IsPutting base values words words 0
putting_none base values words wide = record {
  long = refl;
  listed = listed_none (is_one words) base 0 (64 * length words) (λ p low high. wide.clean p);
  above = λ p lt at. wide.clean p;
}

first_below : (values : List ℤ) → IsRising values → (i : ℕ) → i < length values → (first_of values) ≤ℤ (get_or values i (pos 0))
first_below values rising zero lt = omega (arith, ints)
first_below values rising (suc i) lt = let less = rising_far values rising 0 (suc i) (omega arith) lt in omega (arith, ints, less)

below_last : (values : List ℤ) → IsRising values → (i : ℕ) → i < length values → (get_or values i (pos 0)) ≤ℤ (last_of values)
below_last values rising i lt = elim (cases_eq i (length values - 1)) [
  | inl same ↦ rw same (omega (arith, ints))
  | inr other ↦ let less = rising_far values rising i (length values - 1) (omega arith) (omega arith) in omega (arith, ints, less)
]

pub last_above : (base : ℤ) (values : List ℤ) → IsSetDomain values → base ≡ base_of values → base ≤ℤ last_of values
unfolding base_of
last_above base values set same =
    let some = set.some in
    let first = first_below values set.rising (length values - 1) (omega arith) in
    let near = base_near (first_of values) in
    let low = near.0 in
    omega (arith, ints)

-- where a value's place lies
pub value_low : (base : ℤ) (values : List ℤ) (start : List ℕ) (i : ℕ) → IsSetDomain values → AreWide start base values → i < length values → base ≤ℤ (get_or values i (pos 0))
value_low base values start i set wide lt = let first = first_below values set.rising i lt in let low = wide.low in omega (arith, ints)

pub value_high : (base : ℤ) (values : List ℤ) (start words : List ℕ) (i q : ℕ) → IsSetDomain values → AreWide start base values → IsPutting base values start words i → i < length values → get_or values i (pos 0) ≡ base +ℤ pos q → q < 64 * length words
value_high base values start words i q set wide putting lt at =
    let last = below_last values set.rising i lt in
    let high = wide.high in
    let long = putting.long in
    omega (arith, ints)

pub putting_more : (base : ℤ) (values : List ℤ) (start words new : List ℕ) (i q : ℕ) → IsSetDomain values → AreWide start base values → IsPutting base values start words i → i < length values → get_or values i (pos 0) ≡ base +ℤ pos q → HasMore words new q → IsPutting base values start new (i + 1)
putting_more base values start words new i q set wide putting lt at more =
    let inside = value_high base values start words i q set wide putting lt at in
    record {
      long = more.long ∙ putting.long;
      listed =
          ap (λ (n : ℕ). listed (is_one new) base 0 (64 * n)) more.long
          ∙ listed_more (is_one words) (is_one new) base 0 (64 * length words) q (omega arith) (omega arith) more.there more.others (λ p from. putting.above p lt (omega (arith, ints)))
          ∙ ap (λ (xs : List ℤ). xs ++ (base +ℤ pos q) ∷ []) putting.listed
          ∙ ap (λ (x : ℤ). take i values ++ x ∷ []) (sym at)
          ∙ sym (take_more values i (pos 0) lt);
      above = λ p next from.
          let less = set.rising i next in
          let apart : p ≢ q = λ e. absurd (omega (arith, ints)) in
          more.others p apart ∙ putting.above p lt (omega (arith, ints));
    }

pub putting_all : (base : ℤ) (values : List ℤ) (start words : List ℕ) (i : ℕ) → IsPutting base values start words i → length values ≤ i → values_of base words ≡ values
putting_all base values start words i putting end = putting.listed ∙ take_all i values end

-- ---- no declared domain is empty

domain_some : (kind : VarKind) (values : List ℤ) → IsDomain kind values → values ≡ [] → ⊥
domain_some Set values domain e = let some = domain.some in absurd (omega (arith, ap length e))
domain_some Int values domain e = let two = domain.two in absurd (omega (arith, ap length e))
domain_some Real values domain e = let two = domain.two in absurd (omega (arith, ap length e))

none_empty : (vars : List Var) → All (λ (v : Var). IsDomain v.kind v.values) vars → Any (λ e. e.values ≡ []) (declared vars) → ⊥
none_empty vars domains any =
    let inside : any.0 < length vars = omega (arith, length-map vars extent_of, any.2) in
    let found : extent_of (get_or vars any.0 no_var) ≡ any.1 = sym (get_or-map extent_of vars any.0 no_var any.1 inside) ∙ any.3 in
    let v = get_or vars any.0 no_var in
    domain_some v.kind v.values (domains any.0 no_var inside) (ap (λ (e : Extent). e.values) found ∙ any.4)

-- no variable of the declared store is without a value
pub declared_block : (vars : List Var) (places : List Place) (block : List ℕ) → All (λ (v : Var). IsDomain v.kind v.values) vars → AreParts places block → extents places block ≡ declared vars → IsBlock places block false
declared_block vars places block domains parts same = record {
  parts = parts;
  empty = rw same (λ t. absurd (cc), λ any. absurd (none_empty vars domains any));
}
