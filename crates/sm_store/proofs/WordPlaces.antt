-- The places of words: which are 1, and the values that they have.
use Rattle.std.proofs.Common.{◌≡◌, ◌≢◌, ℕ, zero, suc, ◌+◌, ◌*◌, ◌/◌, ◌%◌, ◌^◌, ◌<◌, ◌≤◌, ◌↔◌, Bool, true, false, not, cond, List, [], length, get_or, set, refl, arith, ap, sym, ◌∙◌, inl, inr, min, w64, get_or-set_same, get_or-set_other}
use Rattle.std.specs.Prelude.{ℤ, pos, ◌+ℤ◌, ◌-ℤ◌, ◌<ℤ◌, ◌==◌, ◌&&◌, bit_and, bit_or, IsTrue}
use Rattle.std.specs.Int.{bit_at}
use Rattle.std.specs.Ordering.{int_eq}
use Rattle.std.proofs.lemmas.Bool.{cases_eq, cases_lt}
use Rattle.std.proofs.lemmas.Bool.Decides.{nat_tests, same_from_decides, Decides-int_eq}
use Rattle.std.proofs.lemmas.Int.{ints}
use Rattle.std.proofs.lemmas.List.{length-set, get_or_past}
use Rattle.std.proofs.lemmas.Nat.Bits.{bit_at-zero, bit_at-lt, bit_at_and, bit_at_set_same, bit_at_set_other}
use Rattle.sm_kinds.specs.declared.literal.Test.{Test}
use Rattle.sm_kinds.specs.declared.literal.Test.TheVariants.{AtMost, AtLeast, Equal, Unequal}
use Rattle.sm_kinds.specs.declared.var.VarKind.TheVariants.{Set}
use Rattle.sm_kinds.specs.Literals.{passes_test}
use Rattle.sm_kinds.specs.Vars.{IsOneOf}
use Rattle.sm_lanes.specs.Bits.{bit_of, ones_of, HasNoOne, IsFirstOne, IsLastOne}
use Rattle.sm_store.proofs.Listed.{listed_none, listed_some, listed_first, listed_last, listed_count, listed_has, listed_from}
use Rattle.sm_store.specs.Blocks.{is_one, values_of, IsSummary, HasMore, KeepsPassing}

pub one_true : (words : List ℕ) (p : ℕ) → bit_of words p ≡ 1 → is_one words p ≡ true
one_true words p h = ap (λ (b : ℕ). b == 1) h

pub zero_false : (words : List ℕ) (p : ℕ) → bit_of words p ≡ 0 → is_one words p ≡ false
zero_false words p h = ap (λ (b : ℕ). b == 1) h

pub true_one : (words : List ℕ) (p : ℕ) → is_one words p ≡ true → bit_of words p ≡ 1
true_one words p h = grind (arith, nat_tests)

past_zero : (words : List ℕ) (p : ℕ) → 64 * length words ≤ p → is_one words p ≡ false
past_zero words p past = zero_false words p (ap (λ (n : ℕ). bit_at n (p % 64)) (get_or_past words (p / 64) 0 (omega arith)) ∙ bit_at-zero (p % 64))

one_inside : (words : List ℕ) (p : ℕ) → is_one words p ≡ true → p < 64 * length words
one_inside words p one = elim (cases_lt p (64 * length words)) [
  | inl inside ↦ inside
  | inr past ↦ let none : is_one words p ≡ false = past_zero words p past in absurd (cc)
]

-- ---- values

-- a place is 1 exactly where its number is a value
pub one_value : (words : List ℕ) (base x : ℤ) (p : ℕ) → x ≡ base +ℤ pos p → IsTrue (is_one words p) ↔ IsOneOf x (pos 1) (values_of base words)
one_value words base x p same = (there, back)
  where
    there : IsTrue (is_one words p) → IsOneOf x (pos 1) (values_of base words)
    there one = rw same (listed_has (is_one words) base 0 (64 * length words) p (omega arith) (omega (arith, one_inside words p one)) one)

    back : IsOneOf x (pos 1) (values_of base words) → IsTrue (is_one words p)
    back h =
        let found = listed_from (is_one words) base 0 (64 * length words) x h in
        let alike = found.same in
        let here : found.place ≡ p = omega (arith, ints) in
        ap (is_one words) (sym here) ∙ found.one

pub none_below : (words : List ℕ) (base x : ℤ) → x <ℤ base → IsOneOf x (pos 1) (values_of base words) → ⊥
none_below words base x below h =
    let found = listed_from (is_one words) base 0 (64 * length words) x h in
    let alike = found.same in
    absurd (omega (arith, ints))

-- ---- ends and size

pub ones_summary : (base : ℤ) (words : List ℕ) (first last size : ℕ) → IsFirstOne words first → IsLastOne words last → size ≡ ones_of words → IsSummary Set (values_of base words) (record { least = base +ℤ pos first; greatest = base +ℤ pos last; size = size })
ones_summary base words first last size low high counted =
    let inside : first < 64 * length words = low.inside in
    let one : is_one words first ≡ true = one_true words first low.one in
    let end : last < 64 * length words = high.inside in
    let top : is_one words last ≡ true = one_true words last high.one in
    record {
      some = λ some. record {
        least = listed_first (is_one words) base 0 (64 * length words) first (omega arith) (omega arith) one (λ q l. zero_false words q (low.least q l));
        greatest = listed_last (is_one words) base 0 (64 * length words) last (omega arith) (omega arith) top (λ q l. zero_false words q (high.greatest q l));
        order = elim (cases_lt last first) [
          | inl cross ↦ let zero_there : bit_of words last ≡ 0 = low.least last cross in let one_there : bit_of words last ≡ 1 = high.one in absurd (omega arith)
          | inr order ↦ omega (arith, ints)
        ];
      };
      none = λ none. let some = listed_some (is_one words) base 0 (64 * length words) first (omega arith) (omega arith) one in absurd (omega arith);
      size = counted ∙ sym (listed_count (is_one words) base 0 (64 * length words));
    }

pub no_summary : (base : ℤ) (words : List ℕ) → HasNoOne words → IsSummary Set (values_of base words) (record { least = pos 1; greatest = pos 0; size = 0 })
no_summary base words none =
    let empty : values_of base words ≡ [] = listed_none (is_one words) base 0 (64 * length words) (λ p low high. zero_false words p (none p)) in
    rw empty (record { some = λ some. absurd (omega arith); none = λ _. record { least = refl; greatest = refl }; size = refl })

-- ---- a place more

same_word : (p q : ℕ) → p ≢ q → p / 64 ≡ q / 64 → p % 64 ≢ q % 64
same_word p q other word within = other (omega arith)

pub put_more : (words : List ℕ) (q : ℕ) → q < 64 * length words → HasMore words (set words (q / 64) (bit_or (get_or words (q / 64) 0) (1 * 2 ^ (q % 64) % 18446744073709551616))) q
put_more words q inside =
    let w : ℕ = q / 64 in
    let old : ℕ = get_or words w 0 in
    let word : ℕ = bit_or old (1 * 2 ^ (q % 64) % 18446744073709551616) in
    let room : w < length words = omega arith in
    let within : q % 64 < 64 = omega arith in
    record {
      long = length-set words w word;
      there = one_true (set words w word) q (ap (λ (n : ℕ). bit_at n (q % 64)) (get_or-set_same words w word 0 room) ∙ bit_at_set_same w64 old (q % 64) within);
      others = λ p other. elim (cases_eq (p / 64) w) [
        | inl same ↦ ap (λ (b : ℕ). b == 1) (ap (λ (k : ℕ). bit_at (get_or (set words w word) k 0) (p % 64)) same ∙ ap (λ (n : ℕ). bit_at n (p % 64)) (get_or-set_same words w word 0 room) ∙ bit_at_set_other w64 old (q % 64) within (p % 64) (same_word p q other same) ∙ ap (λ (k : ℕ). bit_at (get_or words k 0) (p % 64)) (sym same))
        | inr apart ↦ ap (λ (n : ℕ). bit_at n (p % 64) == 1) (get_or-set_other words w (p / 64) word 0 apart)
      ];
    }

-- ---- the values that pass

equal_shifted : (b base : ℤ) (w i : ℕ) → int_eq (pos i) (b -ℤ base -ℤ pos (64 * w)) ≡ int_eq (base +ℤ pos (64 * w + i)) b
equal_shifted b base w i =
    let one = Decides-int_eq (pos i) (b -ℤ base -ℤ pos (64 * w)) in
    let two = Decides-int_eq (base +ℤ pos (64 * w + i)) b in
    same_from_decides (int_eq (pos i) (b -ℤ base -ℤ pos (64 * w))) (int_eq (base +ℤ pos (64 * w + i)) b) one
    (λ t. let e = two.0 t in omega (arith, ints), λ e. two.1 (omega (arith, ints)))

pub shifted : (t : Test) (b base : ℤ) (w i : ℕ) → passes_test t (b -ℤ base -ℤ pos (64 * w)) (pos i) ≡ passes_test t b (base +ℤ pos (64 * w + i))
shifted AtMost b base w i = grind (arith, ints)
shifted AtLeast b base w i = grind (arith, ints)
shifted Equal b base w i = equal_shifted b base w i
shifted Unequal b base w i = ap not (equal_shifted b base w i)

-- the words as far as one of them, each with the places that pass
pub record IsKeptUpto (pass : ℤ → Bool) (base : ℤ) (old new : List ℕ) (at : ℕ) : Type 0 where
  pub long : length new ≡ length old
  pub low : at ≤ length old
  pub done : (p : ℕ) → p < 64 * at → is_one new p ≡ (is_one old p && pass (base +ℤ pos p))
  pub rest : (k : ℕ) → at ≤ k → get_or new k 0 ≡ get_or old k 0

pub kept_none : (pass : ℤ → Bool) (base : ℤ) (words : List ℕ) → IsKeptUpto pass base words words 0
kept_none pass base words = record { long = refl; low = omega arith; done = λ p l. absurd (omega arith); rest = λ k l. refl }

pub kept_all : (pass : ℤ → Bool) (base : ℤ) (old new : List ℕ) (at : ℕ) → IsKeptUpto pass base old new at → length new ≤ at → KeepsPassing pass base old new
kept_all pass base old new at kept end =
    let long = kept.long in
    let low = kept.low in
    record { long = kept.long; places = λ p inside. kept.done p (omega arith) }

both_bits : (a b : ℕ) (c : Bool) → a < 2 → b ≡ cond c 1 0 → (min a b == 1) ≡ ((a == 1) && c)
both_bits zero b true l e = rw e refl
both_bits zero b false l e = rw e refl
both_bits (suc zero) b true l e = rw e refl
both_bits (suc zero) b false l e = rw e refl
both_bits (suc (suc a)) b c l e = absurd (omega arith)

pub kept_more : (pass : ℤ → Bool) (base : ℤ) (old new : List ℕ) (at mask : ℕ) → IsKeptUpto pass base old new at → at < length old
    → ((i : ℕ) → i < 64 → bit_at mask i ≡ cond (pass (base +ℤ pos (64 * at + i))) 1 0)
    → IsKeptUpto pass base old (set new at (bit_and (get_or new at 0) mask)) (at + 1)
kept_more pass base old new at mask kept inside masked =
    let long = kept.long in
    let word : ℕ = bit_and (get_or new at 0) mask in
    let room : at < length new = omega arith in
    record {
      long = length-set new at word ∙ kept.long;
      low = omega arith;
      done = λ p l. elim (cases_lt p (64 * at)) [
        | inl before ↦
            let apart : p / 64 ≢ at = omega arith in
            ap (λ (n : ℕ). bit_at n (p % 64) == 1) (get_or-set_other new at (p / 64) word 0 apart) ∙ kept.done p before
        | inr here ↦
            let same : p / 64 ≡ at = omega arith in
            let within : p % 64 < 64 = omega arith in
            let place : 64 * at + p % 64 ≡ p = omega arith in
            ap (λ (k : ℕ). bit_at (get_or (set new at word) k 0) (p % 64) == 1) same
            ∙ ap (λ (n : ℕ). bit_at n (p % 64) == 1) (get_or-set_same new at word 0 room)
            ∙ ap (λ (b : ℕ). b == 1) (bit_at_and (get_or new at 0) mask (p % 64))
            ∙ both_bits (bit_at (get_or new at 0) (p % 64)) (bit_at mask (p % 64)) (pass (base +ℤ pos (64 * at + p % 64))) (bit_at-lt (get_or new at 0) (p % 64)) (masked (p % 64) within)
            ∙ ap (λ (n : ℕ). (bit_at n (p % 64) == 1) && pass (base +ℤ pos (64 * at + p % 64))) (kept.rest at (omega arith))
            ∙ ap (λ (k : ℕ). (bit_at (get_or old k 0) (p % 64) == 1) && pass (base +ℤ pos (64 * at + p % 64))) (sym same)
            ∙ ap (λ (k : ℕ). is_one old p && pass (base +ℤ pos k)) place
      ];
      rest = λ k l. let apart : k ≢ at = omega arith in get_or-set_other new at k word 0 apart ∙ kept.rest k (omega arith);
    }
