-- Numbers at the front of a text.
use Rattle.std.proofs.Common.{◌≡◌, ℕ, ℤ, pos, negsuc, suc, ◌≤◌, ◌<◌, ◌^◌, List, [], ◌∷◌, ◌++◌, length, take, drop, Bool, true, false, Some, None, refl, sym, ◌∙◌, ap, arith, FitsSigned}
use Rattle.std.specs.Prelude.{◌&&◌, ◌==◌, if◌then◌else◌, neg_ℤ}
use Rattle.std.specs.List.{prefix_len}
use Rattle.std.specs.Int.{w128}
use Rattle.std.specs.Fmt.{decimal}
use Rattle.std.specs.Str.{bytes_eq}
use Rattle.std.specs.Str.Parse.{digits_value, AllDigits}
use Rattle.std.proofs.lemmas.Bool.Decides.{nat_tests}
use Rattle.std.proofs.lemmas.Fmt.{decimal_is_IsNumeral_wide}
use Rattle.std.proofs.lemmas.Str.Parse.{digit_at}
use Rattle.std.proofs.lemmas.Slice.Eq.{bytes_eq-Decides}
use Rattle.std.proofs.lemmas.List.Sums.{prefix_len-le-length}
use Rattle.std.proofs.Math.Seq.{drop-append_seam, take-append_seam}
use Rattle.sm_base.specs.Whole.{whole_text}
use Rattle.sm_step.specs.Reading.{is_digit, fits_whole, written, whole_of, whole_length, whole_in, EndsNumber}

pub digits_within : (bs : List ℕ) → prefix_len is_digit bs ≤ length bs
digits_within bs = prefix_len-le-length is_digit bs

wide : (n : ℕ) → n < 2 ^ 128 → n < 10 ^ 64
wide n small = omega (arith, small)

same_bytes : (t : List ℕ) → bytes_eq t t ≡ true
same_bytes t = (bytes_eq-Decides t t).1 refl

-- a first byte that is a digit is no minus
digits_written : (ds : List ℕ) → AllDigits 10 ds → 0 < length ds → written ds ≡ pos (digits_value 10 ds)
digits_written [] h some = refl
digits_written (d ∷ ds) h some =
    let first = digit_at (d ∷ ds) 0 h (omega arith) in
    let apart : (d == 45) ≡ false = grind (arith, nat_tests) in
    rw apart refl

written_text : (z : ℤ) → FitsSigned w128 z → written (whole_text z) ≡ z
written_text (pos n) fits =
    let numeral = decimal_is_IsNumeral_wide n (omega (arith, fits)) in
    digits_written (decimal n) numeral.0.1 numeral.0.0 ∙ ap pos numeral.1
written_text (negsuc n) fits =
    let numeral = decimal_is_IsNumeral_wide (suc n) (omega (arith, fits)) in
    ap (λ (k : ℕ). neg_ℤ (pos k)) numeral.1

fits_test : (z : ℤ) → FitsSigned w128 z → fits_whole z ≡ true
fits_test (pos n) fits = grind (arith, nat_tests)
fits_test (negsuc n) fits = grind (arith, nat_tests)

-- the text of a number in range is read as this number
pub whole_of_text : (z : ℤ) → FitsSigned w128 z → whole_of (whole_text z) ≡ Some z
unfolding whole_of
whole_of_text z fits = rw (written_text z fits, fits_test z fits, same_bytes (whole_text z)) refl

pub whole_of_found : (t : List ℕ) (z : ℤ) → FitsSigned w128 z → t ≡ whole_text z → whole_of t ≡ Some z
whole_of_found t z fits e = ap whole_of e ∙ whole_of_text z fits

fits_from : (z : ℤ) → fits_whole z ≡ true → FitsSigned w128 z
fits_from (pos n) h = grind (arith, nat_tests)
fits_from (negsuc n) h = grind (arith, nat_tests)

-- where no number in range has the text, none is read
pub whole_of_none : (t : List ℕ) → ((z : ℤ) → FitsSigned w128 z → t ≡ whole_text z → ⊥) → whole_of t ≡ None
unfolding whole_of
whole_of_none t none = pick (fits_whole (written t)) (bytes_eq (whole_text (written t)) t) (fits_from (written t)) (bytes_eq-Decides (whole_text (written t)) t).0
  where
    pick : (f b : Bool) → (f ≡ true → FitsSigned w128 (written t)) → (b ≡ true → whole_text (written t) ≡ t) → (if f && b then Some (written t) else None) ≡ None
    pick false b fits same = refl
    pick true false fits same = refl
    pick true true fits same = absurd (none (written t) (fits refl) (sym (same refl)))

-- ---- the front of a text

all_digits_counted : (ds rest : List ℕ) → AllDigits 10 ds → EndsNumber rest → prefix_len is_digit (ds ++ rest) ≡ length ds
all_digits_counted [] [] h ends = refl
all_digits_counted [] (b ∷ bs) h ends = rw ends refl
all_digits_counted (d ∷ ds) rest h ends =
    let first = digit_at (d ∷ ds) 0 h (omega arith) in
    let digit : is_digit d ≡ true = grind (arith, nat_tests) in
    rw digit (omega (arith, all_digits_counted ds rest h.1 ends))

length_of_digits : (ds rest : List ℕ) → AllDigits 10 ds → 0 < length ds → EndsNumber rest → whole_length (ds ++ rest) ≡ length ds
length_of_digits [] rest h some ends = absurd (omega arith)
length_of_digits (d ∷ ds) rest h some ends =
    let first = digit_at (d ∷ ds) 0 h (omega arith) in
    let apart : (d == 45) ≡ false = grind (arith, nat_tests) in
    rw apart (all_digits_counted (d ∷ ds) rest h ends)

length_of_text : (z : ℤ) (rest : List ℕ) → FitsSigned w128 z → EndsNumber rest → whole_length (whole_text z ++ rest) ≡ length (whole_text z)
length_of_text (pos n) rest fits ends =
    let numeral = decimal_is_IsNumeral_wide n (omega (arith, fits)) in
    length_of_digits (decimal n) rest numeral.0.1 numeral.0.0 ends
length_of_text (negsuc n) rest fits ends =
    let numeral = decimal_is_IsNumeral_wide (suc n) (omega (arith, fits)) in
    omega (arith, all_digits_counted (decimal (suc n)) rest numeral.0.1 ends)

-- a number's text is read where no digit follows
pub whole_next : (z : ℤ) (rest : List ℕ) → FitsSigned w128 z → EndsNumber rest → whole_in (whole_text z ++ rest) ≡ Some (z, rest)
unfolding whole_in
whole_next z rest fits ends = rw (length_of_text z rest fits ends, take-append_seam (whole_text z) rest, drop-append_seam (whole_text z) rest, whole_of_text z fits) refl

pub whole_some : (bs front rest : List ℕ) (z : ℤ) → FitsSigned w128 z → front ≡ take (whole_length bs) bs → rest ≡ drop (whole_length bs) bs → front ≡ whole_text z → whole_in bs ≡ Some (z, rest)
unfolding whole_in
whole_some bs front rest z fits e d f = rw (sym e, whole_of_found front z fits f, sym d) refl

pub whole_none : (bs front : List ℕ) → front ≡ take (whole_length bs) bs → ((z : ℤ) → FitsSigned w128 z → front ≡ whole_text z → ⊥) → whole_in bs ≡ None
unfolding whole_in
whole_none bs front e none = rw (sym e, whole_of_none front none) refl
