-- Each text in range is read as what it is the text of.
use Rattle.std.proofs.Common.{◌≡◌, ◌≢◌, ℕ, ℤ, pos, negsuc, zero, suc, ◌≤◌, ◌<◌, ◌^◌, List, [], ◌∷◌, ◌++◌, length, Bool, true, false, Some, None, refl, ◌∙◌, ap, subst, arith, append_assoc, length-append, FitsSigned, ◌+◌}
use Rattle.std.specs.Prelude.{◌==◌, ◌<ℤ◌, codes, unsigned_abs, nat_lt, All, if◌then◌else◌}
use Rattle.std.specs.Int.{w128, w64}
use Rattle.std.specs.Bool.{Decides}
use Rattle.std.specs.Fmt.{decimal}
use Rattle.std.specs.Str.Parse.{AllDigits}
use Rattle.std.proofs.lemmas.Fmt.{decimal_is_IsNumeral_wide}
use Rattle.std.proofs.lemmas.Str.Parse.{digit_at}
use Rattle.std.proofs.lemmas.Int.{ints}
use Rattle.std.proofs.lemmas.Bool.Decides.{nat_tests, Decides-eqb}
use Rattle.std.proofs.lemmas.List.Elements.{All-head, All-tail, All-cons, All-nil}
use Rattle.sm_base.specs.Whole.{whole_text}
use Rattle.sm_frac.specs.declared.fraction.Frac.{Frac}
use Rattle.sm_kinds.specs.declared.literal.Literal.{Literal}
use Rattle.sm_kinds.specs.declared.literal.Test.{Test}
use Rattle.sm_kinds.specs.declared.literal.Test.TheVariants.{AtMost, AtLeast, Equal, Unequal}
use Rattle.sm_step.specs.PartText.{number_text, each_after, joined, joined_or_none, list_text, prices_text, value_text, test_text, literal_text, fraction_text, spaced}
use Rattle.sm_step.specs.Grammar.{IsLiteral, IsWideNumber, IsNumber, IsSome, RisesFrom, IsList, IsDenominator, AreValues}
use Rattle.sm_step.specs.Reading.{Reads, rest_behind, each_up_to, each_in, joined_in, whole_in, natural_in, narrow_in, fits_narrow, number_in, list_in, prices_in, listed_in, begins_with_digit, is_digit, unless_digit, rest_behind_none, EndsNumber}
use Rattle.sm_step.specs.Fractions.{fraction_of}
use Rattle.sm_step.proofs.FracParts.{fraction_again}
use Rattle.sm_step.specs.PartReading.{fraction_in, is_above_one, value_in, test_in, literal_in, values_in}
use Rattle.sm_step.proofs.Numbers.{whole_next}

-- a number below a limit
pub natural_next : (limit n : ℕ) (rest : List ℕ) → n < limit → limit ≤ 2 ^ 64 → EndsNumber rest → natural_in limit (whole_text (pos n) ++ rest) ≡ Some (n, rest)
natural_next limit n rest small most ends = let below : nat_lt n limit ≡ true = grind (arith, nat_tests) in rw (whole_next (pos n) rest (omega (arith, small, most)) ends, below) refl

fits_test : (z : ℤ) → FitsSigned w64 z → fits_narrow z ≡ true
fits_test (pos n) fits = grind (arith, nat_tests)
fits_test (negsuc n) fits = grind (arith, nat_tests)

widened : (z : ℤ) → FitsSigned w64 z → FitsSigned w128 z
widened (pos n) fits = omega (arith, fits)
widened (negsuc n) fits = omega (arith, fits)

pub narrow_next : (z : ℤ) (rest : List ℕ) → FitsSigned w64 z → EndsNumber rest → narrow_in (whole_text z ++ rest) ≡ Some (z, rest)
unfolding narrow_in
narrow_next z rest fits ends = rw (whole_next z rest (widened z fits) ends, fits_test z fits) refl

-- no mark of these comes next
pub test_next : (t : Test) (rest : List ℕ) → test_in (test_text t ++ rest) ≡ Some (t, rest)
unfolding test_in
test_next AtMost rest = refl
test_next AtLeast rest = refl
test_next Equal rest = refl
test_next Unequal rest = refl

test_ends : (t : Test) (rest : List ℕ) → EndsNumber (test_text t ++ rest)
test_ends AtMost rest = refl
test_ends AtLeast rest = refl
test_ends Equal rest = refl
test_ends Unequal rest = refl

bound_fits : (z : ℤ) → unsigned_abs z ≤ 2 ^ 32 → FitsSigned w64 z
bound_fits (pos n) h = omega (arith, h)
bound_fits (negsuc n) h = omega (arith, h)

pub nest2 : (a b rest : List ℕ) → a ++ b ++ rest ≡ a ++ (b ++ rest)
nest2 a b rest = simp append_assoc

pub nest3 : (a b c rest : List ℕ) → a ++ b ++ c ++ rest ≡ a ++ (b ++ (c ++ rest))
nest3 a b c rest = simp append_assoc

pub nest4 : (a b c d rest : List ℕ) → a ++ b ++ c ++ d ++ rest ≡ a ++ (b ++ (c ++ (d ++ rest)))
nest4 a b c d rest = simp append_assoc

pub nest5 : (a b c d e rest : List ℕ) → a ++ b ++ c ++ d ++ e ++ rest ≡ a ++ (b ++ (c ++ (d ++ (e ++ rest))))
nest5 a b c d e rest = simp append_assoc

pub literal_next : (l : Literal) (rest : List ℕ) → IsLiteral l → EndsNumber rest → literal_in (literal_text l ++ rest) ≡ Some (l, rest)
unfolding literal_in
literal_next l rest is ends =
    let behind = whole_text l.bound ++ rest in
    let var = natural_next (2 ^ 32) l.var (test_text l.test ++ behind) is.0 (omega arith) (test_ends l.test behind) in
    let bound = narrow_next l.bound rest (bound_fits l.bound is.1) ends in
    ap (λ (t : List ℕ). literal_in (118 ∷ t)) (nest3 (whole_text (pos l.var)) (test_text l.test) (whole_text l.bound) rest) ∙ rw (var, test_next l.test behind, bound) refl

-- ---- lists

-- the text of each part in range is read where what follows lets the part end
pub record IsExact {X : Type 0} (part : Reads X) (text : X → List ℕ) (InRange : X → Type 0) (Ends : List ℕ → Type 0) : Type 0 where
  pub next : (x : X) (rest : List ℕ) → InRange x → Ends rest → part (text x ++ rest) ≡ Some (x, rest)

-- the mark lets a part end
pub record IsMark (mark : ℕ) (Ends : List ℕ → Type 0) : Type 0 where
  pub ends : (rest : List ℕ) → Ends (mark ∷ rest)

ends_after : {X : Type 0} (mark : ℕ) (text : X → List ℕ) (Ends : List ℕ → Type 0) (xs : List X) (rest : List ℕ) → IsMark mark Ends → Ends rest → Ends (each_after mark text xs ++ rest)
ends_after mark text Ends [] rest marks ends = ends
ends_after mark text Ends (x ∷ xs) rest marks ends = marks.ends (text x ++ each_after mark text xs ++ rest)

each_next_up_to : {X : Type 0} (mark : ℕ) (part : Reads X) (text : X → List ℕ) (InRange : X → Type 0) (Ends : List ℕ → Type 0) (most : ℕ) (xs : List X) (rest : List ℕ)
    → IsExact part text InRange Ends → IsMark mark Ends → All InRange xs → Ends rest → rest_behind (mark ∷ []) rest ≡ None → length xs < most
    → each_up_to mark part most (each_after mark text xs ++ rest) ≡ Some (xs, rest)
each_next_up_to mark part text InRange Ends zero xs rest exact marks all ends none few = absurd (omega (arith, few))
each_next_up_to mark part text InRange Ends (suc most) [] rest exact marks all ends none few = rw none refl
each_next_up_to mark part text InRange Ends (suc most) (x ∷ xs) rest exact marks all ends none few =
    let behind = each_after mark text xs ++ rest in
    let marked : (mark == mark) ≡ true = grind (arith, nat_tests) in
    let first = exact.next x behind (All-head InRange x xs all) (ends_after mark text Ends xs rest marks ends) in
    let others = each_next_up_to mark part text InRange Ends most xs rest exact marks (All-tail InRange x xs all) ends none (omega (arith, few)) in
    rw (marked, append_assoc (text x) (each_after mark text xs) rest, first, others) refl

count_each : {X : Type 0} (mark : ℕ) (text : X → List ℕ) (xs : List X) (rest : List ℕ) → length xs ≤ length (each_after mark text xs ++ rest)
count_each mark text [] rest = omega arith
count_each mark text (x ∷ xs) rest = omega (arith, count_each mark text xs rest, length-append (each_after mark text xs) rest, length-append (text x ++ each_after mark text xs) rest, length-append (text x) (each_after mark text xs))

pub each_next : {X : Type 0} (mark : ℕ) (part : Reads X) (text : X → List ℕ) (InRange : X → Type 0) (Ends : List ℕ → Type 0) (xs : List X) (rest : List ℕ)
    → IsExact part text InRange Ends → IsMark mark Ends → All InRange xs → Ends rest → rest_behind (mark ∷ []) rest ≡ None
    → each_in mark part (each_after mark text xs ++ rest) ≡ Some (xs, rest)
unfolding each_in
each_next mark part text InRange Ends xs rest exact marks all ends none =
    each_next_up_to mark part text InRange Ends (suc (length (each_after mark text xs ++ rest))) xs rest exact marks all ends none (omega (arith, count_each mark text xs rest))

pub joined_next : {X : Type 0} (mark : ℕ) (part : Reads X) (text : X → List ℕ) (InRange : X → Type 0) (Ends : List ℕ → Type 0) (xs : List X) (rest : List ℕ)
    → IsExact part text InRange Ends → IsMark mark Ends → 1 ≤ length xs → All InRange xs → Ends rest → rest_behind (mark ∷ []) rest ≡ None
    → joined_in mark part (joined mark text xs ++ rest) ≡ Some (xs, rest)
unfolding joined_in
joined_next mark part text InRange Ends [] rest exact marks some all ends none = absurd (omega (arith, some))
joined_next mark part text InRange Ends (x ∷ xs) rest exact marks some all ends none =
    let behind = each_after mark text xs ++ rest in
    let first = exact.next x behind (All-head InRange x xs all) (ends_after mark text Ends xs rest marks ends) in
    let others = each_next mark part text InRange Ends xs rest exact marks (All-tail InRange x xs all) ends none in
    rw (append_assoc (text x) (each_after mark text xs) rest, first, others) refl

-- ---- numbers and fractions as parts of lists

pub whole_exact : IsExact whole_in whole_text IsWideNumber EndsNumber
whole_exact = record { next = λ z rest is ends. whole_next z rest is ends }

-- neither a digit nor a `/` comes next
pub record EndsFraction (rest : List ℕ) : Type 0 where
  pub number : EndsNumber rest
  pub slash : rest_behind (codes "/") rest ≡ None

numerator_fits : (z : ℤ) → unsigned_abs z < 2 ^ 127 → FitsSigned w128 z
numerator_fits (pos n) h = omega (arith, h)
numerator_fits (negsuc n) h = omega (arith, h)

one_from_size : (d : ℤ) → pos 0 <ℤ d → unsigned_abs d ≡ 1 → d ≡ pos 1
one_from_size (pos n) h e = ap pos e
one_from_size (negsuc n) h e = absurd (omega (arith, ints))

above_one : (d : ℤ) → pos 0 <ℤ d → (unsigned_abs d ≡ 1 → ⊥) → is_above_one d ≡ true
above_one (pos n) h many = let more : n ≢ 1 = many in grind (arith, ints, nat_tests)
above_one (negsuc n) h many = absurd (omega (arith, ints))

pub fraction_next : (f : Frac) (rest : List ℕ) → EndsFraction rest → fraction_in (fraction_text f ++ rest) ≡ Some (f, rest)
unfolding fraction_in
fraction_next f rest ends = pick (unsigned_abs f.d == 1) (Decides-eqb (unsigned_abs f.d) 1)
  where
    numerator : FitsSigned w128 f.n
    numerator = numerator_fits f.n f.bounded

    denominator : FitsSigned w128 f.d
    denominator = numerator_fits f.d f.small

    pick : (t : Bool) → Decides t (unsigned_abs f.d ≡ 1) → fraction_in ((if t then whole_text f.n else whole_text f.n ++ codes "/" ++ whole_text f.d) ++ rest) ≡ Some (f, rest)
    pick true is =
        let one = one_from_size f.d f.positive (is.0 refl) in
        let same : fraction_of f.n (pos 1) ≡ Some f = subst (λ (d : ℤ). fraction_of f.n d ≡ Some f) one (fraction_again f) in
        rw (whole_next f.n rest numerator ends.number, ends.slash, same) refl
    pick false is =
        let many = above_one f.d f.positive (λ e. let t = is.1 e in absurd (cc)) in
        ap fraction_in (nest2 (whole_text f.n ++ codes "/") (whole_text f.d) rest ∙ append_assoc (whole_text f.n) (codes "/") (whole_text f.d ++ rest))
        ∙ rw (whole_next f.n (codes "/" ++ (whole_text f.d ++ rest)) numerator refl, whole_next f.d rest denominator ends.number, many, fraction_again f) refl

pub fraction_exact : IsExact fraction_in fraction_text (λ _. Unit {0}) EndsFraction
fraction_exact = record { next = λ f rest _ ends. fraction_next f rest ends }

-- ---- what a number begins with

pub record BeginsWithDigit (text : List ℕ) : Type 0 where
  pub first : ℕ
  pub others : List ℕ
  pub is : text ≡ first ∷ others
  pub digit : is_digit first ≡ true

begins : (text : List ℕ) → AllDigits 10 text → 0 < length text → BeginsWithDigit text
begins [] h some = absurd (omega (arith, some))
begins (d ∷ ds) h some =
    let in_range = digit_at (d ∷ ds) 0 h (omega arith) in
    record { first = d; others = ds; is = refl; digit = grind (arith, nat_tests) }

decimal_begins : (n : ℕ) → n < 2 ^ 128 → BeginsWithDigit (decimal n)
decimal_begins n small = let numeral = decimal_is_IsNumeral_wide n (omega (arith, small)) in begins (decimal n) numeral.0.1 numeral.0.0

digit_no_dash : (d : ℕ) → is_digit d ≡ true → (45 == d) ≡ false
digit_no_dash d h = grind (arith, nat_tests)

digit_no_n : (d : ℕ) → is_digit d ≡ true → (110 == d) ≡ false
digit_no_n d h = grind (arith, nat_tests)

pub number_no_dash : (n : ℕ) (rest : List ℕ) → n < 2 ^ 128 → rest_behind (codes "-") (whole_text (pos n) ++ rest) ≡ None
number_no_dash n rest small =
    let b = decimal_begins n small in
    ap (λ (t : List ℕ). rest_behind (codes "-") (t ++ rest)) b.is ∙ rw (digit_no_dash b.first b.digit) refl

pub whole_no_none : (z : ℤ) (rest : List ℕ) → IsWideNumber z → rest_behind_none (whole_text z ++ rest) ≡ None
unfolding rest_behind_none
whole_no_none (pos n) rest fits = rw (number_no_dash n rest (omega (arith, fits))) refl
whole_no_none (negsuc n) rest fits =
    let b = decimal_begins (suc n) (omega (arith, fits)) in
    ap (λ (t : List ℕ). unless_digit (t ++ rest)) b.is ∙ rw b.digit refl

whole_no_word : (z : ℤ) (rest : List ℕ) → IsWideNumber z → rest_behind (codes "none") (whole_text z ++ rest) ≡ None
whole_no_word (pos n) rest fits =
    let b = decimal_begins n (omega (arith, fits)) in
    ap (λ (t : List ℕ). rest_behind (codes "none") (t ++ rest)) b.is ∙ rw (digit_no_n b.first b.digit) refl
whole_no_word (negsuc n) rest fits = refl

fraction_no_word : (f : Frac) (rest : List ℕ) → rest_behind (codes "none") (fraction_text f ++ rest) ≡ None
fraction_no_word f rest = pick (unsigned_abs f.d == 1)
  where
    pick : (t : Bool) → rest_behind (codes "none") ((if t then whole_text f.n else whole_text f.n ++ codes "/" ++ whole_text f.d) ++ rest) ≡ None
    pick true = whole_no_word f.n rest (numerator_fits f.n f.bounded)
    pick false = ap (rest_behind (codes "none")) (nest3 (whole_text f.n) (codes "/") (whole_text f.d) rest) ∙ whole_no_word f.n (codes "/" ++ (whole_text f.d ++ rest)) (numerator_fits f.n f.bounded)

pub value_no_word : (fs : List Frac) (rest : List ℕ) → IsSome fs → rest_behind (codes "none") (value_text fs ++ rest) ≡ None
value_no_word [] rest some = absurd (omega (arith, some))
value_no_word (f ∷ fs) rest some = ap (rest_behind (codes "none")) (append_assoc (fraction_text f) (each_after 44 fraction_text fs) rest) ∙ fraction_no_word f (each_after 44 fraction_text fs ++ rest)

-- ---- lists that may be none

no_digit : (rest : List ℕ) → EndsNumber rest → begins_with_digit rest ≡ false
no_digit [] ends = refl
no_digit (b ∷ bs) ends = ends

pub listed_next : {X : Type 0} (mark : ℕ) (part : Reads X) (text : X → List ℕ) (InRange : X → Type 0) (Ends : List ℕ → Type 0) (xs : List X) (rest : List ℕ)
    → IsExact part text InRange Ends → IsMark mark Ends → ((x : X) (behind : List ℕ) → InRange x → rest_behind_none (text x ++ behind) ≡ None)
    → All InRange xs → Ends rest → rest_behind (mark ∷ []) rest ≡ None → EndsNumber rest
    → listed_in mark part (joined_or_none mark text xs ++ rest) ≡ Some (xs, rest)
unfolding listed_in rest_behind_none
listed_next mark part text InRange Ends [] rest exact marks apart all ends none number = rw (no_digit rest number) refl
listed_next mark part text InRange Ends (x ∷ xs) rest exact marks apart all ends none number =
    let first = ap rest_behind_none (append_assoc (text x) (each_after mark text xs) rest) ∙ apart x (each_after mark text xs ++ rest) (All-head InRange x xs all) in
    rw (first, joined_next mark part text InRange Ends (x ∷ xs) rest exact marks (omega arith) all ends none) refl

pub number_next : (n : ℕ) (rest : List ℕ) → IsNumber n → EndsNumber rest → number_in (number_text n ++ rest) ≡ Some (n, rest)
number_next n rest is ends = natural_next (2 ^ 32) n rest is (omega arith) ends

pub long_next : (n : ℕ) (rest : List ℕ) → n < 2 ^ 40 → EndsNumber rest → natural_in (2 ^ 64) (number_text n ++ rest) ≡ Some (n, rest)
long_next n rest is ends = natural_next (2 ^ 64) n rest (omega (arith, is)) (omega arith) ends

pub number_exact : IsExact number_in number_text IsNumber EndsNumber
number_exact = record { next = number_next }

pub comma_ends_number : IsMark 44 EndsNumber
comma_ends_number = record { ends = λ rest. refl }

pub space_ends_number : IsMark 32 EndsNumber
space_ends_number = record { ends = λ rest. refl }

rising_numbers : (least : ℕ) (ns : List ℕ) → RisesFrom least ns → All IsNumber ns
rising_numbers least [] is = All-nil IsNumber
rising_numbers least (n ∷ ns) is = All-cons IsNumber n ns is.1 (rising_numbers (n + 1) ns is.2)

-- neither a digit nor a comma comes next
pub record EndsList (rest : List ℕ) : Type 0 where
  pub number : EndsNumber rest
  pub comma : rest_behind (codes ",") rest ≡ None

pub list_next : (ns : List ℕ) (rest : List ℕ) → IsList ns → EndsList rest → list_in (list_text ns ++ rest) ≡ Some (ns, rest)
list_next ns rest is ends = listed_next 44 number_in number_text IsNumber EndsNumber ns rest number_exact comma_ends_number
    (λ n behind small. whole_no_none (pos n) behind (omega (arith, small))) (rising_numbers 0 ns is) ends.number ends.comma ends.number

pub prices_next : (zs : List ℤ) (rest : List ℕ) → All IsWideNumber zs → EndsList rest → prices_in (prices_text zs ++ rest) ≡ Some (zs, rest)
prices_next zs rest all ends = listed_next 44 whole_in whole_text IsWideNumber EndsNumber zs rest whole_exact comma_ends_number whole_no_none all ends.number ends.comma ends.number

pub literal_exact : IsExact literal_in literal_text IsLiteral EndsNumber
literal_exact = record { next = literal_next }

pub denominator_fits : (d : ℤ) → IsDenominator d → FitsSigned w64 d
denominator_fits (pos n) is = omega (arith, ints, is.1)
denominator_fits (negsuc n) is = absurd (omega (arith, ints, is.0))

numbers_end : (zs : List ℤ) (rest : List ℕ) → EndsNumber rest → EndsNumber (spaced zs ++ rest)
numbers_end [] rest ends = ends
numbers_end (z ∷ zs) rest ends = refl

pub values_next : (d : ℤ) (zs : List ℤ) (rest : List ℕ) → AreValues d zs → EndsNumber rest → rest_behind (codes " ") rest ≡ None → values_in (whole_text d ++ spaced zs ++ rest) ≡ Some ((d, zs), rest)
unfolding values_in
values_next d zs rest is ends none =
    ap values_in (append_assoc (whole_text d) (spaced zs) rest)
    ∙ rw (narrow_next d (spaced zs ++ rest) (denominator_fits d is.0) (numbers_end zs rest ends), each_next 32 whole_in whole_text IsWideNumber EndsNumber zs rest whole_exact space_ends_number is.1 ends none) refl

pub comma_ends_fraction : IsMark 44 EndsFraction
comma_ends_fraction = record { ends = λ rest. record { number = refl; slash = refl } }

pub value_next : (fs : List Frac) (rest : List ℕ) → IsSome fs → EndsFraction rest → rest_behind (codes ",") rest ≡ None → value_in (value_text fs ++ rest) ≡ Some (fs, rest)
value_next fs rest some ends none = joined_next 44 fraction_in fraction_text (λ _. Unit {0}) EndsFraction fs rest fraction_exact comma_ends_fraction some (λ _ _ _. tt) ends none
