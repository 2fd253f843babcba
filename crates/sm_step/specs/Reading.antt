-- Reading from the left: what stands at the front of a text, and the rest behind it.
use Rattle.std.specs.Prelude.{◌≡◌, ◌&&◌, ◌+◌, ◌^◌, ◌==◌, ℕ, suc, zero, ℤ, pos, negsuc, neg_ℤ, Bool, false, List, [], ◌∷◌, length, take, drop, nat_lt, codes, Option, Some, None, option_map, option_and_then, if◌then◌else◌}
use Rattle.std.specs.List.{prefix_len}
use Rattle.std.specs.Int.{is_in_range}
use Rattle.std.specs.Str.{bytes_eq}
use Rattle.std.specs.Str.Parse.{digits_value}
use Rattle.sm_base.specs.Whole.{whole_text}

-- a part and the rest behind it, or nothing where no such part stands at the front
abbrev pub Reads : Type 0 → Type 0
Reads X = List ℕ → Option (X × List ℕ)

abbrev pub done : {X : Type 0} → X → Reads X
done x bytes = Some (x, bytes)

abbrev pub follow : {X Y : Type 0} → Option (X × List ℕ) → (X → Reads Y) → Option (Y × List ℕ)
follow None next = None
follow (Some front) next = next front.0 front.1

-- one part, and then what comes behind it
infixl 10 ◌>>=◌
abbrev pub ◌>>=◌ : {X Y : Type 0} → Reads X → (X → Reads Y) → Reads Y
(part >>= next) bytes = follow (part bytes) next

-- what stands behind this text, if it is at the front
abbrev pub rest_behind : List ℕ → List ℕ → Option (List ℕ)
rest_behind [] bytes = Some bytes
rest_behind (c ∷ cs) [] = None
rest_behind (c ∷ cs) (b ∷ bs) = if c == b then rest_behind cs bs else None

-- the first part where the text came, and else the other
abbrev pub choose : {X : Type 0} → Option (List ℕ) → Reads X → Option (X × List ℕ) → Option (X × List ℕ)
choose None part other = other
choose (Some rest) part other = part rest

-- one part behind what this front passes over, and another where it isn't there
abbrev pub either : {X : Type 0} → (List ℕ → Option (List ℕ)) → Reads X → Reads X → Reads X
either front part other bytes = choose (front bytes) part (other bytes)

-- a part behind what this front passes over
abbrev pub ahead : {X : Type 0} → (List ℕ → Option (List ℕ)) → Reads X → Reads X
ahead front part bytes = choose (front bytes) part None

-- a part behind this text
abbrev pub behind : {X : Type 0} → List ℕ → Reads X → Reads X
behind text = ahead (rest_behind text)

abbrev pub is_digit : ℕ → Bool
is_digit b = is_in_range 48 57 b

abbrev pub fits_whole : ℤ → Bool
fits_whole (pos n) = nat_lt n (2 ^ 127)
fits_whole (negsuc n) = nat_lt n (2 ^ 127)

-- what a sign and digits write
abbrev pub written : List ℕ → ℤ
written [] = pos 0
written (b ∷ bs) = if b == 45 then neg_ℤ (pos (digits_value 10 bs)) else pos (digits_value 10 (b ∷ bs))

abbrev pub whole_if : ℤ → List ℕ → Option ℤ
whole_if z text = if fits_whole z && bytes_eq (whole_text z) text then Some z else None

-- the whole number whose text this is
unfoldable pub whole_of : List ℕ → Option ℤ
whole_of text = whole_if (written text) text

-- how many bytes at the front are a sign and digits
abbrev pub whole_length : List ℕ → ℕ
whole_length [] = 0
whole_length (b ∷ bs) = if b == 45 then 1 + prefix_len is_digit bs else prefix_len is_digit (b ∷ bs)

unfoldable pub whole_in : Reads ℤ
whole_in bytes = option_map (λ z. (z, drop (whole_length bytes) bytes)) (whole_of (take (whole_length bytes) bytes))

abbrev pub natural : ℕ → ℤ → Reads ℕ
natural limit (pos n) bytes = if nat_lt n limit then Some (n, bytes) else None
natural limit (negsuc n) bytes = None

-- a number below a limit
abbrev pub natural_in : ℕ → Reads ℕ
natural_in limit = whole_in >>= natural limit

-- no digit comes next, so a number is over
abbrev pub EndsNumber : List ℕ → Type 0
EndsNumber [] = Unit {0}
EndsNumber (b ∷ bs) = is_digit b ≡ false

-- parts, each after a mark, as long as the mark comes; at most so many
abbrev pub each_up_to : {X : Type 0} → ℕ → Reads X → ℕ → Reads (List X)
each_up_to mark part zero bytes = None
each_up_to mark part (suc most) bytes = choose (rest_behind (mark ∷ []) bytes) (part >>= λ x. each_up_to mark part most >>= λ xs. done (x ∷ xs)) (Some ([], bytes))

-- the same without a limit, since each mark is a byte
unfoldable pub each_in : {X : Type 0} → ℕ → Reads X → Reads (List X)
each_in mark part bytes = each_up_to mark part (suc (length bytes)) bytes

abbrev pub fits_narrow : ℤ → Bool
fits_narrow (pos n) = nat_lt n (2 ^ 63)
fits_narrow (negsuc n) = nat_lt n (2 ^ 63)

abbrev pub narrow : ℤ → Reads ℤ
narrow z bytes = if fits_narrow z then Some (z, bytes) else None

-- a whole number of 64 bits
unfoldable pub narrow_in : Reads ℤ
narrow_in = whole_in >>= narrow

-- one or more parts with a mark between them
unfoldable pub joined_in : {X : Type 0} → ℕ → Reads X → Reads (List X)
joined_in mark part = part >>= λ x. each_in mark part >>= λ xs. done (x ∷ xs)

abbrev pub begins_with_digit : List ℕ → Bool
begins_with_digit [] = false
begins_with_digit (b ∷ bs) = is_digit b

abbrev pub unless_digit : List ℕ → Option (List ℕ)
unless_digit rest = if begins_with_digit rest then None else Some rest

-- what stands behind a `-` that is no number's sign
unfoldable pub rest_behind_none : List ℕ → Option (List ℕ)
rest_behind_none bytes = option_and_then unless_digit (rest_behind (codes "-") bytes)

-- parts with a mark between them, or a `-` for none
unfoldable pub listed_in : {X : Type 0} → ℕ → Reads X → Reads (List X)
listed_in mark part = either rest_behind_none (done []) (joined_in mark part)

-- a number of 32 bits
abbrev pub number_in : Reads ℕ
number_in = natural_in (2 ^ 32)

-- numbers joined by commas, or a `-` for none
abbrev pub list_in : Reads (List ℕ)
list_in = listed_in 44 number_in

-- whole numbers joined by commas, or a `-` for none
abbrev pub prices_in : Reads (List ℤ)
prices_in = listed_in 44 whole_in

-- nothing, at the end of the text
abbrev pub end_in : List ℕ → Option (List ℕ)
end_in [] = Some []
end_in (b ∷ bs) = None
