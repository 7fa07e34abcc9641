-- Whole numbers and decimals, with their values.
use Rattle.std.specs.Prelude.{ℕ, ◌+◌, ◌-◌, ◌*◌, ◌^◌, Bool, false, not, ◌&&◌, ◌||◌, if◌then◌else◌, ◌==◌, nat_le, nat_lt, List, [], ◌∷◌, length, map, take, drop, slice_index_or, ℤ, pos, neg_ℤ, Result, Ok, Err}
use Rattle.std.specs.List.{list_all, prefix_len}
use Rattle.sbpl_fixed.specs.declared.fault.NumFault.{NumFault}
use Rattle.sbpl_fixed.specs.declared.fault.NumFault.TheVariants.{Form, Size}

-- '0' to '9'
abbrev pub is_digit : ℕ → Bool
is_digit b = nat_le 48 b && nat_le b 57

abbrev pub all_digits : List ℕ → Bool
all_digits bytes = list_all is_digit bytes

-- the number that digits write after those of n
unfoldable pub number_after : ℕ → List ℕ → ℕ
number_after n [] = n
number_after n (d ∷ ds) = number_after (n * 10 + (d - 48)) ds

abbrev pub number_of : List ℕ → ℕ
number_of digits = number_after 0 digits

-- a minus stands first
abbrev pub is_minus : List ℕ → Bool
is_minus [] = false
is_minus (b ∷ _) = b == 45

-- without a leading plus or minus
abbrev pub without_sign : List ℕ → List ℕ
without_sign [] = []
without_sign (b ∷ bs) = if (b == 43) || (b == 45) then bs else b ∷ bs

-- the greatest absolute value that a number may have
abbrev pub most : ℕ
most = 10 ^ 18

abbrev pub signed : Bool → ℕ → ℤ
signed minus n = if minus then neg_ℤ (pos n) else pos n

abbrev pub sized : Bool → ℕ → Result ℤ NumFault
sized minus n = if nat_le n most then Ok (signed minus n) else Err Size

-- one or more digits and no other byte
abbrev pub is_whole : List ℕ → Bool
is_whole body = nat_lt 0 (length body) && all_digits body

-- what a text says as a whole number
unfoldable pub whole_of : List ℕ → Result ℤ NumFault
whole_of text = if is_whole (without_sign text) then sized (is_minus text) (number_of (without_sign text)) else Err Form

abbrev pub is_no_point : ℕ → Bool
is_no_point b = not (b == 46)

-- what stands before the first point, or all
abbrev pub whole_part : List ℕ → List ℕ
whole_part body = take (prefix_len is_no_point body) body

-- what stands after the first point, or nothing
abbrev pub decimals_part : List ℕ → List ℕ
decimals_part body = drop (prefix_len is_no_point body + 1) body

-- digits with at most one point among, before or after them, and at least one digit
abbrev pub is_decimal : List ℕ → Bool
is_decimal body = nat_lt 0 (length (whole_part body) + length (decimals_part body)) && (all_digits (whole_part body) && all_digits (decimals_part body))

-- the first nine decimals; those that are missing count as '0'
abbrev pub nine_decimals : List ℕ → List ℕ
nine_decimals ds = map (λ i. slice_index_or ds i 48) (0 ∷ 1 ∷ 2 ∷ 3 ∷ 4 ∷ 5 ∷ 6 ∷ 7 ∷ 8 ∷ [])

-- billionths in the number of a whole part and its decimals
abbrev pub nano_number : List ℕ → ℕ
nano_number body = number_of (whole_part body) * 10 ^ 9 + number_of (nine_decimals (decimals_part body))

-- what a text says as a decimal, in billionths
unfoldable pub nano_of : List ℕ → Result ℤ NumFault
nano_of text = if is_decimal (without_sign text) then sized (is_minus text) (nano_number (without_sign text)) else Err Form
