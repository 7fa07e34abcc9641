-- Which bytes write which number, in plain words.
use Rattle.std.specs.Prelude.{◌≡◌, ◌≢◌, ◌⊎◌, ℕ, ◌≤◌, List, [], ◌∷◌, ◌++◌, take, replicate, ℤ, pos, neg_ℤ}
use Rattle.std.specs.List.{AllByRecursion}
use Rattle.std.specs.Str.Parse.{digits_value}

-- one or more bytes from '0' to '9'
abbrev pub AreDigits : List ℕ → Type 0
AreDigits bytes = (bytes ≢ []) × AllByRecursion (λ b. (48 ≤ b) × (b ≤ 57)) bytes

-- the bytes are these, with a sign before them or none, and z is n with that sign
abbrev pub IsSigned : (bytes body : List ℕ) → ℕ → ℤ → Type 0
IsSigned bytes body n z = ((bytes ≡ 45 ∷ body) × (z ≡ neg_ℤ (pos n))) ⊎ (((bytes ≡ 43 ∷ body) ⊎ (bytes ≡ body)) × (z ≡ pos n))

abbrev pub IsNumber : List ℕ → ℤ → Type 0
IsNumber bytes z = (digits : List ℕ) × AreDigits digits × IsSigned bytes digits (digits_value 10 digits) z

-- a decimal, in billionths: the first nine decimals count, and those that are missing are zeros
abbrev pub IsNanos : List ℕ → ℤ → Type 0
IsNanos bytes z =
    (whole : List ℕ) × (decimals : List ℕ) × (body : List ℕ) × AreDigits (whole ++ decimals)
    × ((body ≡ whole ++ 46 ∷ decimals) ⊎ ((body ≡ whole) × (decimals ≡ [])))
    × IsSigned bytes body (digits_value 10 (whole ++ take 9 (decimals ++ replicate 9 48))) z
