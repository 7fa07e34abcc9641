-- Texts of numbers stand in one line: they have no line feed.
use Rattle.std.proofs.Common.{◌≡◌, ℕ, zero, suc, ◌+◌, ◌/◌, ◌%◌, ◌^◌, ◌≤◌, ◌==◌, ◌||◌, Bool, true, false, sym}
use Rattle.std.proofs.Common.{if◌then◌else◌, List, [], ◌∷◌, ◌++◌, decimal, nat_lt, refl, arith}
use Rattle.std.proofs.lemmas.Bool.{false≢true, ne_eqb}
use Rattle.std.specs.Fmt.{digit_glyph, digits, digits_onto}
use Rattle.std.specs.List.{list_any}
use Rattle.sbpl_promises.specs.sbpl_fixed.Printed.{last_digits, milli_text}

-- one of the bytes is a line feed
abbrev has_feed : List ℕ → Bool
has_feed bytes = list_any (λ byte. byte == 10) bytes

-- a greater byte is none
no_feed : (b : ℕ) → 48 ≤ b → (b == 10) ≡ false
no_feed b h = ne_eqb b 10 (λ e. omega (arith, e, h))

-- where the first byte is none, the rest says it
both_parts : (here first both : Bool) → (here || first) ≡ false → (first ≡ false → both ≡ false)
    → (here || both) ≡ false
both_parts true first both h rest = absurd (false≢true (sym h))
both_parts false first both h rest = rest h

-- a byte that is none, before a text without one
none_before : (b : ℕ) (after : List ℕ) → 48 ≤ b → has_feed after ≡ false → has_feed (b ∷ after) ≡ false
none_before b after above h = rw (no_feed b above) h

-- where none of two texts has one, both together have none
none_in_both : (a b : List ℕ) → has_feed a ≡ false → has_feed b ≡ false → has_feed (a ++ b) ≡ false
none_in_both [] b first second = second
none_in_both (x ∷ a) b first second = both_parts (x == 10) (has_feed a) (has_feed (a ++ b)) first
    (λ rest. none_in_both a b rest second)

-- what holds of both holds of either
either : {X : Type 0} (P : X → Type 0) (b : Bool) (x y : X) → P x → P y → P (if b then x else y)
either P true x y here there = here
either P false x y here there = there

-- a digit is a greater byte
glyph_above : (d : ℕ) → 48 ≤ digit_glyph false d
glyph_above d = either (λ g. 48 ≤ g) (nat_lt d 10) (48 + d) (87 + d) (omega arith) (omega arith)

-- digits before a text without one
digits_before : (k n : ℕ) (after : List ℕ) → has_feed after ≡ false → has_feed (digits_onto k 10 false n after) ≡ false
digits_before zero n after h = h
digits_before (suc k) n after h =
    let more : has_feed (digit_glyph false (n % 10) ∷ after) ≡ false =
    none_before (digit_glyph false (n % 10)) after (glyph_above (n % 10)) h in
    either (λ text. has_feed text ≡ false) (n / 10 == 0) (digit_glyph false (n % 10) ∷ after)
    (digits_onto k 10 false (n / 10) (digit_glyph false (n % 10) ∷ after)) more
    (digits_before k (n / 10) (digit_glyph false (n % 10) ∷ after) more)

-- a number in decimal digits
pub decimal_in_line : (n : ℕ) → has_feed (decimal n) ≡ false
unfolding digits
decimal_in_line n = digits_before 64 n [] refl

-- the last digits of a number
last_in_line : (count n : ℕ) → has_feed (last_digits count n) ≡ false
unfolding last_digits
last_in_line zero n = refl
last_in_line (suc count) n =
    none_in_both (last_digits count (n / 10)) ((48 + n % 10) ∷ []) (last_in_line count (n / 10))
    (none_before (48 + n % 10) [] (omega arith) refl)

-- thousandths
pub milli_in_line : (n : ℕ) → has_feed (milli_text n) ≡ false
milli_in_line n =
    none_in_both (decimal (n / 10 ^ 3)) (46 ∷ last_digits 3 (n % 10 ^ 3)) (decimal_in_line (n / 10 ^ 3))
    (last_in_line 3 (n % 10 ^ 3))
