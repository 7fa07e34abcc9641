-- Bits of a word under a mask.
use Rattle.std.proofs.Common.{◌≡◌, ℕ, zero, suc, ◌+◌, ◌-◌, ◌*◌, ◌/◌, ◌%◌, ◌^◌, ◌<◌, ◌≤◌, ◌⊎◌, inl, inr, min, ap, sym}
use Rattle.std.proofs.Common.{◌∙◌, subst, arith}
use Rattle.std.specs.Prelude.{bit_and, true, nat_eq, slice_index}
use Rattle.sbpl_lists.specs.Flags.{Flags, is_set}
use Rattle.std.specs.Int.{bit_at}
use Rattle.std.proofs.lemmas.Bool.{cases_eq, cases_lt}
use Rattle.std.proofs.lemmas.Nat.Bits.{bit_at_and, bit_at-lt, bit_at-zero, bit_at_mask_inside, bit_at_mask_below}
use Rattle.std.proofs.lemmas.Nat.Bits.{bit_at_mask_above, ones_shr, same_from_bits}

-- `u64::MAX >> (64 - high)`
pub ones_below : (high : ℕ) → high ≤ 64 → 18446744073709551615 / 2 ^ (64 - high) ≡ 2 ^ high - 1
ones_below high inside =
    let shifted : 64 - high ≤ 64 = omega arith in
    let back : 64 - (64 - high) ≡ high = omega arith in
    ones_shr 64 (64 - high) shifted ∙ ap (λ k. 2 ^ k - 1) back

-- a word has no bit set from `low` up to `high`
abbrev pub HasNone : ℕ → ℕ → ℕ → Type 0
HasNone word low high = (k : ℕ) → low ≤ k → k < high → bit_at word k ≡ 0

-- a word has some bit set there
abbrev pub HasSome : ℕ → ℕ → ℕ → Type 0
HasSome word low high = (k : ℕ) × (low ≤ k) × (k < high) × (bit_at word k ≡ 1)

pub none_under : (word mask low high : ℕ) → mask ≡ 2 ^ high - 2 ^ low → bit_and word mask ≡ 0 → HasNone word low high
none_under word mask low high is clear k from below =
    let one : bit_at mask k ≡ 1 = ap (λ m. bit_at m k) is ∙ bit_at_mask_inside low high k from below in
    let gone : bit_at (bit_and word mask) k ≡ 0 = ap (λ m. bit_at m k) clear ∙ bit_at-zero k in
    omega (arith, bit_at_and word mask k, bit_at-lt word k)

-- where no bit is set there, nothing is left under the mask
clear_under : (word low high : ℕ) → HasNone word low high → bit_and word (2 ^ high - 2 ^ low) ≡ 0
clear_under word low high none =
    same_from_bits (bit_and word (2 ^ high - 2 ^ low)) 0
    (λ i. bit_at_and word (2 ^ high - 2 ^ low) i ∙ each i ∙ sym (bit_at-zero i))
  where
    each : (i : ℕ) → min (bit_at word i) (bit_at (2 ^ high - 2 ^ low) i) ≡ 0
    each i =
        elim (cases_lt i low) [
          | inl below ↦ omega (arith, bit_at_mask_below low high i below)
          | inr from ↦ elim (cases_lt i high) [
            | inl under ↦ omega (arith, none i from under)
            | inr above ↦ omega (arith, bit_at_mask_above low high i above)
          ]
        ]

-- a look at each bit finds one that is set, or finds that there is none
look : (word low n : ℕ) → HasNone word low (low + n) ⊎ HasSome word low (low + n)
look word low zero = inl (λ k from below. absurd (omega arith))
look word low (suc n) =
    elim (look word low n) [
      | inr some ↦ inr (some.0, some.1, omega (arith, some.2), some.3)
      | inl none ↦ elim (cases_eq (bit_at word (low + n)) 0) [
        | inl clear ↦ inl (λ k from below. more none clear k from below)
        | inr set ↦ inr (low + n, omega arith, omega arith, omega (arith, bit_at-lt word (low + n)))
      ]
    ]
  where
    more : HasNone word low (low + n) → bit_at word (low + n) ≡ 0 → HasNone word low (low + suc n)
    more none clear k from below =
        elim (cases_lt k (low + n)) [
          | inl lt ↦ none k from lt
          | inr ge ↦ let same : k ≡ low + n = omega arith in ap (bit_at word) same ∙ clear
        ]

pub some_under : (word mask low high : ℕ) → low < high → mask ≡ 2 ^ high - 2 ^ low
    → (bit_and word mask ≡ 0 → ⊥) → HasSome word low high
some_under word mask low high some is left =
    let whole : low + (high - low) ≡ high = omega arith in
    elim (look word low (high - low)) [
      | inl none ↦
          absurd (left (ap (bit_and word) is ∙ clear_under word low high (subst (HasNone word low) whole none)))
      | inr found ↦ subst (HasSome word low) whole found
    ]

-- a bit that is set in the word of a place is a flag that is set
pub found : (flags : Flags) (word from at step to : ℕ) → word ≡ slice_index flags.words (at / 64) → from ≤ at → at < to
    → step ≤ to - at → step + at % 64 ≤ 64
    → HasSome word (at % 64) (step + at % 64) → (i : ℕ) × (from ≤ i) × (i < to) × (is_set flags i ≡ true)
found flags word from at step to is begun left inside whole some =
    let k : ℕ = some.0 in
    let i : ℕ = at / 64 * 64 + k in
    let low : at % 64 ≤ k = some.1 in
    let high : k < step + at % 64 = some.2 in
    let place : i / 64 ≡ at / 64 = omega arith in
    let bit : i % 64 ≡ k = omega arith in (
      i,
      omega arith,
      omega arith,
      ap (λ q. nat_eq (bit_at (slice_index flags.words q) (i % 64)) 1) place
          ∙ ap (λ j. nat_eq (bit_at (slice_index flags.words (at / 64)) j) 1) bit
          ∙ ap (λ w. nat_eq (bit_at w k) 1) (sym is)
          ∙ ap (λ b. nat_eq b 1) some.3,
    )
