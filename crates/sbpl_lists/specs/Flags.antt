-- Flags that lie side by side in words of 64 bits.
use Rattle.std.specs.Prelude.{ℕ, ◌/◌, ◌%◌, Bool, List, slice_index, nat_eq}
use Rattle.std.specs.Int.{bit_at}

-- words of flags, and how many flags there are
pub record Flags : Type 0 where
  pub words : List ℕ
  pub len : ℕ

-- whether the flag at this place is set
abbrev pub is_set : Flags → ℕ → Bool
is_set flags i = nat_eq (bit_at (slice_index flags.words (i / 64)) (i % 64)) 1
