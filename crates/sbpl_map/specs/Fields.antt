-- The fields of a line.
use Rattle.std.specs.Prelude.{ℕ, Bool, true, false, not, ◌||◌, ◌==◌, List, [], ◌∷◌}
use Rattle.std.specs.List.{filter, slice_split}

-- space and tab
abbrev pub is_parting : ℕ → Bool
is_parting b = (b == 32) || (b == 9)

abbrev pub is_in_field : ℕ → Bool
is_in_field b = not (is_parting b)

-- all but the line feed
abbrev pub is_in_line : ℕ → Bool
is_in_line b = not (b == 10)

abbrev pub has_some : {X : Type 0} → List X → Bool
has_some [] = false
has_some (x ∷ xs) = true

-- a line is cut at each space and tab, and what is not empty is a field
abbrev pub fields : List ℕ → List (List ℕ)
fields line = filter has_some (slice_split is_parting line)
