-- Lists that lie one after another in one table.
use Rattle.std.specs.Prelude.{◌≡◌, ℕ, ◌+◌, ◌-◌, ◌<◌, ◌≤◌, List, [], ◌∷◌, length, slice_range, slice_index}

-- the lists from a start on
abbrev pub lists_from : {X : Type 0} → List X → ℕ → List ℕ → List (List X)
lists_from items a [] = []
lists_from items a (b ∷ starts) = slice_range items a b ∷ lists_from items b starts

-- the lists between each start and the next
abbrev pub lists_between : {X : Type 0} → List X → List ℕ → List (List X)
lists_between items [] = []
lists_between items (a ∷ starts) = lists_from items a starts

-- starts do not fall, and the last one is the table's end
pub record AreStarts (len : ℕ) (starts : List ℕ) : Type 0 where
  pub some : 1 ≤ length starts
  pub rising : (i : ℕ) → i + 1 < length starts → slice_index starts i ≤ slice_index starts (i + 1)
  pub inside : (i : ℕ) → slice_index starts i ≤ len
  pub whole : slice_index starts (length starts - 1) ≡ len
