-- The map after batches of changes.
use Rattle.std.specs.Prelude.{◌≡◌, ℕ, ℤ, pos, negsuc, ◌&&◌, ◌==◌, Bool, false, if◌then◌else◌, List, [], ◌∷◌, take, Option, Some, None}
use Rattle.std.specs.List.{flat_map}
use Rattle.sbpl_map.specs.CellMap.{CellMap, cost_at, ChangesCell}
use Rattle.sbpl_map.specs.declared.write.Write.{Write}

-- the write is to cell (x, y)
abbrev pub is_to : Write → ℤ → ℤ → Bool
is_to w (pos x) (pos y) = (w.x == x) && (w.y == y)
is_to w (pos x) (negsuc y) = false
is_to w (negsuc x) y = false

-- what was found, or otherwise the other
abbrev pub found_or : Option ℕ → Option ℕ → Option ℕ
found_or (Some c) other = Some c
found_or None other = other

-- the cost of the last write to cell (x, y), none where there is no write to it
unfoldable pub last_cost : List Write → ℤ → ℤ → Option ℕ
last_cost [] x y = None
last_cost (w ∷ later) x y = found_or (last_cost later x y) (if is_to w x y then Some w.cost else None)

-- the writes of the first k batches, in their order
abbrev pub first_writes : List (List Write) → ℕ → List Write
first_writes batches k = flat_map (λ batch. batch) (take k batches)

-- the cost of cell (x, y) after the first k batches: of the last write to it, or its cost before where there is none
abbrev pub cost_after : CellMap → List (List Write) → ℕ → ℤ → ℤ → Option ℕ
cost_after first batches k x y = found_or (last_cost (first_writes batches k) x y) (cost_at first x y)

-- the map after the first k batches
pub record IsMapAfter (first : CellMap) (batches : List (List Write)) (k : ℕ) (now : CellMap) : Type 0 where
  pub width : now.width ≡ first.width
  pub height : now.height ≡ first.height
  pub costs : (x y : ℤ) → cost_at now x y ≡ cost_after first batches k x y

-- the writes are made in turn, and lead from one map to the other
abbrev pub AreWritten : CellMap → List Write → CellMap → Type 0
AreWritten old [] new = new ≡ old
AreWritten old (w ∷ later) new = (m : CellMap) × ChangesCell old m (pos w.x) (pos w.y) w.cost × AreWritten m later new
