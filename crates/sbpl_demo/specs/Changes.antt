-- The changes that are drawn.
use Rattle.std.specs.Prelude.{ℕ, zero, suc, ◌-◌, ◌*◌, ◌%◌, Bool, ◌&&◌, ◌||◌, List, [], ◌∷◌, ◌++◌, if◌then◌else◌, nat_eq}
use Rattle.sbpl_cost.specs.sbpl_map.declared.write.Write.{Write}
use Rattle.sbpl_demo.specs.Generator.{draw, word_after}

-- whether a cell is the start's or the end's
abbrev pub is_end : ℕ → ℕ → ℕ → ℕ → Bool
is_end width height x y = (nat_eq x 1 && nat_eq y 1) || (nat_eq x (width - 2) && nat_eq y (height - 2))

-- the write of a cost to a cell, none to the start's cell and the end's
abbrev pub cell_writes : ℕ → ℕ → ℕ → ℕ → ℕ → List Write
cell_writes width height x y cost = if is_end width height x y then [] else record { x = x; y = y; cost = cost } ∷ []

-- an odd draw makes an obstacle
abbrev pub change_cost : ℕ → ℕ
change_cost drawn = if nat_eq (drawn % 2) 1 then 254 else 0

-- a change takes three draws, from the word `from`: for x, for y and for the cost
unfoldable pub change : ℕ → ℕ → ℕ → List Write
change width height from =
    cell_writes width height (draw 0 from % width) (draw 1 from % height) (change_cost (draw 2 from))

-- the writes of n changes
unfoldable pub writes : ℕ → ℕ → ℕ → ℕ → List Write
writes width height zero from = []
writes width height (suc n) from = writes width height n from ++ change width height (word_after (3 * n) from)

-- n batches of eight changes
unfoldable pub batches : ℕ → ℕ → ℕ → ℕ → List (List Write)
batches width height zero from = []
batches width height (suc n) from = batches width height n from ++ writes width height 8 (word_after (24 * n) from) ∷ []

-- the batches of a file: three, drawn after the costs of the map
abbrev pub changes_drawn : ℕ → ℕ → ℕ → List (List Write)
changes_drawn width height seed = batches width height 3 (word_after (width * height) seed)
