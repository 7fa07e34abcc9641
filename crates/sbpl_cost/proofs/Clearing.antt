-- What the bits of a strip's cells say of its cells.
use Rattle.std.proofs.Common.{◌≡◌, ℕ, ℤ, pos, negsuc, ◌+◌, ◌-◌, ◌*◌, ◌<◌, ◌≤◌, ◌+ℤ◌, ◌≤ℤ◌, ◌⊎◌, ◌&&◌, true, false}
use Rattle.std.proofs.Common.{nat_le, nat_lt, List, ◌++◌, take, ⊎_elim, length, slice_get, slice_index_or, Option, Some}
use Rattle.std.proofs.Common.{IsSomeAnd, arith, sym, ap, ◌∙◌, subst}
use Rattle.std.proofs.lemmas.Bool.{and_from, cond-true, lt-ltb}
use Rattle.std.proofs.lemmas.Bool.Decides.{nat_tests}
use Rattle.std.proofs.lemmas.Int.{ints}
use Rattle.std.proofs.lemmas.Nat.{mul-add-lt}
use Rattle.std.proofs.lemmas.Option.{slice_get-get_or}
use Rattle.sbpl_sweep.specs.sbpl_lists.Flags.{Flags, is_set}
use Rattle.sbpl_sweep.specs.sbpl_cfg.Environment.{IsWithin}
use Rattle.sbpl_terrain.specs.sbpl_map.CellMap.{CellMap, IsCellMap, IsOnMap, cost_at, index_in}
use Rattle.sbpl_sweep.specs.declared.cell.Cell.{Cell}
use Rattle.sbpl_cost.specs.declared.strip.Strip.{Strip}
use Rattle.sbpl_cost.specs.Judging.{AreBelow, IsCellBelow, IsNear, IsSomeBlocked}
use Rattle.sbpl_cost.specs.Strips.{cells_in, strip_cells}
use Rattle.sbpl_cost.specs.Walls.{AreWalls}
use Rattle.sbpl_cost.proofs.LatticeLaws.{has_cost, on_map_where_cost}
use Rattle.sbpl_cost.proofs.Filling.{take_next}
use Rattle.sbpl_cost.proofs.Stripping.{among_strips, in_either, row_at, strips_then, within_row}

below_by : (o : Option ℕ) (c limit : ℕ) → o ≡ Some c → c < limit → IsSomeAnd o (λ k. k < limit)
below_by o c limit is less = subst (λ (p : Option ℕ). IsSomeAnd p (λ k. k < limit)) (sym is) less

not_below_by : (o : Option ℕ) (c limit : ℕ) → o ≡ Some c → limit ≤ c → IsSomeAnd o (λ k. k < limit) → ⊥
not_below_by o c limit is more below =
    let less : c < limit = subst (λ (p : Option ℕ). IsSomeAnd p (λ k. k < limit)) is below in omega (arith, more, less)

less_where_false : (limit c : ℕ) → nat_le limit c ≡ false → c < limit
less_where_false limit c e = grind (arith, nat_tests)

more_where_true : (limit c : ℕ) → nat_le limit c ≡ true → limit ≤ c
more_where_true limit c e = grind (arith, nat_tests)

-- a strip of a row ends within the bits
pub ends_inside : (m : CellMap) (limit : ℕ) (walls : Flags) → IsCellMap m → AreWalls limit m.costs walls
    → (row from len : ℕ) → 0 < len → row < m.height → from + len ≤ m.width
    → row * m.width + from + len ≤ walls.len
ends_inside m limit walls is_map are row from len some high right =
    omega (
      arith,
      mul-add-lt row m.width (from + (len - 1)) m.height high (omega (arith, some, right)),
      is_map.cells,
      are.len,
      some,
    )

-- the first cell of a strip is not far off
pub near_first : (strip : Strip) → 0 < strip.len
    → ((i : ℕ) (c : Cell) → slice_get (strip_cells strip) i ≡ Some c → IsNear c)
    → IsWithin (negsuc 10000000000000) (pos 10000000000000) strip.from
    × IsWithin (negsuc 10000000000000) (pos 10000000000000) strip.y
near_first strip some near =
    let first = near 0 (record { y = strip.y; x = strip.from +ℤ pos 0 }) (row_at strip.y strip.from strip.len 0 some) in
    ((omega (arith, ints, first.0.0), omega (arith, ints, first.0.1)), first.1)

module _ (m : CellMap) (limit : ℕ) (is_map : IsCellMap m) (x y : ℕ) (strip : Strip) where
  -- a cell of the strip that is not on the map
  pub blocked_off : (i : ℕ) → i < strip.len → (IsOnMap m (pos x +ℤ (strip.from +ℤ pos i)) (pos y +ℤ strip.y) → ⊥)
      → IsSomeBlocked m (strip_cells strip) (pos x) (pos y) limit
  blocked_off i inside off = record {
    number = i;
    cell = record { y = strip.y; x = strip.from +ℤ pos i };
    at = row_at strip.y strip.from strip.len i inside;
    blocked = λ below.
        let cost = has_cost (cost_at m (pos x +ℤ (strip.from +ℤ pos i)) (pos y +ℤ strip.y)) limit below in
        off (on_map_where_cost m (pos x +ℤ (strip.from +ℤ pos i)) (pos y +ℤ strip.y) cost.0 is_map cost.1).0;
  }

  -- a strip of a row that is not on the map, from a column that is not, or past the last column
  pub off_row : 0 < strip.len → ((pos y +ℤ strip.y) ≤ℤ negsuc 0) ⊎ (pos m.height ≤ℤ (pos y +ℤ strip.y))
      → IsSomeBlocked m (strip_cells strip) (pos x) (pos y) limit
  off_row some off = blocked_off 0 some
      (λ on. ⊎_elim (λ low. omega (arith, ints, low, on.low)) (λ far. omega (arith, ints, far, on.high)) off)

  pub off_first : 0 < strip.len → ((pos x +ℤ strip.from) ≤ℤ negsuc 0) ⊎ (pos m.width ≤ℤ (pos x +ℤ strip.from))
      → IsSomeBlocked m (strip_cells strip) (pos x) (pos y) limit
  off_first some off = blocked_off 0 some
      (λ on. ⊎_elim (λ low. omega (arith, ints, low, on.left)) (λ far. omega (arith, ints, far, on.right)) off)

  pub off_last : 0 < strip.len → (from : ℕ) → pos x +ℤ strip.from ≡ pos from → m.width < from + strip.len
      → IsSomeBlocked m (strip_cells strip) (pos x) (pos y) limit
  off_last some from is past =
      blocked_off (strip.len - 1) (omega (arith, some)) (λ on. omega (arith, ints, is, past, some, on.right))

  module _ (walls : Flags) (are : AreWalls limit m.costs walls) (row from : ℕ) (row_is : pos y +ℤ strip.y ≡ pos row)
      (from_is : pos x +ℤ strip.from ≡ pos from)
      (high : row < m.height) (right : from + strip.len ≤ m.width) where
    cell_cost : (i : ℕ) → i < strip.len
        → cost_at m (pos x +ℤ (strip.from +ℤ pos i)) (pos y +ℤ strip.y)
        ≡ Some (slice_index_or m.costs (row * m.width + (from + i)) 0)
    cell_cost i inside =
        let column : pos x +ℤ (strip.from +ℤ pos i) ≡ pos (from + i) = omega (arith, ints, from_is) in
        let fits : from + i < m.width = omega (arith, right, inside) in
        let place : row * m.width + (from + i) < m.width * m.height =
        mul-add-lt row m.width (from + i) m.height high fits in
        let short : row * m.width + (from + i) < length m.costs = omega (arith, place, is_map.cells) in
        let index : index_in m (pos (from + i)) (pos row) ≡ Some (row * m.width + (from + i)) =
        cond-true (nat_lt (from + i) m.width && nat_lt row m.height) _ _
        (and_from (nat_lt (from + i) m.width) (nat_lt row m.height) (lt-ltb _ _ fits) (lt-ltb _ _ high)) in
        rw (column, row_is, index) (slice_get-get_or m.costs (row * m.width + (from + i)) 0 short)

    short_of : (i : ℕ) → i < strip.len → row * m.width + (from + i) < length m.costs
    short_of i inside =
        let fits : from + i < m.width = omega (arith, right, inside) in
        let place : row * m.width + (from + i) < m.width * m.height =
        mul-add-lt row m.width (from + i) m.height high fits in
        omega (arith, place, is_map.cells)

    below_at : (i : ℕ) → i < strip.len → is_set walls (row * m.width + (from + i)) ≡ false
        → IsCellBelow m (pos x +ℤ (strip.from +ℤ pos i)) (pos y +ℤ strip.y) limit
    below_at i inside clear =
        let place = row * m.width + (from + i) in
        below_by _ (slice_index_or m.costs place 0) limit (cell_cost i inside)
        (less_where_false limit (slice_index_or m.costs place 0) (sym (are.each place (short_of i inside)) ∙ clear))

    pub clear_below : ((j : ℕ) → row * m.width + from ≤ j → j < row * m.width + from + strip.len
        → is_set walls j ≡ false) → AreBelow m (strip_cells strip) (pos x) (pos y) limit
    clear_below clear i c h =
        let cell = within_row strip.y strip.from strip.len i c h in
        subst (λ (d : Cell). IsCellBelow m (pos x +ℤ d.x) (pos y +ℤ d.y) limit) cell.1
        (below_at i cell.0 (clear (row * m.width + (from + i)) (omega arith) (omega (arith, cell.0))))

    pub wall_blocks : (j : ℕ) → row * m.width + from ≤ j → j < row * m.width + from + strip.len → is_set walls j ≡ true
        → IsSomeBlocked m (strip_cells strip) (pos x) (pos y) limit
    wall_blocks j low top wall =
        let i = j - (row * m.width + from) in
        let inside : i < strip.len = omega (arith, low, top) in
        let same : row * m.width + (from + i) ≡ j = omega (arith, low) in
        let set : is_set walls (row * m.width + (from + i)) ≡ true = ap (is_set walls) same ∙ wall in
        record {
          number = i;
          cell = record { y = strip.y; x = strip.from +ℤ pos i };
          at = row_at strip.y strip.from strip.len i inside;
          blocked = not_below_by _ (slice_index_or m.costs (row * m.width + (from + i)) 0) limit (cell_cost i inside)
              (more_where_true limit (slice_index_or m.costs (row * m.width + (from + i)) 0)
              (sym (are.each (row * m.width + (from + i)) (short_of i inside)) ∙ set));
        }

-- ---- strips one after another

-- a strip without a cell
pub empty_below : (m : CellMap) (x y : ℤ) (limit : ℕ) (strip : Strip) → strip.len ≤ 0
    → AreBelow m (strip_cells strip) x y limit
empty_below m x y limit strip none i c h =
    let inside = (within_row strip.y strip.from strip.len i c h).0 in absurd (omega (arith, none, inside))

module _ (m : CellMap) (x y : ℤ) (limit : ℕ) (strips : List Strip) (i : ℕ) (strip : Strip)
    (at : slice_get strips i ≡ Some strip) where
  -- one more strip that is clear
  pub below_strips : AreBelow m (cells_in (take i strips)) x y limit → AreBelow m (strip_cells strip) x y limit
      → AreBelow m (cells_in (take (i + 1) strips)) x y limit
  below_strips before here k c h =
      let both : slice_get (cells_in (take i strips) ++ strip_cells strip) k ≡ Some c =
      subst (λ (cells : List Cell). slice_get cells k ≡ Some c)
      (ap cells_in (take_next strips i strip at) ∙ strips_then (take i strips) strip) h in
      ⊎_elim (λ first. before k c first) (λ second. here second.0 c second.1)
      (in_either (cells_in (take i strips)) (strip_cells strip) k c both)

  pub blocked_strips : IsSomeBlocked m (strip_cells strip) x y limit → IsSomeBlocked m (cells_in strips) x y limit
  blocked_strips some =
      let there = among_strips strips i some.number strip some.cell at some.at in
      record { number = there.0; cell = some.cell; at = there.1; blocked = some.blocked }

pub near_strip : (strips : List Strip) (i : ℕ) (strip : Strip) → slice_get strips i ≡ Some strip
    → ((k : ℕ) (c : Cell) → slice_get (cells_in strips) k ≡ Some c → IsNear c)
    → (k : ℕ) (c : Cell) → slice_get (strip_cells strip) k ≡ Some c → IsNear c
near_strip strips i strip at near k c h = let there = among_strips strips i k strip c at h in near there.0 c there.1
