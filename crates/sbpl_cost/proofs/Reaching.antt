-- How far the cells of strips lie.
use Rattle.std.proofs.Common.{◌≡◌, ℕ, ℤ, pos, negsuc, ◌+◌, ◌-◌, ◌<◌, ◌≤◌, ◌+ℤ◌, ◌≤ℤ◌, List, ◌++◌, take, ⊎_elim}
use Rattle.std.proofs.Common.{slice_get, Some, arith, ap, ◌∙◌, subst, nat_abs, SFits, w64}
use Rattle.std.proofs.lemmas.Int.{ints}
use Rattle.sbpl_sweep.specs.sbpl_cfg.Environment.{IsWithin}
use Rattle.sbpl_terrain.specs.sbpl_map.CellMap.{CellMap, IsOnMap}
use Rattle.sbpl_sweep.specs.declared.cell.Cell.{Cell}
use Rattle.sbpl_cost.specs.declared.reach.Reach.{Reach}
use Rattle.sbpl_cost.specs.declared.strip.Strip.{Strip}
use Rattle.sbpl_cost.specs.Judging.{IsNear}
use Rattle.sbpl_cost.specs.Reaches.{AreOnMap, IsAsFar, IsInside, IsUpTo, LieWithin}
use Rattle.sbpl_cost.specs.Strips.{cells_in, strip_cells}
use Rattle.sbpl_cost.proofs.Filling.{take_next}
use Rattle.sbpl_cost.proofs.Stripping.{among_strips, in_either, row_at, strips_then, within_row}

-- an offset is no further than a number that is at least its distance
pub up_to : (z : ℤ) (far : ℕ) → nat_abs z ≤ far → IsUpTo far z
up_to (pos n) far h = (omega (arith, ints), omega (arith, ints, h))
up_to (negsuc n) far h = (omega (arith, ints, h), omega (arith, ints))

pub near_distance : (z : ℤ) → IsWithin (negsuc 10000000000000) (pos 10000000000000) z → nat_abs z ≤ 10000000000001
near_distance (pos n) near = omega (arith, ints, near.1)
near_distance (negsuc n) near = omega (arith, ints, near.0)

further : (z : ℤ) (far more : ℕ) → far ≤ more → IsUpTo far z → IsUpTo more z
further z far more h up = (omega (arith, ints, h, up.0), omega (arith, ints, h, up.1))

between : (low z high : ℤ) (far : ℕ) → low ≤ℤ z → z ≤ℤ high → IsUpTo far low → IsUpTo far high → IsUpTo far z
between low z high far above below first last =
    (omega (arith, ints, above, first.0), omega (arith, ints, below, last.1))

-- ---- one strip

module _ (strip : Strip) (some : 0 < strip.len)
    (near : (i : ℕ) (c : Cell) → slice_get (strip_cells strip) i ≡ Some c → IsNear c) where
  first : IsNear (record { y = strip.y; x = strip.from +ℤ pos 0 })
  first = near 0 (record { y = strip.y; x = strip.from +ℤ pos 0 }) (row_at strip.y strip.from strip.len 0 some)

  last : IsNear (record { y = strip.y; x = strip.from +ℤ pos (strip.len - 1) })
  last =
      near (strip.len - 1) (record { y = strip.y; x = strip.from +ℤ pos (strip.len - 1) })
      (row_at strip.y strip.from strip.len (strip.len - 1) (omega (arith, some)))

  pub near_from : IsWithin (negsuc 10000000000000) (pos 10000000000000) strip.from
  near_from = (omega (arith, ints, first.0.0), omega (arith, ints, first.0.1))

  pub near_last : IsWithin (negsuc 10000000000000) (pos 10000000000000) (strip.from +ℤ pos (strip.len - 1))
  near_last = last.0

  pub near_row : IsWithin (negsuc 10000000000000) (pos 10000000000000) strip.y
  near_row = first.1

pub fits : (z : ℤ) → IsWithin (negsuc 10000000000000) (pos 10000000000000) z → SFits w64 z
fits (pos n) near = record { sfits = omega (arith, ints, near.1) }
fits (negsuc n) near = record { sfits = omega (arith, ints, near.0) }

-- the cells of a strip lie within a reach that has its first and its last one
pub strip_within : (strip : Strip) (r : Reach) → IsUpTo r.columns strip.from
    → IsUpTo r.columns (strip.from +ℤ pos (strip.len - 1)) → IsUpTo r.rows strip.y → LieWithin r (strip_cells strip)
strip_within strip r from last row i c h =
    let cell = within_row strip.y strip.from strip.len i c h in
    subst (λ (d : Cell). IsUpTo r.columns d.x × IsUpTo r.rows d.y) cell.1 (
      between strip.from (strip.from +ℤ pos i) (strip.from +ℤ pos (strip.len - 1)) r.columns (omega (arith, ints))
          (omega (arith, ints, cell.0)) from last,
      row,
    )

-- ---- strips one after another

pub kept_within : (before after : Reach) (cells : List Cell) → IsAsFar before after
    → LieWithin before cells → LieWithin after cells
kept_within before after cells far within i c h =
    let cell = within i c h in
    (further c.x before.columns after.columns far.0 cell.0, further c.y before.rows after.rows far.1 cell.1)

pub empty_within : (strip : Strip) (r : Reach) → strip.len ≤ 0 → LieWithin r (strip_cells strip)
empty_within strip r none i c h =
    let inside = (within_row strip.y strip.from strip.len i c h).0 in absurd (omega (arith, none, inside))

pub within_more : (r : Reach) (strips : List Strip) (i : ℕ) (strip : Strip) → slice_get strips i ≡ Some strip
    → LieWithin r (cells_in (take i strips)) → LieWithin r (strip_cells strip)
    → LieWithin r (cells_in (take (i + 1) strips))
within_more r strips i strip at before here k c h =
    let both : slice_get (cells_in (take i strips) ++ strip_cells strip) k ≡ Some c =
    subst (λ (cells : List Cell). slice_get cells k ≡ Some c)
    (ap cells_in (take_next strips i strip at) ∙ strips_then (take i strips) strip) h in
    ⊎_elim (λ first. before k c first) (λ second. here second.0 c second.1)
    (in_either (cells_in (take i strips)) (strip_cells strip) k c both)

-- ---- on the map

module _ (m : CellMap) (x y : ℕ) where
  -- the first cell of a strip whose cells are on the map is on the map, and so is the last one
  pub first_on_map : (strip : Strip) → 0 < strip.len → AreOnMap m (strip_cells strip) x y
      → IsOnMap m (pos x +ℤ strip.from) (pos y +ℤ strip.y)
  first_on_map strip some on =
      let first = on 0 (record { y = strip.y; x = strip.from +ℤ pos 0 }) (row_at strip.y strip.from strip.len 0 some) in
      record {
        left = omega (arith, ints, first.left);
        right = omega (arith, ints, first.right);
        low = first.low;
        high = first.high;
      }

  pub last_on_map : (strip : Strip) → 0 < strip.len → AreOnMap m (strip_cells strip) x y
      → ((pos x +ℤ strip.from) +ℤ pos strip.len) ≤ℤ pos m.width
  last_on_map strip some on =
      let last =
      on (strip.len - 1) (record { y = strip.y; x = strip.from +ℤ pos (strip.len - 1) })
      (row_at strip.y strip.from strip.len (strip.len - 1) (omega (arith, some))) in
      omega (arith, ints, last.right, some)

  pub strip_on_map : (strips : List Strip) (i : ℕ) (strip : Strip) → slice_get strips i ≡ Some strip
      → AreOnMap m (cells_in strips) x y → AreOnMap m (strip_cells strip) x y
  strip_on_map strips i strip at on k c h = let there = among_strips strips i k strip c at h in on there.0 c there.1

  -- cells within a reach that is on the map are on the map
  pub within_on_map : (r : Reach) (cells : List Cell) → IsInside r m x y → LieWithin r cells → AreOnMap m cells x y
  within_on_map r cells inside within i c h =
      let cell = within i c h in
      record {
        left = omega (arith, ints, inside.left, cell.0.0);
        right = omega (arith, ints, inside.right, cell.0.1);
        low = omega (arith, ints, inside.low, cell.1.0);
        high = omega (arith, ints, inside.high, cell.1.1);
      }
