-- The lines that list what a primitive costs and which cells it sweeps.
use Rattle.std.specs.Prelude.{ℕ, List, [], ◌++◌, length, map, flat_map, slice_get, Option, Some, codes, decimal}
use Rattle.std.specs.Fmt.{signed_decimal}
use Rattle.std.specs.List.{range_with_len}
use Rattle.sbpl_cost.specs.sbpl_mprim.declared.prim.Primitive.{Primitive}
use Rattle.sbpl_cost.specs.sbpl_sweep.declared.cell.Cell.{Cell}
use Rattle.sbpl_cost.specs.PrimitiveCost.{primitive_cost}
use Rattle.sbpl_cost.specs.World.{World}
use Rattle.sbpl_report.specs.Report.{line_feed}

-- a cell, as offset from the source cell: its column and its row
unfoldable pub offset_text : Cell → List ℕ
offset_text c = signed_decimal c.x ++ (codes " " ++ signed_decimal c.y)

-- the line of a cell
unfoldable pub cell_text : List ℕ → Cell → List ℕ
cell_text word c = word ++ (codes " " ++ (offset_text c ++ line_feed))

-- the lines of cells
abbrev pub cells_text : List ℕ → List Cell → List ℕ
cells_text word cells = flat_map (cell_text word) cells

-- where a primitive leads: cell and heading
unfoldable pub end_text : Primitive → List ℕ
end_text p = signed_decimal p.dx ++ (codes " " ++ (signed_decimal p.dy ++ (codes " " ++ decimal p.to)))

-- the line of a primitive: its start heading, its id, where it leads, and its cost
unfoldable pub prim_text : Primitive → ℕ → List ℕ
prim_text p cost = codes "prim " ++ (decimal p.from ++ (codes " " ++ (decimal p.id ++ (codes " to " ++ (end_text p ++ (codes " cost " ++ (decimal cost ++ line_feed)))))))

-- the line of a primitive, and those of its centre cells and of its swept cells
unfoldable pub listing_text : Primitive → ℕ → List Cell → List Cell → List ℕ
listing_text p cost centres swept = prim_text p cost ++ (cells_text (codes "centre") centres ++ cells_text (codes "swept") swept)

-- the lines of the primitive at a place of the file
abbrev pub listing_by : World → Option Primitive → Option (List Cell) → Option (List Cell) → List ℕ
listing_by w (Some p) (Some centres) (Some swept) = listing_text p (primitive_cost w.env p) centres swept
listing_by w _ _ _ = []

abbrev pub listing_at : World → ℕ → List ℕ
listing_at w i = listing_by w (slice_get w.prims.items i) (slice_get w.sweeps.centres i) (slice_get w.sweeps.swept i)

-- the lines of all primitives in the order of the file
abbrev pub listings : World → List (List ℕ)
listings w = map (listing_at w) (range_with_len 0 (length w.prims.items))
