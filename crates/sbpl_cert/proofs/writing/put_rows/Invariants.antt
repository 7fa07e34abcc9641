use Rattle.std.proofs.Common.{◌≡◌, ◌++◌, drop}
use Rattle.std.specs.List.{flat_map}
use Rattle.sbpl_cert.specs.Printed.{BeginsWith}
use Rattle.sbpl_cert.proofs.writing.put_rows.Given as goal

-- what is written, and the rows that are left, are what stood before and all rows
abbrev pub invariant-loop-row : goal.invariant-loop-row
invariant-loop-row g l = record {
  text : l.out.items ++ flat_map g.R.RowText.text (drop l.row-index l.rows)
      ≡ l.fn.out.items ++ flat_map g.R.RowText.text l.rows;
  kept : BeginsWith l.fn.out.items l.out.items;
}
