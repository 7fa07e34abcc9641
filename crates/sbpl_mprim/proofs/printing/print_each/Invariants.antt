use Rattle.std.proofs.Common.{◌≡◌, ◌++◌, take}
use Rattle.std.specs.List.{flat_map}
use Rattle.sbpl_fixed.specs.Printed.{lines_text}
use Rattle.sbpl_mprim.specs.Printed.{prim_lines}
use Rattle.sbpl_mprim.proofs.printing.print_each.Given as goal

abbrev pub invariant-loop-prim : goal.invariant-loop-prim
invariant-loop-prim l =
    l.out.items ≡ l.initial.out.items ++ lines_text (flat_map prim_lines (take l.prim-index l.prims))
