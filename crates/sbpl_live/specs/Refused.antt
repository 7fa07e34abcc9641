-- How a refused line is told.
use Rattle.std.specs.Prelude.{ℕ, List, [], ◌∷◌, codes, decimal}
use Rattle.sbpl_map.specs.Faults.{line_fault_name}
use Rattle.sbpl_map.specs.declared.line_fault.LineFault.{LineFault}
use Rattle.sbpl_job.specs.sbpl_fixed.Printed.{line_text}

-- the number of the line, from 1, and the name of its fault
abbrev pub refused_text : (n : ℕ) → LineFault → List ℕ
refused_text n fault = line_text (codes "refused" ∷ codes "line" ∷ decimal n ∷ line_fault_name fault ∷ [])
