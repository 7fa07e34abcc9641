-- What the program prints of a fault of a change file, and of one line.
use Rattle.std.specs.Prelude.{ℕ, List, codes}
use Rattle.sbpl_map.specs.declared.fault.ChangeFault.{ChangeFault}
use Rattle.sbpl_map.specs.declared.fault.ChangeFault.TheVariants.{Word, Number, Range, OffMap, NoReplan, NoMemory}
use Rattle.sbpl_map.specs.declared.line_fault.LineFault.{LineFault}
use Rattle.sbpl_map.specs.declared.line_fault.LineFault.TheVariants as fault

-- its number
abbrev pub number_of : ChangeFault → ℕ
number_of (Word _) = 1
number_of (Number _) = 2
number_of (Range _) = 3
number_of (OffMap _) = 4
number_of (NoReplan _) = 5
number_of NoMemory = 0

-- its name
abbrev pub name_of : ChangeFault → List ℕ
name_of (Word _) = codes "Word"
name_of (Number _) = codes "Number"
name_of (Range _) = codes "Range"
name_of (OffMap _) = codes "OffMap"
name_of (NoReplan _) = codes "NoReplan"
name_of NoMemory = codes "NoMemory"

-- the number of its line
abbrev pub line_of : ChangeFault → ℕ
line_of (Word line) = line
line_of (Number line) = line
line_of (Range line) = line
line_of (OffMap line) = line
line_of (NoReplan line) = line
line_of NoMemory = 0

-- the name of the fault of one line
abbrev pub line_fault_name : LineFault → List ℕ
line_fault_name fault.Word = codes "Word"
line_fault_name fault.Number = codes "Number"
line_fault_name fault.Range = codes "Range"
line_fault_name fault.OffMap = codes "OffMap"
