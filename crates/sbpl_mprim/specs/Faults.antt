-- What the program prints of a fault, and the faults that every text of tokens can have.
use Rattle.std.specs.Prelude.{ℕ, List, codes}
use Rattle.sbpl_fixed.specs.declared.fault.TextFault.{TextFault}
use Rattle.sbpl_fixed.specs.declared.fault.TextFault.TheVariants as common
use Rattle.sbpl_mprim.specs.declared.fault.PrimFault.{PrimFault}
use Rattle.sbpl_mprim.specs.declared.fault.PrimFault.TheVariants.{Word, Number, Range, Ended, Trailing, Resolution, Angles, EndCell, EndHeading, NoPose, SameId, ZeroCost, TooLarge, NoMemory}

-- its number
abbrev pub number_of : PrimFault → ℕ
number_of (Word _) = 1
number_of (Number _) = 2
number_of (Range _) = 3
number_of (Ended _) = 4
number_of (Trailing _) = 5
number_of (Resolution _) = 6
number_of (Angles _) = 7
number_of (EndCell _) = 8
number_of (EndHeading _) = 9
number_of (NoPose _) = 10
number_of (SameId _) = 11
number_of (ZeroCost _) = 12
number_of (TooLarge _) = 13
number_of NoMemory = 0

-- its name
abbrev pub name_of : PrimFault → List ℕ
name_of (Word _) = codes "Word"
name_of (Number _) = codes "Number"
name_of (Range _) = codes "Range"
name_of (Ended _) = codes "Ended"
name_of (Trailing _) = codes "Trailing"
name_of (Resolution _) = codes "Resolution"
name_of (Angles _) = codes "Angles"
name_of (EndCell _) = codes "EndCell"
name_of (EndHeading _) = codes "EndHeading"
name_of (NoPose _) = codes "NoPose"
name_of (SameId _) = codes "SameId"
name_of (ZeroCost _) = codes "ZeroCost"
name_of (TooLarge _) = codes "TooLarge"
name_of NoMemory = codes "NoMemory"

-- its place, an offset in the text
abbrev pub place_of : PrimFault → ℕ
place_of (Word place) = place
place_of (Number place) = place
place_of (Range place) = place
place_of (Ended place) = place
place_of (Trailing place) = place
place_of (Resolution place) = place
place_of (Angles place) = place
place_of (EndCell place) = place
place_of (EndHeading place) = place
place_of (NoPose place) = place
place_of (SameId place) = place
place_of (ZeroCost place) = place
place_of (TooLarge place) = place
place_of NoMemory = 0

-- the faults that every text of tokens can have
abbrev pub told : TextFault → PrimFault
told (common.Word place) = Word place
told (common.Number place) = Number place
told (common.Range place) = Range place
told (common.Ended place) = Ended place
told (common.Trailing place) = Trailing place
