-- What the lines of a text give, read one after another.
use Rattle.std.proofs.Common.{inl, inr}
use Rattle.std.specs.Prelude.{ℕ, ℤ, pos, negsuc, ◌+◌, ◌||◌, ◌&&◌, Bool, true, false, if◌then◌else◌, nat_lt, bytes_eq, List, [], ◌∷◌, ◌++◌, map, codes, Option, Some, None, Result, Ok, Err}
use Rattle.std.specs.Str.Lines.{lines}
use Rattle.sbpl_cfg.specs.declared.pose.Place.{Place}
use Rattle.sbpl_cfg.specs.sbpl_fixed.Numbers.{whole_of}
use Rattle.sbpl_cfg.specs.sbpl_fixed.declared.fault.NumFault.{NumFault}
use Rattle.sbpl_cfg.specs.sbpl_fixed.declared.fault.NumFault.TheVariants.{Form, Size}
use Rattle.sbpl_map.specs.CellMap.{CellMap}
use Rattle.sbpl_map.specs.ChangeText.{Given, place_of, writes_of}
use Rattle.sbpl_map.specs.Fields.{fields}
use Rattle.sbpl_map.specs.declared.write.Write.{Write}
use Rattle.sbpl_map.specs.declared.said.Said.{Said}
use Rattle.sbpl_map.specs.declared.said.Said.TheVariants.{Nothing, Cell, Start, Replan}
use Rattle.sbpl_map.specs.declared.line_fault.LineFault.{LineFault}
use Rattle.sbpl_map.specs.declared.line_fault.LineFault.TheVariants as fault
use Rattle.sbpl_map.specs.declared.fault.ChangeFault.{ChangeFault}
use Rattle.sbpl_map.specs.declared.fault.ChangeFault.TheVariants.{Word, Number, Range, OffMap, NoReplan}

-- ---- a line

abbrev pub lacks_form : Result ℤ NumFault → Bool
lacks_form (Ok _) = false
lacks_form (Err Form) = true
lacks_form (Err Size) = false

-- the number that was read, where it is one from 0 and below the limit
abbrev pub in_range : (limit : ℕ) → Result ℤ NumFault → Option ℕ
in_range limit (Ok (pos n)) = if nat_lt n limit then Some n else None
in_range limit (Ok (negsuc n)) = None
in_range limit (Err _) = None

-- a cell and a third number
abbrev pub Three : Type 0
Three = ℕ × ℕ × ℕ

-- the numbers, unless one was out of range or the cell is off the map
abbrev pub on_map : CellMap → Option ℕ → Option ℕ → Option ℕ → Result Three LineFault
on_map m None y z = Err fault.Range
on_map m (Some x) None z = Err fault.Range
on_map m (Some x) (Some y) None = Err fault.Range
on_map m (Some x) (Some y) (Some z) =
    if nat_lt x m.width && nat_lt y m.height then Ok (x, y, z) else Err fault.OffMap

-- the numbers, where three were read
abbrev pub measured : (states : ℕ) → CellMap → (limit : ℕ) → Result ℤ NumFault → Result ℤ NumFault → Result ℤ NumFault
    → Result Three LineFault
measured states m limit x y z =
    if lacks_form x || (lacks_form y || lacks_form z) then Err fault.Number
    else on_map m (in_range states x) (in_range states y) (in_range limit z)

-- the fields of a list that has just three
abbrev pub three : List (List ℕ) → Option (List ℕ × List ℕ × List ℕ)
three [] = None
three (x ∷ []) = None
three (x ∷ y ∷ []) = None
three (x ∷ y ∷ z ∷ []) = Some (x, y, z)
three (x ∷ y ∷ z ∷ d ∷ more) = None

-- the numbers that the three fields after a word give
abbrev pub numbers : (states : ℕ) → CellMap → (limit : ℕ) → Option (List ℕ × List ℕ × List ℕ) → Result Three LineFault
numbers states m limit None = Err fault.Word
numbers states m limit (Some t) = measured states m limit (whole_of t.0) (whole_of t.1) (whole_of t.2)

-- the fault of the line with this number
abbrev pub at_line : ℕ → LineFault → ChangeFault
at_line at fault.Word = Word at
at_line at fault.Number = Number at
at_line at fault.Range = Range at
at_line at fault.OffMap = OffMap at

abbrev pub cell_said : ℕ → Result Three LineFault → Result Said ChangeFault
cell_said at (Ok n) = Ok (Cell (record { x = n.0; y = n.1; cost = n.2 }))
cell_said at (Err f) = Err (at_line at f)

abbrev pub start_said : ℕ → Result Three LineFault → Result Said ChangeFault
start_said at (Ok n) = Ok (Start (record { x = n.0; y = n.1; t = n.2 }))
start_said at (Err f) = Err (at_line at f)

-- where the robot is, where a line can say so
abbrev pub started : (states : ℕ) → CellMap → Option ℕ → ℕ → List (List ℕ) → Result Said ChangeFault
started states m None at more = Err (Word at)
started states m (Some headings) at more = start_said at (numbers states m headings (three more))

-- the batch ends where nothing stands after its word
abbrev pub ended : ℕ → List (List ℕ) → Result Said ChangeFault
ended at [] = Ok Replan
ended at (x ∷ more) = Err (Word at)

-- what the fields of the line with this number say, or its fault
unfoldable pub judged : (states : ℕ) → CellMap → Option ℕ → ℕ → List (List ℕ) → Result Said ChangeFault
judged states m headings at [] = Ok Nothing
judged states m headings at (word ∷ more) =
    if bytes_eq word (codes "cell") then cell_said at (numbers states m 256 (three more))
    else (if bytes_eq word (codes "start") then started states m headings at more
    else (if bytes_eq word (codes "replan") then ended at more else Err (Word at)))

-- ---- lines

-- what was read, as the lines gave it: whole batches, what was given after the last of them, and the number of the last
-- line that gave something
pub record Drafted : Type 0 where
  pub done : List (List Given)
  pub batch : List Given
  pub last : ℕ

abbrev pub nothing_read : Drafted
nothing_read = record { done = []; batch = []; last = 0 }

-- one more line, by what it says
abbrev pub drafted : Drafted → ℕ → Said → Drafted
drafted d at Nothing = d
drafted d at (Cell w) = record { done = d.done; batch = d.batch ++ inl w ∷ []; last = at }
drafted d at (Start p) = record { done = d.done; batch = d.batch ++ inr p ∷ []; last = at }
drafted d at Replan = record { done = d.done ++ d.batch ∷ []; batch = []; last = d.last }

-- at the end nothing may be left
abbrev pub closed_of : List (List Given) → List Given → ℕ → Result (List (List Given)) ChangeFault
closed_of done [] last = Ok done
closed_of done (g ∷ gs) last = Err (NoReplan last)

abbrev pub closed : Drafted → Result (List (List Given)) ChangeFault
closed d = closed_of d.done d.batch d.last

abbrev pub then_on : {X Y : Type 0} → Result X ChangeFault → (X → Result Y ChangeFault) → Result Y ChangeFault
then_on (Ok x) more = more x
then_on (Err e) more = Err e

-- the lines from this number on
unfoldable pub reads_on : (states : ℕ) → CellMap → Option ℕ → ℕ → List (List ℕ) → Drafted → Result (List (List Given)) ChangeFault
reads_on states m headings at [] d = closed d
reads_on states m headings at (line ∷ more) d =
    then_on (judged states m headings at (fields line)) (λ s. reads_on states m headings (at + 1) more (drafted d at s))

-- a whole text
abbrev pub told_by : (states : ℕ) → CellMap → Option ℕ → List ℕ → Result (List (List Given)) ChangeFault
told_by states m headings text = reads_on states m headings 1 (lines text) nothing_read

-- ---- what is kept of it: the writes of each batch, and where the robot is

pub record Kept : Type 0 where
  pub batches : List (List Write)
  pub moves : List (Option Place)
  pub batch : List Write
  pub start : Option Place
  pub last : ℕ

abbrev pub kept_of : Drafted → Kept
kept_of d = record {
  batches = map writes_of d.done;
  moves = map place_of d.done;
  batch = writes_of d.batch;
  start = place_of d.batch;
  last = d.last;
}

abbrev pub parted : Result (List (List Given)) ChangeFault
    → Result (List (List Write) × List (Option Place)) ChangeFault
parted (Ok told) = Ok (map writes_of told, map place_of told)
parted (Err f) = Err f

-- the batches without the moves
abbrev pub alone : Result (List (List Write) × List (Option Place)) ChangeFault → Result (List (List Write)) ChangeFault
alone (Ok x) = Ok x.0
alone (Err f) = Err f
