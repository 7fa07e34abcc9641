-- The faults of a text of changes. Where a number of headings is given, lines can say where a robot is; where none is
-- given, such a line is one of another word.
use Rattle.std.specs.Prelude.{◌≡◌, ◌≢◌, ℕ, ℤ, pos, ◌+◌, ◌<ℤ◌, ◌≤ℤ◌, ◌⊎◌, List, [], ◌∷◌, ◌++◌, length, Option, Some, None, Ok, Err}
use Rattle.std.specs.List.{AllByRecursion}
use Rattle.std.specs.Str.Lines.{lines}
use Rattle.sbpl_cfg.specs.sbpl_fixed.Numbers.{whole_of}
use Rattle.sbpl_cfg.specs.sbpl_fixed.declared.fault.NumFault.TheVariants.{Form, Size}
use Rattle.sbpl_map.specs.CellMap.{CellMap}
use Rattle.sbpl_map.specs.ChangeText.{replan_line, Give, Given, HasThree, IsCellOnMap, LineTells, said_by}
use Rattle.sbpl_map.specs.Fields.{fields}
use Rattle.sbpl_map.specs.declared.said.Said.{Said}
use Rattle.sbpl_map.specs.declared.fault.ChangeFault.{ChangeFault}
use Rattle.sbpl_map.specs.declared.fault.ChangeFault.TheVariants.{Word, Number, Range, OffMap, NoReplan, NoMemory}

-- ---- of a line, by its fields

-- the line has fields, and it is neither the word of a batch's end nor a word with the three fields that it wants
pub record IsOther (headings : Option ℕ) (line : List (List ℕ)) : Type 0 where
  pub some : line ≢ []
  pub no_replan : line ≢ replan_line
  pub no_three : (limit : ℕ) (x y z : List ℕ) → HasThree headings line limit x y z → ⊥

-- a field is not a whole number
abbrev pub IsNoNumber : List ℕ → Type 0
IsNoNumber field = whole_of field ≡ Err Form

-- a field is a whole number, and not one from 0 and below the limit
abbrev pub IsOutside : (limit : ℕ) → List ℕ → Type 0
IsOutside limit field =
    (whole_of field ≡ Err Size) ⊎ ((n : ℤ) × (whole_of field ≡ Ok n) × ((n <ℤ pos 0) ⊎ (pos limit ≤ℤ n)))

-- one of the three is not a whole number
abbrev pub HaveNoNumber : List ℕ → List ℕ → List ℕ → Type 0
HaveNoNumber x y z = IsNoNumber x ⊎ (IsNoNumber y ⊎ IsNoNumber z)

-- all three are, and one lies outside its range
pub record AreOutside (states limit : ℕ) (x y z : List ℕ) : Type 0 where
  pub numbers : HaveNoNumber x y z → ⊥
  pub outside : IsOutside states x ⊎ (IsOutside states y ⊎ IsOutside limit z)

-- all three lie in their ranges, and the cell is not on the map
abbrev pub AreOffMap : (states : ℕ) → CellMap → (limit : ℕ) → List ℕ → List ℕ → List ℕ → Type 0
AreOffMap states m limit x y z =
    (column : ℕ) × (row : ℕ) × (third : ℕ) × Give states limit x y z column row third × (IsCellOnMap m column row → ⊥)

-- the line has three fields after its word, and P holds of the limit of the third and of the fields
abbrev pub OfThree : Option ℕ → List (List ℕ) → (ℕ → List ℕ → List ℕ → List ℕ → Type 0) → Type 0
OfThree headings line P =
    (limit : ℕ) × (x : List ℕ) × (y : List ℕ) × (z : List ℕ) × HasThree headings line limit x y z × P limit x y z

-- the fault of the line with this number
abbrev pub HasLineFault : (states : ℕ) → CellMap → Option ℕ → ℕ → List (List ℕ) → ChangeFault → Type 0
HasLineFault states m headings at line (Word n) = (n ≡ at) × IsOther headings line
HasLineFault states m headings at line (Number n) = (n ≡ at) × OfThree headings line (λ limit. HaveNoNumber)
HasLineFault states m headings at line (Range n) = (n ≡ at) × OfThree headings line (AreOutside states)
HasLineFault states m headings at line (OffMap n) = (n ≡ at) × OfThree headings line (AreOffMap states m)
HasLineFault states m headings at line (NoReplan n) = ⊥
HasLineFault states m headings at line NoMemory = ⊥

-- ---- of a text, by its lines

-- no line has a fault: each says something, or nothing because it has no fields
abbrev pub AreSound : (states : ℕ) → CellMap → Option ℕ → List (List ℕ) → Type 0
AreSound states m headings text_lines = AllByRecursion (λ line. (s : Said) × LineTells states m headings (fields line) s) text_lines

-- The first of the lines with a fault has this one. The lines are numbered from `first`.
pub record IsFirstFault (states : ℕ) (m : CellMap) (headings : Option ℕ) (first : ℕ) (text_lines : List (List ℕ)) (f : ChangeFault)
    : Type 0 where
  pub before : List (List ℕ)
  pub line : List ℕ
  pub after : List (List ℕ)
  pub parts : text_lines ≡ before ++ line ∷ after
  pub sound : AreSound states m headings before
  pub fault : HasLineFault states m headings (first + length before) (fields line) f

-- No line has a fault, and the last one that has fields, which has this number, is that of a cell or of a start.
pub record LacksReplan (states : ℕ) (m : CellMap) (headings : Option ℕ) (first : ℕ) (text_lines : List (List ℕ)) (at : ℕ)
    : Type 0 where
  pub before : List (List ℕ)
  pub line : List ℕ
  pub after : List (List ℕ)
  pub parts : text_lines ≡ before ++ line ∷ after
  pub sound : AreSound states m headings before
  pub given : Given
  pub gives : LineTells states m headings (fields line) (said_by given)
  pub skipped : AllByRecursion (λ l. fields l ≡ []) after
  pub number : at ≡ first + length before

-- The text's fault is that of its first faulty line; where no line is faulty, that of a cell's or a start's line after
-- which no batch ends.
abbrev pub HasTextFault : (states : ℕ) → CellMap → Option ℕ → List ℕ → ChangeFault → Type 0
HasTextFault states m headings text f =
    IsFirstFault states m headings 1 (lines text) f
    ⊎ ((at : ℕ) × (f ≡ NoReplan at) × LacksReplan states m headings 1 (lines text) at)

-- the fault where no line can say where a robot is
abbrev pub HasFault : (states : ℕ) → CellMap → List ℕ → ChangeFault → Type 0
HasFault states m text f = HasTextFault states m None text f

abbrev pub IsFaulty : (states : ℕ) → CellMap → List ℕ → Type 0
IsFaulty states m text = (f : ChangeFault) × (f ≢ NoMemory) × HasFault states m text f

-- and where lines can, with headings below this number
abbrev pub HasMovesFault : (states : ℕ) → CellMap → (headings : ℕ) → List ℕ → ChangeFault → Type 0
HasMovesFault states m headings text f = HasTextFault states m (Some headings) text f

abbrev pub IsMovesFaulty : (states : ℕ) → CellMap → (headings : ℕ) → List ℕ → Type 0
IsMovesFaulty states m headings text = (f : ChangeFault) × (f ≢ NoMemory) × HasMovesFault states m headings text f
