-- What a line of a session says, and which fault it has. A line is judged by its fields, as a line of a change file is.
use Rattle.std.specs.Prelude.{◌≡◌, ◌≤◌, ◌<◌, ◌⊎◌, ℕ, List, [], ◌∷◌, length, codes}
use Rattle.sbpl_map.specs.CellMap.{CellMap}
use Rattle.sbpl_map.specs.ChangeText.{cell_line, start_line, Give, IsCellOnMap}
use Rattle.sbpl_map.specs.LineFaults.{AreOffMap, AreOutside, HaveNoNumber}
use Rattle.sbpl_map.specs.Fields.{fields}
use Rattle.sbpl_map.specs.declared.line_fault.LineFault.{LineFault}
use Rattle.sbpl_map.specs.declared.line_fault.LineFault.TheVariants.{Word, Number, Range, OffMap}
use Rattle.sbpl_live.specs.Settings.{ArePairs, AreWants, HasNoNumber, HasOutside}
use Rattle.sbpl_live.specs.declared.spoken.Spoken.{Spoken}
use Rattle.sbpl_live.specs.declared.spoken.Spoken.TheVariants.{Nothing, Cell, Start, Goal, Plan}

-- what lines are judged by: the limit of states, the map, of which only the size counts, and the number of headings
pub record Scope : Type 0 where
  pub states : ℕ
  pub cells : CellMap
  pub headings : ℕ

abbrev pub scope_of : (states : ℕ) → CellMap → (headings : ℕ) → Scope
scope_of states m headings = record { states = states; cells = m; headings = headings }

abbrev pub goal_line : List ℕ → List ℕ → List ℕ → List (List ℕ)
goal_line x y t = codes "goal" ∷ x ∷ y ∷ t ∷ []

abbrev pub plan_line : (pairs : List (List ℕ)) → List (List ℕ)
plan_line pairs = codes "plan" ∷ pairs

-- the first field begins with `#`
abbrev pub IsNote : List (List ℕ) → Type 0
IsNote [] = ⊥
IsNote ([] ∷ more) = ⊥
IsNote ((b ∷ bs) ∷ more) = b ≡ 35

-- the line has no fields, or is a note
abbrev pub IsSilent : List (List ℕ) → Type 0
IsSilent line = (line ≡ []) ⊎ IsNote line

-- ---- what the fields say

-- three fields give a cell of the map and a third number, each in its range
abbrev pub GiveOnMap : Scope → (limit : ℕ) → List ℕ → List ℕ → List ℕ → (column row third : ℕ) → Type 0
GiveOnMap s limit x y z column row third =
    Give s.states limit x y z column row third × IsCellOnMap s.cells column row

abbrev pub FieldsSay : Scope → List (List ℕ) → Spoken → Type 0
FieldsSay s line Nothing = IsSilent line
FieldsSay s line (Cell w) =
    (x : List ℕ) × (y : List ℕ) × (c : List ℕ) × (line ≡ cell_line x y c) × GiveOnMap s 256 x y c w.x w.y w.cost
FieldsSay s line (Start p) =
    (x : List ℕ) × (y : List ℕ) × (t : List ℕ) × (line ≡ start_line x y t) × GiveOnMap s s.headings x y t p.x p.y p.t
FieldsSay s line (Goal p) =
    (x : List ℕ) × (y : List ℕ) × (t : List ℕ) × (line ≡ goal_line x y t) × GiveOnMap s s.headings x y t p.x p.y p.t
FieldsSay s line (Plan w) = (pairs : List (List ℕ)) × (line ≡ plan_line pairs) × ArePairs pairs × AreWants pairs w

-- ---- which fault they have

-- the line has three fields after its word, and this is the limit of the third
abbrev pub HasThreeFields : Scope → List (List ℕ) → (limit : ℕ) → List ℕ → List ℕ → List ℕ → Type 0
HasThreeFields s line limit x y z =
    ((line ≡ cell_line x y z) × (limit ≡ 256))
    ⊎ (((line ≡ start_line x y z) ⊎ (line ≡ goal_line x y z)) × (limit ≡ s.headings))

-- such a line, and P holds of the limit and of the fields
abbrev pub OfThreeFields : Scope → List (List ℕ) → (ℕ → List ℕ → List ℕ → List ℕ → Type 0) → Type 0
OfThreeFields s line P =
    (limit : ℕ) × (x : List ℕ) × (y : List ℕ) × (z : List ℕ) × HasThreeFields s line limit x y z × P limit x y z

-- the line asks for a plan, and P holds of the pairs that give its settings
abbrev pub OfPlan : List (List ℕ) → (List (List ℕ) → Type 0) → Type 0
OfPlan line P = (pairs : List (List ℕ)) × (line ≡ plan_line pairs) × ArePairs pairs × P pairs

-- the line says something, and is none of the lines that there are
pub record IsNoLine (s : Scope) (line : List (List ℕ)) : Type 0 where
  pub loud : IsSilent line → ⊥
  pub no_three : (limit : ℕ) (x y z : List ℕ) → HasThreeFields s line limit x y z → ⊥
  pub no_plan : (pairs : List (List ℕ)) → line ≡ plan_line pairs → ArePairs pairs → ⊥

abbrev pub FieldsHave : Scope → List (List ℕ) → LineFault → Type 0
FieldsHave s line Word = IsNoLine s line
FieldsHave s line Number = OfThreeFields s line (λ limit. HaveNoNumber) ⊎ OfPlan line HasNoNumber
FieldsHave s line Range = OfThreeFields s line (AreOutside s.states) ⊎ OfPlan line HasOutside
FieldsHave s line OffMap = OfThreeFields s line (AreOffMap s.states s.cells)

-- ---- lines

-- the line has at most 4096 bytes, and its fields say this
abbrev pub LineSays : Scope → List ℕ → Spoken → Type 0
LineSays s line said = (length line ≤ 4096) × FieldsSay s (fields line) said

-- the fault of a line: of one that is too long whatever it says, and otherwise of its fields
abbrev pub HasFault : Scope → List ℕ → LineFault → Type 0
HasFault s line fault =
    ((4096 < length line) × (fault ≡ Word)) ⊎ ((length line ≤ 4096) × FieldsHave s (fields line) fault)

abbrev pub SaysSome : Scope → List ℕ → Type 0
SaysSome s line = (said : Spoken) × LineSays s line said

abbrev pub IsFaulty : Scope → List ℕ → Type 0
IsFaulty s line = (fault : LineFault) × HasFault s line fault
