-- What the text of changes is: its lines, one after another, and what each of them says. Lines are those of std's
-- `lines`: the text is cut at its line feeds, and one carriage return right before a line feed is dropped; after the last
-- line feed stands one more line, as it is, unless it is empty. Where a number of headings is given, a line can say where
-- the robot is from the batch on that it stands in; where none is given, there are no such lines.
use Rattle.std.proofs.Common.{inl, inr}
use Rattle.std.specs.Prelude.{◌≡◌, ◌≢◌, ◌⊎◌, ℕ, pos, ◌<◌, List, [], ◌∷◌, ◌++◌, map, codes, Ok, Option, Some, None}
use Rattle.std.specs.List.{filter, filter_map, flat_map, last_or, AllByRecursion}
use Rattle.std.specs.Str.Lines.{lines}
use Rattle.sbpl_cfg.specs.declared.pose.Place.{Place}
use Rattle.sbpl_cfg.specs.sbpl_fixed.Numbers.{whole_of}
use Rattle.sbpl_map.specs.CellMap.{CellMap}
use Rattle.sbpl_map.specs.Fields.{fields, has_some}
use Rattle.sbpl_map.specs.declared.write.Write.{Write}
use Rattle.sbpl_map.specs.declared.said.Said.{Said}
use Rattle.sbpl_map.specs.declared.said.Said.TheVariants.{Nothing, Cell, Start, Replan}

-- ---- lines

abbrev pub replan_line : List (List ℕ)
replan_line = codes "replan" ∷ []

abbrev pub cell_line : List ℕ → List ℕ → List ℕ → List (List ℕ)
cell_line x y c = codes "cell" ∷ x ∷ y ∷ c ∷ []

abbrev pub start_line : List ℕ → List ℕ → List ℕ → List (List ℕ)
start_line x y t = codes "start" ∷ x ∷ y ∷ t ∷ []

-- The line has three fields after its word, and this is the limit of the third: 256 for a cell's cost, and for a
-- start's heading the number of headings, where one is given.
abbrev pub HasThree : Option ℕ → List (List ℕ) → (limit : ℕ) → List ℕ → List ℕ → List ℕ → Type 0
HasThree headings line limit x y z =
    ((line ≡ cell_line x y z) × (limit ≡ 256)) ⊎ ((line ≡ start_line x y z) × (headings ≡ Some limit))

-- the field is a whole number from 0 and below the limit, and this one
abbrev pub IsNumberBelow : ℕ → List ℕ → ℕ → Type 0
IsNumberBelow limit field n = (whole_of field ≡ Ok (pos n)) × (n < limit)

-- three fields give a cell and a third number, each in its range; a column and a row are below the limit of states
pub record Give (states limit : ℕ) (x y z : List ℕ) (column row third : ℕ) : Type 0 where
  pub x_is : IsNumberBelow states x column
  pub y_is : IsNumberBelow states y row
  pub z_is : IsNumberBelow limit z third

-- the cell is on the map
pub record IsCellOnMap (m : CellMap) (column row : ℕ) : Type 0 where
  pub x : column < m.width
  pub y : row < m.height

-- the write is to a cell of the map
abbrev pub IsWriteOnMap : CellMap → Write → Type 0
IsWriteOnMap m w = IsCellOnMap m w.x w.y

-- the fields of a line say nothing, a write to the map, where the robot is, or that the batch ends
abbrev pub LineTells : (states : ℕ) → CellMap → Option ℕ → List (List ℕ) → Said → Type 0
LineTells states m headings line Nothing = line ≡ []
LineTells states m headings line (Cell w) =
    (x : List ℕ) × (y : List ℕ) × (c : List ℕ) × (line ≡ cell_line x y c) × Give states 256 x y c w.x w.y w.cost
    × IsWriteOnMap m w
LineTells states m headings line (Start p) =
    (x : List ℕ) × (y : List ℕ) × (t : List ℕ) × (line ≡ start_line x y t)
    × ((limit : ℕ) × (headings ≡ Some limit) × Give states limit x y t p.x p.y p.t) × IsCellOnMap m p.x p.y
LineTells states m headings line Replan = line ≡ replan_line

-- ---- texts

-- the lines of a text that have fields, each as the list of these
abbrev pub lines_with_fields : List (List ℕ) → List (List (List ℕ))
lines_with_fields text_lines = filter has_some (map fields text_lines)

-- each says what stands at its index in the list, and both have the same length
abbrev pub LinesTell : (states : ℕ) → CellMap → Option ℕ → List (List (List ℕ)) → List Said → Type 0
LinesTell states m headings [] [] = Unit {0}
LinesTell states m headings [] (said ∷ more) = ⊥
LinesTell states m headings (line ∷ others) [] = ⊥
LinesTell states m headings (line ∷ others) (said ∷ more) =
    LineTells states m headings line said × LinesTell states m headings others more

-- what a line of a batch gives: a write, or where the robot is
abbrev pub Given : Type 0
Given = Write ⊎ Place

abbrev pub said_by : Given → Said
said_by (inl w) = Cell w
said_by (inr p) = Start p

-- what the lines of a batch give, and its end
abbrev pub spelled_batch : List Given → List Said
spelled_batch batch = map said_by batch ++ Replan ∷ []

-- The text stands for the batches, each as what its lines give: its lines that have fields are those of the batches and
-- their ends, one after another.
abbrev pub StandsFor : (states : ℕ) → CellMap → Option ℕ → List ℕ → List (List Given) → Type 0
StandsFor states m headings text told = LinesTell states m headings (lines_with_fields (lines text)) (flat_map spelled_batch told)

-- ---- texts of writes alone

abbrev pub writes_alone : List (List Write) → List (List Given)
writes_alone batches = map (λ batch. map (λ w. inl w) batch) batches

abbrev pub LinesSay : (states : ℕ) → CellMap → List (List (List ℕ)) → List Said → Type 0
LinesSay states m told_lines said = LinesTell states m None told_lines said

abbrev pub spelled : List (List Write) → List Said
spelled batches = flat_map spelled_batch (writes_alone batches)

-- the text stands for the batches, and no line says where a robot is
abbrev pub IsTextOf : (states : ℕ) → CellMap → List ℕ → List (List Write) → Type 0
IsTextOf states m text batches = StandsFor states m None text (writes_alone batches)

-- the text stands for batches
abbrev pub IsText : (states : ℕ) → CellMap → List ℕ → Type 0
IsText states m text = (batches : List (List Write)) × IsTextOf states m text batches

-- each write is to a cell of the map
abbrev pub AreOnMap : CellMap → List (List Write) → Type 0
AreOnMap m batches = AllByRecursion (λ batch. AllByRecursion (λ w. IsWriteOnMap m w) batch) batches

-- ---- texts of writes and of where a robot is

abbrev pub write_in : Given → Option Write
write_in (inl w) = Some w
write_in (inr p) = None

abbrev pub place_in : Given → Option Place
place_in (inl w) = None
place_in (inr p) = Some p

-- the writes of a batch, in their order
abbrev pub writes_of : List Given → List Write
writes_of batch = filter_map write_in batch

-- where the robot is by the last line of a batch that says so, none where no line does
abbrev pub place_of : List Given → Option Place
place_of batch = last_or None (filter_map place_in batch)

-- the text stands for the batches of writes, and for one place or none for each batch
abbrev pub IsMovesTextOf : (states : ℕ) → CellMap → (headings : ℕ) → List ℕ → List (List Write) → List (Option Place) → Type 0
IsMovesTextOf states m headings text batches moves =
    (told : List (List Given)) × StandsFor states m (Some headings) text told × (batches ≡ map writes_of told) ×
    (moves ≡ map place_of told)

abbrev pub IsMovesText : (states : ℕ) → CellMap → (headings : ℕ) → List ℕ → Type 0
IsMovesText states m headings text =
    (batches : List (List Write)) × (moves : List (Option Place)) × IsMovesTextOf states m headings text batches moves

-- where there is a place, its cell is on the map and its heading is below the number of headings
abbrev pub IsPlaceOnMap : CellMap → (headings : ℕ) → Option Place → Type 0
IsPlaceOnMap m headings None = Unit {0}
IsPlaceOnMap m headings (Some p) = IsCellOnMap m p.x p.y × (p.t < headings)

abbrev pub ArePlacesOnMap : CellMap → (headings : ℕ) → List (Option Place) → Type 0
ArePlacesOnMap m headings moves = AllByRecursion (λ o. IsPlaceOnMap m headings o) moves

-- ---- texts without lines that say where a robot is

-- the line's first field is another word than a start's
abbrev pub IsNoStart : List (List ℕ) → Type 0
IsNoStart [] = Unit {0}
IsNoStart (word ∷ more) = word ≢ codes "start"

abbrev pub HasNoStarts : List ℕ → Type 0
HasNoStarts text = AllByRecursion (λ line. IsNoStart (fields line)) (lines text)

-- no place for each of the batches
abbrev pub no_moves : List (List Write) → List (Option Place)
no_moves batches = map (λ _. None) batches
