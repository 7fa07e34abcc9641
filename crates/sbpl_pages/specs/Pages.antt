-- Lists that are kept by pages of 256 elements.
use Rattle.std.specs.Prelude.{◌≡◌, ℕ, zero, suc, ◌+◌, ◌*◌, ◌/◌, ◌%◌, ◌^◌, ◌<◌, ◌≤◌, List, [], ◌∷◌, length, slice_index, slice_index_or}

-- where element i lies among the frames: at its place in the frame of its page
abbrev pub place_of : List ℕ → ℕ → ℕ
place_of table i = 256 * slice_index table (i / 256) + i % 256

abbrev pub element : {T : Type 0} → List ℕ → List T → T → ℕ → T
element table frames initial i = slice_index_or frames (place_of table i) initial

-- this many elements, from number `first` on
abbrev pub elements : {T : Type 0} → List ℕ → List T → T → (first count : ℕ) → List T
elements table frames initial first zero = []
elements table frames initial first (suc count) =
    element table frames initial first ∷ elements table frames initial (suc first) count

-- how many pages have no frame of their own
abbrev pub unopened : List ℕ → ℕ
unopened [] = 0
unopened (zero ∷ table) = suc (unopened table)
unopened (suc frame ∷ table) = unopened table

-- frames from 1 on belong to the opened pages, each to one, in their order
pub record AreListed (table opened : List ℕ) : Type 0 where
  pub counted : unopened table + length opened ≡ length table
  pub listed : (page k : ℕ) → slice_index table page ≡ suc k → (k < length opened) × (slice_index opened k ≡ page)
  pub owned : (k : ℕ) → k < length opened → slice_index table (slice_index opened k) ≡ suc k

-- there is a frame for each opened page after the one of initial elements, and room for all
pub record AreFrames {T : Type 0} (frames : List T) (initial : T) (opened pages room : ℕ) : Type 0 where
  pub each : length frames ≡ 256 * suc opened
  pub first : (i : ℕ) → i < 256 → slice_index_or frames i initial ≡ initial
  pub enough : 256 * suc pages ≤ room

-- what holds of a table of pages, the frames and the opened pages, with the room for the latter two
pub record IsKept {T : Type 0} (table : List ℕ) (frames : List T) (opened : List ℕ) (initial : T) (room places : ℕ) : Type 0 where
  pub pages : AreListed table opened
  pub framed : AreFrames frames initial (length opened) (length table) room
  pub few_pages : length table ≤ 2 ^ 24
  pub enough : length table ≤ places
