-- A heap of open states with their keys, and each state's slot in it.
use Rattle.std.specs.Prelude.{◌≡◌, ◌≢◌, ℕ, zero, suc, ◌+◌, ◌-◌, ◌*◌, ◌/◌, ◌^◌, ◌<◌, ◌≤◌, Bool, nat_lt, if◌then◌else◌, Option, Some, None, List, [], ◌∷◌, length, slice_index, slice_set, MatchOption}
use Rattle.sbpl_open.specs.declared.entry.Entry.{Entry}
use Rattle.sbpl_open.specs.Entries.{entry_at, key_of, state_at}

-- a number by which entries are in order: by their keys' first part, by its second, and by the state's own number
abbrev pub rank : Entry → ℕ
rank entry = (entry.first * 2 ^ 64 + entry.second) * 2 ^ 32 + entry.state

-- the rank of the entry at slot i of the heap
abbrev pub rank_at : List Entry → ℕ → ℕ
rank_at heap i = rank (entry_at heap i)

-- the slot above a slot that is not the first: its parent
abbrev pub parent : ℕ → ℕ
parent i = (i - 1) / 4

-- in order: no entry comes before what is above it
pub record IsHeap (len : ℕ) (r : ℕ → ℕ) : Type 0 where
  pub upward : (i : ℕ) → 0 < i → i < len → r (parent i) ≤ r i

-- in order except at one slot: what is below it does not come before what is above it
pub record IsHeapBut (len : ℕ) (r : ℕ → ℕ) (hole : ℕ) : Type 0 where
  pub upward : (i : ℕ) → 0 < i → i < len → i ≢ hole → parent i ≢ hole → r (parent i) ≤ r i
  pub across : (i : ℕ) → 0 < i → i < len → parent i ≡ hole → 0 < hole → r (parent hole) ≤ r i

-- what is at the slot does not come before what is above it
abbrev pub IsNotBefore : (ℕ → ℕ) → ℕ → Type 0
IsNotBefore r hole = 0 < hole → r (parent hole) ≤ r hole

-- c is below the slot, and nothing else below it and before end comes before what is at c
pub record IsFirstChild (end : ℕ) (r : ℕ → ℕ) (hole c : ℕ) : Type 0 where
  pub some : 0 < c
  pub inside : c < end
  pub below : parent c ≡ hole
  pub first : (i : ℕ) → 0 < i → i < end → parent i ≡ hole → r c ≤ r i

-- the first of what is below a slot, or none where there is nothing
abbrev pub IsChild : ℕ → (ℕ → ℕ) → ℕ → Option ℕ → Type 0
IsChild len r hole child =
    MatchOption child ((i : ℕ) → 0 < i → parent i ≡ hole → len ≤ i) (λ c. IsFirstChild len r hole c)

-- the table of slots agrees with the heap: a state's number there is 0 where it is not in the heap, and otherwise one
-- more than its slot
pub record AreAgreed (heap : List Entry) (slots : List ℕ) : Type 0 where
  pub inside : (i : ℕ) → i < length heap → state_at heap i < length slots
  pub placed : (i : ℕ) → i < length heap → slice_index slots (state_at heap i) ≡ i + 1
  pub found : (s i : ℕ) → slice_index slots s ≡ i + 1 → (i < length heap) × (state_at heap i ≡ s)

abbrev pub is_there : List ℕ → ℕ → Bool
is_there slots s = nat_lt 0 (slice_index slots s)

-- the key of a state that is in the heap
abbrev pub key_where : List Entry → List ℕ → ℕ → Option (ℕ × ℕ)
key_where heap slots s =
    if is_there slots s then Some (key_of (entry_at heap (slice_index slots s - 1))) else None

-- the same states are there with the same keys
abbrev pub SameKeys : (heap : List Entry) (slots : List ℕ) (heap' : List Entry) (slots' : List ℕ) → Type 0
SameKeys heap slots heap' slots' = (s : ℕ) → key_where heap' slots' s ≡ key_where heap slots s

-- the key of s becomes this one, or s leaves, and all others stay
pub record KeyChanges (heap : List Entry) (slots : List ℕ) (heap' : List Entry) (slots' : List ℕ) (s : ℕ) (key : Option (ℕ × ℕ)) : Type 0 where
  pub at : key_where heap' slots' s ≡ key
  pub others : (u : ℕ) → u ≢ s → key_where heap' slots' u ≡ key_where heap slots u

-- the heap with this entry at a slot, and the table with that slot for its state
abbrev pub filled : List Entry → ℕ → Entry → List Entry
filled heap at entry = slice_set heap at entry

abbrev pub placed_at : List ℕ → ℕ → Entry → List ℕ
placed_at slots at entry = slice_set slots entry.state (at + 1)

-- a slot of the heap stands open for an entry: with it there, the table agrees, and the heap is in order except at that
-- slot
pub record HasHole (heap : List Entry) (slots : List ℕ) (hole : ℕ) (entry : Entry) : Type 0 where
  pub inside : hole < length heap
  pub agreed : AreAgreed (filled heap hole entry) (placed_at slots hole entry)
  pub ordered : IsHeapBut (length heap) (rank_at (filled heap hole entry)) hole

-- the parts of a heap: the table agrees with it, it is in order, the keys' second parts fit their type, and it has room
-- for all states
pub record AreParts (heap : List Entry) (slots : List ℕ) (room : ℕ) : Type 0 where
  pub few : length slots < 2 ^ 32
  pub agreed : AreAgreed heap slots
  pub ordered : IsHeap (length heap) (rank_at heap)
  pub small : (s : ℕ) (key : ℕ × ℕ) → key_where heap slots s ≡ Some key → key.1 < 2 ^ 64
  pub enough_room : length slots ≤ room

-- f 0, f 1 and so on, n of them
unfoldable pub listed : {A : Type 0} → (ℕ → A) → ℕ → List A
listed f zero = []
listed f (suc n) = f 0 ∷ listed (λ i. f (suc i)) n

-- the key of each state that is in the heap
abbrev pub keys_of : List Entry → List ℕ → List (Option (ℕ × ℕ))
keys_of heap slots = listed (key_where heap slots) (length slots)
