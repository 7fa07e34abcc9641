-- What a desk is, and what a call does to what is held, written and heard there and to the counts of what failed.
-- Bytes and lines that a desk doesn't tell are `None`, about which nothing is claimed.
use Rattle.std.specs.Prelude.{◌≡◌, ◌⊎◌, ◌-◌, ◌^◌, ◌<◌, ◌≤◌, ℕ, List, [], ◌∷◌, ◌++◌, length, ⊤, Result, Ok, Err}
use Rattle.std.specs.Prelude.{Bool, true, false, Option, Some, None, IfSome}
use Rattle.sbpl_desk.specs.declared.desk.ReadStop.{ReadStop}
use Rattle.sbpl_desk.specs.declared.desk.ReadStop.TheVariants.{Failed, TooLong, NoMemory}
-- `Keeps before after`: told bytes stay. `Appends before after bytes`: told bytes grow by these bytes at their end.
pub use Rattle.std.specs.Io.KnownBytes.{Keeps, Appends}

-- what each name has, where the desk tells
abbrev pub Told : Type 0
Told = List ℕ → Option (List ℕ)

-- how often each name failed
abbrev pub FaultCounts : Type 0
FaultCounts = List ℕ → ℕ

-- some names
abbrev pub Names : Type 1
Names = List ℕ → Type 0

-- the lines that were heard, in order, where the desk tells
abbrev pub Heard : Type 0
Heard = Option (List (List ℕ))

-- a desk, as its calls show it: the bytes that each name holds, the bytes written under each name so far, how many reads
-- and how many writes of each name failed, the lines that were heard so far, and whether the input was heard to its end
pub record DeskState : Type 0 where
  pub held : Told
  pub written : Told
  pub read_faults : FaultCounts
  pub write_faults : FaultCounts
  pub heard : Heard
  pub is_over : Bool

-- what each name has stays
abbrev pub Stays : {A B : Type 0} → (A → B) → (A → B) → Type 0
Stays before after = (name : _) → after name ≡ before name

-- what is written under names other than these stays
abbrev pub StaysBut : Names → Told → Told → Type 0
StaysBut IsWritten before after = (name : List ℕ) → (IsWritten name → ⊥) → after name ≡ before name

-- told bytes grow by some prefix of these: by none, some or all
pub record AppendsPrefix (before after : Option (List ℕ)) (bytes : List ℕ) : Type 0 where
  pub prefix : List ℕ
  pub rest : List ℕ
  pub whole : bytes ≡ prefix ++ rest
  pub written : Appends before after prefix

-- a count rose, or is the greatest that there is
abbrev pub Rose : ℕ → ℕ → Type 0
Rose before after = (before < after) ⊎ (after ≡ 2 ^ 64 - 1)

-- the count of failed reads of a name rose
abbrev pub ReadFailed : (before after : DeskState) → Names
ReadFailed before after name = Rose (before.read_faults name) (after.read_faults name)

-- the count of failed writes of a name rose
abbrev pub WriteFailed : (before after : DeskState) → Names
WriteFailed before after name = Rose (before.write_faults name) (after.write_faults name)

-- no name's count falls
abbrev pub NoneFalls : FaultCounts → FaultCounts → Type 0
NoneFalls before after = (name : List ℕ) → before name ≤ after name

-- nothing that is held changes, nothing is written or heard, and no count falls
pub record ReadsOnly (before after : DeskState) : Type 0 where
  pub held : Stays before.held after.held
  pub written : Stays before.written after.written
  pub reads : NoneFalls before.read_faults after.read_faults
  pub writes : NoneFalls before.write_faults after.write_faults
  pub heard : after.heard ≡ before.heard
  pub over : after.is_over ≡ before.is_over

-- nothing that is held changes, nothing is written except under these names, nothing is heard, and no count falls
pub record WritesOnly (IsWritten : Names) (before after : DeskState) : Type 0 where
  pub held : Stays before.held after.held
  pub others : StaysBut IsWritten before.written after.written
  pub reads : NoneFalls before.read_faults after.read_faults
  pub writes : NoneFalls before.write_faults after.write_faults
  pub heard : after.heard ≡ before.heard
  pub over : after.is_over ≡ before.is_over

-- nothing that is held or written changes, no count falls, and lines that the desk doesn't tell stay untold
pub record HearsOnly (before after : DeskState) : Type 0 where
  pub held : Stays before.held after.held
  pub written : Stays before.written after.written
  pub reads : NoneFalls before.read_faults after.read_faults
  pub writes : NoneFalls before.write_faults after.write_faults
  pub untold : before.heard ≡ None → after.heard ≡ None

-- this line was heard, and the input is not over: told lines grow by it at their end
pub record HearsLine (before after : DeskState) (line : List ℕ) : Type 0 where
  pub told : IfSome before.heard (λ lines. after.heard ≡ Some (lines ++ line ∷ []))
  pub open_before : before.is_over ≡ false
  pub open_after : after.is_over ≡ false
  pub short : length line ≤ 4097

-- the end of the input was heard, and no line
pub record HearsEnd (before after : DeskState) (line : List ℕ) : Type 0 where
  pub none : line ≡ []
  pub heard : after.heard ≡ before.heard
  pub over : after.is_over ≡ true

-- neither a line nor the end was heard
pub record HearsNothing (before after : DeskState) (line : List ℕ) : Type 0 where
  pub none : line ≡ []
  pub heard : after.heard ≡ before.heard
  pub over : after.is_over ≡ before.is_over

-- a read of these held bytes is too long exactly where they are more than 2^30, unless it failed or found no memory
abbrev pub TooLongWhere : {T : Type 0} → Result T ReadStop → List ℕ → Type 0
TooLongWhere (Ok _) bytes = length bytes ≤ 2 ^ 30
TooLongWhere (Err TooLong) bytes = 2 ^ 30 < length bytes
TooLongWhere (Err Failed) bytes = ⊤
TooLongWhere (Err NoMemory) bytes = ⊤
