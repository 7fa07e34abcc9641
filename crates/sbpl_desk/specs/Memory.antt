-- What a desk in memory has, as its calls show it.
use Rattle.std.specs.Prelude.{◌≡◌, ◌<◌, ◌⊎◌, ℕ, length, List, [], ◌∷◌, ◌++◌, map, replicate, Bool, true, false, Option, Some, option_map, unwrap_or}
use Rattle.std.specs.BTreeMap.{get, get_by_text, BTreeMap}
use Rattle.std.specs.Ordering.{nat_cmp}
use Rattle.std.specs.Prelude.{Vec, String}
use Rattle.std.specs.Global.{Global}
use Rattle.sbpl_desk.specs.Desk.{DeskState, Stays}
use Rattle.sbpl_desk.specs.Hearing.{after_line, next_line}
use Rattle.sbpl_desk.specs.declared.memory.MemoryDesk.{MemoryDesk}
use Rattle.sbpl_desk.specs.declared.memory.Content.{Content}
use Rattle.sbpl_desk.specs.declared.memory.Content.TheVariants.{Stored, Filled}

-- the bytes that are held there
abbrev pub content_bytes : Content → List ℕ
content_bytes (Stored bytes) = bytes.items
content_bytes (Filled len byte) = replicate len byte

-- the bytes that a name holds, and None where it isn't held
abbrev pub memory_held : MemoryDesk → List ℕ → Option (List ℕ)
memory_held desk name = option_map content_bytes (get_by_text desk.held name)

-- the bytes under a name of a map, and none where it has no such name
abbrev pub text_at : BTreeMap (String Global) (Vec ℕ Global) → List ℕ → List ℕ
text_at texts name = unwrap_or (option_map (λ text. text.items) (get_by_text texts name)) []

-- the bytes written under a name so far
abbrev pub memory_written : MemoryDesk → List ℕ → List ℕ
memory_written desk name = text_at desk.written name

-- after how many bytes the call with this number fails, None where it isn't listed
abbrev pub memory_failing : MemoryDesk → ℕ → Option ℕ
memory_failing desk call = get nat_cmp desk.failing call

-- how many reads, writes and calls of `hear` there were: the number of the next one
abbrev pub memory_calls : MemoryDesk → ℕ
memory_calls desk = desk.calls

-- how many reads failed
abbrev pub memory_read_faults : MemoryDesk → ℕ
memory_read_faults desk = desk.read_faults

-- how many writes failed
abbrev pub memory_write_faults : MemoryDesk → ℕ
memory_write_faults desk = desk.write_faults

-- what was said and is still to be heard
abbrev pub memory_coming : MemoryDesk → List ℕ
memory_coming desk = desk.coming.items

-- the lines that were heard so far
abbrev pub memory_heard : MemoryDesk → List (List ℕ)
memory_heard desk = map (λ line. line.items) desk.heard.items

-- whether the end was heard
abbrev pub memory_is_over : MemoryDesk → Bool
memory_is_over desk = desk.is_over

-- it tells what it holds, what is written and what was heard, and its counts are those of every name
abbrev pub memory_state : MemoryDesk → DeskState
memory_state desk = record {
  held = memory_held desk;
  written = λ name. Some (memory_written desk name);
  read_faults = λ _. memory_read_faults desk;
  write_faults = λ _. memory_write_faults desk;
  heard = Some (memory_heard desk);
  is_over = memory_is_over desk;
}

-- nothing was heard, and the same is to come
pub record KeepsInput (before after : MemoryDesk) : Type 0 where
  pub coming : memory_coming after ≡ memory_coming before
  pub heard : memory_heard after ≡ memory_heard before
  pub over : memory_is_over after ≡ memory_is_over before

-- no call was made, nothing was written and nothing was heard
pub record MakesNoCall (before after : MemoryDesk) : Type 0 where
  pub written : Stays (memory_written before) (memory_written after)
  pub calls : memory_calls after ≡ memory_calls before
  pub reads : memory_read_faults after ≡ memory_read_faults before
  pub writes : memory_write_faults after ≡ memory_write_faults before
  pub heard : memory_heard after ≡ memory_heard before
  pub over : memory_is_over after ≡ memory_is_over before

-- something was to come, and its first line was heard
pub record TakesLine (before after : MemoryDesk) (line : List ℕ) : Type 0 where
  pub some : 0 < length (memory_coming before)
  pub open_before : memory_is_over before ≡ false
  pub line_is : line ≡ next_line (memory_coming before)
  pub coming : memory_coming after ≡ after_line (memory_coming before)
  pub heard : memory_heard after ≡ memory_heard before ++ line ∷ []
  pub open_after : memory_is_over after ≡ false

-- nothing was to come, or the end was heard before: it is heard
pub record TakesEnd (before after : MemoryDesk) (line : List ℕ) : Type 0 where
  pub ended : (memory_is_over before ≡ true) ⊎ (memory_coming before ≡ [])
  pub none : line ≡ []
  pub coming : memory_coming after ≡ memory_coming before
  pub heard : memory_heard after ≡ memory_heard before
  pub over : memory_is_over after ≡ true
