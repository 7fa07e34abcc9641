-- The entries of open states.
use Rattle.std.specs.Prelude.{ℕ, List, slice_index_or}
use Rattle.sbpl_open.specs.declared.entry.Entry.{Entry}

-- what stands past the last entry
abbrev pub no_entry : Entry
no_entry = record { first = 0; second = 0; state = 0 }

-- the entry at slot i of a list, and its state
abbrev pub entry_at : List Entry → ℕ → Entry
entry_at heap i = slice_index_or heap i no_entry

abbrev pub state_at : List Entry → ℕ → ℕ
state_at heap i = (entry_at heap i).state

-- the key of an entry
abbrev pub key_of : Entry → ℕ × ℕ
key_of entry = (entry.first, entry.second)
