-- What contracts see of a publisher, a reader and a note. Each comes from one board.
use Rattle.std.specs.Prelude.{ℕ, List}
use Rattle.atomic_table.specs.Seated.{TableId}
use Rattle.sbpl_incumbent.specs.declared.entry.Entry.{Entry}

-- what was published, oldest first
pub record Publishing : Type 0 where
  pub board : TableId
  pub published : List Entry

-- what its loads found, oldest first, number 0 among them, and the greatest number that it was told
pub record Reading : Type 0 where
  pub board : TableId
  pub got : List Entry
  pub told : ℕ

-- the greatest number that was published when it was made, or 0
pub record Noting : Type 0 where
  pub board : TableId
  pub number : ℕ
