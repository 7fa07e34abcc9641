-- One count of failed reads and one of failed writes, which are those of every name.
use Rattle.std.specs.Prelude.{◌+◌, ◌-◌, ◌^◌, min, ℕ, Result, Err}
use Rattle.sbpl_desk.specs.declared.desk.ReadStop.{ReadStop}
use Rattle.sbpl_desk.specs.declared.desk.ReadStop.TheVariants as reads
use Rattle.sbpl_desk.specs.declared.desk.WriteStop.{WriteStop}
use Rattle.sbpl_desk.specs.declared.desk.WriteStop.TheVariants as writes

-- one more, unless the count is already the greatest
abbrev pub risen : ℕ → ℕ
risen count = min (count + 1) (2 ^ 64 - 1)

-- the count of failed reads after this answer
abbrev pub read_count : {T : Type 0} → Result T ReadStop → ℕ → ℕ
read_count (Err reads.Failed) count = risen count
read_count _ count = count

-- the count of failed writes after this answer
abbrev pub write_count : {T : Type 0} → Result T WriteStop → ℕ → ℕ
write_count (Err writes.Failed) count = risen count
write_count _ count = count
