-- What a desk over the system has, as its calls show it.
use Rattle.std.specs.Prelude.{ℕ, Bool, None}
use Rattle.sbpl_desk.specs.Desk.{DeskState}
use Rattle.sbpl_desk.specs.declared.real.RealDesk.{RealDesk}

-- how many reads failed
abbrev pub real_read_faults : {R F D A : Type 0} → RealDesk R F D A → ℕ
real_read_faults desk = desk.read_faults

-- how many writes failed
abbrev pub real_write_faults : {R F D A : Type 0} → RealDesk R F D A → ℕ
real_write_faults desk = desk.write_faults

-- whether the standard input was heard to its end
abbrev pub real_is_over : {R F D A : Type 0} → RealDesk R F D A → Bool
real_is_over desk = desk.is_over

-- it tells no bytes and no lines, and its counts are those of every name
abbrev pub real_state : {R F D A : Type 0} → RealDesk R F D A → DeskState
real_state desk = record {
  held = λ _. None;
  written = λ _. None;
  read_faults = λ _. real_read_faults desk;
  write_faults = λ _. real_write_faults desk;
  heard = None;
  is_over = real_is_over desk;
}
