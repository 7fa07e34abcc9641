-- Entries as words.
use Rattle.std.specs.Prelude.{◌+◌, ◌*◌, ◌^◌, ◌<◌}
use Rattle.sbpl_incumbent.specs.declared.entry.Entry.{Entry}
use Rattle.sbpl_incumbent.specs.declared.slip.Slip.{Slip}

-- the entry of six words; its bound takes the last two
abbrev pub entry_in : Slip → Entry
entry_in slip = record { number = slip.number; plan = slip.plan; pass = slip.pass; cost = slip.cost; bound = slip.high * 2 ^ 64 + slip.low }

-- its values are in their ranges
pub record IsFit (entry : Entry) : Type 0 where
  pub plan : entry.plan < 2 ^ 32
  pub pass : entry.pass < 2 ^ 32
  pub bound : entry.bound < 2 ^ 100
