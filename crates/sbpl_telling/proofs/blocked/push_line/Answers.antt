use Rattle.std.proofs.Common.{sym}
use Rattle.sbpl_promises.specs.Blocked.{line_of}
use Rattle.sbpl_telling.proofs.blocked.push_line.Goals as goal

pub returns : goal.returns
unfolding line_of
returns c = record { appended = rw (sym c.said.ensures.said, sym c.as_bytes-2.ensures.value, sym c.as_bytes.ensures.value, sym c.from.ensures) c.push_all.ensures.appended }
