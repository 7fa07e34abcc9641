use Rattle.std.proofs.Common.{append-nil}
use Rattle.sbpl_cfg.proofs.print.put_size.Goals as goal

pub returns : goal.returns
returns c =
    let wrote = simp (c.from.ensures, c.from-2.ensures) at c.push_line.ensures.appended in
    rw (← c.env.view_is, append-nil) (record { ok = wrote })
