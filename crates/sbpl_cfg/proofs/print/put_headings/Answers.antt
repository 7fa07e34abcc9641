use Rattle.std.proofs.Common.{append-nil}
use Rattle.std.proofs.lemmas.Bool.{ne_eqb}
use Rattle.sbpl_cfg.specs.Environment.{usual_headings}
use Rattle.sbpl_cfg.proofs.print.put_headings.Goals as goal

pub returns : goal.returns
returns c =
    rw (← c.env.view_is, ne_eqb c.env.inside.headings usual_headings c.if-env-eq-USUAL_HEADINGS.false, append-nil)
    (record { ok = simp c.from.ensures at c.push_line.ensures.appended })
