use Rattle.std.proofs.Common.{rules, SFits, w64}
use Rattle.std.proofs.lemmas.Int.{to_z-of_z}
use Rattle.sbpl_cfg.proofs.print.put_rates.Goals as goal

pub returns : goal.returns
returns c =
    let cell : SFits w64 c.env.inside.cell = search rules in
    let speed : SFits w64 c.env.inside.speed = search rules in
    let turn45 : SFits w64 c.env.inside.turn45 = search rules in
    rw (← c.env.view_is) (record { ok = simp to_z-of_z at c.push_lines.ensures.appended })
