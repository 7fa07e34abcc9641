use Rattle.std.proofs.Common.{◌≡◌, rules, SFits, w16, w64}
use Rattle.std.proofs.lemmas.Int.{to_z-of_z}
use Rattle.sbpl_cfg.proofs.print.put_thresholds.Goals as goal

pub returns : goal.returns
returns c =
    let narrow : SFits w16 c.env.inside.circumscribed = search rules in
    let circumscribed : c.from-3.result ≡ c.env.inside.circumscribed = simp to_z-of_z at c.from-3.ensures in
    let wide : SFits w64 c.from-3.result = search rules in
    let wrote = simp (to_z-of_z, c.from.ensures, c.from-2.ensures) at c.push_lines.ensures.appended in
    rw (← c.env.view_is, ← circumscribed) (record { ok = wrote })
