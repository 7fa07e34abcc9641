use Rattle.std.proofs.Common.{◌≡◌, rules, SFits, w32, w64}
use Rattle.std.proofs.lemmas.Int.{to_z-of_z}
use Rattle.sbpl_demo.proofs.primitives.put_head.Goals as goal

pub returns : goal.returns
returns c =
    let m = c.args.motion.now in
    let x_fits : SFits w32 m.way.x = search rules in
    let y_fits : SFits w32 m.way.y = search rules in
    let to_fits : SFits w32 m.to = search rules in
    let x : c.from.result ≡ m.way.x = simp to_z-of_z at c.from.ensures in
    let y : c.from-2.result ≡ m.way.y = simp to_z-of_z at c.from-2.ensures in
    let to : c.from-3.result ≡ m.to = simp to_z-of_z at c.from-3.ensures in
    let x_wide : SFits w64 c.from.result = search rules in
    let y_wide : SFits w64 c.from-2.result = search rules in
    let to_wide : SFits w64 c.from-3.result = search rules in
    let wrote =
    simp (to_z-of_z, c.from-4.ensures, c.from-5.ensures, c.from-6.ensures) at c.push_lines.ensures.appended in
    rw (← x, ← y, ← to) (record { ok = wrote })
