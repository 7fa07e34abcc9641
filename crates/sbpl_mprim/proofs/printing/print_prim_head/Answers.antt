use Rattle.std.proofs.Common.{◌≡◌, rules, SFits, w32, w64}
use Rattle.std.proofs.lemmas.Int.{to_z-of_z}
use Rattle.sbpl_mprim.proofs.printing.print_prim_head.Goals as goal

pub returns : goal.returns
returns c =
    let dx_fits : SFits w32 c.args.prim.now.dx = search rules in
    let dy_fits : SFits w32 c.args.prim.now.dy = search rules in
    let dx : c.from.result ≡ c.args.prim.now.dx = simp to_z-of_z at c.from.ensures in
    let dy : c.from-2.result ≡ c.args.prim.now.dy = simp to_z-of_z at c.from-2.ensures in
    let dx_wide : SFits w64 c.from.result = search rules in
    let dy_wide : SFits w64 c.from-2.result = search rules in
    let wrote =
    simp (
      to_z-of_z,
      c.from-3.ensures,
      c.from-4.ensures,
      c.from-5.ensures,
      c.from-6.ensures,
      c.as_slice.ensures.items,
    ) at c.push_lines.ensures.appended in
    rw (← dx, ← dy) (record { ok = wrote })
