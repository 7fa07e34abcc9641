use Rattle.std.proofs.Common.{◌≡◌, ◌*◌, pos, ◌-ℤ◌, ◌<ℤ◌, ◌≤ℤ◌, ap, ◌∙◌, rules, w32}
use Rattle.std.specs.Int.RustNames.{unsigned_abs}
use Rattle.std.proofs.lemmas.Int.{to_z-of_z}
use Rattle.sbpl_demo.specs.Primitives.{nearest_ninth}
use Rattle.sbpl_demo.proofs.Ways.{along_down, along_up, small_down, small_up}
use Rattle.sbpl_demo.proofs.primitives.along.Goals as goal

pub returns-then-cells-lt0 : goal.returns-then-cells-lt0
returns-then-cells-lt0 c =
    let size : c.unsigned_abs.result ≡ unsigned_abs c.args.cells =
    c.unsigned_abs.ensures.value ∙ ap (λ z. unsigned_abs z) (to_z-of_z w32 c.args.cells c.ranges.cells) in
    let near : c.nearest_ninth-size.result ≡ nearest_ninth (250 * (unsigned_abs c.args.cells * c.args.j)) =
    c.nearest_ninth-size.ensures.nearest ∙ ap (λ u. nearest_ninth (250 * (u * c.args.j))) size in
    let below : c.args.cells <ℤ pos 0 = search rules in
    record {
      along =
          small_down _ c.nearest_ninth-size.ensures.small ∙ ap (λ n. pos 0 -ℤ pos n) near
          ∙ along_down c.args.cells c.args.j below;
    }

pub returns-else-cells-lt0 : goal.returns-else-cells-lt0
returns-else-cells-lt0 c =
    let size : c.unsigned_abs.result ≡ unsigned_abs c.args.cells =
    c.unsigned_abs.ensures.value ∙ ap (λ z. unsigned_abs z) (to_z-of_z w32 c.args.cells c.ranges.cells) in
    let near : c.nearest_ninth-size.result ≡ nearest_ninth (250 * (unsigned_abs c.args.cells * c.args.j)) =
    c.nearest_ninth-size.ensures.nearest ∙ ap (λ u. nearest_ninth (250 * (u * c.args.j))) size in
    let above : pos 0 ≤ℤ c.args.cells = search rules in
    record {
      along =
          small_up _ c.nearest_ninth-size.ensures.small ∙ ap (λ n. pos n) near ∙ along_up c.args.cells c.args.j above;
    }
