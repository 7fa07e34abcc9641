use Rattle.std.proofs.Common.{◌≡◌, ◌+ℤ◌, Some, slice_get, option_and_then, rules, ap, sym, ◌∙◌, w32, w64, FitsSigned, pos}
use Rattle.std.proofs.lemmas.Int.{to_z-of_z}
use Rattle.std.proofs.lemmas.Option.{slice_get-get_or}
use Rattle.sbpl_heur.specs.Boards.{cell_after}
use Rattle.sbpl_heur.proofs.Locating.{after_is}
use Rattle.sbpl_heur.proofs.cells.Cells.after.Goals as goal

pub returns-clause-value : goal.returns-clause-value
returns-clause-value c =
    let hop = c.index-hop.result.now in
    let x = c.coordinate_after-x.result in
    let y = c.coordinate_after-y.result in
    let spot = rw (← c.self.view_is) at c.requires.spot in
    let number = rw (← c.self.view_is) at c.requires.hop in
    let at : slice_get c.self.inside.hops.items c.args.k ≡ Some hop =
    slice_get-get_or c.self.inside.hops.items c.args.k hop number ∙ ap Some (sym c.index-hop.ensures) in
    let fits_x : FitsSigned w64 x = search rules in
    let fits_y : FitsSigned w64 y = search rules in
    let fits_dx : FitsSigned w32 hop.dx = search rules in
    let fits_dy : FitsSigned w32 hop.dy = search rules in
    let found = rw (to_z-of_z w64 x fits_x, to_z-of_z w64 y fits_y) at c.cell_in.ensures.value in
    let column =
    c.coordinate_after-x.ensures.after ∙ ap (λ z. pos c.args.spot.x +ℤ z) (to_z-of_z w32 hop.dx fits_dx)
    ∙ ap (λ z. pos z +ℤ hop.dx) spot.column in
    let row =
    c.coordinate_after-y.ensures.after ∙ ap (λ z. pos c.args.spot.y +ℤ z) (to_z-of_z w32 hop.dy fits_dy)
    ∙ ap (λ z. pos z +ℤ hop.dy) spot.row in
    let here = found ∙ after_is c.self.inside.env c.args.cell hop x y column row in
    rw (← c.self.view_is) (here ∙ sym (ap (option_and_then (cell_after c.self.inside.env c.args.cell)) at))
