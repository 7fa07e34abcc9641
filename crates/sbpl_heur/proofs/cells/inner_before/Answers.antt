use Rattle.std.proofs.Common.{pos, ◌+ℤ◌, ap, ◌∙◌, rules, w32, FitsSigned}
use Rattle.std.proofs.lemmas.Int.{to_z-of_z}
use Rattle.sbpl_heur.proofs.Locating.{inner_found}
use Rattle.sbpl_heur.proofs.cells.inner_before.Goals as goal

pub returns-clause-value : goal.returns-clause-value
returns-clause-value c =
    let hop = c.args.hop.now in
    let x = c.inner_coordinate-x.result in
    let y = c.inner_coordinate-y.result in
    let fits_dx : FitsSigned w32 hop.dx = search rules in
    let fits_dy : FitsSigned w32 hop.dy = search rules in
    let column = c.inner_coordinate-x.ensures.before ∙ ap (λ z. pos x +ℤ z) (to_z-of_z w32 hop.dx fits_dx) in
    let row = c.inner_coordinate-y.ensures.before ∙ ap (λ z. pos y +ℤ z) (to_z-of_z w32 hop.dy fits_dy) in
    inner_found c.args.env.now c.args.spot.x c.args.spot.y x y c.number_of.result hop column row
    (rw (← c.env.view_is) c.inner_coordinate-x.ensures.inside) (rw (← c.env.view_is) c.inner_coordinate-y.ensures.inside)
    c.number_of.ensures.number
