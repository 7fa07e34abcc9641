use Rattle.sbpl_cost.proofs.Views.{found_by, number_below}
use Rattle.sbpl_cost.proofs.lattice.Lattice.prim_of.Goals as goal

pub leaving_at-requires-clause-number : goal.leaving_at-requires-clause-number
leaving_at-requires-clause-number c =
    let number = rw (← c.self.view_is) at c.requires.number in
    rw (← c.self.view_is) (number_below _ c.args.s c.args.k c.heading_of.result c.heading_of.ensures.value number)

pub returns-clause-primitive : goal.returns-clause-primitive
returns-clause-primitive c =
    let place = rw (← c.self.view_is) at c.leaving_at.ensures.place in
    let found =
    found_by _ c.args.s c.args.k c.heading_of.result c.leaving_at.result c.self.invariant.world
    c.heading_of.ensures.value place in
    rw (← c.self.view_is) (found.0, found.1.by)
