use Rattle.std.proofs.Common.{arith, sym, ◌∙◌}
use Rattle.std.proofs.lemmas.Option.{same_Some}
use Rattle.sbpl_cost.proofs.TailViews.{entering_read}
use Rattle.sbpl_cost.proofs.lattice.Lattice.entering_at.Goals as goal

pub returns-clause-inside : goal.returns-clause-inside
returns-clause-inside c =
    let heading = rw (← c.self.view_is) at c.requires.heading in
    let number = rw (← c.self.view_is) at c.requires.number in
    let entry = c.self.invariant.entering c.args.t (omega (arith, heading, c.self.invariant.world.headings)) in
    let same = same_Some c.at.result.now _ (sym c.at.ensures.list ∙ entry) in
    rw (← c.self.view_is) (entering_read c.self.inside.prims.items c.args.t c.args.j c.at.result.now same number)
