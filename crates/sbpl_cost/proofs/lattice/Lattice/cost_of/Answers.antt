use Rattle.std.proofs.Common.{arith}
use Rattle.sbpl_cost.proofs.CostTables.{price_is}
use Rattle.sbpl_cost.proofs.lattice.Lattice.cost_of.Goals as goal

pub returns-clause-cost : goal.returns-clause-cost
returns-clause-cost c =
    let place = rw (← c.self.view_is) at c.requires.place in
    rw (← c.self.view_is) (price_is c.self.inside.env c.self.inside.prims.items c.self.inside.costs.items c.args.i
    c.index.result.now c.self.invariant.costs place c.index.ensures)

pub returns-clause-positive : goal.returns-clause-positive
returns-clause-positive c =
    let place = rw (← c.self.view_is) at c.requires.place in
    let price =
    price_is c.self.inside.env c.self.inside.prims.items c.self.inside.costs.items c.args.i c.index.result.now
    c.self.invariant.costs place c.index.ensures in
    omega (arith, price.2, (c.self.invariant.world.costs c.args.i price.0 price.1).0)

pub returns-clause-limit : goal.returns-clause-limit
returns-clause-limit c =
    let place = rw (← c.self.view_is) at c.requires.place in
    let price =
    price_is c.self.inside.env c.self.inside.prims.items c.self.inside.costs.items c.args.i c.index.result.now
    c.self.invariant.costs place c.index.ensures in
    omega (arith, price.2, (c.self.invariant.world.costs c.args.i price.0 price.1).1)
