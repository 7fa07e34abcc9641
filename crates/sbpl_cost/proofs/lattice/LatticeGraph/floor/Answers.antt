use Rattle.std.proofs.Common.{sym, ◌∙◌}
use Rattle.std.proofs.lemmas.Option.{same_Some}
use Rattle.sbpl_cost.proofs.ArcFloors.{above_floor}
use Rattle.sbpl_cost.proofs.lattice.LatticeGraph.floor.Goals as goal

pub returns : goal.returns
returns c = record {
  positive = c.cost_of.ensures.positive;
  floor = λ cost is.
      let own = c.cost_of.ensures.cost in
      let by = c.prim_of.ensures.primitive in
      let same = same_Some by.0 own.0 (sym by.1.stands ∙ own.1) in
      let above =
      above_floor c.args.self.now c.env-env.ensures.kept c.args.s c.args.k c.prim_of.result by.0 by.1 cost is in
      rw (own.2, ← same) above;
}
