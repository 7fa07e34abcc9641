use Rattle.std.proofs.Common.{◌≡◌, ◌∙◌, ap, sym}
use Rattle.sbpl_cost.specs.Lattices.{network_of, states_are}
use Rattle.sbpl_cost.specs.Rates.{state_gap, table_of}
use Rattle.sbpl_cost.specs.States.{place_of, state_count}
use Rattle.sbpl_cost.specs.World.{World}
use Rattle.sbpl_cost.proofs.Lessers.{gap_by_is}
use Rattle.sbpl_cost.proofs.TailViews.{gap_is}
use Rattle.sbpl_cost.proofs.lattice.Lattice.gaps.Goals as goal

pub returns-clause-states : goal.returns-clause-states
returns-clause-states c =
    ap (λ (w : World). state_count w.env) c.self.view_is ∙ sym (states_are c.args.self.now)

pub returns-clause-gap : goal.returns-clause-gap
returns-clause-gap c =
    let env = c.self.inside.env in
    let prims = c.self.inside.prims.items in
    let gaps = c.self.inside.gaps in
    let w : World = record { env = env; prims = c.self.inside.prims; sweeps = c.self.inside.sweeps; map = c.self.inside.map } in
    let here : state_gap (table_of env gaps) ≡ (network_of w).gap =
    (λ i a b. (gap_by_is env prims gaps c.self.invariant.fractions (place_of env a) (place_of env b) ∙ sym (gap_is w a b)) i) in
    here ∙ ap (λ (v : World). (network_of v).gap) c.self.view_is
