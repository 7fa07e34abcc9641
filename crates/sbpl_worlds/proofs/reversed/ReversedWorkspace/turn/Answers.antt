use Rattle.std.proofs.Common.{subst}
use Rattle.sbpl_promises.specs.sbpl_back.Reversed.{reversed}
use Rattle.sbpl_promises.specs.sbpl_cost.Lattices.{network_of}
use Rattle.sbpl_promises.specs.sbpl_cost.World.{World}
use Rattle.sbpl_promises.specs.sbpl_graph.Laws.{HasExactTails, IsSound}
use Rattle.sbpl_promises.specs.sbpl_plan.declared.result.FoundPath.{FoundPath}
use Rattle.sbpl_promises.specs.sbpl_plan.declared.result.PlanResult.{PlanResult}
use Rattle.sbpl_promises.specs.sbpl_plan.Outcomes.{IsTrueOutcome}
use Rattle.sbpl_worlds.proofs.reversed.ReversedWorkspace.turn.Goals as goal

pub returns-in-NoPath-clause-so : goal.returns-in-NoPath-clause-so
returns-in-NoPath-clause-so c = λ arcs cost free.
    let n = network_of c.args.self.now in
    let sound : IsSound n =
    subst (λ (w : World). IsSound (network_of w)) c.lattice-lattice.ensures.lattice c.states-states.ensures.sound in
    let tails : HasExactTails n =
    subst (λ (w : World). HasExactTails (network_of w)) c.lattice-lattice.ensures.lattice
    c.states-states.ensures.tails in
    let back =
    c.paths_turn_round.ensures.backwards n c.args.start c.args.goal cost arcs sound tails free in
    let none =
    subst (λ (o : PlanResult FoundPath). IsTrueOutcome (reversed n) c.args.goal c.args.start o)
    c.in-NoPath.is c.requires.so in
    none back.0 cost back.2
