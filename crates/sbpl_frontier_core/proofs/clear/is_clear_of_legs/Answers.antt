use Rattle.std.proofs.Common.{arith, refl, take}
use Rattle.std.specs.List.{All}
use Rattle.std.proofs.lemmas.List.{take_all}
use Rattle.std.proofs.lemmas.List.Elements.{All-more}
use Rattle.sbpl_frontier_rules.specs.declared.leg.Leg.{Leg}
use Rattle.sbpl_frontier_core.specs.Clear.{IsClear}
use Rattle.sbpl_frontier_core.proofs.clear.is_clear_of_legs.Goals as goal
use Rattle.sbpl_frontier_core.proofs.clear.is_clear_of_legs.Goals.{else-leg-last, then-leg-last+else-not-is_clear_of}

pub loop-leg-preserved : goal.loop-leg-preserved
loop-leg-preserved g c =
    let n = g.G.Graph.network c.args.graph.now in
    let i = c.loop-leg.leg-index in
    let no_leg : Leg = record { ticket = 0; state = 0; arc = 0 } in
    let more =
    All-more (λ (x : Leg). IsClear n c.args.eps c.args.labels.now c.args.s x.state) c.args.out.now i no_leg
    c.loop-leg-test.true c.loop-leg.invariant.0 in
    elim c.if-leg-last.branch [
      | then-leg-last+else-not-is_clear_of w ↦
          let clear = w.if-not-is_clear_of.ensures.clear.0 refl in rw w.last-is (more clear, clear)
      | else-leg-last w ↦ rw w.last-is (more (rw w.if-leg-last.false c.loop-leg.invariant.1), c.loop-leg.invariant.1)
    ]

pub returns : goal.returns
returns g c =
    let all : All (λ (x : Leg). IsClear (g.G.Graph.network c.args.graph.now) c.args.eps c.args.labels.now c.args.s
    x.state) (take c.loop-leg.leg-index c.args.out.now) =
    c.loop-leg.invariant.0 in
    record { clear = (λ _. rw (take_all c.loop-leg.leg-index c.args.out.now (omega arith)) at all, λ _. refl) }
