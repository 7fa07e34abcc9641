use Rattle.std.proofs.Common.{ℕ, ◌+◌, List, drop, sym, subst, ◌∙◌}
use Rattle.sbpl_cost.specs.Lattices.{network_of}
use Rattle.sbpl_back.specs.Reversed.{IsPathTurned}
use Rattle.sbpl_back.proofs.Walking.{IsWalked, sets_out, walked_out, walks_on}
use Rattle.sbpl_back.proofs.turned.turned_round.Goals as goal

pub loop-number-init : goal.loop-number-init
loop-number-init c = sets_out _ _ _ _ c.in_ok-arcs.ensures.items c.requires.path

pub loop-number-preserved : goal.loop-number-preserved
loop-number-preserved c =
    subst (λ (l : List ℕ). IsWalked (network_of c.args.lattice.now) c.args.from c.args.path.now c.unwrap-source.result.0
    (drop (c.loop-number.number-index + 1) c.args.path.now) l) (sym c.in_ok-push.ensures.items)
    (walks_on c.states-states.ensures.tails c.loop-number.number-index c.loop-number.invariant
    c.loop-number-test.true (sym c.tail.ensures.value ∙ c.unwrap-source.ensures))

pub returns : goal.returns
returns c = record {
  turned = λ s cost free.
      subst (λ (l : List ℕ). IsPathTurned (network_of c.args.lattice.now) c.args.from c.args.path.now s cost l)
      (sym c.reverse.ensures.items)
      (walked_out c.states-states.ensures.tails c.loop-number.number-index c.loop-number.invariant
      c.loop-number-test.false s cost free);
}
