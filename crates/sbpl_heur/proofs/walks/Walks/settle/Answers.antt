use Rattle.std.proofs.Common.{arith, ap, sym, ◌∙◌, subst, ◌<◌}
use Rattle.sbpl_heur.specs.Spots.{IsReach}
use Rattle.sbpl_heur.specs.Followed.{Walking, IsShut, HasNone, left}
use Rattle.sbpl_heur.proofs.Settling.{settled}
use Rattle.sbpl_heur.proofs.Sinking.{taken, taken_inside, less_to_do}
use Rattle.sbpl_heur.proofs.walks.Walks.settle.Goals as goal

pub loop-cell-init : goal.loop-cell-init
loop-cell-init c =
    let same = c.list_waiting.ensures.same in
    record {
      shut = subst IsShut (sym same) c.shut.ensures.shut;
      board = ap (λ (z : Walking). z.board) same ∙ ap (λ (z : Walking). z.board) c.shut.ensures.rest;
      goal = ap (λ (z : Walking). z.goal) same ∙ ap (λ (z : Walking). z.goal) c.shut.ensures.rest;
    }

pub expand-requires : goal.expand-requires
expand-requires c =
    let took = c.in-Some.ensures in
    record {
      cell = taken_inside c.loop-cell.self c.take_waiting.new.self c.in-Some.cell took.rest took.takes took.sizes;
      reach =
          subst (λ b. IsReach b.hops c.reach-reach.result) (ap (λ (z : Walking). z.board) c.self.view_is
          ∙ sym c.loop-cell.invariant.board ∙ sym (ap (λ (z : Walking). z.board) took.rest)) c.reach-reach.ensures.reach;
      expanded =
          taken c.loop-cell.self c.take_waiting.new.self c.in-Some.cell took.rest took.takes
          c.loop-cell.invariant.shut;
    }

pub loop-cell-preserved : goal.loop-cell-preserved
loop-cell-preserved c =
    let rest = c.in-Some.ensures.rest in
    record {
      shut = c.expand.ensures.shut;
      board = c.expand.ensures.board ∙ ap (λ (z : Walking). z.board) rest ∙ c.loop-cell.invariant.board;
      goal = c.expand.ensures.goal ∙ ap (λ (z : Walking). z.goal) rest ∙ c.loop-cell.invariant.goal;
    }

pub loop-cell-smaller : goal.loop-cell-smaller
loop-cell-smaller c =
    let took = c.in-Some.ensures in
    let less = less_to_do c.loop-cell.self c.take_waiting.new.self c.in-Some.cell took.rest took.takes in
    let even : left c.expand.new.self < left c.loop-cell.self = omega (arith, less, c.expand.ensures.left) in
    even

pub open-requires : goal.open-requires
open-requires c = record { shut = subst IsShut (sym c.in_default.ensures.kept) c.loop-cell.invariant.shut }

pub returns : goal.returns
returns c =
    let kept = c.in_default.ensures.kept in
    let rest = c.open.ensures.rest in
    let waits = ap (λ (z : Walking). z.waits) rest ∙ ap (λ (z : Walking). z.waits) kept in
    record {
      board = ap (λ (z : Walking). z.board) rest ∙ ap (λ (z : Walking). z.board) kept ∙ c.loop-cell.invariant.board;
      goal = ap (λ (z : Walking). z.goal) rest ∙ ap (λ (z : Walking). z.goal) kept ∙ c.loop-cell.invariant.goal;
      least = settled c.open.new.self c.open.ensures.sizes c.open.ensures.sinking
          (subst HasNone (sym waits) c.in_default.ensures.none);
    }
