use Rattle.std.proofs.Common.{arith, ap, sym, ◌∙◌, length, subst, refl}
use Rattle.sbpl_heur.specs.Boards.{cell_count}
use Rattle.sbpl_heur.specs.Spots.{IsSpot, IsInner}
use Rattle.sbpl_heur.proofs.Sinking.{lowered, no_more_left, same_board, all_lowered, skipped}
use Rattle.sbpl_heur.proofs.walks.Walks.expand.Goals as goal

pub is_inner-is_inner-requires : goal.is_inner-is_inner-requires
is_inner-is_inner-requires c = record { reach = rw (← c.self.view_is) at c.requires.reach }

pub next_lower-k-requires-clause-cell : goal.next_lower-k-requires-clause-cell
next_lower-k-requires-clause-cell c = omega (arith, ap cell_count c.loop-k.invariant.board, c.requires.cell)

pub next_lower-k-requires-clause-spot : goal.next_lower-k-requires-clause-spot
next_lower-k-requires-clause-spot c =
    subst (λ e. IsSpot e c.args.cell c.spot_of-spot.result)
    (ap (λ z. z.board.env) c.self.view_is ∙ ap (λ b. b.env) (sym c.loop-k.invariant.board)) c.spot_of-spot.ensures.spot

pub next_lower-k-requires-clause-hop : goal.next_lower-k-requires-clause-hop
next_lower-k-requires-clause-hop c = omega (
  arith,
  c.loop-k-test.true,
  c.fan-fan.ensures.value,
  ap (λ z. length z.board.hops) c.self.view_is,
  ap (λ b. length b.hops) c.loop-k.invariant.board,
)

pub next_lower-k-requires-clause-inner : goal.next_lower-k-requires-clause-inner
next_lower-k-requires-clause-inner c = λ yes.
    subst (λ b. IsInner b.env b.hops c.spot_of-spot.result)
    (ap (λ z. z.board) c.self.view_is ∙ sym c.loop-k.invariant.board) (c.is_inner-is_inner.ensures.inner yes)

pub loop-k-init : goal.loop-k-init
loop-k-init c = record { expanded = c.requires.expanded; board = refl; goal = refl; left = omega arith }

pub lower-requires : goal.lower-requires
lower-requires c = record {
  cell = omega (arith, ap cell_count c.loop-k.invariant.board, c.requires.cell);
  spot = subst (λ e. IsSpot e c.args.cell c.spot_of-spot.result)
      (ap (λ z. z.board.env) c.self.view_is ∙ ap (λ b. b.env) (sym c.loop-k.invariant.board)) c.spot_of-spot.ensures.spot;
  hop = omega (
    arith,
    c.if-k-fan.false,
    c.fan-fan.ensures.value,
    ap (λ z. length z.board.hops) c.self.view_is,
    ap (λ b. length b.hops) c.loop-k.invariant.board,
  );
}

pub loop-k-preserved : goal.loop-k-preserved
loop-k-preserved c =
    let old = c.loop-k.self in
    let new = c.lower.new.self in
    let cell = c.args.cell in
    let k = c.next_lower-k.result in
    let made = c.lower.ensures.lowers in
    let same = same_board old new cell k made in
    let passed = skipped old cell c.loop-k.k k c.next_lower-k.ensures.from c.next_lower-k.ensures.skipped c.loop-k.invariant.expanded in
    record {
      expanded = lowered old new cell k c.lower.ensures.sizes made passed;
      board = same.0 ∙ c.loop-k.invariant.board;
      goal = same.1 ∙ c.loop-k.invariant.goal;
      left = omega (arith, no_more_left old new cell k c.lower.ensures.sizes made, c.loop-k.invariant.left);
    }

pub loop-k-smaller : goal.loop-k-smaller
loop-k-smaller c = omega (arith, c.loop-k-test.true, c.next_lower-k.ensures.from)

pub returns-then-k-fan : goal.returns-then-k-fan
returns-then-k-fan c =
    let old = c.loop-k.self in
    let k = c.next_lower-k.result in
    record {
      shut = all_lowered old c.args.cell k (omega (
        arith,
        c.if-k-fan.true,
        c.fan-fan.ensures.value,
        ap (λ z. length z.board.hops) c.self.view_is,
        ap (λ b. length b.hops) c.loop-k.invariant.board,
      )) (skipped old c.args.cell c.loop-k.k k c.next_lower-k.ensures.from c.next_lower-k.ensures.skipped
          c.loop-k.invariant.expanded);
      board = c.loop-k.invariant.board;
      goal = c.loop-k.invariant.goal;
      left = c.loop-k.invariant.left;
    }

pub returns : goal.returns
returns c = record {
  shut = all_lowered c.loop-k.self c.args.cell c.loop-k.k (omega (
    arith,
    c.loop-k-test.false,
    c.fan-fan.ensures.value,
    ap (λ z. length z.board.hops) c.self.view_is,
    ap (λ b. length b.hops) c.loop-k.invariant.board,
  )) c.loop-k.invariant.expanded;
  board = c.loop-k.invariant.board;
  goal = c.loop-k.invariant.goal;
  left = c.loop-k.invariant.left;
}
