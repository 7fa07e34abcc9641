use Rattle.std.proofs.Common.{◌≡◌, inl, inr, length, ap, sym, ◌∙◌, arith, subst}
use Rattle.std.proofs.lemmas.Bool.{cases_eq}
use Rattle.std.proofs.lemmas.List.{get_or_read}
use Rattle.sbpl_heur.specs.Spots.{IsSpot}
use Rattle.sbpl_heur.specs.Followed.{Walking, distance, IsRousedBy}
use Rattle.sbpl_heur.proofs.Doubting.{no_marks, more_marks, still_roused}
use Rattle.sbpl_heur.proofs.walks.Walks.rouse_around.Goals as goal

pub rouse-requires-clause-spot : goal.rouse-requires-clause-spot
rouse-requires-clause-spot c =
    subst (λ e. IsSpot e c.args.cell c.spot_of-spot.result)
    (ap (λ z. z.board.env) c.self.view_is
    ∙ ap (λ (z : Walking). z.board.env) (sym c.loop-k.invariant.marks.rest)) c.spot_of-spot.ensures.spot

pub rouse-requires-clause-hop : goal.rouse-requires-clause-hop
rouse-requires-clause-hop c = omega (
  arith,
  c.loop-k-test.true,
  c.fan-k-end.ensures.value,
  ap (λ z. length z.board.hops) c.self.view_is,
  ap (λ (z : Walking). length z.board.hops) c.loop-k.invariant.marks.rest,
)

pub loop-k-init : goal.loop-k-init
loop-k-init c = record { marks = no_marks c.args.self.now; roused = λ k below. absurd (omega (arith, below)) }

pub loop-k-preserved : goal.loop-k-preserved
loop-k-preserved c =
    let old = c.loop-k.self in
    let new = c.rouse.new.self in
    record {
      marks = more_marks c.args.self.now old new c.loop-k.invariant.marks c.rouse.ensures.marks;
      roused = λ k below. elim (cases_eq k c.loop-k.k) [
        | inl same ↦ subst (λ x. IsRousedBy new c.args.cell c.index-was.result.now x) (sym same) c.rouse.ensures.roused
        | inr apart ↦ still_roused old new c.args.cell c.index-was.result.now k c.rouse.ensures.marks
            (c.loop-k.invariant.roused k (omega (arith, below, apart)))
      ];
    }

pub returns : goal.returns
returns c =
    let here = rw (← c.self.view_is) at c.requires.cell in
    let was : c.index-was.result.now ≡ distance c.args.self.now c.args.cell =
    get_or_read c.self.inside.distances.items _ _ (omega (arith, here, c.self.invariant.distances)) c.index-was.ensures 0
    ∙ ap (λ z. distance z c.args.cell) c.self.view_is in
    record {
      marks = c.loop-k.invariant.marks;
      roused = λ k below. subst (λ x. IsRousedBy c.loop-k.self c.args.cell x k) was (c.loop-k.invariant.roused k (omega (
        arith,
        below,
        c.loop-k-test.false,
        c.fan-k-end.ensures.value,
        ap (λ z. length z.board.hops) c.self.view_is,
      )));
    }
