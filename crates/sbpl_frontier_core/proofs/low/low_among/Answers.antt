use Rattle.std.proofs.Common.{◌≡◌, ◌+◌, take, slice_index_or, ⊎_elim, inl, inr, arith}
use Rattle.std.specs.List.{Contains}
use Rattle.std.proofs.lemmas.List.{take_all}
use Rattle.sbpl_frontier_rules.specs.sbpl_serial.Low.{IsInQueue}
use Rattle.sbpl_frontier_rules.proofs.Lowering.{low_more, low_of_all, low_same}
use Rattle.sbpl_frontier_core.proofs.Lowering.{among_next}
use Rattle.sbpl_frontier_core.proofs.low.low_among.Goals as goal

pub loop-s-init : goal.loop-s-init
loop-s-init g c =
    low_same c.low_of_queue-low.ensures.low
    (λ s told. ⊎_elim (λ (queued : IsInQueue c.args.queue.now s). queued)
    (λ (among : Contains (take 0 c.args.states.now) s). absurd (omega (arith, among.1))) told)

pub loop-s-preserved : goal.loop-s-preserved
loop-s-preserved g c =
    let states = c.args.states.now in
    let i = c.loop-s.s-index in
    let inside = c.requires.inside i 0 c.loop-s-test.true in
    low_same
    (low_more c.loop-s.invariant inside c.low_with-low.ensures.falls c.low_with-low.ensures.own
    c.low_with-low.ensures.greatest)
    (λ s told.
    ⊎_elim
    (λ (queued : IsInQueue c.args.queue.now s). inl (inl queued))
    (λ (among : Contains (take (i + 1) states) s).
    ⊎_elim (λ (before : Contains (take i states) s). inl (inr before)) (λ (at : s ≡ slice_index_or states i 0). inr at)
    (among_next states i s c.loop-s-test.true among))
    told)

pub returns : goal.returns
returns g c = record {
  least = low_of_all c.loop-s.invariant (rw (take_all c.loop-s.s-index c.args.states.now (omega arith)) c.requires.all);
}
