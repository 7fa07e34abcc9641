use Rattle.std.proofs.Common.{Bool, arith, ap, sym, ◌∙◌}
use Rattle.std.proofs.Math.Bool.{◌||◌}
use Rattle.std.proofs.lemmas.List.Elements.{All-push}
use Rattle.sbpl_epase.specs.Workers.{HasEnded}
use Rattle.sbpl_epase.proofs.Seats.{IsEven, ended_where}
use Rattle.sbpl_epase.proofs.crew.join_all.Goals as goal

pub joins-preserved : goal.joins-preserved
joins-preserved g c =
    let held = c.joins.invariant in
    let done = c.join-done.result in
    let pushed = c.push_reserved.ensures in (
      omega (arith, held.0, pushed.len, c.in-Some.ensures.len),
      rw pushed.capacity held.1,
      rw pushed.items (All-push IsEven c.joins.seats.items done.seat held.2 done.even),
      λ none.
          let ended = ended_where done.seat c.joins.refused done.why done.saw
          (ap (λ (err : Bool). c.joins.refused || err) (sym c.is_err-refused.ensures.value) ∙ none) in
          rw pushed.items
          (All-push (HasEnded g.N.Pass.query g.N.Pass.opening g.N.Pass.counts) c.joins.seats.items done.seat
          (held.3 ended.0) ended.1),
    )
