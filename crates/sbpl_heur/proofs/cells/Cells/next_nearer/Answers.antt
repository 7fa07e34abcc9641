use Rattle.std.proofs.Common.{◌≡◌, ◌+◌, ◌*◌, arith, ap, sym, ◌∙◌, slice_index, slice_get}
use Rattle.std.proofs.lemmas.Bool.{false≢true}
use Rattle.std.proofs.lemmas.List.{get_or_read}
use Rattle.sbpl_heur.proofs.Boarding.{arc_before, arc_floor, arc_free}
use Rattle.sbpl_heur.proofs.cells.Cells.next_nearer.Goals as goal

pub returns-then-not-is_end_free-clause-skipped : goal.returns-then-not-is_end_free-clause-skipped
returns-then-not-is_end_free-clause-skipped c = λ a j weight late before arc.
    let here = rw (← c.self.view_is) at arc in
    let inside = rw (← c.self.view_is) at c.requires.cell in
    let free = arc_free _ c.self.invariant a c.args.cell j weight here in
    let end = get_or_read c.self.inside.costs.items _ _ inside c.index-end.ensures 0 in
    absurd (false≢true (sym c.if-not-is_end_free.true
    ∙ c.is_end_free.ensures.free.1 (omega (arith, free.0, end), omega (arith, free.1, end))))

pub returns-clause-skipped : goal.returns-clause-skipped
returns-clause-skipped c = λ a j weight late before arc.
    let here = rw (← c.self.view_is) at arc in
    let inside = rw (← c.self.view_is) at c.requires.cell in
    let spot = rw (← c.self.view_is) at c.requires.spot in
    let end = get_or_read c.self.inside.costs.items _ _ inside c.index-end.ensures 0 in
    let low = c.first_farther.ensures.skipped j a here.hop late before
    (ap (λ l. slice_get l j) c.as_slice.ensures.value ∙ here.at)
    (arc_before _ c.self.invariant a c.args.cell j weight c.args.spot spot here) in
    let high = arc_floor _ c.self.invariant a c.args.cell j weight here in
    let times : here.hop.cost * (c.from.result + 1) ≡ here.hop.cost * (slice_index c.self.inside.costs.items c.args.cell + 1) =
    ap (λ n. here.hop.cost * (n + 1)) (c.from.ensures ∙ end) in
    omega (arith, low, high, times)
