use Rattle.std.proofs.Common.{◌≡◌, ◌∙◌, length, replicate, slice_index, ap, arith}
use Rattle.std.proofs.lemmas.List.{length-replicate, get_or-replicate}
use Rattle.sbpl_serial.proofs.Marking.{none_marked}
use Rattle.sbpl_serial.proofs.closed.Closed.open.Goals as goal

pub returns-clause-none : goal.returns-clause-none
returns-clause-none c =
    let states : length c.in_ok-marks.marks ≡ c.args.states =
    ap length c.in_ok-marks.ensures.list ∙ length-replicate c.args.states 0 in
    none_marked c.in_ok-marks.marks 1
    (λ s inside.
    let none : slice_index (replicate c.args.states 0) s ≡ 0 =
    get_or-replicate c.args.states s 0 0 (omega (arith, inside, states)) in
    omega (arith, ap (λ marks. slice_index marks s) c.in_ok-marks.ensures.list, none))
