use Rattle.std.proofs.Common.{◌≡◌, ◌∙◌, length, ap, arith}
use Rattle.std.proofs.lemmas.List.{length-replicate, get_or-replicate}
use Rattle.sbpl_open.proofs.Viewing.{states_fresh, empty_fresh}
use Rattle.sbpl_open.proofs.open.Open.new.Goals as goal

pub returns-clause-states : goal.returns-clause-states
returns-clause-states c =
    states_fresh c.in_ok-heap.heap.items c.in_ok-slots.slots c.args.states
    (ap length c.in_ok-slots.ensures.list ∙ length-replicate c.args.states 0)

pub returns-clause-empty : goal.returns-clause-empty
returns-clause-empty c =
    let states : length c.in_ok-slots.slots ≡ c.args.states =
    ap length c.in_ok-slots.ensures.list ∙ length-replicate c.args.states 0 in
    empty_fresh c.in_ok-heap.heap.items c.in_ok-slots.slots
    (λ s inside. rw c.in_ok-slots.ensures.list (get_or-replicate c.args.states s 0 0 (omega (arith, inside, states))))
