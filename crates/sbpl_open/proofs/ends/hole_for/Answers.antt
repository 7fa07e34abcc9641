use Rattle.std.proofs.Common.{◌≡◌, ◌-◌, ◌<◌, length, slice_index, arith, sym}
use Rattle.std.proofs.lemmas.Option.{get_or_from_slice_get}
use Rattle.std.proofs.lemmas.Grind.{common_steps}
use Rattle.sbpl_open.proofs.Counting.{states_fewer}
use Rattle.sbpl_open.proofs.Ending.{hole_pushed, hole_there}
use Rattle.sbpl_open.proofs.ends.hole_for.Goals as goal

pub push_reserved-requires : goal.push_reserved-requires
push_reserved-requires c =
    let read : c.get-slot.result ≡ slice_index c.args.slots.now c.args.entry.state =
    sym (get_or_from_slice_get c.args.slots.now c.args.entry.state c.get-slot.result 0 c.get-slot.ensures.value) in
    let fewer = states_fewer c.args.entry.state c.requires.agreed c.requires.state (omega arith) in
    omega arith

pub returns-then-slot-gt0-clause-hole : goal.returns-then-slot-gt0-clause-hole
returns-then-slot-gt0-clause-hole c =
    let read : c.get-slot.result ≡ slice_index c.args.slots.now c.args.entry.state =
    sym (get_or_from_slice_get c.args.slots.now c.args.entry.state c.get-slot.result 0 c.get-slot.ensures.value) in
    rw read (hole_there c.args.entry c.requires.agreed c.requires.ordered (rw read at c.if-slot-gt0.true))

pub returns-then-slot-gt0-clause-keys : goal.returns-then-slot-gt0-clause-keys
returns-then-slot-gt0-clause-keys c =
    let read : c.get-slot.result ≡ slice_index c.args.slots.now c.args.entry.state =
    sym (get_or_from_slice_get c.args.slots.now c.args.entry.state c.get-slot.result 0 c.get-slot.ensures.value) in
    rw read (grind (arith, common_steps))

pub returns-clause-hole : goal.returns-clause-hole
returns-clause-hole c =
    let read : c.get-slot.result ≡ slice_index c.args.slots.now c.args.entry.state =
    sym (get_or_from_slice_get c.args.slots.now c.args.entry.state c.get-slot.result 0 c.get-slot.ensures.value) in
    let at : c.len.result - 1 ≡ length c.args.heap.now.items =
    omega (arith, c.len.ensures, c.push_reserved.ensures.len) in
    rw (c.push_reserved.ensures.items, at)
    (hole_pushed c.args.entry c.requires.agreed c.requires.ordered (omega arith) c.requires.state)
