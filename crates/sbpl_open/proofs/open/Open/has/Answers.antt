use Rattle.std.proofs.Common.{◌≡◌, ◌-◌, slice_index, arith, sym}
use Rattle.std.proofs.lemmas.Option.{get_or_from_slice_get}
use Rattle.sbpl_open.specs.Entries.{entry_at, key_of}
use Rattle.sbpl_open.specs.Heap.{is_there}
use Rattle.sbpl_open.proofs.Viewing.{states_view, key_view, some_there}
use Rattle.sbpl_open.proofs.open.Open.has.Goals as goal

pub get-requires : goal.get-requires
get-requires c = omega (arith, states_view c.self.inside.heap.items c.self.inside.slots c.self.view_is)

pub returns : goal.returns
returns c =
    let h = c.self.inside.heap.items in
    let p = c.self.inside.slots in
    let read : c.get.result ≡ slice_index p c.args.s = sym (get_or_from_slice_get p c.args.s c.get.result 0 c.get.ensures.value) in
    rw (read, key_view h p c.self.view_is c.args.s)
    (record { there = some_there (is_there p c.args.s) (key_of (entry_at h (slice_index p c.args.s - 1))) })
