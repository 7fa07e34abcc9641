use Rattle.std.proofs.Common.{◌≡◌, ℕ, ◌+◌, ◌∙◌, ◌-◌, length, slice_index, subst, arith, sym}
use Rattle.std.proofs.lemmas.List.{get_or_read, with_items_is}
use Rattle.std.proofs.lemmas.Option.{get_or_from_slice_get}
use Rattle.sbpl_open.specs.Entries.{entry_at, no_entry}
use Rattle.sbpl_open.specs.Heap.{IsHeap, rank_at}
use Rattle.sbpl_open.proofs.Agreeing.{place_at}
use Rattle.sbpl_open.proofs.Ending.{agreed_leaving, hole_closing, keys_closing, keys_leaving}
use Rattle.sbpl_open.proofs.Keeping.{changes_then}
use Rattle.sbpl_open.proofs.ends.remove.Goals as goal

pub overflow_sub-last : goal.overflow_sub-last
overflow_sub-last c =
    let slot = place_at c.args.s c.requires.agreed c.requires.there in
    let read : c.get.result ≡ slice_index c.args.slots.now c.args.s =
    sym (get_or_from_slice_get c.args.slots.now c.args.s c.get.result 0 c.get.ensures.value) in
    omega (arith, c.len-last.ensures, slot.0)

pub index-moved-requires : goal.index-moved-requires
index-moved-requires c =
    let slot = place_at c.args.s c.requires.agreed c.requires.there in
    let read : c.get.result ≡ slice_index c.args.slots.now c.args.s =
    sym (get_or_from_slice_get c.args.slots.now c.args.s c.get.result 0 c.get.ensures.value) in
    omega (arith, c.len-last.ensures, slot.0)

pub sift-requires-clause-hole : goal.sift-requires-clause-hole
sift-requires-clause-hole c =
    let heap = c.args.heap.now.items in
    let last = c.len-last.result - 1 in
    let slot = place_at c.args.s c.requires.agreed c.requires.there in
    let read : c.get.result ≡ slice_index c.args.slots.now c.args.s =
    sym (get_or_from_slice_get c.args.slots.now c.args.s c.get.result 0 c.get.ensures.value) in
    let len : length heap ≡ last + 1 = omega (arith, c.len-last.ensures, slot.0) in
    let moved : c.index-moved.result.now ≡ entry_at heap last =
    get_or_read heap last c.index-moved.result.now (omega arith) c.index-moved.ensures no_entry in
    rw (c.deref_mut.ensures.value ∙ c.truncate.ensures.items, moved, read, c.set.ensures.list)
    (hole_closing heap c.args.slots.now c.args.s (slice_index c.args.slots.now c.args.s - 1) last c.requires.agreed
    c.requires.ordered len slot.1 (rw read at c.if-gap-last.true))

pub returns-then-gap-last-clause-keys : goal.returns-then-gap-last-clause-keys
returns-then-gap-last-clause-keys c =
    let heap = c.args.heap.now.items in
    let last = c.len-last.result - 1 in
    let slot = place_at c.args.s c.requires.agreed c.requires.there in
    let read : c.get.result ≡ slice_index c.args.slots.now c.args.s =
    sym (get_or_from_slice_get c.args.slots.now c.args.s c.get.result 0 c.get.ensures.value) in
    let len : length heap ≡ last + 1 = omega (arith, c.len-last.ensures, slot.0) in
    let moved : c.index-moved.result.now ≡ entry_at heap last =
    get_or_read heap last c.index-moved.result.now (omega arith) c.index-moved.ensures no_entry in
    let kept = rw (c.deref_mut.ensures.value ∙ c.truncate.ensures.items, moved, read, c.set.ensures.list) at c.sift.ensures.keys in
    rw (with_items_is c.truncate.new.self c.sift.new.heap (omega arith))
    (changes_then (keys_closing heap c.args.slots.now c.args.s (slice_index c.args.slots.now c.args.s - 1) last
    c.requires.agreed c.requires.ordered len slot.1 (rw read at c.if-gap-last.true)) kept)

pub returns-else-gap-last-clause-agreed : goal.returns-else-gap-last-clause-agreed
returns-else-gap-last-clause-agreed c =
    let heap = c.args.heap.now.items in
    let last = c.len-last.result - 1 in
    let slot = place_at c.args.s c.requires.agreed c.requires.there in
    let read : c.get.result ≡ slice_index c.args.slots.now c.args.s =
    sym (get_or_from_slice_get c.args.slots.now c.args.s c.get.result 0 c.get.ensures.value) in
    let len : length heap ≡ last + 1 = omega (arith, c.len-last.ensures, slot.0) in
    rw (c.truncate.ensures.items, c.set.ensures.list)
    (agreed_leaving heap c.args.slots.now c.args.s (slice_index c.args.slots.now c.args.s - 1) last c.requires.agreed
    c.requires.ordered len slot.1 (rw read at c.if-gap-last.false) slot.0)

pub returns-else-gap-last-clause-keys : goal.returns-else-gap-last-clause-keys
returns-else-gap-last-clause-keys c =
    let heap = c.args.heap.now.items in
    let last = c.len-last.result - 1 in
    let slot = place_at c.args.s c.requires.agreed c.requires.there in
    let read : c.get.result ≡ slice_index c.args.slots.now c.args.s =
    sym (get_or_from_slice_get c.args.slots.now c.args.s c.get.result 0 c.get.ensures.value) in
    let len : length heap ≡ last + 1 = omega (arith, c.len-last.ensures, slot.0) in
    rw (c.truncate.ensures.items, c.set.ensures.list)
    (keys_leaving heap c.args.slots.now c.args.s (slice_index c.args.slots.now c.args.s - 1) last c.requires.agreed
    c.requires.ordered len slot.1 (rw read at c.if-gap-last.false) slot.0)

pub returns-then-gap-last-clause-agreed : goal.returns-then-gap-last-clause-agreed
returns-then-gap-last-clause-agreed c =
    rw (with_items_is c.truncate.new.self c.sift.new.heap (omega arith)) c.sift.ensures.agreed

pub returns-then-gap-last-clause-ordered : goal.returns-then-gap-last-clause-ordered
returns-then-gap-last-clause-ordered c =
    let same : length c.deref_mut.result.now ≡ length c.sift.new.heap = omega arith in
    rw (with_items_is c.truncate.new.self c.sift.new.heap (omega arith))
    (subst (λ (n : ℕ). IsHeap n (rank_at c.sift.new.heap)) same c.sift.ensures.ordered)
