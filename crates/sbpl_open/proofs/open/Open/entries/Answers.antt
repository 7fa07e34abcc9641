use Rattle.std.proofs.Common.{◌-◌, slice_index, arith, ap}
use Rattle.sbpl_open.specs.Entries.{state_at}
use Rattle.sbpl_open.proofs.Agreeing.{place_at}
use Rattle.sbpl_open.proofs.Counting.{states_at_most}
use Rattle.sbpl_open.proofs.Viewing.{states_view, key_listed, there_key}
use Rattle.sbpl_open.proofs.open.Open.entries.Goals as goal

pub returns-clause-few : goal.returns-clause-few
returns-clause-few c =
    let h = c.self.inside.heap.items in
    let p = c.self.inside.slots in
    let most = states_at_most c.self.invariant.agreed in
    omega (arith, states_view h p c.self.view_is)

pub returns-clause-listed : goal.returns-clause-listed
returns-clause-listed c =
    let h = c.self.inside.heap.items in
    let p = c.self.inside.slots in
    rw c.as_slice.ensures.value
    (λ i inside. key_listed h p c.self.view_is (state_at h i) i (c.self.invariant.agreed.placed i inside))

pub returns-clause-all : goal.returns-clause-all
returns-clause-all c = λ u is.
    let h = c.self.inside.heap.items in
    let p = c.self.inside.slots in
    let slot = place_at u c.self.invariant.agreed (there_key h p c.self.view_is u is) in
    rw c.as_slice.ensures.value (slice_index p u - 1, slot.0, slot.1)

pub returns-clause-once : goal.returns-clause-once
returns-clause-once c =
    let p = c.self.inside.slots in
    let agreed = c.self.invariant.agreed in
    rw c.as_slice.ensures.value
    (λ i j inside inside' same. omega (arith, agreed.placed i inside, agreed.placed j inside', ap (slice_index p) same))
