use Rattle.std.proofs.Common.{◌≡◌, ◌<◌, length, sym}
use Rattle.std.proofs.lemmas.Option.{slice_get_within, get_or_from_slice_get}
use Rattle.sbpl_open.specs.Entries.{entry_at, no_entry}
use Rattle.sbpl_open.proofs.Agreeing.{absent_all}
use Rattle.sbpl_open.proofs.Viewing.{empty_view, least_view, length_none}
use Rattle.sbpl_open.proofs.open.Open.least.Goals as goal

pub returns-in_err-entry : goal.returns-in_err-entry
returns-in_err-entry c =
    let h = c.self.inside.heap.items in
    let p = c.self.inside.slots in
    let none = length_none h (rw c.deref.ensures.value at c.in_err-entry.ensures.value) in
    rw c.from_residual.ensures
    (record { least = empty_view h p c.self.view_is (absent_all c.self.invariant.agreed none) })

pub returns : goal.returns
returns c =
    let h = c.self.inside.heap.items in
    let p = c.self.inside.slots in
    let found = sym (rw c.deref.ensures.value at c.in_ok-entry.ensures.value) in
    let some : 0 < length h = slice_get_within h 0 c.in_ok-entry.field-0.now found in
    let at : entry_at h 0 ≡ c.in_ok-entry.field-0.now =
    get_or_from_slice_get h 0 c.in_ok-entry.field-0.now no_entry found in
    record {
      least = rw c.key.ensures.key (least_view h p _ c.in_ok-entry.field-0.now c.self.view_is c.self.invariant some at);
    }
