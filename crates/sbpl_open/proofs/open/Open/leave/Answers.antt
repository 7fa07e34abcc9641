use Rattle.std.proofs.Common.{◌≡◌, ◌<◌, ◌-◌, None, slice_index, arith, refl, sym}
use Rattle.std.proofs.lemmas.Option.{get_or_from_slice_get}
use Rattle.sbpl_open.proofs.Viewing.{states_view, key_listed, key_absent, changes_view, small_left}
use Rattle.sbpl_open.proofs.open.Open.leave.Goals as goal

pub get-requires : goal.get-requires
get-requires c = omega (arith, states_view c.self.inside.heap.items c.self.inside.slots c.self.view_is)

pub remove-requires-clause-there : goal.remove-requires-clause-there
remove-requires-clause-there c =
    let p = c.self.inside.slots in
    let read : c.get.result ≡ slice_index p c.args.s = sym (get_or_from_slice_get p c.args.s c.get.result 0 c.get.ensures.value) in
    rw (← read) c.if-get-gt0.true

pub returns-then-get-gt0-clause-changed : goal.returns-then-get-gt0-clause-changed
returns-then-get-gt0-clause-changed c =
    changes_view c.self.inside.heap.items c.self.inside.slots _ _ c.args.s None c.self.view_is c.remove.ensures.states
    c.remove.ensures.keys

pub returns-then-get-gt0-clause-unchanged : goal.returns-then-get-gt0-clause-unchanged
returns-then-get-gt0-clause-unchanged c = λ none.
    let h = c.self.inside.heap.items in
    let p = c.self.inside.slots in
    let states = states_view h p c.self.view_is in
    let read : c.get.result ≡ slice_index p c.args.s = sym (get_or_from_slice_get p c.args.s c.get.result 0 c.get.ensures.value) in
    let there : 0 < slice_index p c.args.s = rw (← read) c.if-get-gt0.true in
    let key = key_listed h p c.self.view_is c.args.s (slice_index p c.args.s - 1) (omega arith) in
    absurd cc

pub returns-else-get-gt0-clause-changed : goal.returns-else-get-gt0-clause-changed
returns-else-get-gt0-clause-changed c =
    let h = c.self.inside.heap.items in
    let p = c.self.inside.slots in
    let read : c.get.result ≡ slice_index p c.args.s = sym (get_or_from_slice_get p c.args.s c.get.result 0 c.get.ensures.value) in
    let absent : slice_index p c.args.s ≡ 0 = omega arith in
    record { states = refl; at = key_absent h p c.self.view_is c.args.s absent; others = λ u apart. refl }

pub invariant_of-self : goal.invariant_of-self
invariant_of-self c = record {
  few = omega (arith, c.self.invariant.few, c.remove.ensures.states);
  agreed = c.remove.ensures.agreed;
  ordered = c.remove.ensures.ordered;
  small = small_left c.self.invariant.small c.remove.ensures.keys;
  enough_room = omega (arith, c.remove.ensures.room, c.self.invariant.enough_room, c.remove.ensures.states);
}
