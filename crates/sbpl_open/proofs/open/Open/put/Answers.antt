use Rattle.std.proofs.Common.{◌≡◌, length, arith}
use Rattle.std.proofs.lemmas.List.{with_items_is}
use Rattle.sbpl_open.proofs.Keeping.{changes_then}
use Rattle.sbpl_open.proofs.Viewing.{states_view, changes_view, small_put}
use Rattle.sbpl_open.proofs.open.Open.put.Goals as goal

pub hole_for-hole-requires-clause-state : goal.hole_for-hole-requires-clause-state
hole_for-hole-requires-clause-state c =
    omega (arith, states_view c.self.inside.heap.items c.self.inside.slots c.self.view_is)

pub invariant_of-self : goal.invariant_of-self
invariant_of-self c =
    let heap = with_items_is c.hole_for-hole.new.heap c.sift.new.heap (omega arith) in
    let len : length c.deref_mut.result.now ≡ length c.sift.new.heap = omega arith in
    let kept = rw c.deref_mut.ensures.value at c.sift.ensures.keys in
    rw heap
    (record {
      few = omega (arith, c.self.invariant.few, c.sift.ensures.states);
      agreed = c.sift.ensures.agreed;
      ordered = rw len at c.sift.ensures.ordered;
      small = small_put c.self.invariant.small (changes_then c.hole_for-hole.ensures.keys kept) (omega arith);
      enough_room = omega (arith, c.hole_for-hole.ensures.room, c.self.invariant.enough_room, c.sift.ensures.states);
    })

pub returns : goal.returns
returns c =
    let heap = with_items_is c.hole_for-hole.new.heap c.sift.new.heap (omega arith) in
    let kept = rw c.deref_mut.ensures.value at c.sift.ensures.keys in
    record {
      changed =
          changes_view c.self.inside.heap.items c.self.inside.slots _ _ c.args.s _ c.self.view_is c.sift.ensures.states
          (rw heap (changes_then c.hole_for-hole.ensures.keys kept));
    }
