use Rattle.std.proofs.Common.{◌≡◌, ◌∷◌, Some, rules}
use Rattle.std.specs.BTreeMap.{get}
use Rattle.std.specs.Map.Iter.{deref_pair}
use Rattle.std.proofs.lemmas.Map.Iter.{btree_map_turn, rest_more, rest_all}
use Rattle.sbpl_terrain.specs.Noted.{cell_cmp}
use Rattle.sbpl_terrain.proofs.Adding.{cells_total, still_sound, still_complete, still_states, all_ends}
use Rattle.sbpl_terrain.proofs.ends.add_changed_ends.Goals as goal

pub loop-cell-preserved : goal.loop-cell-preserved
loop-cell-preserved g c =
    let n = g.W.Graph.network in
    let cells = g.W.Terrain.cells in
    let w = c.args.world.now in
    let costs = c.args.costs.now in
    let x = c.in-Some.cell.now.0 in
    let y = c.in-Some.cell.now.1 in
    let was = c.in-Some.was.now in
    let turn =
    btree_map_turn deref_pair c.loop-cell.yielded c.into_iter-cell-iterator.result c.loop-cell.cell-iterator
    c.next.new.self c.next.result (c.in-Some.cell, c.in-Some.was) c.loop-cell.yielded_by c.in-Some.is
    c.next.ensures.steps cells_total costs (search rules) (search rules) in
    let noted : get cell_cmp costs (x, y) ≡ Some was = turn.1 in
    let left : c.loop-cell.cell-iterator ≡ ((x, y), was) ∷ c.next.new.self =
    rest_more deref_pair c.loop-cell.cell-iterator c.next.new.self c.next.result (c.in-Some.cell, c.in-Some.was)
    c.in-Some.is c.next.ensures.steps in
    let adds = c.in_ok-add_ends.ensures.added in
    record {
      sound =
          still_sound n cells c.args.end w costs x y was noted c.loop-cell.ends.items c.add_ends.new.ends.items adds
          c.loop-cell.invariant.sound;
      complete =
          still_complete n cells c.args.end w costs x y was noted c.loop-cell.ends.items c.add_ends.new.ends.items adds
          c.loop-cell.cell-iterator c.next.new.self left c.loop-cell.invariant.complete;
      states =
          still_states n cells c.args.end w costs x y was noted c.loop-cell.ends.items c.add_ends.new.ends.items adds
          c.loop-cell.invariant.states;
    }

pub returns : goal.returns
returns g c =
    let same = c.list_once.ensures.same in
    record {
      ends = record {
        sound = λ t h. c.loop-cell.invariant.sound t ((same t).0 h);
        complete = λ t head.
            (same t).1 (all_ends g.W.Graph.network g.W.Terrain.cells c.args.end c.args.world.now c.args.costs.now
            c.loop-cell.cell-iterator c.loop-cell.ends.items (rest_all deref_pair c.loop-cell.cell-iterator
            c.next.new.self c.next.result c.in-None.is c.next.ensures.steps) c.loop-cell.invariant.complete t head);
        states = λ t h. c.loop-cell.invariant.states t ((same t).0 h);
      };
      once = c.list_once.ensures.once;
    }
