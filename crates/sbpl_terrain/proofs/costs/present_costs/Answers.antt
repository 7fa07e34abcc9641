use Rattle.std.proofs.Common.{◌<◌, length, arith}
use Rattle.std.proofs.lemmas.Option.{slice_get-get_or, slice_get_within}
use Rattle.sbpl_terrain.proofs.Noting.{noted_below}
use Rattle.sbpl_terrain.proofs.costs.present_costs.Goals as goal

pub note-requires-clause-on_map : goal.note-requires-clause-on_map
note-requires-clause-on_map g c =
    c.requires.on_map c.loop-write.write-index _ (slice_get-get_or c.args.batch.now c.loop-write.write-index
    (record { x = 0; y = 0; cost = 0 }) c.loop-write-test.true)

pub loop-write-preserved : goal.loop-write-preserved
loop-write-preserved g c = record {
  sound = c.in_ok-note.ensures.sound;
  complete =
      noted_below c.args.batch.now c.loop-write.costs c.note.new.costs c.loop-write.write-index
      (record { x = 0; y = 0; cost = 0 }) c.loop-write-test.true c.loop-write.invariant.complete
      c.in_ok-note.ensures.kept c.in_ok-note.ensures.noted;
}

pub returns : goal.returns
returns g c = record {
  noted = record {
    sound = c.loop-write.invariant.sound;
    complete = λ i w h. c.loop-write.invariant.complete i w
        (let k : i < length c.args.batch.now = slice_get_within c.args.batch.now i w h in omega arith) h;
  };
}
