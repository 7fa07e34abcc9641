use Rattle.std.proofs.Common.{ap, refl, sym, ◌∙◌}
use Rattle.std.proofs.lemmas.List.{take_more}
use Rattle.std.proofs.lemmas.Option.{slice_get-get_or}
use Rattle.sbpl_map.specs.declared.write.Write.{Write}
use Rattle.sbpl_terrain.proofs.Written.{still_on_map}
use Rattle.sbpl_terrain.proofs.batch.write_batch.Goals as goal

pub loop-write-init : goal.loop-write-init
loop-write-init g c = record {
  written = refl;
  others = sym (c.is_terrain.ensures.law.present c.args.world.now);
  width = refl;
  height = refl;
}

pub make-requires : goal.make-requires
make-requires g c =
    let map = g.W.Terrain.cells.map in
    let batch = c.args.batch.now in
    let i = c.loop-write.write-index in
    let none : Write = record { x = 0; y = 0; cost = 0 } in
    record {
      on_map =
          still_on_map (map c.args.world.now) (map c.loop-write.world) _ _ c.loop-write.invariant.width
          c.loop-write.invariant.height
          (c.requires.on_map i _ (slice_get-get_or batch i none c.loop-write-test.true));
    }

pub loop-write-preserved : goal.loop-write-preserved
loop-write-preserved g c =
    let cells = g.W.Terrain.cells in
    let batch = c.args.batch.now in
    let i = c.loop-write.write-index in
    let none : Write = record { x = 0; y = 0; cost = 0 } in
    let again =
    c.is_terrain.ensures.law.again c.args.world.now (cells.map c.loop-write.world) (cells.map c.make.new.world) in
    record {
      written =
          rw (take_more batch i none c.loop-write-test.true) (c.writes_lead_to_the_next_map.ensures.one_write _ _ _ _ _
          c.loop-write.invariant.written c.make.ensures.changes);
      others = c.make.ensures.others
          ∙ ap (λ w. cells.over w (cells.map c.make.new.world)) c.loop-write.invariant.others ∙ again;
      width = c.make.ensures.changes.width ∙ c.loop-write.invariant.width;
      height = c.make.ensures.changes.height ∙ c.loop-write.invariant.height;
    }
