use Rattle.std.proofs.Common.{◌≡◌, ap, ◌∙◌}
use Rattle.sbpl_promises.specs.sbpl_map.CellMap.{CellMap}
use Rattle.sbpl_worlds.proofs.drawn.parts_of.Goals as goal

pub changes_of-requires-clause-said : goal.changes_of-requires-clause-said
changes_of-requires-clause-said c =
    let wide : c.map.result.now.width ≡ c.args.job.now.width =
    ap (λ (m : CellMap). m.width) (c.map.ensures.map ∙ c.in_ok-lattice.ensures.drawn.map) in
    let high : c.map.result.now.height ≡ c.args.job.now.height =
    ap (λ (m : CellMap). m.height) (c.map.ensures.map ∙ c.in_ok-lattice.ensures.drawn.map) in
    rw c.as_slice.ensures.items (c.requires.changes c.map.result.now wide high)
