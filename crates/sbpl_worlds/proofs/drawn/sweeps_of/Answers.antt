use Rattle.std.proofs.Common.{rules}
use Rattle.sbpl_promises.specs.sbpl_demo.Primitives.{primitives}
use Rattle.sbpl_worlds.proofs.Drawings.{only_memory}
use Rattle.sbpl_worlds.proofs.drawn.sweeps_of.Goals as goal

pub unreachable-requires : goal.unreachable-requires
unreachable-requires c =
    let is =
    only_memory c.args.prims.now primitives c.in-Err.field-0 c.requires.narrow c.requires.prims
    c.in-Err.ensures.cause in
    search rules
