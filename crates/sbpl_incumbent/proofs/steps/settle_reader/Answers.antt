use Rattle.std.proofs.Common.{rules}
use Rattle.sbpl_incumbent.proofs.Keeping.{settle_step}
use Rattle.crossbeam_utils.specs.Seq.{cell_view}
use Rattle.sbpl_incumbent.specs.Slips.{entry_in}
use Rattle.sbpl_incumbent.specs.Known.{as_publisher}
use Rattle.sbpl_incumbent.proofs.steps.settle_reader.Goals as goal

pub load_as-requires : goal.load_as-requires
load_as-requires g c = (
  search rules,
  (
    search rules,
    (
      search rules,
      λ x views kept at.
          let v = cell_view c.args.publisher.now in
          let step = settle_step (entry_in x) views c.args.publisher.now.id v kept at c.requires.joined in
          (as_publisher v, step.0, step.1),
    ),
  ),
)
