use Rattle.std.proofs.Common.{rules}
use Rattle.sbpl_incumbent.proofs.Keeping.{reader_step}
use Rattle.crossbeam_utils.specs.Seq.{cell_view}
use Rattle.sbpl_incumbent.specs.Slips.{entry_in}
use Rattle.sbpl_incumbent.proofs.steps.split_reader.Goals as goal

pub split_pass-requires : goal.split_pass-requires
split_pass-requires c = (
  search rules,
  (
    search rules,
    (
      search rules,
      λ x views kept at. reader_step (entry_in x) views c.args.publisher.now.id (cell_view c.args.publisher.now)
          kept at c.requires.publisher,
    ),
  ),
)
