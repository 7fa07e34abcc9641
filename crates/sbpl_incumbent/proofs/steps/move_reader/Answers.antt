use Rattle.std.proofs.Common.{rules}
use Rattle.sbpl_incumbent.proofs.Keeping.{move_step}
use Rattle.crossbeam_utils.specs.Seq.{cell_view}
use Rattle.sbpl_incumbent.specs.Slips.{entry_in}
use Rattle.sbpl_incumbent.proofs.steps.move_reader.Goals as goal

pub split_pass-requires : goal.split_pass-requires
split_pass-requires c = (
  search rules,
  (
    search rules,
    (
      search rules,
      λ x views kept at.
          move_step (entry_in x) views c.args.reader.now.id (cell_view c.args.reader.now) kept at c.requires.reader,
    ),
  ),
)
