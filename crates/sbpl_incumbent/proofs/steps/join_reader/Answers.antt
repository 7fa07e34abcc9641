use Rattle.std.proofs.Common.{rules}
use Rattle.sbpl_incumbent.proofs.Keeping.{join_step}
use Rattle.crossbeam_utils.specs.Seq.{cell_view}
use Rattle.sbpl_incumbent.specs.Slips.{entry_in}
use Rattle.sbpl_incumbent.proofs.steps.join_reader.Goals as goal

pub join_pass-requires : goal.join_pass-requires
join_pass-requires c = (
  search rules,
  (
    search rules,
    (
      search rules,
      λ x views kept at apart there.
          join_step (entry_in x) views c.args.publisher.now.id (cell_view c.args.publisher.now) kept
          at c.requires.publisher c.args.reader.id (cell_view c.args.reader) c.requires.reader apart there,
    ),
  ),
)
