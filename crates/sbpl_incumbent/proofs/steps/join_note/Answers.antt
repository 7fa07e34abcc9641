use Rattle.std.proofs.Common.{rules}
use Rattle.sbpl_incumbent.proofs.Keeping.{learn_step}
use Rattle.crossbeam_utils.specs.Seq.{cell_view}
use Rattle.sbpl_incumbent.specs.Slips.{entry_in}
use Rattle.sbpl_incumbent.proofs.steps.join_note.Goals as goal

pub join_pass-requires : goal.join_pass-requires
join_pass-requires c = (
  search rules,
  (
    search rules,
    (
      search rules,
      λ x views kept at apart there.
          learn_step (entry_in x) views c.args.reader.now.id (cell_view c.args.reader.now) kept at c.requires.reader
          c.args.note.id (cell_view c.args.note) c.requires.note apart there,
    ),
  ),
)
