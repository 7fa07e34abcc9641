use Rattle.std.proofs.Common.{rules}
use Rattle.sbpl_incumbent.proofs.Keeping.{load_step}
use Rattle.crossbeam_utils.specs.Seq.{cell_view}
use Rattle.sbpl_incumbent.specs.Slips.{entry_in}
use Rattle.sbpl_incumbent.specs.Steps.{got_with}
use Rattle.sbpl_incumbent.proofs.steps.load_entry.Goals as goal

pub load_as-requires : goal.load_as-requires
load_as-requires g c = (
  search rules,
  (
    search rules,
    (
      search rules,
      λ x views kept at.
          let v = cell_view c.args.reader.now in
          let step = load_step (entry_in x) views c.args.reader.now.id v kept at c.requires.reader in
          (got_with v (entry_in x), step.0, step.1),
    ),
  ),
)
