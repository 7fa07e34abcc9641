use Rattle.std.proofs.Common.{rules, refl}
use Rattle.sbpl_incumbent.proofs.Keeping.{publish_step}
use Rattle.crossbeam_utils.specs.Seq.{cell_view}
use Rattle.sbpl_incumbent.specs.Slips.{entry_in}
use Rattle.sbpl_incumbent.specs.Steps.{published_with}
use Rattle.sbpl_incumbent.proofs.steps.put_entry.Goals as goal

pub swap_as-requires : goal.swap_as-requires
swap_as-requires g c = (
  search rules,
  (
    search rules,
    (
      search rules,
      λ x views kept at.
          let v = cell_view c.args.publisher.now in
          let entry = entry_in c.args.slip in (
            published_with v entry,
            publish_step (entry_in x) views c.args.publisher.now.id v kept at c.requires.publisher entry
                c.requires.number c.requires.fit,
            refl,
          ),
    ),
  ),
)
