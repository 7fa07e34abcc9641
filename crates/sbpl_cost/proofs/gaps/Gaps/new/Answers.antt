use Rattle.sbpl_cost.proofs.Lessers.{all_good}
use Rattle.sbpl_cost.proofs.gaps.Gaps.new.Goals as goal

pub least_rate-requires-clause-primitives : goal.least_rate-requires-clause-primitives
least_rate-requires-clause-primitives c =
    all_good _ _ _ _ c.requires.cell c.requires.headings c.as_slice-prims.ensures.kept c.as_slice-prims.ensures.prims

pub least_rate-requires-2-clause-primitives : goal.least_rate-requires-2-clause-primitives
least_rate-requires-2-clause-primitives c =
    all_good _ _ _ _ c.requires.cell c.requires.headings c.as_slice-prims.ensures.kept c.as_slice-prims.ensures.prims

pub least_rate-requires-3-clause-primitives : goal.least_rate-requires-3-clause-primitives
least_rate-requires-3-clause-primitives c =
    all_good _ _ _ _ c.requires.cell c.requires.headings c.as_slice-prims.ensures.kept c.as_slice-prims.ensures.prims

pub least_rate-requires-4-clause-primitives : goal.least_rate-requires-4-clause-primitives
least_rate-requires-4-clause-primitives c =
    all_good _ _ _ _ c.requires.cell c.requires.headings c.as_slice-prims.ensures.kept c.as_slice-prims.ensures.prims

pub least_rate-requires-5-clause-primitives : goal.least_rate-requires-5-clause-primitives
least_rate-requires-5-clause-primitives c =
    all_good _ _ _ _ c.requires.cell c.requires.headings c.as_slice-prims.ensures.kept c.as_slice-prims.ensures.prims
