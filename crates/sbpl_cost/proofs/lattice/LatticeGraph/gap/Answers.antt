use Rattle.std.proofs.Common.{ap, sym, ◌∙◌}
use Rattle.sbpl_cost.specs.Gaps.{gap_of}
use Rattle.sbpl_cost.specs.States.{place_of}
use Rattle.sbpl_cost.proofs.Lessers.{gap_by_is}
use Rattle.sbpl_cost.proofs.TailViews.{gap_is, gap_is_small}
use Rattle.sbpl_cost.proofs.Views.{state_below}
use Rattle.sbpl_cost.proofs.lattice.LatticeGraph.gap.Goals as goal

pub place_at-from-requires : goal.place_at-from-requires
place_at-from-requires c =
    let state = rw (← c.self.view_is) at c.requires.from in record { state = state_below _ c.args.a state }

pub place_at-to-requires : goal.place_at-to-requires
place_at-to-requires c =
    let state = rw (← c.self.view_is) at c.requires.to in record { state = state_below _ c.args.b state }

pub returns-clause-value : goal.returns-clause-value
returns-clause-value c =
    rw (← c.self.view_is) (c.between.ensures.value
    ∙ gap_by_is c.self.inside.env c.self.inside.prims.items c.self.inside.gaps c.self.invariant.fractions
    c.place_at-from.result c.place_at-to.result
    ∙ ap (λ p. gap_of c.self.inside.env c.self.inside.prims.items p c.place_at-to.result) c.place_at-from.ensures.value
    ∙ ap (λ p. gap_of c.self.inside.env c.self.inside.prims.items (place_of c.self.inside.env c.args.a) p)
    c.place_at-to.ensures.value
    ∙ sym (gap_is _ c.args.a c.args.b))

pub returns-clause-small : goal.returns-clause-small
returns-clause-small c =
    gap_is_small c.args.self.now (rw (← c.self.view_is) c.self.invariant.world) c.args.a c.args.b c.between.result
    c.requires.from c.requires.to (returns-clause-value c)
