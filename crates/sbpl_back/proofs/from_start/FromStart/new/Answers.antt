use Rattle.std.proofs.Common.{ℕ, ◌<◌, ◌^◌, ap, sym, subst}
use Rattle.sbpl_back.specs.Starts.{StartIn}
use Rattle.sbpl_back.proofs.Guiding.{guides_from}
use Rattle.sbpl_back.proofs.from_start.FromStart.new.Goals as goal

pub invariant_of-result : goal.invariant_of-result
invariant_of-result c = (
  subst (λ (n : ℕ). c.args.start < n) (sym c.gaps.ensures.states) c.requires.start,
  λ s inside. subst (λ (gap : ℕ → ℕ → ℕ). gap c.args.start s < 2 ^ 55) (sym c.gaps.ensures.gap)
      (c.states-states.ensures.gaps.small c.args.start s c.requires.start
      (subst (λ (n : ℕ). s < n) c.gaps.ensures.states inside)),
)

pub returns-clause-gap : goal.returns-clause-gap
returns-clause-gap c = ap (λ (gap : ℕ → ℕ → ℕ). gap c.args.start) c.gaps.ensures.gap

pub returns-clause-guides : goal.returns-clause-guides
returns-clause-guides c =
    let made : StartIn = record { gaps = c.gaps.result; start = c.args.start } in
    guides_from c.args.lattice.now made c.args.start c.env-env.ensures.kept c.states-states.ensures.tails
    c.states-states.ensures.gaps c.gaps_rise_along_arcs.ensures.law c.requires.start c.gaps.ensures.states
    (ap (λ (gap : ℕ → ℕ → ℕ). gap c.args.start) c.gaps.ensures.gap)
