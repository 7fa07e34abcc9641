use Rattle.std.proofs.Common.{rules, ◌≡◌, ap, sym, subst, ◌∙◌, map}
use Rattle.sbpl_sweep.specs.sbpl_cfg.Environment.{Environment, IsEnvironment}
use Rattle.sbpl_sweep.specs.sbpl_mprim.Primitives.{ArePrimitives}
use Rattle.sbpl_sweep.specs.Swept.{AreForFew}
use Rattle.sbpl_cost.specs.PrimitiveCost.{primitive_cost}
use Rattle.sbpl_cost.specs.Rates.{AreGaps}
use Rattle.sbpl_cost.specs.Tables.{AreCheap}
use Rattle.sbpl_cost.specs.World.{IsWorld}
use Rattle.sbpl_cost.proofs.lattice.Lattice.new.Goals as goal

-- the parts are those of a world
world : (c : goal.After-result-1) (env : Environment) → IsEnvironment env → c.args.env.now ≡ env
    → IsWorld (record { env = env; prims = c.args.prims; sweeps = c.args.sweeps; map = c.args.map })
world c env is same =
    let prims : ArePrimitives c.args.prims = search rules in
    let few : AreForFew c.args.sweeps = search rules in
    record {
      env = is;
      prims = prims;
      map = c.width.ensures.kept;
      cell = c.requires.cell ∙ ap (λ (e : Environment). e.cell) same;
      headings = c.requires.headings ∙ ap (λ (e : Environment). e.headings) same;
      width = c.requires.width ∙ ap (λ (e : Environment). e.width) same;
      height = c.requires.height ∙ ap (λ (e : Environment). e.height) same;
      sweeps = c.requires.sweeps;
      radius = few.radius;
      costs = subst (λ (e : Environment). AreCheap e c.args.prims.items) same c.in_ok-costs.ensures.cheap;
    }

pub invariant_of-result-2 : goal.invariant_of-result-2
invariant_of-result-2 c = record {
  world = world c _ c.env.invariant (sym c.env.view_is);
  leaving = c.in_ok-costs.ensures.leaving;
  entering = c.in_ok-costs.ensures.entering;
  numbers = c.in_ok-costs.ensures.numbers;
  tail_numbers = c.in_ok-costs.ensures.tail_numbers;
  costs =
      c.in_ok-costs.ensures.costs
      ∙ ap (λ (e : Environment). map (primitive_cost e) c.args.prims.items) (sym c.env.view_is);
  along = c.in_ok-costs.ensures.along;
  around = c.in_ok-costs.ensures.around;
  reaches = c.in_ok-costs.ensures.reaches;
  walls = search rules;
  fractions =
      subst (λ (e : Environment). AreGaps e c.args.prims.items c.new-gaps.result) (sym c.env.view_is)
      c.new-gaps.ensures.gaps;
}

pub returns-clause-kept : goal.returns-clause-kept
returns-clause-kept c = world c _ c.env.invariant (sym c.env.view_is)
