use Rattle.sbpl_laws.proofs.SameRecords.{IsPlannerDetermined, few_are_first, of_each, records_are_one}
use Rattle.sbpl_promises.specs.Determined.{AreAlikeWorlds}
use Rattle.sbpl_promises.specs.GridSite.{grid_site}
use Rattle.sbpl_promises.specs.LatticeSite.{lattice_site}
use Rattle.sbpl_laws.proofs.GridAlike.{AreOneGrid, grids_alike}
use Rattle.sbpl_laws.proofs.LatticeAlike.{lattices_alike}
use Rattle.sbpl_promises.specs.sbpl_ara.Planner.{ara}
use Rattle.sbpl_promises.specs.sbpl_adstar.Planner.{adstar}
use Rattle.sbpl_laws.proofs.laws.records_are_determined.Goals as goal

pub returns : goal.returns
returns c =
    let run = c.run_is_determined.ensures in
    let by_ara : IsPlannerDetermined ara =
    record { passes = run.determined; beginnings = run.anew; plans = c.plan_is_determined.ensures.passes } in
    let by_adstar : IsPlannerDetermined adstar =
    record { passes = run.determined; beginnings = run.repaired; plans = c.plan_is_determined-2.ensures.passes } in
    let first =
    few_are_first lattice_site AreAlikeWorlds (lattices_alike c.alike_worlds_are_one_graph.ensures.law)
    (of_each by_ara by_adstar) c.paths_turn_round.ensures.once run.initial c.plan_is_determined.ensures.outcome
    c.cut_rows_are_one.ensures.one c.writes_lead_to_the_next_map.ensures.one_map in
    let on_grids =
    few_are_first grid_site AreOneGrid grids_alike (of_each by_ara by_adstar) c.paths_turn_round.ensures.once
    run.initial c.plan_is_determined.ensures.outcome c.cut_rows_are_one.ensures.one
    c.writes_lead_to_the_next_map.ensures.one_map in
    record {
      law = records_are_one lattice_site AreAlikeWorlds first;
      few = first;
      grids = records_are_one grid_site AreOneGrid on_grids;
      few_on_grids = on_grids;
    }
