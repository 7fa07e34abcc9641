use Rattle.std.proofs.Common.{◌∙◌, ℕ, List, sym, subst}
use Rattle.std.specs.List.Sorted.{IsStrictlyIncreasing}
use Rattle.sbpl_heur.specs.sbpl_terrain.Affected.{AreStates, AreAffected, KeepArcsElsewhere}
use Rattle.sbpl_heur.specs.sbpl_terrain.declared.arc_end.ArcEnd.TheVariants as end
use Rattle.sbpl_replan.proofs.Changing.{changeable, same_states}
use Rattle.sbpl_replan.proofs.change.change.Goals as goal

pub change-requires-clause-states : goal.change-requires-clause-states
change-requires-clause-states g c =
    c.requires.usable.states
    ∙ sym (same_states g.W.Graph.network g.W.Terrain.cells c.is_terrain.ensures.law _ _ c.apply.ensures.others
    c.map-map.ensures.kept c.apply.ensures.kept)

pub change-requires-clause-fits : goal.change-requires-clause-fits
change-requires-clause-fits g c = λ _.
    changeable c.exact_where_same.ensures.every_state _ _ _ _ (same_states g.W.Graph.network g.W.Terrain.cells
    c.is_terrain.ensures.law _ _ c.apply.ensures.others c.map-map.ensures.kept c.apply.ensures.kept) c.requires.usable
    (subst (λ (l : List ℕ). AreStates (g.W.Graph.network c.apply.new.world) l) (sym c.as_slice.ensures.value)
    c.in_ok-apply.ensures.states)
    (subst (λ (l : List ℕ). KeepArcsElsewhere end.Head (g.W.Graph.network c.args.world.now)
    (g.W.Graph.network c.apply.new.world) l) (sym c.as_slice.ensures.value) c.in_ok-apply.ensures.same_arcs)

pub change-requires-clause-upwards : goal.change-requires-clause-upwards
change-requires-clause-upwards g c =
    λ _. subst (λ (l : List ℕ). IsStrictlyIncreasing l) (sym c.as_slice.ensures.value) c.in_ok-apply.ensures.once

pub change-requires-else-repairs-clause-states : goal.change-requires-else-repairs-clause-states
change-requires-else-repairs-clause-states g c =
    c.requires.usable.states
    ∙ sym (same_states g.W.Graph.network g.W.Terrain.cells c.is_terrain.ensures.law _ _ c.write_batch.ensures.others
    c.map-map.ensures.kept c.write_batch.ensures.kept)

pub returns-in_ok-apply-clause-begun : goal.returns-in_ok-apply-clause-begun
returns-in_ok-apply-clause-begun g c = record {
  touched = c.as_slice.result.now;
  are_touched = λ _. subst (λ (l : List ℕ). AreAffected g.W.Graph.network g.W.Terrain.cells end.Head c.args.world.now
      (g.W.Terrain.cells.map c.apply.new.world) l) (sym c.as_slice.ensures.value) c.in_ok-apply.ensures.touched;
  begun = c.change.ensures.begun;
}

pub returns-in_ok-apply-clause-ready : goal.returns-in_ok-apply-clause-ready
returns-in_ok-apply-clause-ready g c =
    λ count is. c.change.ensures.ready _ count (sym (same_states g.W.Graph.network g.W.Terrain.cells
    c.is_terrain.ensures.law _ _ c.apply.ensures.others c.map-map.ensures.kept c.apply.ensures.kept)) is

pub returns-else-repairs-clause-ready : goal.returns-else-repairs-clause-ready
returns-else-repairs-clause-ready g c =
    λ count is. c.change-else-repairs.ensures.ready _ count (sym (same_states g.W.Graph.network g.W.Terrain.cells
    c.is_terrain.ensures.law _ _ c.write_batch.ensures.others c.map-map.ensures.kept c.write_batch.ensures.kept)) is
