-- Labels before and after a change of the map, and what is left where memory runs out.
use Rattle.std.proofs.Common.{◌≡◌, ℕ, ◌^◌, ◌<◌, List, slice_index_or, Result, Ok, Err, sym, ◌∙◌, ap, subst}
use Rattle.std.proofs.Common.{arith, inl, inr}
use Rattle.std.specs.Prelude.{OnErr}
use Rattle.std.proofs.lemmas.List.{get_or_default}
use Rattle.sbpl_plan.specs.sbpl_graph.Network.{Network}
use Rattle.sbpl_plan.specs.sbpl_labels.Counts.{AreCounts, Counts}
use Rattle.sbpl_plan.specs.sbpl_labels.Marks.{Marks}
use Rattle.sbpl_plan.specs.sbpl_labels.declared.time.Time.{Time}
use Rattle.sbpl_plan.specs.sbpl_search.Changed.{IsChangeable}
use Rattle.sbpl_plan.specs.sbpl_search.Meaning.{Meaning}
use Rattle.sbpl_plan.specs.sbpl_search.Ready.{AreUsable, IsStartFresh}
use Rattle.sbpl_plan.specs.sbpl_search.State.{State}
use Rattle.sbpl_heur.specs.sbpl_serial.Repaired.{ExactWhereSame}
use Rattle.sbpl_plan.specs.declared.passes.PassRecord.{PassRecord}
use Rattle.sbpl_plan.specs.OutOfMemory.{RunsOutOfMemory}
use Rattle.sbpl_plan.specs.Passing.{Inquiry}
use Rattle.sbpl_heur.specs.sbpl_terrain.Affected.{AreStates, KeepArcsElsewhere}
use Rattle.sbpl_heur.specs.sbpl_terrain.Cells.{Cells, DifferInCostsAlone, IsTerrain}
use Rattle.sbpl_heur.specs.sbpl_terrain.declared.arc_end.ArcEnd.TheVariants as end
use Rattle.sbpl_replan.specs.Replanning.{IsReady, SessionState, Standing, StandsOutOfMemory, at_plan}

-- another map gives a graph that differs in what arcs cost alone
pub differ : {W : Type 0} (network : W → Network) (cells : Cells W) → IsTerrain network cells → (w v : W)
    → v ≡ cells.over w (cells.map v) → cells.is_made w → cells.is_made v
    → DifferInCostsAlone (network v) (network w)
differ network cells is w v others made_before made_after =
    subst (λ u. DifferInCostsAlone (network u) (network w)) (sym others)
    (is.rest w (cells.map v) made_before (subst cells.is_made others made_after))

-- so it has the same number of states
pub same_states : {W : Type 0} (network : W → Network) (cells : Cells W) → IsTerrain network cells → (w v : W)
    → v ≡ cells.over w (cells.map v) → cells.is_made w → cells.is_made v
    → (network v).states ≡ (network w).states
same_states network cells is w v others made_before made_after =
    (differ network cells is w v others made_before made_after).states

-- over the map of before it is what it was
pub as_before : {W : Type 0} (network : W → Network) (cells : Cells W) → IsTerrain network cells → (w v : W)
    → v ≡ cells.over w (cells.map v) → cells.over v (cells.map w) ≡ w
as_before network cells is w v others =
    ap (λ u. cells.over u (cells.map w)) others ∙ is.again w (cells.map v) (cells.map w) ∙ is.present w

-- labels that are exact on one graph can be repaired for another
-- that keeps the arcs into each state that is not touched
pub changeable : ExactWhereSame → (n n' : Network) (m : Marks) (touched : List ℕ) → n'.states ≡ n.states
    → AreUsable n m (2 ^ 30) → AreStates n' touched → KeepArcsElsewhere end.Head n n' touched
    → IsChangeable n' touched m
changeable law n n' m touched same is among kept = record {
  inside = λ k d here. subst (λ (states : ℕ). slice_index_or touched k d < states) (same ∙ sym is.states)
      (among (slice_index_or touched k d) (k, here, get_or_default touched k (slice_index_or touched k d) d here));
  fits = rw is.states is.fits;
  untouched = λ t inside apart none.
      law n n' m.start _ _ _ is.exact t (subst (λ (states : ℕ). t < states) is.states inside) apart
      (record { kept = λ s k c free. (kept s k t c none).0 free; none_new = λ s k c free. (kept s k t c none).1 free });
}

-- what follows from what holds where memory ran out
pub on_err_so : {A E : Type 0} (r : Result A E) (P Q : Type 0) → (P → Q) → OnErr r P → OnErr r Q
on_err_so (Ok x) P Q so h = tt
on_err_so (Err e) P Q so h = so h

-- what is left where memory ran out in a plan
pub stands : {Action : Type 0} (means : Meaning Action) (q : Inquiry) (time : Time) (Ready : Type 0) (Told : List (PassRecord Action) → Type 0)
    (old new : Standing Action) → AreCounts new.counts
    → (means.ready q.network new.search.labels new.counts.run → new.search.goal ≡ old.search.goal
    → IsStartFresh new.search.labels → Ready)
    → RunsOutOfMemory means q q.ask.first old.search new.search (at_plan time old.counts) new.counts Told
    → StandsOutOfMemory means q time Ready Told old new
stands means q time Ready Told old new are again (inl part) = inl (record {
  part = part;
  within = omega (arith, are.within_plan, part.leaves.counted.plan, part.leaves.counted.budget);
  ready = again part.leaves.ready part.leaves.same_goal part.leaves.fresh;
  same = record {
    start = part.leaves.start;
    goal = part.leaves.same_goal;
    workers = part.leaves.same_workers;
    per_plan = part.leaves.counted.budget;
  };
})
stands means q time Ready Told old new are again (inr cut) = inr cut

-- another plan may begin where the search went on to the same goal on the same map
pub ready_again : {Action H W : Type 0} (means : Meaning Action) (network : W → Network) (is_made_for : H → W → ℕ → Type 0)
    (s : SessionState Action H W) (search : State Action) (counts : Counts)
    → IsReady means network is_made_for s → means.ready (network s.world) search.labels counts.run
    → search.goal ≡ s.search.goal → IsStartFresh search.labels
    → IsReady means network is_made_for (record s { search = search; counts = counts })
ready_again means network is_made_for s search counts ready labels same fresh = record {
  made = subst (λ (t : ℕ). is_made_for s.guide s.world t) (sym same) ready.made;
  labels = labels;
  fresh = fresh;
}
