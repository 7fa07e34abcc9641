-- One iteration of a plan: a pass, and the walk along the back arcs that it left.
use Rattle.std.specs.Prelude.{◌≡◌, ℕ, ◌*◌, ◌<◌, ◌≤◌, Bool, true, false, List, [], ◌∷◌}
use Rattle.sbpl_search.specs.sbpl_graph.declared.TheConstants.{FAR}
use Rattle.sbpl_search.specs.sbpl_graph.Certificate.{AreSupported}
use Rattle.sbpl_search.specs.sbpl_labels.Counts.{Counts, IsSpent}
use Rattle.sbpl_search.specs.sbpl_labels.CutOff.{IsCutOff}
use Rattle.sbpl_search.specs.sbpl_labels.Marks.{states_of, g_of, v_of}
use Rattle.sbpl_search.specs.Meaning.{Meaning}
use Rattle.sbpl_search.specs.State.{State}
use Rattle.sbpl_plan.specs.declared.found.Found.{Found}
use Rattle.sbpl_plan.specs.declared.found.Found.TheVariants as found
use Rattle.sbpl_plan.specs.declared.passes.PassRecord.{PassRecord}
use Rattle.sbpl_plan.specs.Looking.{WalkFinds}
use Rattle.sbpl_plan.specs.Passing.{EndWith, Inquiry, IsPass}
use Rattle.sbpl_plan.specs.ReadyAfter.{IsReadyAfter}

-- a path whose bound is 1.000, or none
abbrev pub IsTight : Found → Type 0
IsTight (found.Path cost bound) = bound ≡ 1000
IsTight found.None = Unit {0}
IsTight found.Broken = ⊥

-- a pass led from the one state of a search to the other, and this is its record, with the arcs of the path that the walk found; it expands no more states than it may
pub record IsIteration {Action : Type 0} (means : Meaning Action) (q : Inquiry) (eps : ℕ) (old new : State Action) (before after : Counts) (arcs : List ℕ) (spent : Bool) (p : PassRecord Action) : Type 0 where
  pub pass : IsPass means q eps old.labels new.labels spent p
  pub found : WalkFinds q.network q.guide q.goal new.labels arcs p.found
  pub leaves : IsReadyAfter means q.network p.expanded old new before after
  pub supported : AreSupported q.network new.labels.start (g_of new.labels) (v_of new.labels)
  pub traced : EndWith means q.ask (p ∷ []) new.actions
  pub is_spent : spent ≡ true → IsSpent after
  pub few : p.expanded ≤ means.most * states_of old.labels
  pub unfinished : spent ≡ true → p.expanded < means.most * states_of old.labels
  pub none_at_rest : spent ≡ false → eps ≡ 1000 → g_of new.labels q.goal ≡ FAR → IsCutOff (states_of new.labels) q.goal (g_of new.labels) (v_of new.labels)
  pub tight_at_rest : spent ≡ false → eps ≡ 1000 → IsTight p.found
