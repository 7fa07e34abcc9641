-- A search between its passes, as the layers above see it.
use Rattle.std.specs.Prelude.{ℕ, Bool, List}
use Rattle.sbpl_labels.specs.Marks.{Marks}

-- how many workers make its passes, the labels, the goal, what the last pass did, in order, and whether it was kept, so that it can be read; and the states that were
-- raised, in order, when the labels were last made ready for a plan on a graph that had changed
pub record State (Action : Type 0) : Type 0 where
  pub workers : ℕ
  pub labels : Marks
  pub goal : ℕ
  pub actions : List Action
  pub kept : Bool
  pub raised : List ℕ
