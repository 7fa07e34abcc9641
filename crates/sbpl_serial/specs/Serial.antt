-- A serial search between its passes.
use Rattle.std.specs.Prelude.{◌≡◌, ℕ, ◌*◌, ◌<◌, Bool, List, length, IsSome}
use Rattle.std.specs.List.{All}
use Rattle.sbpl_open.specs.OpenList.{OpenList}
use Rattle.sbpl_open.specs.OpenList as open_list
use Rattle.sbpl_search.specs.sbpl_labels.Marks.{Marks, states_of}
use Rattle.sbpl_serial.specs.declared.step.Step.{Step}
use Rattle.sbpl_serial.specs.Marked.{closed_at}
use Rattle.sbpl_serial.specs.Run.{IsOpen, none_closed, closed_after}

-- the labels, the goal, the expansions of the last pass in order, and the states that it left open with their keys
pub record SerialState : Type 0 where
  pub labels : Marks
  pub goal : ℕ
  pub trace : List Step
  pub queue : OpenList

-- a list of steps and how many there is room for
pub record Room : Type 0 where
  pub items : List Step
  pub room : ℕ

-- each open state is in the queue
abbrev pub AreWaiting : Marks → OpenList → (ℕ → Bool) → Type 0
AreWaiting labels queue closed = (s : ℕ) → IsOpen closed labels s → IsSome (open_list.key_at queue s)

-- just those states are closed that the steps have closed, there is room for three steps a state, and each open state is in the queue
pub record AreSerialParts (labels : Marks) (goal : ℕ) (closed : List Bool) (steps : Room) (queue : OpenList) : Type 0 where
  pub goal_inside : goal < states_of labels
  pub closed_states : length closed ≡ states_of labels
  pub closed_by_steps : (s : ℕ) → closed_at closed s ≡ closed_after none_closed steps.items s
  pub steps_inside : All (λ step. step.state < states_of labels) steps.items
  pub enough_room : steps.room ≡ 3 * states_of labels
  pub queue_states : open_list.states_of queue ≡ states_of labels
  pub waiting : AreWaiting labels queue (closed_at closed)
