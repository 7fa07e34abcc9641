-- The labels of the states of a graph, of which some are listed.
use Rattle.std.specs.Prelude.{◌≡◌, ℕ, ◌<◌, ◌⊎◌}
use Rattle.sbpl_labels.specs.sbpl_graph.declared.TheConstants.{FAR}
use Rattle.sbpl_labels.specs.sbpl_graph.Certificate.{IsLabel}

-- how many states there are, how many of them are listed and which, and the labels of each state
pub record Labelling : Type 0 where
  pub states : ℕ
  pub count : ℕ
  pub state : ℕ → ℕ
  pub g : ℕ → ℕ
  pub v : ℕ → ℕ

-- the listed states go upwards, and all others have infinite labels
pub record IsLabelling (l : Labelling) : Type 0 where
  pub inside : (i : ℕ) → i < l.count → l.state i < l.states
  pub upwards : (i j : ℕ) → i < j → j < l.count → l.state i < l.state j
  pub others : (s : ℕ) → s < l.states → ((i : ℕ) × (i < l.count) × (l.state i ≡ s)) ⊎ ((l.g s ≡ FAR) × (l.v s ≡ FAR))
  pub labels : (s : ℕ) → s < l.states → IsLabel (l.g s) × IsLabel (l.v s)
