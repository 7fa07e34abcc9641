-- What the calls of a planner mean.
use Rattle.std.specs.Prelude.{◌≡◌, ℕ, ◌↔◌, Bool, List}
use Rattle.sbpl_labels.specs.sbpl_graph.Network.{Network}
use Rattle.sbpl_labels.specs.Counts.{Counts}
use Rattle.sbpl_labels.specs.Marks.{Marks}
use Rattle.sbpl_search.specs.Query.{Query}
use Rattle.sbpl_search.specs.State.{State}

-- For a planner whose passes record such actions:
-- ready: labels from which a pass may begin on a graph, at this count of expansions
-- leads: a pass that did this leads from the old labels to the new ones
-- rests, goes_on: after it nothing is left to expand whose key is below the goal's, or something is
-- seated: what it did was done by this many workers
-- keeps: whether what it did is kept, so that it can be read, by whether it is to be told
-- expansions, times: how many states it expanded, and how often it took one state
-- most: how often a pass takes one state at most
-- repairs: whether labels are repaired after a change of the graph
-- begun: the labels from which the next plan begins, once these states were touched by a change to this graph, and the states that
-- were raised for it before its first pass
-- cut: what is left after a pass that ran out of memory
pub record Meaning (Action : Type 0) : Type 1 where
  pub ready : Network → Marks → ℕ → Type 0
  pub leads : Query → List Action → (old new : Marks) → Type 0
  pub rests : Query → List Action → Marks → Type 0
  pub goes_on : Query → List Action → Marks → Type 0
  pub seated : (workers : ℕ) → List Action → Type 0
  pub keeps : (traced : Bool) → Bool
  pub expansions : List Action → ℕ
  pub times : ℕ → List Action → ℕ
  pub most : ℕ
  pub repairs : Bool
  pub begun : Network → (touched : List ℕ) → (old new : Marks) → (raised : List ℕ) → Type 0
  pub cut : Query → (old new : State Action) → (before after : Counts) → Type 0

-- two planners mean the same by each call
pub record MeanAlike {Action : Type 0} (a b : Meaning Action) : Type 0 where
  pub ready : (n : Network) (m : Marks) (count : ℕ) → a.ready n m count ↔ b.ready n m count
  pub leads : (q : Query) (actions : List Action) (old new : Marks) → a.leads q actions old new ↔ b.leads q actions old new
  pub rests : (q : Query) (actions : List Action) (m : Marks) → a.rests q actions m ↔ b.rests q actions m
  pub goes_on : (q : Query) (actions : List Action) (m : Marks) → a.goes_on q actions m ↔ b.goes_on q actions m
  pub seated : (workers : ℕ) (actions : List Action) → a.seated workers actions ↔ b.seated workers actions
  pub keeps : (traced : Bool) → a.keeps traced ≡ b.keeps traced
  pub expansions : (actions : List Action) → a.expansions actions ≡ b.expansions actions
  pub times : (s : ℕ) (actions : List Action) → a.times s actions ≡ b.times s actions
  pub most : a.most ≡ b.most
  pub repairs : a.repairs ≡ b.repairs
  pub begun : (n : Network) (touched : List ℕ) (old new : Marks) (raised : List ℕ) → a.begun n touched old new raised ↔ b.begun n touched old new raised
  pub cut : (q : Query) (old new : State Action) (before after : Counts) → a.cut q old new before after ↔ b.cut q old new before after
