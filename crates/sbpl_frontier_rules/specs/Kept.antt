-- What holds of a frontier at every moment of a pass.
use Rattle.std.specs.Prelude.{◌≡◌, ◌≢◌, ℕ, ◌*◌, ◌<◌, ◌≤◌, true, IsSome, List, length}
use Rattle.std.specs.List.{All, AllPairs}
use Rattle.sbpl_serial.specs.sbpl_graph.declared.TheConstants.{FAR}
use Rattle.sbpl_serial.specs.sbpl_graph.Fit.{FitCount}
use Rattle.sbpl_serial.specs.sbpl_graph.Kept.{AreKept, NoneUnder}
use Rattle.sbpl_serial.specs.sbpl_graph.Network.{Network}
use Rattle.sbpl_serial.specs.sbpl_graph.Path.{IsFreePath}
use Rattle.sbpl_serial.specs.sbpl_labels.Counts.{AreCounts}
use Rattle.sbpl_serial.specs.sbpl_labels.Marks.{AreLabels, states_of, g_of, v_of, back_of}
use Rattle.sbpl_serial.specs.sbpl_search.Query.{Query}
use Rattle.sbpl_frontier_rules.specs.Frontier.{Frontier, is_due, is_opened, times_due}

-- arc k of s has a head, and s was opened
pub record IsOfOpened (n : Network) (f : Frontier) (s k : ℕ) : Type 0 where
  pub source : s < n.states
  pub number : k < n.fan s
  pub headed : IsSome (n.head s k)
  pub opened : is_opened f s ≡ true

-- v of each opened state is finite, and at most the inflation times the cost of every free path from the start to it
pub record AreBounded (q : Query) (f : Frontier) : Type 0 where
  pub near : (x : ℕ) → is_opened f x ≡ true → v_of f.labels x < FAR
  pub within : (x : ℕ) (arcs : List ℕ) (cost : ℕ) → is_opened f x ≡ true → IsFreePath q.network f.labels.start arcs x cost → 1000 * v_of f.labels x ≤ q.eps * cost

-- The labels are those of a search from the start, in which no state is underconsistent: over each free arc that is neither ready
-- nor out g of the head is at most v of the source and the cost, and each finite label has a back arc that supports it. Opened
-- states are bounded. Each arc that is ready or out is of an opened state, and is so once; tickets that are out differ, and are
-- below the next one. The labels fit the run's count of expansions.
pub record IsKept (q : Query) (f : Frontier) : Type 0 where
  pub states : states_of f.labels ≡ q.network.states
  pub marks : length f.opened ≡ q.network.states
  pub labels : AreLabels f.labels
  pub arcs : AreKept q.network f.labels.start (g_of f.labels) (v_of f.labels) (back_of f.labels) (is_due f)
  pub none_under : NoneUnder q.network.states (g_of f.labels) (v_of f.labels)
  pub bounded : AreBounded q f
  pub of_opened : (s k : ℕ) → is_due f s k ≡ true → IsOfOpened q.network f s k
  pub once : (s k : ℕ) → times_due f s k ≤ 1
  pub tickets_differ : AllPairs (λ a b. a.ticket ≢ b.ticket) f.out
  pub below_next : All (λ leg. leg.ticket < f.next) f.out
  pub counts : AreCounts f.counts
  pub fits : FitCount q.network.states (g_of f.labels) (v_of f.labels) f.counts.run
