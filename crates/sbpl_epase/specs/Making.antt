-- What the making of a pass asks, and what it leaves.
use Rattle.std.specs.Prelude.{ℕ, ◌<◌, ◌≤◌, Bool, IfErr, IfOk, Result}
use Rattle.std.specs.Borrow.{Bor}
use Rattle.sbpl_adstar.specs.sbpl_graph.Network.{Network}
use Rattle.sbpl_adstar.specs.sbpl_search.Query.{Query, query}
use Rattle.sbpl_adstar.specs.sbpl_search.Ready.{AreReady}
use Rattle.sbpl_frontier.specs.sbpl_frontier_core.Seats.{AreTakenBelow}
use Rattle.sbpl_frontier.specs.sbpl_frontier_core.Passes.{IsPassFinished, IsPassGivenUp}
use Rattle.sbpl_frontier.specs.sbpl_frontier_core.Waiting.{HoldsOver}
use Rattle.sbpl_frontier.specs.sbpl_frontier_core.declared.parts.Parts.{Parts}
use Rattle.sbpl_epase.specs.Parts.{IsCrew}
use Rattle.sbpl_epase.specs.declared.passed.Passed.{Passed}

-- A pass can be made: its guide guides, its inflation is one to a hundred, its goal is a state, there are 1 to 64 workers. It can begin with the labels and the
-- budget, and the memory holds the states that may be open.
pub record CanPass (q : Query) (guides : Type 0) (workers : ℕ) (parts : Parts) : Type 0 where
  pub guide : guides
  pub eps_low : 1000 ≤ q.eps
  pub eps_high : q.eps ≤ 100000
  pub goal : q.goal < q.network.states
  pub crew : IsCrew workers
  pub ready : AreReady q.network parts.labels parts.budget.run
  pub over : HoldsOver parts.space parts.labels

-- it is finished by these workers, in the seats from 0 upwards, or given up where memory ran out; the memory holds the states that may be open
pub record Leaves (q : Query) (workers : ℕ) (parts : Parts) (keeps : Bool) (result : Result Passed Parts) : Type 0 where
  pub finished : IfOk result (λ r. IsPassFinished q parts.labels parts.budget keeps r.parts.labels r.parts.budget r.journal r.end)
  pub seats : IfOk result (λ r. AreTakenBelow workers r.journal.events)
  pub over : IfOk result (λ r. HoldsOver r.parts.space r.parts.labels)
  pub given_up : IfErr result (λ r. IsPassGivenUp q parts.labels parts.budget r.labels r.budget)
  pub over_left : IfErr result (λ r. HoldsOver r.space r.labels)

-- wherever a pass can be made this may be called, and makes one
abbrev pub MakesPasses : {A G H F : Type 0} → (G → Network) → (H → ℕ → ℕ) → (H → Network → ℕ → Type 0)
    → (pre : F → A → Bor G → Bor H → ℕ → Parts → ℕ → ℕ → Bool → Type 0)
    → (post : F → A → Bor G → Bor H → ℕ → Parts → ℕ → ℕ → Bool → Result Passed Parts → Type 0)
    → F → Type 0
MakesPasses {A} {G} {H} network distance guides pre post make = (alloc : A) (graph : Bor G) (guide : Bor H) (workers : ℕ) (parts : Parts) (goal eps : ℕ) (keeps : Bool)
    → CanPass (query (network graph.now) (distance guide.now) eps goal) (guides guide.now (network graph.now) goal) workers parts
    → pre make alloc graph guide workers parts goal eps keeps
    × ((r : Result Passed Parts) → post make alloc graph guide workers parts goal eps keeps r → Leaves (query (network graph.now) (distance guide.now) eps goal) workers parts keeps r)
