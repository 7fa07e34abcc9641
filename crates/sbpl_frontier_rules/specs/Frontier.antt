-- A frontier: what a parallel pass has between two of its events.
use Rattle.std.specs.Prelude.{◌≡◌, ℕ, zero, suc, ◌+◌, Bool, true, not, nat_eq, Option, Some, None, List, [], ◌∷◌, ◌++◌, cond}
use Rattle.std.specs.List.{filter}
use Rattle.sbpl_serial.specs.sbpl_graph.Network.{Network}
use Rattle.sbpl_serial.specs.sbpl_labels.Counts.{Counts}
use Rattle.sbpl_serial.specs.sbpl_labels.Marks.{Marks}
use Rattle.sbpl_serial.specs.Marked.{closed_at}
use Rattle.sbpl_frontier_rules.specs.declared.leg.Leg.{Leg}

-- the labels; for each state whether this pass has opened it; the arcs that are ready to be handed out, as state and number, in the
-- order in which they became so; the arcs that are out; the next ticket number; and the expansions of the plan and of the run
pub record Frontier : Type 0 where
  pub labels : Marks
  pub opened : List Bool
  pub ready : List (ℕ × ℕ)
  pub out : List Leg
  pub next : ℕ
  pub counts : Counts

-- this pass has opened the state
abbrev pub is_opened : Frontier → ℕ → Bool
is_opened f = closed_at f.opened

-- how often arc k of s is among these arcs, or among those that are out
abbrev pub times_ready : List (ℕ × ℕ) → ℕ → ℕ → ℕ
times_ready [] s k = 0
times_ready (arc ∷ rest) s k = cond (nat_eq arc.0 s) (cond (nat_eq arc.1 k) 1 0) 0 + times_ready rest s k

abbrev pub times_out : List Leg → ℕ → ℕ → ℕ
times_out [] s k = 0
times_out (leg ∷ rest) s k = cond (nat_eq leg.state s) (cond (nat_eq leg.arc k) 1 0) 0 + times_out rest s k

-- an arc is due while it is ready or out: its effect on the label of its head is still to come
abbrev pub times_due : Frontier → ℕ → ℕ → ℕ
times_due f s k = times_ready f.ready s k + times_out f.out s k

abbrev pub is_due : Frontier → ℕ → ℕ → Bool
is_due f s k = not (nat_eq (times_due f s k) 0)

-- a state is busy while it is opened and has an arc that is due
pub record IsBusy (f : Frontier) (s : ℕ) : Type 0 where
  pub opened : is_opened f s ≡ true
  pub arc : ℕ
  pub due : is_due f s arc ≡ true

-- an arc with this head, or no arc where it has none
abbrev pub with_head : Option ℕ → ℕ × ℕ → List (ℕ × ℕ)
with_head None arc = []
with_head (Some t) arc = arc ∷ []

-- the arcs of s that have a head, among its first ones, by their numbers upwards
abbrev pub arcs_below : Network → ℕ → ℕ → List (ℕ × ℕ)
arcs_below n s zero = []
arcs_below n s (suc k) = arcs_below n s k ++ with_head (n.head s k) (s, k)

-- all of them
abbrev pub arcs_of : Network → ℕ → List (ℕ × ℕ)
arcs_of n s = arcs_below n s (n.fan s)

-- the legs with another ticket number
abbrev pub without : ℕ → List Leg → List Leg
without ticket legs = filter (λ (leg : Leg). not (nat_eq leg.ticket ticket)) legs
