-- Which tails of a state are free arcs.
use Rattle.std.proofs.Common.{ℕ, ◌<◌, ◌≤◌, arith}
use Rattle.std.proofs.Math.Logic.{∥∥₁_elim}
use Rattle.sbpl_promises.specs.sbpl_graph.Laws.{HasExactTails, IsTail}
use Rattle.sbpl_promises.specs.sbpl_graph.Network.{IsFreeArc, Network}
use Rattle.sbpl_promises.specs.Blocked.{NoneEnters}

-- none of the first few tails of a state is a free arc
abbrev pub NoneInto : Network → (t few : ℕ) → Type 0
NoneInto n t few = (j s k c : ℕ) → j < few → IsTail n t j s k → IsFreeArc n s k t c → ⊥

-- so none enters it, where those were all
pub none_enters : (n : Network) (t few : ℕ) → HasExactTails n → n.tail_fan t ≤ few → NoneInto n t few → NoneEnters n t
none_enters n t few laws all none s k c arc =
    ∥∥₁_elim (laws.arcs_are_tails t s k (record { source = arc.source; number = arc.number; head = arc.head }))
    (λ a b. absurd a) (λ tail. none tail.0 s k c (let here = tail.1.number in omega arith) tail.1 arc)
