-- The steps of a path, arc by arc.
use Rattle.std.proofs.Common.{◌≡◌, ℕ, ◌<◌, List, [], ◌∷◌, ◌++◌, Some, IsSome, rules, subst, append_assoc, append-nil}
use Rattle.sbpl_worlds.specs.sbpl_graph.Network.{Network}
use Rattle.sbpl_worlds.specs.sbpl_graph.Path.{IsFreePath}
use Rattle.sbpl_worlds.specs.sbpl_report.declared.record.PathStep.{PathStep}
use Rattle.sbpl_worlds.specs.sbpl_promises.Headline.{AreSteps, IsPathFrom}
use Rattle.sbpl_worlds.specs.sbpl_promises.Sites.{Site}

-- what the first arc of a free path is
pub record IsFirstArc (n : Network) (s k : ℕ) : Type 0 where
  pub state : s < n.states
  pub number : k < n.fan s
  pub head : IsSome (n.head s k)

pub first_arc : (n : Network) (s k : ℕ) (ks : List ℕ) → IsPathFrom n s (k ∷ ks) → IsFirstArc n s k
first_arc n s k ks path =
    let head : n.head s k ≡ Some path.2.0 = path.2.3.head in
    record { state = path.2.3.source; number = path.2.3.number; head = search rules }

-- after the first arc the path goes on from its head
pub path_after : (n : Network) (s k u : ℕ) (ks : List ℕ) → IsPathFrom n s (k ∷ ks)
    → n.head s k ≡ Some u → IsPathFrom n u ks
path_after n s k u ks path head =
    let arc : n.head s k ≡ Some path.2.0 = path.2.3.head in
    let same : path.2.0 ≡ u = cc in
    (path.0, path.2.2, subst (λ x. IsFreePath n x ks path.0 path.2.2) same path.2.4)

-- steps so far that are completed by those of the arcs that are left
abbrev pub Completes : {W : Type 0} → Site W → W → ℕ → List ℕ → ℕ → List ℕ → List PathStep → Type 0
Completes on w from arcs at left steps =
    (others : List PathStep) → AreSteps on w at left others → AreSteps on w from arcs (steps ++ others)

pub one_more : {W : Type 0} {u : ℕ} (on : Site W) (w : W) (from at k : ℕ) (arcs ks : List ℕ) (steps : List PathStep)
    (step : PathStep) → Completes on w from arcs at (k ∷ ks) steps → (on.reporting.told w).head at k ≡ Some u
    → on.reporting.step w at k u step → Completes on w from arcs u ks (steps ++ step ∷ [])
one_more {u} on w from at k arcs ks steps step done head is others more =
    rw append_assoc (done (step ∷ others) (u, head, is, more))

pub all_done : {W : Type 0} (on : Site W) (w : W) (from at : ℕ) (arcs : List ℕ) (steps : List PathStep)
    → Completes on w from arcs at [] steps → AreSteps on w from arcs steps
all_done on w from at arcs steps done = subst (λ l. AreSteps on w from arcs l) (append-nil steps) (done [] tt)
