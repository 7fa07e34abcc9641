-- The chain of back arcs from a goal.
use Rattle.std.specs.Prelude.{◌≡◌, ℕ, zero, suc, ◌<◌, ◌≤◌, Option, Some, List, [], ◌∷◌, length, option_map, option_and_then}
use Rattle.sbpl_graph.specs.declared.TheConstants.{FAR}
use Rattle.sbpl_graph.specs.Network.{Network}
use Rattle.sbpl_graph.specs.Path.{IsFreePath}

-- the state that this many back arcs lead to from t, if there are this many
abbrev pub chain_at : (ℕ → Option (ℕ × ℕ)) → ℕ → ℕ → Option ℕ
chain_at back t zero = Some t
chain_at back t (suc i) = option_and_then (λ s. option_map (λ (arc : ℕ × ℕ). arc.0) (back s)) (chain_at back t i)

-- from s these arcs are the back arcs, in turn, of the states that they lead to, up to t
abbrev pub IsBackPath : (ℕ → Option (ℕ × ℕ)) → ℕ → List ℕ → ℕ → Type 0
IsBackPath back s [] t = s ≡ t
IsBackPath back s (k ∷ ks) t = (u : ℕ) × (back u ≡ Some (s, k)) × IsBackPath back u ks t

-- s is the first underconsistent state on the chain from a goal that is not infinite
pub record IsFirstBreak (states : ℕ) (g v : ℕ → ℕ) (back : ℕ → Option (ℕ × ℕ)) (goal s : ℕ) : Type 0 where
  pub near : g goal < FAR
  pub inside : s < states
  pub place : ℕ
  pub on_chain : chain_at back goal place ≡ Some s
  pub under : v s < g s
  pub before : (i u : ℕ) → i < place → chain_at back goal i ≡ Some u → g u ≤ v u

-- no state on the chain is underconsistent, and its arcs, fewer than there are states, are a free path from the start that costs no more than the goal's label
pub record IsWalk (n : Network) (start : ℕ) (g v : ℕ → ℕ) (back : ℕ → Option (ℕ × ℕ)) (goal cost : ℕ) (arcs : List ℕ) : Type 0 where
  pub near : g goal < FAR
  pub unbroken : (i u : ℕ) → chain_at back goal i ≡ Some u → g u ≤ v u
  pub followed : IsBackPath back start arcs goal
  pub path : IsFreePath n start arcs goal cost
  pub cheap : cost ≤ g goal
  pub few : length arcs < n.states
