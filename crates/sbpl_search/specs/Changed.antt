-- Labels before and after a change of the graph.
use Rattle.std.specs.Prelude.{◌≡◌, ◌≢◌, ℕ, ◌+◌, ◌^◌, ◌<◌, ◌≤◌, Option, Some, None, List}
use Rattle.std.specs.List.{All, Contains}
use Rattle.sbpl_labels.specs.sbpl_graph.declared.TheConstants.{FAR}
use Rattle.sbpl_labels.specs.sbpl_graph.Fit.{FitCount}
use Rattle.sbpl_labels.specs.sbpl_graph.Network.{Network, IsFreeArc}
use Rattle.sbpl_labels.specs.Marks.{Marks, states_of, g_of, v_of, back_of}

-- arc k of state s is free, leads to t from a finite v, and gives t the label g
pub record IsGiven (n : Network) (v : ℕ → ℕ) (t g s k c : ℕ) : Type 0 where
  pub free : IsFreeArc n s k t c
  pub near : v s < FAR
  pub sum : g ≡ v s + c

-- g is the least v + cost over the free arcs into t from states of finite v, and the back arc gives it
pub record IsExactAt (n : Network) (v : ℕ → ℕ) (t g : ℕ) (back : Option (ℕ × ℕ)) : Type 0 where
  pub least : (s k c : ℕ) → IsFreeArc n s k t c → v s < FAR → g ≤ v s + c
  pub gives : (s k : ℕ) → back ≡ Some (s, k) → (c : ℕ) × IsGiven n v t g s k c
  pub far_without_arc : back ≡ None → g ≡ FAR
  pub no_arc_where_far : g ≡ FAR → back ≡ None

-- labels that can be repaired for this graph by recomputing the touched states: every other state, but the start, has the g and
-- the back arc, or none, that exact labels ask for
pub record IsChangeable (n : Network) (touched : List ℕ) (m : Marks) : Type 0 where
  pub inside : All (λ t. t < states_of m) touched
  pub fits : FitCount (states_of m) (g_of m) (v_of m) (2 ^ 30)
  pub untouched : (t : ℕ) → t < states_of m → t ≢ m.start → (Contains touched t → ⊥) → IsExactAt n (v_of m) t (g_of m t) (back_of m t)
