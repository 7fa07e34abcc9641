-- Labels from which a pass may begin.
use Rattle.std.specs.Prelude.{◌≡◌, ℕ, ◌⊎◌}
use Rattle.sbpl_labels.specs.sbpl_graph.declared.TheConstants.{FAR}
use Rattle.sbpl_labels.specs.sbpl_graph.Network.{Network}
use Rattle.sbpl_labels.specs.sbpl_graph.Exact.{AreExact}
use Rattle.sbpl_labels.specs.sbpl_graph.Fit.{FitCount}
use Rattle.sbpl_labels.specs.sbpl_graph.Kept.{NoneUnder}
use Rattle.sbpl_labels.specs.Marks.{Marks, states_of, g_of, v_of, back_of}

-- labels that are exact on this graph and fit for this count of expansions
pub record AreUsable (n : Network) (m : Marks) (count : ℕ) : Type 0 where
  pub states : states_of m ≡ n.states
  pub exact : AreExact n m.start (g_of m) (v_of m) (back_of m)
  pub fits : FitCount n.states (g_of m) (v_of m) count

-- usable labels none of which is underconsistent
pub record AreReady (n : Network) (m : Marks) (count : ℕ) : Type 0 where
  pub states : states_of m ≡ n.states
  pub exact : AreExact n m.start (g_of m) (v_of m) (back_of m)
  pub none_under : NoneUnder n.states (g_of m) (v_of m)
  pub fits : FitCount n.states (g_of m) (v_of m) count

-- v of the start is infinite, or it is 0 as g is
abbrev pub IsStartFresh : Marks → Type 0
IsStartFresh m = (v_of m m.start ≡ FAR) ⊎ (v_of m m.start ≡ 0)
