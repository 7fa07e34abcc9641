-- Labels after a change of the graph.
use Rattle.std.specs.Prelude.{◌≡◌, ◌≢◌, ℕ, ◌<◌, Option, List}
use Rattle.std.specs.List.{Contains}
use Rattle.sbpl_search.specs.sbpl_graph.Network.{Network, HasSameArcs}
use Rattle.sbpl_search.specs.sbpl_graph.Exact.{AreExact}
use Rattle.sbpl_search.specs.sbpl_labels.Marks.{Marks, states_of, g_of, v_of, back_of, row_at}
use Rattle.sbpl_search.specs.sbpl_labels.Recomputed.{IsRecomputed}
use Rattle.sbpl_search.specs.Changed.{IsExactAt}

-- each touched state but the start is recomputed, and all other labels stay
pub record AreRepaired (n : Network) (touched : List ℕ) (old new : Marks) : Type 0 where
  pub same_start : new.start ≡ old.start
  pub same_states : states_of new ≡ states_of old
  pub same_v : (t : ℕ) → v_of new t ≡ v_of old t
  pub recomputed : (t : ℕ) → Contains touched t → t ≢ old.start → IsRecomputed n (v_of new) t (g_of new t) (back_of new t)
  pub others : (t : ℕ) → (Contains touched t → ⊥) → row_at new t ≡ row_at old t
  pub start_row : row_at new old.start ≡ row_at old old.start

-- where labels are exact on one graph, a state with the same free arcs into it on another is exact there
abbrev pub ExactWhereSame : Type 0
ExactWhereSame = (n n' : Network) (start : ℕ) (g v : ℕ → ℕ) (back : ℕ → Option (ℕ × ℕ)) → AreExact n start g v back
    → (t : ℕ) → t < n.states → t ≢ start → HasSameArcs n n' t → IsExactAt n' v t (g t) (back t)
