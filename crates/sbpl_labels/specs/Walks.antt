-- What a walk answers.
use Rattle.std.specs.Prelude.{◌≡◌, ℕ, List, []}
use Rattle.sbpl_graph.specs.declared.TheConstants.{FAR}
use Rattle.sbpl_graph.specs.Network.{Network}
use Rattle.sbpl_labels.specs.declared.walk.Walk.{Walk}
use Rattle.sbpl_labels.specs.declared.walk.Walk.TheVariants.{Path, Broken, None}
use Rattle.sbpl_labels.specs.Marks.{Marks, states_of, g_of, v_of, back_of}
use Rattle.sbpl_labels.specs.Chain.{IsWalk, IsFirstBreak}

abbrev pub WalkGives : Network → Marks → ℕ → List ℕ → Walk → Type 0
WalkGives n m goal arcs (Path cost) = IsWalk n m.start (g_of m) (v_of m) (back_of m) goal cost arcs
WalkGives n m goal arcs (Broken s) = IsFirstBreak (states_of m) (g_of m) (v_of m) (back_of m) goal s × (arcs ≡ [])
WalkGives n m goal arcs None = (g_of m goal ≡ FAR) × (arcs ≡ [])
