-- Free paths.
use Rattle.std.specs.Prelude.{◌≡◌, ℕ, ◌+◌, List, [], ◌∷◌}
use Rattle.sbpl_graph.specs.Network.{Network, IsFreeArc}

-- from s these arc numbers in turn are free, end at t, and cost c together
abbrev pub IsFreePath : Network → ℕ → List ℕ → ℕ → ℕ → Type 0
IsFreePath n s [] t c = (s ≡ t) × (c ≡ 0)
IsFreePath n s (k ∷ ks) t c = (u : ℕ) × (a : ℕ) × (b : ℕ) × IsFreeArc n s k u a × IsFreePath n u ks t b × (c ≡ a + b)
