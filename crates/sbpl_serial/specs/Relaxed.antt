-- What an arc does to the label of its head.
use Rattle.std.specs.Prelude.{◌≡◌, ◌≢◌, ℕ, ◌+◌, ◌<◌, ◌≤◌, Option, Some, None}
use Rattle.sbpl_search.specs.sbpl_graph.Network.{Network, IsFreeArc}
use Rattle.sbpl_search.specs.sbpl_labels.Marks.{Marks, ChangesRow, g_of, v_of}

-- arc k of s is free and takes its head t, which is not the start, down to v of s and the arc's cost c
pub record LowersHead (n : Network) (old new : Marks) (s k t c : ℕ) : Type 0 where
  pub free : IsFreeArc n s k t c
  pub apart : t ≢ old.start
  pub lower : v_of old s + c < g_of old t
  pub changed : ChangesRow old new t (record { g = v_of old s + c; v = v_of old t; back = Some (s, k) })

-- the head that arc k of s lowers, or none where it is not free or lowers nothing
abbrev pub IsRelaxed : Network → Marks → Marks → ℕ → ℕ → Option ℕ → Type 0
IsRelaxed n old new s k None = (new ≡ old) × ((t c : ℕ) → IsFreeArc n s k t c → g_of old t ≤ v_of old s + c)
IsRelaxed n old new s k (Some t) = (c : ℕ) × LowersHead n old new s k t c
