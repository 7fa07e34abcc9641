-- Labels that are cut to what a low needs.
use Rattle.std.specs.Prelude.{ℕ, ◌+◌, if◌then◌else◌, nat_lt}
use Rattle.sbpl_graph.specs.declared.TheConstants.{FAR}

-- v of a state in labels that are cut to a low, with h by a guide: its g where g + h is below the low, and infinite otherwise
abbrev pub kept_v : (g h : ℕ → ℕ) → (low s : ℕ) → ℕ
kept_v g h low s = if nat_lt (g s + h s) low then g s else FAR
