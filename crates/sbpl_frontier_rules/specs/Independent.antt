-- When a state may be opened although others are still being worked on.
use Rattle.std.specs.Prelude.{ℕ, ◌-◌, ◌*◌, ◌≤◌, ◌⊎◌}
use Rattle.sbpl_serial.specs.sbpl_labels.Marks.{Marks, g_of}
use Rattle.sbpl_serial.specs.sbpl_open.KeyOrder.{ComesBefore}
use Rattle.sbpl_serial.specs.sbpl_search.Query.{Query}
use Rattle.sbpl_serial.specs.Run.{IsOpen, key_at}
use Rattle.sbpl_frontier_rules.specs.Frontier.{Frontier, IsBusy, is_opened}

-- s is clear of p: g of s is not above that of p, or above it by no more than the inflation times the gap from p to s. Then,
-- whatever path to s over p may still be found, g of s is already at most the inflation times its cost
abbrev pub IsClearOf : Query → Marks → (s p : ℕ) → Type 0
IsClearOf q m s p = (g_of m s ≤ g_of m p) ⊎ (1000 * (g_of m s - g_of m p) ≤ q.eps * q.network.gap p s)

-- a state is open in a frontier. Where no state is underconsistent, as in every frontier that is kept, these are the
-- overconsistent states that this pass has not opened
abbrev pub IsOpenIn : Frontier → ℕ → Type 0
IsOpenIn f = IsOpen (is_opened f) f.labels

-- s is clear of each busy state, and of each open state that comes before it
pub record IsIndependent (q : Query) (f : Frontier) (s : ℕ) : Type 0 where
  pub of_busy : (p : ℕ) → IsBusy f p → IsClearOf q f.labels s p
  pub of_earlier : (p : ℕ) → IsOpenIn f p → ComesBefore (key_at q.eps q.guide f.labels p) p (key_at q.eps q.guide f.labels s) s → IsClearOf q f.labels s p
