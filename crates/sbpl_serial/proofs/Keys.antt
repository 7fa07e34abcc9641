-- Keys, and labels after a state is lowered.
use Rattle.std.proofs.Common.{◌≡◌, ℕ, ◌+◌, ◌*◌, ◌<◌, ◌≤◌, ◌≢◌, ◌⊎◌, arith, ⊎_elim, inl, inr, sym}
use Rattle.std.proofs.lemmas.Bool.{cases_eq, cases_lt, cond_below}
use Rattle.sbpl_search.specs.sbpl_graph.Network.{Network, IsFreeArc}
use Rattle.sbpl_search.specs.sbpl_labels.Marks.{Marks, g_of}
use Rattle.sbpl_open.specs.KeyOrder.{ComesBefore}
use Rattle.sbpl_serial.specs.Run.{IsOver, LowersHeads, key_at}

-- the key of an overconsistent state
pub key_over : (eps : ℕ) (h : ℕ → ℕ) (m : Marks) (s : ℕ) → IsOver m s
    → key_at eps h m s ≡ (1000 * g_of m s + eps * h s, g_of m s)
key_over eps h m s over = sym (cond_below _ _ _ _ over)

-- a state that comes before another has no greater first part
pub before_first : (a b : ℕ × ℕ) (s t : ℕ) → ComesBefore a s b t → a.0 ≤ b.0
before_first a b s t before = grind arith

-- g after a step is g before it, or that of a way over s
pub lesser_cases : {n : Network} {old new : Marks} {s : ℕ} (t : ℕ) → LowersHeads n old new s
    → (g_of new t ≡ g_of old t)
    ⊎ ((k : ℕ) × (c : ℕ) × IsFreeArc n s k t c × (g_of new t ≡ g_of old s + c) × (g_of new t < g_of old t))
lesser_cases {n} {old} {new} {s} t step =
    ⊎_elim
    (λ (at : t ≡ old.start). inl (rw at step.start_g))
    (λ (apart : t ≢ old.start).
    let lesser = step.heads t apart in
    ⊎_elim
    (λ (lower : g_of new t < g_of old t).
    let found = lesser.lower lower in
    inr (found.0, found.1, found.2.free, found.2.gives, lower))
    (λ (above : g_of old t ≤ g_of new t). inl (omega (arith, lesser.at_most)))
    (cases_lt (g_of new t) (g_of old t)))
    (cases_eq t old.start)
