-- The low, state by state of a list.
use Rattle.std.proofs.Common.{◌≡◌, ℕ, ◌+◌, ◌<◌, ◌⊎◌, List, take, length, ◌++◌, ◌∷◌, [], slice_index_or}
use Rattle.std.proofs.Common.{⊎_elim, inl, inr, sym}
use Rattle.std.specs.List.{Contains}
use Rattle.std.proofs.lemmas.List.{take_more}
use Rattle.std.proofs.lemmas.List.Elements.{Contains-push_cases}

-- what stands among the first states and the next one stands among the first ones or is that one
pub among_next : (states : List ℕ) (k s : ℕ) → k < length states → Contains (take (k + 1) states) s
    → Contains (take k states) s ⊎ (s ≡ slice_index_or states k 0)
among_next states k s inside among =
    let split : Contains (take k states ++ slice_index_or states k 0 ∷ []) s =
    rw (take_more states k 0 inside) at among in
    ⊎_elim inl (λ (at : slice_index_or states k 0 ≡ s). inr (sym at))
    (Contains-push_cases (take k states) (slice_index_or states k 0) s split)
