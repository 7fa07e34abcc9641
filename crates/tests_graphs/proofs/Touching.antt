-- The states that a test touches.
use Rattle.std.proofs.Common.{◌≡◌, ◌≢◌, ℕ, ◌<◌, [], ◌∷◌, List, arith, ⊎_elim, sym}
use Rattle.std.proofs.lemmas.Bool.{cases_eq}
use Rattle.std.specs.List.{Contains}

-- each state of three but the first is touched
pub touched_both : (touched : List ℕ) (t : ℕ) → touched ≡ 1 ∷ 2 ∷ [] → t < 3 → t ≢ 0 → Contains touched t
touched_both touched t is inside apart =
    let among : Contains (1 ∷ 2 ∷ []) t =
    ⊎_elim
    (λ (one : t ≡ 1). (0, omega arith, sym one))
    (λ (other : t ≢ 1). let two : t ≡ 2 = omega arith in (1, omega arith, sym two))
    (cases_eq t 1) in
    rw is among
