-- Elements of lists.
use Rattle.std.proofs.Common.{◌≡◌, ℕ, suc, zero, ◌⊎◌, inl, inr, List, [], ◌∷◌, slice_get, Some, ap, ◌∙◌, arith}
use Rattle.std.specs.List.{Contains}
use Rattle.std.proofs.lemmas.Option.{slice_get-get_or, slice_get_within, get_or_from_slice_get}

pub contains_at : {X : Type 0} (xs : List X) (i : ℕ) (x : X) → slice_get xs i ≡ Some x → Contains xs x
contains_at xs i x h = (i, slice_get_within xs i x h, get_or_from_slice_get xs i x x h)

pub at_contained : {X : Type 0} (xs : List X) (x : X) → Contains xs x → (i : ℕ) × (slice_get xs i ≡ Some x)
at_contained xs x (i, h, e) = (i, slice_get-get_or xs i x h ∙ ap (λ z. Some z) e)

pub in_none : {X : Type 0} (x : X) → Contains [] x → ⊥
in_none x (i, h, e) = absurd (omega arith)

-- an element is the first or a later one
pub first_or_after : {X : Type 0} (y : X) (xs : List X) (x : X) → Contains (y ∷ xs) x → (y ≡ x) ⊎ Contains xs x
first_or_after y xs x (zero, h, e) = inl e
first_or_after y xs x (suc i, h, e) = inr (i, omega arith, e)
