-- Places in a list of views, after one was changed or another put at its end.
use Rattle.std.proofs.Common.{◌≡◌, ◌≢◌, ℕ, zero, suc, ◌<◌, ◌⊎◌, Some, List, [], ◌∷◌, ◌++◌, length, set, arith, sym, ap}
use Rattle.std.proofs.Common.{refl, ◌∙◌, inl, inr, ⊎_elim}
use mathlib.Core.Option.{some, some-injective, some-ne-none}
use lib.ListN.{get_elem?}
use Rattle.atomic_table.proofs.Lists.{at_set}
use Rattle.sbpl_frontier_rules.specs.declared.leg.Leg.{Leg}
use Rattle.sbpl_claims.specs.declared.known.Known.{Known}
use Rattle.sbpl_claims.specs.Known.{claim_of}
use Rattle.sbpl_claims.specs.Kept.{HasClaim}

module _ {A : Type 0} where
  pub at_inside : (l : List A) (i : ℕ) (a : A) → get_elem? l i ≡ some a → i < length l
  at_inside [] i a e = absurd (some-ne-none a (sym e))
  at_inside (x ∷ xs) zero a e = omega arith
  at_inside (x ∷ xs) (suc i) a e = let rest = at_inside xs i a e in omega arith

  -- an element of a list with one more at its end
  pub at_end : (l : List A) (a b : A) (j : ℕ) → get_elem? (l ++ a ∷ []) j ≡ some b
      → (get_elem? l j ≡ some b) ⊎ ((j ≡ length l) × (a ≡ b))
  at_end [] a b zero e = inr (refl, some-injective a b e)
  at_end [] a b (suc j) e = absurd (some-ne-none b (sym e))
  at_end (x ∷ xs) a b zero e = inl e
  at_end (x ∷ xs) a b (suc j) e =
      ⊎_elim (λ earlier. inl earlier) (λ last. inr (ap suc last.0, last.1)) (at_end xs a b j e)

-- a claim after one view was changed
pub claim_at_set : (views : List Known) (place : ℕ) (v : Known) (seat : ℕ) (leg : Leg)
    → HasClaim (set views place v) seat leg
    → ((seat ≡ place) × (claim_of v ≡ Some leg)) ⊎ ((seat ≢ place) × HasClaim views seat leg)
claim_at_set views place v seat leg (w, at, has) =
    ⊎_elim (λ here. inl (here.0, ap claim_of here.1 ∙ has)) (λ other. inr (other.0, (w, other.1, has)))
    (at_set views place seat v w at)

-- a claim after another view was put at the end
pub claim_at_end : (views : List Known) (v : Known) (seat : ℕ) (leg : Leg) → HasClaim (views ++ v ∷ []) seat leg
    → HasClaim views seat leg ⊎ ((seat ≡ length views) × (claim_of v ≡ Some leg))
claim_at_end views v seat leg (w, at, has) =
    ⊎_elim (λ earlier. inl (w, earlier, has)) (λ last. inr (last.0, ap claim_of last.1 ∙ has))
    (at_end views v w seat at)

pub claim_inside : (views : List Known) (seat : ℕ) (leg : Leg) → HasClaim views seat leg → seat < length views
claim_inside views seat leg (v, at, has) = at_inside views seat v at
