use Rattle.std.proofs.Common.{ℕ, Option, Some, None, refl, arith}
use Rattle.std.specs.Option.{IsSome, IsNone}
use Rattle.sbpl_plan.proofs.Lows.{low_some}
use Rattle.sbpl_plan.proofs.look.look.Goals as goal

some_unless : (o : Option ℕ) (P : Type 0) → (IsNone o → P) → (P → ⊥) → IsSome o
some_unless (Some x) P none not = refl
some_unless None P none not = absurd (not (none refl))

pub unwrap-bound-requires : goal.unwrap-bound-requires
unwrap-bound-requires g c = some_unless _ _ (λ none. c.bound_of.ensures.none.0 none) (λ (dear, zero).
    let walk = rw c.goal.ensures.value at (rw c.labels.ensures.value at c.in-Path.ensures.walk) in
    let some =
    low_some _ c.states-states.ensures.sound c.requires.states c.requires.exact (let s =
    c.requires.states in omega (arith, c.labels.ensures.goal)) c.requires.fresh c.low.ensures.least walk dear in
    omega arith)
