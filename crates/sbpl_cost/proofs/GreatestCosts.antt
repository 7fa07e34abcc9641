-- The greatest of some cells' costs.
use Rattle.std.proofs.Common.{◌≡◌, ℕ, ℤ, ◌+◌, ◌<◌, ◌+ℤ◌, inl, inr, List, take, slice_get, Option, Some, None, IsSomeAnd}
use Rattle.std.proofs.Common.{max, ap, sym, ◌∙◌, arith, subst}
use Rattle.std.proofs.lemmas.Bool.{cases_lt}
use Rattle.std.proofs.lemmas.Grind.{common_steps}
use Rattle.std.proofs.lemmas.Option.{gets, same_Some}
use Rattle.sbpl_terrain.specs.sbpl_map.CellMap.{CellMap, cost_at}
use Rattle.sbpl_sweep.specs.declared.cell.Cell.{Cell}
use Rattle.sbpl_cost.specs.Judging.{IsCellBelow, AreBelow, IsGreatestBelow}
use Rattle.sbpl_cost.proofs.Filling.{among}

some_below : (o : Option ℕ) (limit c : ℕ) → o ≡ Some c → c < limit → IsSomeAnd o (λ k. k < limit)
some_below None limit c h below = absurd (let no : None ≡ Some c = h in cc)
some_below (Some k) limit c h below = let same = same_Some k c h in omega arith

-- the next of the first n + 1 elements, and those that are among the first n
at_end : {X : Type 0} (xs : List X) (n : ℕ) (x : X) → slice_get xs n ≡ Some x → slice_get (take (n + 1) xs) n ≡ Some x
at_end xs n x h = grind (arith, common_steps, gets)

kept : {X : Type 0} (xs : List X) (n i : ℕ) (x : X) → slice_get (take n xs) i ≡ Some x
    → slice_get (take (n + 1) xs) i ≡ Some x
kept xs n i x h = grind (arith, common_steps, gets)

module _ (m : CellMap) (cells : List Cell) (x y : ℤ) (limit least greatest n cost : ℕ) (next : Cell)
    (at : slice_get cells n ≡ Some next) (is : cost_at m (x +ℤ next.x) (y +ℤ next.y) ≡ Some cost)
    (small : cost < limit) where
  below_next : (c : Cell) → next ≡ c → IsCellBelow m (x +ℤ c.x) (y +ℤ c.y) limit
  below_next c same =
      subst (λ (z : Cell). IsCellBelow m (x +ℤ z.x) (y +ℤ z.y) limit) same (some_below _ limit cost is small)

  cost_next : (c : Cell) (k : ℕ) → next ≡ c → cost_at m (x +ℤ c.x) (y +ℤ c.y) ≡ Some k → cost ≡ k
  cost_next c k same there = same_Some cost k (sym is ∙ ap (λ (z : Cell). cost_at m (x +ℤ z.x) (y +ℤ z.y)) same ∙ there)

  -- one more cell
  pub greatest_more : IsGreatestBelow m (take n cells) x y limit least greatest
      → IsGreatestBelow m (take (n + 1) cells) x y limit least (max greatest cost)
  greatest_more old = record {
    below = λ i c h. elim (among cells n next i c at h) [ inl e ↦ old.below i c e | inr e ↦ below_next c e ];
    at_least = omega (arith, old.at_least);
    none_above = λ i k c h there. elim (among cells n next i c at h) [
      | inl e ↦ omega (arith, old.none_above i k c e there)
      | inr e ↦
          let cost_is = cost_next c k e there in
          omega arith
    ];
    reached = elim (cases_lt greatest cost) [
      | inl less ↦
          let whole : max greatest cost ≡ cost = omega arith in
          inr (n, next, at_end cells n next at, is ∙ ap (λ k. Some k) (sym whole))
      | inr more ↦
          let whole : max greatest cost ≡ greatest = omega arith in
          elim old.reached [
            | inl first ↦ inl (whole ∙ first)
            | inr some ↦ inr (some.0, some.1, kept cells n some.0 some.1 some.2, some.3 ∙ ap (λ k. Some k) (sym whole))
          ]
    ];
  }

-- one more cell that is below the limit
pub below_more : (m : CellMap) (cells : List Cell) (x y : ℤ) (limit n cost : ℕ) (next : Cell)
    → slice_get cells n ≡ Some next → cost_at m (x +ℤ next.x) (y +ℤ next.y) ≡ Some cost → cost < limit
    → AreBelow m (take n cells) x y limit → AreBelow m (take (n + 1) cells) x y limit
below_more m cells x y limit n cost next at is small old i c h = elim (among cells n next i c at h) [
  | inl e ↦ old i c e
  | inr same ↦ subst (λ (z : Cell). IsCellBelow m (x +ℤ z.x) (y +ℤ z.y) limit) same (some_below _ limit cost is small)
]
