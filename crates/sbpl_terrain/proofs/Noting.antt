-- Costs of cells that are noted.
use Rattle.std.proofs.Common.{◌≡◌, ℕ, pos, ◌<◌, ◌+◌, inl, inr, Bool, true, false, cond, List, length, get_or, slice_get}
use Rattle.std.proofs.Common.{Some, refl, sym, ◌∙◌, subst, arith}
use Rattle.std.specs.BTreeMap.{BTreeMap, get, Updates, is_at}
use Rattle.std.specs.Ordering.{nat_cmp}
use Rattle.std.proofs.lemmas.Map.Lookups.{CmpEqualImpliesEq, exact_pairs, exact_unsigned}
use Rattle.std.proofs.lemmas.Map.Views.{tells_apart}
use Rattle.std.proofs.lemmas.Option.{get_or_from_slice_get}
use Rattle.std.proofs.lemmas.Bool.{cases_lt}
use Rattle.sbpl_map.specs.CellMap.{CellMap, cost_at}
use Rattle.sbpl_map.specs.declared.write.Write.{Write}
use Rattle.sbpl_terrain.specs.Noted.{cell_cmp, AreCosts, IsNoted, KeepsNotes}

pub exact_cells : CmpEqualImpliesEq cell_cmp
exact_cells = exact_pairs nat_cmp nat_cmp exact_unsigned exact_unsigned

module _ (m : CellMap) (old new : BTreeMap (ℕ × ℕ) ℕ) (x y cost : ℕ) (here : cost_at m (pos x) (pos y) ≡ Some cost)
    (sound : AreCosts m old) where
  cost_by : (u v c : ℕ) (b : Bool) → is_at (cell_cmp (x, y)) (u, v) ≡ b
      → get cell_cmp new (u, v) ≡ cond b (Some cost) (get cell_cmp old (u, v))
      → get cell_cmp new (u, v) ≡ Some c → cost_at m (pos u) (pos v) ≡ Some c
  cost_by u v c true e is h =
      let same : (x, y) ≡ (u, v) = tells_apart exact_cells (x, y) (u, v) e in
      subst (λ (q : ℕ × ℕ). cost_at m (pos q.0) (pos q.1) ≡ Some c) same (here ∙ sym is ∙ h)
  cost_by u v c false e is h = sound u v c (sym is ∙ h)

  pub still_costs : Updates cell_cmp old new (x, y) (Some cost) → AreCosts m new
  still_costs updates u v c h = cost_by u v c (is_at (cell_cmp (x, y)) (u, v)) refl (updates.0 (u, v)) h

module _ (old new : BTreeMap (ℕ × ℕ) ℕ) (x y cost : ℕ) where
  noted_by : (u v : ℕ) (b : Bool) → get cell_cmp new (u, v) ≡ cond b (Some cost) (get cell_cmp old (u, v))
      → IsNoted old u v → IsNoted new u v
  noted_by u v true is h = rw is refl
  noted_by u v false is h = rw is h

  pub still_noted : Updates cell_cmp old new (x, y) (Some cost) → KeepsNotes old new
  still_noted updates u v h = noted_by u v (is_at (cell_cmp (x, y)) (u, v)) (updates.0 (u, v)) h

-- one more write is noted
noted_at : (batch : List Write) (new : BTreeMap (ℕ × ℕ) ℕ) (n : ℕ) (d : Write) → n < length batch
    → IsNoted new (get_or batch n d).x (get_or batch n d).y → (w : Write)
    → slice_get batch n ≡ Some w → IsNoted new w.x w.y
noted_at batch new n d within noted w h =
    let same : get_or batch n d ≡ w = get_or_from_slice_get batch n w d h in
    subst (λ (v : Write). IsNoted new v.x v.y) same noted

pub noted_below : (batch : List Write) (old new : BTreeMap (ℕ × ℕ) ℕ) (n : ℕ) (d : Write) → n < length batch
    → ((i : ℕ) (w : Write) → i < n → slice_get batch i ≡ Some w → IsNoted old w.x w.y) → KeepsNotes old new
    → IsNoted new (get_or batch n d).x (get_or batch n d).y
    → (i : ℕ) (w : Write) → i < n + 1 → slice_get batch i ≡ Some w → IsNoted new w.x w.y
noted_below batch old new n d within before kept noted i w below h =
    elim (cases_lt i n) [
      | inl less ↦ kept w.x w.y (before i w less h)
      | inr least ↦
          let same : i ≡ n = omega arith in
          noted_at batch new n d within noted w (subst (λ k. slice_get batch k ≡ Some w) same h)
    ]
