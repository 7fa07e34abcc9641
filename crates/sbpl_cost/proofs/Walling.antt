-- The bits of the cells after one cost was written.
use Rattle.std.proofs.Common.{◌≡◌, ◌≢◌, ℕ, ℤ, pos, negsuc, ◌<◌, nat_le, List, length, set, slice_index_or, Some, None}
use Rattle.std.proofs.Common.{arith, sym, refl, ap, ◌∙◌, subst, inl, inr, length-set, get_or-set_other, get_or-set_same}
use Rattle.std.proofs.lemmas.Bool.{cases_lt}
use Rattle.sbpl_sweep.specs.sbpl_lists.Flags.{Flags, is_set}
use Rattle.sbpl_terrain.specs.sbpl_map.CellMap.{CellMap, costs_with, index_in}
use Rattle.sbpl_cost.specs.Walls.{AreWalls}

same_index : (m n : CellMap) (x y : ℤ) → m.width ≡ n.width → m.height ≡ n.height → index_in m x y ≡ index_in n x y
same_index m n (pos a) (pos b) width height = rw (width, height) refl
same_index m n (pos a) (negsuc b) width height = refl
same_index m n (negsuc a) y width height = refl

module _ (limit : ℕ) (costs : List ℕ) (i cost : ℕ) (old new : Flags) (inside : i < length costs)
    (len : new.len ≡ old.len) (here : is_set new i ≡ nat_le limit cost)
    (others : (j : ℕ) → j ≢ i → j < old.len → is_set new j ≡ is_set old j) (walls : AreWalls limit costs old) where
  another : (j : ℕ) → j ≢ i → j < length costs → is_set new j ≡ nat_le limit (slice_index_or (set costs i cost) j 0)
  another j other short =
      others j other (omega (arith, short, walls.len)) ∙ walls.each j short
      ∙ ap (nat_le limit) (sym (get_or-set_other costs i j cost 0 other))

  wall_at : (j : ℕ) → j < length costs → is_set new j ≡ nat_le limit (slice_index_or (set costs i cost) j 0)
  wall_at j short = elim (cases_lt j i) [
    | inl less ↦ another j (λ e. omega (arith, less, e)) short
    | inr more ↦ elim (cases_lt i j) [
      | inl less ↦ another j (λ e. omega (arith, less, e)) short
      | inr not_more ↦
          let same : j ≡ i = omega (arith, more, not_more) in
          subst (λ (k : ℕ). is_set new k ≡ nat_le limit (slice_index_or (set costs i cost) k 0)) (sym same)
          (here ∙ ap (nat_le limit) (sym (get_or-set_same costs i cost 0 inside)))
    ]
  ]

  written_walls : AreWalls limit (set costs i cost) new
  written_walls = record {
    len = len ∙ walls.len ∙ sym (length-set costs i cost);
    each = λ j short. wall_at j (omega (arith, short, length-set costs i cost));
  }

pub noted : (limit : ℕ) (before now : CellMap) (x y : ℤ) (i cost : ℕ) (old new : Flags) → before.width ≡ now.width
    → before.height ≡ now.height
    → now.costs ≡ costs_with before (index_in before x y) cost → Some i ≡ index_in now x y → i < length now.costs
    → new.len ≡ old.len → is_set new i ≡ nat_le limit cost
    → ((j : ℕ) → j ≢ i → j < old.len → is_set new j ≡ is_set old j) → AreWalls limit before.costs old
    → AreWalls limit now.costs new
noted limit before now x y i cost old new width height written index inside len here others walls =
    let at : index_in before x y ≡ Some i = same_index before now x y width height ∙ sym index in
    let costs : now.costs ≡ set before.costs i cost = written ∙ ap (λ o. costs_with before o cost) at in
    let short : i < length before.costs = omega (arith, inside, ap length costs, length-set before.costs i cost) in
    subst (λ (cs : List ℕ). AreWalls limit cs new) (sym costs)
    (written_walls limit before.costs i cost old new short len here others walls)

pub none_noted : (limit : ℕ) (before now : CellMap) (x y : ℤ) (cost : ℕ) (walls : Flags) → before.width ≡ now.width
    → before.height ≡ now.height
    → now.costs ≡ costs_with before (index_in before x y) cost → None ≡ index_in now x y
    → AreWalls limit before.costs walls → AreWalls limit now.costs walls
none_noted limit before now x y cost walls width height written index are =
    let at : index_in before x y ≡ None = same_index before now x y width height ∙ sym index in
    let costs : now.costs ≡ before.costs = written ∙ ap (λ o. costs_with before o cost) at in
    subst (λ (cs : List ℕ). AreWalls limit cs walls) (sym costs) are
