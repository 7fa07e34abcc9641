-- A point sweeps no more cells than its motion has poses.
use Rattle.std.proofs.Common.{◌≡◌, ℕ, zero, suc, ◌+◌, ◌≤◌, true, false, inl, inr, List, [], ◌∷◌, take, map, sum_by}
use Rattle.std.proofs.Common.{slice_get, Some, refl, ap, sym, ◌∙◌, arith, subst, ℤ}
use Rattle.std.specs.List.{IsDistinct, AllByRecursion, list_any}
use Rattle.std.proofs.lemmas.Bool.{cases_Bool}
use Rattle.std.proofs.lemmas.Bool.Decides.{Decides-int_eq}
use Rattle.std.proofs.lemmas.List.{length-map}
use Rattle.std.proofs.lemmas.List.Sums.{sum_by-cons, sum_by-take-le}
use Rattle.std.proofs.lemmas.Map.Keys.{IsDistinct-cons}
use Rattle.std.proofs.lemmas.Map.Made.{length-le_from_is_member}
use Rattle.std.proofs.lemmas.Option.{none-some, same_Some}
use Rattle.sbpl_mprim.specs.sbpl_cfg.declared.pose.Pose.{Pose}
use Rattle.sbpl_mprim.specs.declared.prim.Primitive.{Primitive}
use Rattle.sbpl_mprim.specs.Primitives.{offset_cell, pose_count}
use Rattle.sbpl_sweep.specs.declared.cell.Cell.{Cell}
use Rattle.sbpl_sweep.specs.contracts.cell.CellEq.TheImpl.Laws.{laws-law}
use Rattle.sbpl_sweep.specs.Centres.{IsBefore, cell_of_pose}
use Rattle.sbpl_sweep.specs.Gathered.{AreInOrder}
use Rattle.sbpl_sweep.specs.Sweep.{IsCentre, IsSwept}
use Rattle.sbpl_sweep.specs.Widths.{AreSomeSweptByEach, FewPosesAreNarrow, PointsSweepFewCells, cell_count}
use Rattle.sbpl_sweep.proofs.CellOrders.{cell_eq, same_cell}
use Rattle.sbpl_sweep.proofs.Listings.{later, not_before_itself}
use Rattle.sbpl_sweep.proofs.Lists.{made_at}

swept_is_centre : (cell : ℤ) (poses : List Pose) (x y : ℤ) → IsSwept cell 0 poses x y → IsCentre cell poses x y
swept_is_centre cell poses x y h = elim h [ inl centre ↦ centre | inr touched ↦ absurd (omega (arith, touched.near)) ]

-- ---- cells in order are all different

eq_itself : (c : Cell) → cell_eq c c ≡ true
eq_itself c =
    let row = (Decides-int_eq c.y c.y).1 refl in let column = (Decides-int_eq c.x c.x).1 refl in rw (row, column) refl

not_eq : (a b : Cell) → IsBefore a b → cell_eq a b ≡ false
not_eq a b h = elim (cases_Bool (cell_eq a b)) [
  | inl e ↦ absurd (not_before_itself b (subst (λ c. IsBefore c b) (same_cell a b e) h))
  | inr e ↦ e
]

all_not_eq : (c : Cell) (cells : List Cell) → ((i : ℕ) (d : Cell) → slice_get cells i ≡ Some d → IsBefore c d)
    → AllByRecursion (λ d. cell_eq c d ≡ false) cells
all_not_eq c [] h = tt
all_not_eq c (d ∷ ds) h = (not_eq c d (h 0 d refl), all_not_eq c ds (λ i e at. h (suc i) e at))

none_distinct : IsDistinct cell_eq []
unfolding IsDistinct
none_distinct = tt

after_in_order : (c : Cell) (cells : List Cell) → AreInOrder (c ∷ cells) → AreInOrder cells
after_in_order c cells h i a b at next =
    let step : suc i + 1 ≡ suc (i + 1) = omega arith in
    h (suc i) a b at (ap (slice_get (c ∷ cells)) step ∙ next)

are_distinct : (cells : List Cell) → AreInOrder cells → IsDistinct cell_eq cells
are_distinct [] h = none_distinct
are_distinct (c ∷ cs) h =
    IsDistinct-cons cell_eq c cs (all_not_eq c cs (λ i d at. later (c ∷ cs) h 0 (suc i) c d (omega arith) refl at))
    (are_distinct cs (after_in_order c cs h))

-- ---- each is the cell of a pose

any_at : (q : Cell) (cells : List Cell) (i : ℕ) → slice_get cells i ≡ Some q → list_any (cell_eq q) cells ≡ true
any_at q [] i at = absurd (none-some q at)
any_at q (c ∷ cs) zero at = let same : c ≡ q = same_Some c q at in rw (same, eq_itself q) refl
any_at q (c ∷ cs) (suc i) at =
    let rest = any_at q cs i at in
    elim (cases_Bool (cell_eq q c)) [ inl e ↦ rw e refl | inr e ↦ rw (e, rest) refl ]

at_any : (q : Cell) (cells : List Cell) → list_any (cell_eq q) cells ≡ true → (i : ℕ) × (slice_get cells i ≡ Some q)
at_any q [] h = absurd cc
at_any q (c ∷ cs) h = elim (cases_Bool (cell_eq q c)) [
  | inl e ↦ (0, ap (λ z. Some z) (sym (same_cell q c e)))
  | inr e ↦ let rest = at_any q cs (rw e at h) in (suc rest.0, rest.1)
]

-- the cells of poses
abbrev own_cells : ℤ → List Pose → List Cell
own_cells cell poses = map (cell_of_pose cell) poses

swept_is_own : (cell : ℤ) (poses : List Pose) (q : Cell) → IsSwept cell 0 poses q.x q.y
    → list_any (cell_eq q) (own_cells cell poses) ≡ true
swept_is_own cell poses q h =
    let centre = swept_is_centre cell poses q.x q.y h in
    let by_row : ℤ → Cell = λ v. record { y = v; x = offset_cell cell centre.pose.x } in
    let by_column : ℤ → Cell = λ v. record { y = q.y; x = v } in
    let same : cell_of_pose cell centre.pose ≡ q = ap by_row centre.row ∙ ap by_column centre.column in
    any_at q (own_cells cell poses) centre.number
    (made_at (cell_of_pose cell) poses centre.number centre.pose centre.stands ∙ ap (λ z. Some z) same)

pub points_sweep_few_cells : PointsSweepFewCells
points_sweep_few_cells cell poses cells h =
    let own = own_cells cell poses in
    let among : (q : Cell) → list_any (cell_eq q) cells ≡ true → list_any (cell_eq q) own ≡ true = λ q any.
    let there = at_any q cells any in
    swept_is_own cell poses q (h.each there.0 q there.1) in
    let few = length-le_from_is_member laws-law cells own (are_distinct cells h.ordered) among in
    omega (arith, few, length-map poses (cell_of_pose cell))

-- ---- primitives

lists_are_short : (cell : ℤ) (motions : List Primitive) (lists : List (List Cell))
    → AreSomeSweptByEach cell 0 motions lists → sum_by cell_count lists ≤ sum_by pose_count motions
lists_are_short cell [] [] h = omega arith
lists_are_short cell [] (cells ∷ lists) h = absurd (omega (arith, h.count))
lists_are_short cell (p ∷ ps) [] h = absurd (omega (arith, h.count))
lists_are_short cell (p ∷ ps) (cells ∷ lists) h =
    let first = points_sweep_few_cells cell p.poses cells (h.each 0 p cells refl refl) in
    let rest =
    lists_are_short cell ps lists
    (record { count = omega (arith, h.count); each = λ i q found at there. h.each (suc i) q found at there }) in
    omega (arith, first, rest, sum_by-cons pose_count p ps, sum_by-cons cell_count cells lists)

pub few_poses_are_narrow : FewPosesAreNarrow
few_poses_are_narrow prims each together i h = elim h [
  | inl alone ↦
      let swept = alone.2 in
      let few = points_sweep_few_cells prims.cell alone.0.poses swept.0 swept.1 in
      omega (arith, few, swept.2, each i alone.0 alone.1)
  | inr first ↦
      let swept = first.1 in
      let few = lists_are_short prims.cell (take (i + 1) prims.items) swept.0 swept.1 in
      omega (arith, few, swept.2, sum_by-take-le pose_count prims.items (i + 1), together)
]
