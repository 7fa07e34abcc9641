-- The cells that the first poses of a motion sweep.
use Rattle.std.proofs.Common.{◌≡◌, ℕ, zero, suc, ℤ, pos, ◌+◌, ◌*◌, ◌<◌, ◌≤◌, ◌+ℤ◌, ◌≤ℤ◌, ◌⊎◌, inl, inr, List, [], ◌∷◌}
use Rattle.std.proofs.Common.{length, slice_get, Some, Result, Err, refl, ap, sym, ◌∙◌, arith, subst}
use Rattle.std.proofs.lemmas.Bool.{cases_lt}
use Rattle.std.proofs.lemmas.Int.{ints}
use Rattle.std.proofs.lemmas.Option.{slice_get_within, same_Some, none-some}
use Rattle.std.proofs.Math.Nat.{mul-le-mul_right}
use Rattle.sbpl_mprim.specs.sbpl_cfg.declared.pose.Pose.{Pose}
use Rattle.sbpl_sweep.specs.declared.band.Band.{Band}
use Rattle.sbpl_sweep.specs.declared.cell.Cell.{Cell}
use Rattle.sbpl_sweep.specs.declared.disc.Disc.{Disc}
use Rattle.sbpl_sweep.specs.declared.stop.SweepStop.{SweepStop}
use Rattle.sbpl_sweep.specs.declared.stop.SweepStop.TheVariants.{TooMany, NoMemory}
use Rattle.sbpl_sweep.specs.Sweep.{IsSwept, distance_to_cell}
use Rattle.sbpl_sweep.specs.Bands.{IsCovered, IsOwn, IsNear, IsDisc, AddsDisc, HasWideRow}
use Rattle.sbpl_sweep.specs.Discs.{IsInBounds}
use Rattle.sbpl_sweep.specs.Widths.{SweepsMoreThan, most_cells}
use Rattle.sbpl_sweep.specs.Gathered.{AreCovered, CoverTooMany, CoverTheSame, IsStopOf, AreBounded}
use Rattle.sbpl_sweep.specs.Sweeping.{AreFewSwept, IsSweepStop}
use Rattle.sbpl_sweep.proofs.Distances.{beside, distance_after}
use Rattle.sbpl_sweep.proofs.DiscsTouched.{own_cell}
use Rattle.sbpl_sweep.proofs.RowsTouched.{near_by}
use Rattle.sbpl_sweep.proofs.Steps.{root_lt}

-- bands cover the cells that the first poses sweep, and no cells that the motion doesn't
pub record AreSweptBefore (cell : ℤ) (radius : ℕ) (poses : List Pose) (k : ℕ) (bands : List Band) : Type 0 where
  pub each : (x y : ℤ) → IsCovered bands x y → IsSwept cell radius poses x y
  pub own : (j : ℕ) (p : Pose) (x y : ℤ) → j < k → slice_get poses j ≡ Some p → IsOwn cell p x y → IsCovered bands x y
  pub near : (j : ℕ) (p : Pose) (x y : ℤ) → j < k → slice_get poses j ≡ Some p
      → IsNear cell radius p x y → IsCovered bands x y
  pub bounded : AreBounded bands

pub swept_of : (cell : ℤ) (radius : ℕ) (poses : List Pose) (j : ℕ) (p : Pose) (x y : ℤ) → slice_get poses j ≡ Some p
    → IsOwn cell p x y ⊎ IsNear cell radius p x y → IsSwept cell radius poses x y
swept_of cell radius poses j p x y at (inl own) =
    inl (record { number = j; pose = p; stands = at; column = own.0; row = own.1 })
swept_of cell radius poses j p x y at (inr near) = inr (record { number = j; pose = p; stands = at; near = near })

-- what a disc sweeps is not far from its own cell
below_root : (a b r : ℕ) → a * a + b * b < r * r → a < r
below_root a b r h = root_lt a r (omega arith)

disc_bounded : (cell : ℤ) (radius : ℕ) (p : Pose) (d : Disc) (x y : ℤ) → IsDisc cell radius p d → IsInBounds d
    → IsOwn cell p x y ⊎ IsNear cell radius p x y → x ≤ℤ pos 1000000000000000
disc_bounded cell radius p d x y disc bounds (inl own) =
    let same = own_cell cell p.x d.side d.column disc.side_is disc.column in
    let is : x ≡ d.column.own = sym own.0 ∙ same in
    let high = bounds.column.own.1 in
    omega (arith, ints, is, high)
disc_bounded cell radius p d x y disc bounds (inr near) =
    let high = bounds.column.own.1 in
    elim (beside x d.column.own) [
      | inl is ↦ omega (arith, ints, is, high)
      | inr (inr (n, is)) ↦ omega (arith, ints, is, high)
      | inr (inl (n, is)) ↦
          let away =
          ap (λ z. distance_to_cell cell p.x z) is
          ∙ distance_after cell p.x d.side d.column disc.side_is disc.column n in
          let at =
          near_by (d.column.after + d.side * n) (distance_to_cell cell p.y y) d.radius (distance_to_cell cell p.x x)
          (distance_to_cell cell p.y y) (2 * radius) (sym away) refl disc.twice near in
          let less = below_root (d.column.after + d.side * n) (distance_to_cell cell p.y y) d.radius at in
          let times = mul-le-mul_right {m = 1} {n = d.side} n bounds.side.0 in
          let small = bounds.radius in
          let few : n ≤ 2000000000000 = omega (arith, less, times, small) in
          omega (arith, ints, is, high, few)
    ]

-- one more pose
pub swept_more : (cell : ℤ) (radius : ℕ) (poses : List Pose) (k : ℕ) (p : Pose) (d : Disc) (old new : List Band)
    → slice_get poses k ≡ Some p → IsDisc cell radius p d → IsInBounds d → AddsDisc cell radius p old new
    → AreSweptBefore cell radius poses k old → AreSweptBefore cell radius poses (k + 1) new
swept_more cell radius poses k p d old new at disc bounds added before = record {
  each = λ x y c. elim (added.each x y c) [
    | inl earlier ↦ before.each x y earlier
    | inr here ↦ swept_of cell radius poses k p x y at here
  ];
  own = λ j q x y h there own. elim (cases_lt j k) [
    | inl less_j ↦ added.kept x y (before.own j q x y less_j there own)
    | inr more_j ↦
        let last : j ≡ k = omega arith in
        let same = same_Some q p (sym there ∙ ap (slice_get poses) last ∙ at) in
        added.own x y (subst (λ z. IsOwn cell z x y) same own)
  ];
  near = λ j q x y h there near. elim (cases_lt j k) [
    | inl less_j ↦ added.kept x y (before.near j q x y less_j there near)
    | inr more_j ↦
        let last : j ≡ k = omega arith in
        let same = same_Some q p (sym there ∙ ap (slice_get poses) last ∙ at) in
        added.near x y (subst (λ z. IsNear cell radius z x y) same near)
  ];
  bounded = λ x y c. elim (added.each x y c) [
    | inl earlier ↦ before.bounded x y earlier
    | inr here ↦ disc_bounded cell radius p d x y disc bounds here
  ];
}

pub swept_same : (cell : ℤ) (radius : ℕ) (poses : List Pose) (k : ℕ) (old new : List Band) → CoverTheSame old new
    → AreSweptBefore cell radius poses k old → AreSweptBefore cell radius poses k new
swept_same cell radius poses k old new same before = record {
  each = λ x y c. before.each x y (same.each x y c);
  own = λ j p x y h at own. same.kept x y (before.own j p x y h at own);
  near = λ j p x y h at near. same.kept x y (before.near j p x y h at near);
  bounded = λ x y c. before.bounded x y (same.each x y c);
}

-- all poses
pub swept_all : (cell : ℤ) (radius : ℕ) (poses : List Pose) (k : ℕ) (bands : List Band) (cells : List Cell)
    → length poses ≤ k → AreSweptBefore cell radius poses k bands → AreCovered bands cells
    → AreFewSwept cell radius poses cells
swept_all cell radius poses k bands cells end before listed = record {
  swept = record {
    each = λ i c at. before.each c.x c.y (listed.some.each c.x c.y (record { number = i; stands = at }));
    all = λ x y swept. let l = listed.all x y (covered x y swept) in (l.number, l.stands);
    ordered = listed.some.ordered;
  };
  few = listed.few;
} where
  covered : (x y : ℤ) → IsSwept cell radius poses x y → IsCovered bands x y
  covered x y (inl c) =
      let within = slice_get_within poses c.number c.pose c.stands in
      before.own c.number c.pose x y (omega arith) c.stands (c.column, c.row)
  covered x y (inr t) =
      let within = slice_get_within poses t.number t.pose t.stands in
      before.near t.number t.pose x y (omega arith) t.stands t.near

-- bands that cover too many cells
pub too_many_swept : (cell : ℤ) (radius : ℕ) (poses : List Pose) (k : ℕ) (bands : List Band)
    → AreSweptBefore cell radius poses k bands → CoverTooMany bands → SweepsMoreThan cell radius poses most_cells
too_many_swept cell radius poses k bands before (cells, some, more) = (
  cells,
  record {
    each = λ i c at. before.each c.x c.y (some.each c.x c.y (record { number = i; stands = at }));
    ordered = some.ordered;
  },
  more,
)

pub stop_swept : (cell : ℤ) (radius : ℕ) (poses : List Pose) (k : ℕ) (bands : List Band) (e : SweepStop)
    → AreSweptBefore cell radius poses k bands → IsStopOf bands e → IsSweepStop cell radius poses e
stop_swept cell radius poses k bands TooMany before stop = too_many_swept cell radius poses k bands before stop
stop_swept cell radius poses k bands NoMemory before stop = tt

-- a row that is too wide
row_cells : ℤ → ℤ → ℕ → List Cell
row_cells y x zero = []
row_cells y x (suc n) = (record { y = y; x = x }) ∷ row_cells y (x +ℤ pos 1) n

length-row_cells : (y x : ℤ) (n : ℕ) → length (row_cells y x n) ≡ n
unfolding row_cells
length-row_cells y x zero = refl
length-row_cells y x (suc n) = ap suc (length-row_cells y (x +ℤ pos 1) n)

row_cell_at : (y x : ℤ) (n i : ℕ) (c : Cell) → slice_get (row_cells y x n) i ≡ Some c
    → (c ≡ record { y = y; x = x +ℤ pos i }) × (i < n)
unfolding row_cells
row_cell_at y x zero i c at = absurd (none-some c at)
row_cell_at y x (suc n) zero c at =
    let none : x ≡ x +ℤ pos zero = omega (arith, ints) in
    let by : ℤ → Cell = λ z. record { y = y; x = z } in
    (sym (same_Some (record { y = y; x = x }) c at) ∙ ap by none, omega arith)
row_cell_at y x (suc n) (suc i) c at =
    let rest = row_cell_at y (x +ℤ pos 1) n i c at in
    let sum : (x +ℤ pos 1) +ℤ pos i ≡ x +ℤ pos (suc i) = omega (arith, ints) in
    let by : ℤ → Cell = λ z. record { y = y; x = z } in
    let within = rest.1 in
    (rest.0 ∙ ap by sum, omega (arith, within))

pub wide_swept : (cell : ℤ) (radius : ℕ) (poses : List Pose) (k : ℕ) (p : Pose) → slice_get poses k ≡ Some p
    → HasWideRow cell radius p → SweepsMoreThan cell radius poses most_cells
wide_swept cell radius poses k p at wide = (
  row_cells wide.row wide.first 65537,
  record {
    each = λ i c here.
        let is = row_cell_at wide.row wide.first 65537 i c here in
        let within = is.1 in
        subst (λ (z : Cell). IsSwept cell radius poses z.x z.y) (sym is.0)
        (swept_of cell radius poses k p (wide.first +ℤ pos i) wide.row at (wide.all i (omega (arith, within))));
    ordered = λ i a b at_a at_b.
        let is_a = row_cell_at wide.row wide.first 65537 i a at_a in
        let is_b = row_cell_at wide.row wide.first 65537 (i + 1) b at_b in
        let a_x = ap (λ (z : Cell). z.x) is_a.0 in
        let b_x = ap (λ (z : Cell). z.x) is_b.0 in
        inr (ap (λ (z : Cell). z.y) is_a.0 ∙ sym (ap (λ (z : Cell). z.y) is_b.0), omega (arith, ints, a_x, b_x));
  },
  omega (arith, length-row_cells wide.row wide.first 65537),
)

abbrev pub stopped : SweepStop → Result (Unit {0}) SweepStop
stopped e = Err e

pub stop_wide : (cell : ℤ) (radius : ℕ) (poses : List Pose) (k : ℕ) (p : Pose) (e : SweepStop) → slice_get poses k ≡ Some p
    → (stopped e ≡ stopped TooMany → HasWideRow cell radius p) → IsSweepStop cell radius poses e
stop_wide cell radius poses k p TooMany at wide = wide_swept cell radius poses k p at (wide refl)
stop_wide cell radius poses k p NoMemory at wide = tt

abbrev pub no_pose : Pose
no_pose = record { x = pos 0; y = pos 0; theta = pos 0 }
