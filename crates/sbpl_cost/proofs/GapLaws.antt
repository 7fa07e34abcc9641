-- The gaps of the lattice are lower bounds.
use Rattle.std.proofs.Common.{◌≡◌, ℕ, ℤ, pos, negsuc, ◌+◌, ◌-◌, ◌*◌, ◌/◌, ◌^◌, ◌<◌, ◌≤◌, ◌+ℤ◌, inl, inr, List}
use Rattle.std.proofs.Common.{slice_get, Some, ap, sym, ◌∙◌, arith, subst, unwrap_or}
use Rattle.std.proofs.Math.Nat.{div-le_self, mul-le-mul}
use Rattle.std.proofs.lemmas.Int.{ints}
use Rattle.sbpl_sweep.specs.sbpl_cfg.declared.pose.Place.{Place}
use Rattle.sbpl_sweep.specs.sbpl_cfg.Environment.{Environment}
use Rattle.sbpl_sweep.specs.sbpl_mprim.declared.prim.Primitive.{Primitive}
use Rattle.sbpl_cost.specs.declared.way.Way.{Way}
use Rattle.sbpl_cost.specs.declared.way.Way.TheVariants.{Right, Left, Up, Down, Round}
use Rattle.sbpl_cost.specs.PrimitiveCost.{primitive_cost, most_cost, heading_gap}
use Rattle.sbpl_cost.specs.States.{IsPlace}
use Rattle.sbpl_cost.specs.Gaps.{positive_part, negative_part, advance, way_bound}
use Rattle.sbpl_cost.specs.Gaps.{gap_of, BoundsAreFloors, BoundsMayBeZero}
use Rattle.sbpl_cost.proofs.Floors.{floor_le, floor_step, floor_of, rate_of, no_floor}

-- the bound of a way of no cells is 0
pub bound_of_none : (e : Environment) (ps : List Primitive) (way : Way) → way_bound e ps way 0 ≡ 0
bound_of_none e ps way =
    let f = floor_of e way ps in
    let z : 0 * f.0 ≡ 0 = omega arith in
    let q : 0 / f.1 ≤ 0 = div-le_self 0 f.1 in
    let zero_is : 0 * f.0 / f.1 ≡ 0 = ap (λ k. k / f.1) z ∙ (omega arith) in
    f.2.floors 0 ∙ zero_is

-- along a primitive a bound falls by its cost at most
pub bound_step : (e : Environment) (ps : List Primitive) (way : Way) (n m place : ℕ) (p : Primitive)
    → slice_get ps place ≡ Some p → n ≤ m + advance e.headings way p
    → way_bound e ps way n ≤ primitive_cost e p + way_bound e ps way m
bound_step e ps way n m place p at less =
    let f = floor_of e way ps in
    let step : n * f.0 / f.1 ≤ primitive_cost e p + m * f.0 / f.1 =
    floor_step n m (advance e.headings way p) (primitive_cost e p) f.0 f.1 less f.2.some (f.2.least place p at) in
    omega (arith, step, f.2.floors n, f.2.floors m)

-- a bound of few cells is small
pub bound_small : (e : Environment) (ps : List Primitive) (way : Way) (n : ℕ)
    → ((i : ℕ) (p : Primitive) → slice_get ps i ≡ Some p → primitive_cost e p ≤ most_cost) → n ≤ 2 ^ 28
    → way_bound e ps way n < 2 ^ 55
bound_small e ps way n cheap few =
    let f = floor_of e way ps in
    let one : f.0 ≤ 16777215 = f.2.small most_cost cheap in
    let two : n * f.0 ≤ 268435456 * 16777215 = mul-le-mul few one in
    let three : n * f.0 / f.1 ≤ n * f.0 = div-le_self (n * f.0) f.1 in
    omega (arith, two, three, f.2.floors n)

-- turning by way of another heading is no shorter
pub gap_by_way : (n a b c : ℕ) → a < n → b < n → c < n → heading_gap n a c ≤ heading_gap n b c + heading_gap n a b
gap_by_way n a b c below_a below_b below_c = omega arith

-- how far a motion goes along an axis
pub axis_step : (d : ℤ) (a b : ℕ) → pos b ≡ pos a +ℤ d → (c : ℕ)
    → (c - a ≤ c - b + positive_part d) × (a - c ≤ b - c + negative_part d)
axis_step (pos k) a b e c = (omega (arith, ints, e), omega (arith, ints, e))
axis_step (negsuc k) a b e c = (omega (arith, ints, e), omega (arith, ints, e))

-- the same, seen from another place
pub axis_back : (d : ℤ) (a b : ℕ) → pos b ≡ pos a +ℤ d → (c : ℕ)
    → (b - c ≤ a - c + positive_part d) × (c - b ≤ c - a + negative_part d)
axis_back (pos k) a b e c = (omega (arith, ints, e), omega (arith, ints, e))
axis_back (negsuc k) a b e c = (omega (arith, ints, e), omega (arith, ints, e))

pub gap_on_way : (n c a b : ℕ) → c < n → a < n → b < n → heading_gap n c b ≤ heading_gap n c a + heading_gap n a b
gap_on_way n c a b below_c below_a below_b = omega arith

module _ (e : Environment) (ps : List Primitive) where
  pub gap_to_itself : (a : Place) → gap_of e ps a a ≡ 0
  unfolding gap_of
  gap_to_itself a =
      let x : a.x - a.x ≡ 0 = omega arith in
      let y : a.y - a.y ≡ 0 = omega arith in
      let t : heading_gap e.headings a.t a.t ≡ 0 = omega arith in
      let right : way_bound e ps Right (a.x - a.x) ≡ 0 = ap (way_bound e ps Right) x ∙ bound_of_none e ps Right in
      let left : way_bound e ps Left (a.x - a.x) ≡ 0 = ap (way_bound e ps Left) x ∙ bound_of_none e ps Left in
      let up : way_bound e ps Up (a.y - a.y) ≡ 0 = ap (way_bound e ps Up) y ∙ bound_of_none e ps Up in
      let down : way_bound e ps Down (a.y - a.y) ≡ 0 = ap (way_bound e ps Down) y ∙ bound_of_none e ps Down in
      let round : way_bound e ps Round (heading_gap e.headings a.t a.t) ≡ 0 =
      ap (way_bound e ps Round) t ∙ bound_of_none e ps Round in
      omega arith

  pub gap_small : (a b : Place) → ((i : ℕ) (p : Primitive) → slice_get ps i ≡ Some p → primitive_cost e p ≤ most_cost)
      → e.width ≤ 268435456 → e.height ≤ 268435456 → e.headings ≤ 268435456
      → IsPlace e a → IsPlace e b → gap_of e ps a b < 2 ^ 55
  unfolding gap_of
  gap_small a b cheap wide high turns at to =
      let right = bound_small e ps Right (b.x - a.x) cheap (omega (arith, to.x)) in
      let left = bound_small e ps Left (a.x - b.x) cheap (omega (arith, at.x)) in
      let up = bound_small e ps Up (b.y - a.y) cheap (omega (arith, to.y)) in
      let down = bound_small e ps Down (a.y - b.y) cheap (omega (arith, at.y)) in
      let round = bound_small e ps Round (heading_gap e.headings a.t b.t) cheap (omega (arith, at.t, to.t)) in
      omega (arith, right, left, up, down, round)

  -- along a motion from one place to another the gap falls by the primitive's cost at most
  pub gap_along : (a b c : Place) (place : ℕ) (p : Primitive) → slice_get ps place ≡ Some p → a.t < e.headings
      → b.t < e.headings → c.t < e.headings
      → p.from ≡ a.t → b.t ≡ p.to → pos b.x ≡ pos a.x +ℤ p.dx → pos b.y ≡ pos a.y +ℤ p.dy
      → gap_of e ps a c ≤ primitive_cost e p + gap_of e ps b c
  unfolding gap_of
  gap_along a b c place p at from_in to_in goal_in from to column row =
      let x = axis_step p.dx a.x b.x column c.x in
      let y = axis_step p.dy a.y b.y row c.y in
      let turned : heading_gap e.headings a.t b.t ≡ heading_gap e.headings p.from p.to =
      ap (λ t. heading_gap e.headings t b.t) (sym from) ∙ ap (heading_gap e.headings p.from) to in
      let t : heading_gap e.headings a.t c.t ≤ heading_gap e.headings b.t c.t + advance e.headings Round p =
      subst (λ k. heading_gap e.headings a.t c.t ≤ heading_gap e.headings b.t c.t + k) turned
      (gap_by_way e.headings a.t b.t c.t from_in to_in goal_in) in
      let right = bound_step e ps Right (c.x - a.x) (c.x - b.x) place p at x.0 in
      let left = bound_step e ps Left (a.x - c.x) (b.x - c.x) place p at x.1 in
      let up = bound_step e ps Up (c.y - a.y) (c.y - b.y) place p at y.0 in
      let down = bound_step e ps Down (a.y - c.y) (b.y - c.y) place p at y.1 in
      let round =
      bound_step e ps Round (heading_gap e.headings a.t c.t) (heading_gap e.headings b.t c.t) place p at t in
      omega (arith, right, left, up, down, round)

  -- along a motion from one place to another the gap from a place rises by the primitive's cost at most
  pub gap_rises : (a b c : Place) (place : ℕ) (p : Primitive) → slice_get ps place ≡ Some p → a.t < e.headings
      → b.t < e.headings → c.t < e.headings
      → p.from ≡ a.t → b.t ≡ p.to → pos b.x ≡ pos a.x +ℤ p.dx → pos b.y ≡ pos a.y +ℤ p.dy
      → gap_of e ps c b ≤ gap_of e ps c a + primitive_cost e p
  unfolding gap_of
  gap_rises a b c place p at from_in to_in base_in from to column row =
      let x = axis_back p.dx a.x b.x column c.x in
      let y = axis_back p.dy a.y b.y row c.y in
      let turned : heading_gap e.headings a.t b.t ≡ heading_gap e.headings p.from p.to =
      ap (λ t. heading_gap e.headings t b.t) (sym from) ∙ ap (heading_gap e.headings p.from) to in
      let t : heading_gap e.headings c.t b.t ≤ heading_gap e.headings c.t a.t + advance e.headings Round p =
      subst (λ k. heading_gap e.headings c.t b.t ≤ heading_gap e.headings c.t a.t + k) turned
      (gap_on_way e.headings c.t a.t b.t base_in from_in to_in) in
      let right = bound_step e ps Right (b.x - c.x) (a.x - c.x) place p at x.0 in
      let left = bound_step e ps Left (c.x - b.x) (c.x - a.x) place p at x.1 in
      let up = bound_step e ps Up (b.y - c.y) (a.y - c.y) place p at y.0 in
      let down = bound_step e ps Down (c.y - b.y) (c.y - a.y) place p at y.1 in
      let round =
      bound_step e ps Round (heading_gap e.headings c.t b.t) (heading_gap e.headings c.t a.t) place p at t in
      omega (arith, right, left, up, down, round)

-- the bound of a way by the least fraction
pub bounds_are_floors : BoundsAreFloors
unfolding way_bound
bounds_are_floors e ps way n place p h = elim (rate_of e way ps) [
  | inl none ↦ absurd (omega (arith, none place p h.stands, h.goes))
  | inr (c, d, rate) ↦
      let owner_goes : 1 ≤ advance e.headings way rate.owner = omega (arith, rate.own_cells, rate.some) in
      let less : c * advance e.headings way p ≤ primitive_cost e p * d = rate.least place p h.stands in
      let own : primitive_cost e p * advance e.headings way rate.owner
      ≤ primitive_cost e rate.owner * advance e.headings way p = h.least rate.place rate.owner rate.stands owner_goes in
      let more : primitive_cost e p * d ≤ c * advance e.headings way p =
      subst (λ k. primitive_cost e p * k ≤ c * advance e.headings way p) (sym rate.own_cells) (subst (λ k.
      primitive_cost e p * advance e.headings way rate.owner ≤ k * advance e.headings way p) (sym rate.own_cost) own) in
      let low = floor_le n c d (primitive_cost e p) (advance e.headings way p) rate.some h.goes less in
      let high = floor_le n (primitive_cost e p) (advance e.headings way p) c d h.goes rate.some more in
      let same : n * c / d ≡ n * primitive_cost e p / advance e.headings way p = omega (arith, low, high) in
      ap (λ o. unwrap_or o 0) (rate.floors n) ∙ same
]

pub bounds_may_be_zero : BoundsMayBeZero
unfolding way_bound
bounds_may_be_zero e ps way n none = ap (λ o. unwrap_or o 0) (no_floor e way n ps none)
