-- The arcs of the lattice, by their motions.
use Rattle.std.proofs.Common.{◌≡◌, ℕ, ℤ, ◌<◌, ◌==◌, List, [], length, take, count_by, slice_get, slice_index, Some}
use Rattle.std.proofs.Common.{option_and_then, refl, ap, sym, ◌∙◌, arith, subst}
use Rattle.std.proofs.lemmas.Bool.{eqb-true}
use Rattle.std.proofs.lemmas.Option.{slice_get-get_or, get_or_from_slice_get}
use Rattle.sbpl_sweep.specs.sbpl_mprim.declared.prim.Primitive.{Primitive}
use Rattle.sbpl_sweep.specs.sbpl_mprim.Primitives.{IsPrimitive}
use Rattle.sbpl_sweep.specs.declared.cell.Cell.{Cell}
use Rattle.sbpl_sweep.specs.Centres.{AreSwept}
use Rattle.sbpl_cost.specs.States.{place_of}
use Rattle.sbpl_cost.specs.World.{World, IsWorld}
use Rattle.sbpl_cost.specs.Arc.{IsArcBy, IsArcOf, HasLatticeArcs}
use Rattle.sbpl_cost.specs.Lattices.{leaving, arc_index, arc_primitive, head_by, cost_by, swept_at, network_of}
use Rattle.sbpl_cost.proofs.Numbered.{numbered, length-indices_from}
use Rattle.sbpl_cost.proofs.Heads.{ends_in, head_where_ends, off_map_where_none, none_where_off_map}
use Rattle.sbpl_cost.proofs.Freedom.{free_at, cost_where_free, not_free_where_none, none_where_not_free}

-- the cells that a motion sweeps
pub record IsSweeping (w : World) (place : ℕ) (p : Primitive) : Type 0 where
  pub swept : AreSwept w.env.cell w.sweeps.radius p.poses (swept_at w place)

-- the table has the cells that the primitive at this index sweeps
pub sweeping : (w : World) (place : ℕ) (p : Primitive) → IsWorld w
    → slice_get w.prims.items place ≡ Some p → IsSweeping w place p
sweeping w place p is_world stands =
    let entry = is_world.sweeps.swept.each place p stands in
    let cells_are = get_or_from_slice_get w.sweeps.swept place entry.0 [] entry.1 in
    let P : ℤ → List Cell → Type 0 = λ cell cells. AreSwept cell w.sweeps.radius p.poses cells in
    record {
      swept =
          subst (λ cell. P cell (swept_at w place)) is_world.cell
          (subst (λ cells. P w.prims.cell cells) (sym cells_are) entry.2);
    }

-- the motion of arc k of state s
pub record IsFound (w : World) (s k place : ℕ) (p : Primitive) : Type 0 where
  pub by : IsArcBy w s k place p
  pub at : arc_index w s k ≡ Some place
  pub primitive : arc_primitive w s k ≡ Some p
  pub good : IsPrimitive w.prims.cell w.prims.headings p

-- the arc with this index in the table is the motion by the primitive that stands there
pub found_at : (w : World) (s k place : ℕ) → IsWorld w → arc_index w s k ≡ Some place
    → (p : Primitive) × IsFound w s k place p
found_at w s k place is_world at =
    let n = numbered (λ p. p.from == (place_of w.env s).t) 0 w.prims.items k place at in
    let same : n.at ≡ place = omega (arith, n.number) in
    let stands = subst (λ i. slice_get w.prims.items i ≡ Some n.item) same n.stands in (
      n.item,
      record {
        by = record {
          stands = stands;
          heading = eqb-true n.item.from (place_of w.env s).t n.passes;
          number = subst (λ i. count_by (λ p. p.from == (place_of w.env s).t) (take i w.prims.items) ≡ k) same n.before;
        };
        at = at;
        primitive = ap (λ o. option_and_then (slice_get w.prims.items) o) at ∙ stands;
        good = is_world.prims.each place n.item stands;
      },
    )

-- each arc below the fan has a motion
pub found : (w : World) (s k : ℕ) → IsWorld w → k < length (leaving w.prims.items (place_of w.env s).t)
    → (place : ℕ) × (p : Primitive) × IsFound w s k place p
found w s k is_world h =
    let place = slice_index (leaving w.prims.items (place_of w.env s).t) k in
    let there = found_at w s k place is_world (slice_get-get_or (leaving w.prims.items (place_of w.env s).t) k 0 h) in
    (place, there.0, there.1)

module _ (w : World) (is_world : IsWorld w) where
  pub arc_of : (s k place : ℕ) (p : Primitive) → IsFound w s k place p → IsArcOf (network_of w) w s k p
  unfolding network_of
  arc_of s k place p f =
      let head_is : option_and_then (head_by w s) (arc_primitive w s k) ≡ head_by w s p =
      ap (λ o. option_and_then (head_by w s) o) f.primitive in
      let are = (sweeping w place p is_world f.by.stands).swept in
      let cost_is : option_and_then (λ i. option_and_then (cost_by w s (swept_at w i)) (slice_get w.prims.items i))
      (arc_index w s k) ≡ cost_by w s (swept_at w place) p =
      ap (λ o. option_and_then (λ i. option_and_then (cost_by w s (swept_at w i)) (slice_get w.prims.items i)) o) f.at
      ∙ ap (λ o. option_and_then (cost_by w s (swept_at w place)) o) f.by.stands in
      record {
        head = λ t. (
          λ h. ends_in w is_world s p f.good t (sym head_is ∙ h),
          λ ends. head_is ∙ head_where_ends w is_world s p f.good t ends,
        );
        no_head = (
          λ h. off_map_where_none w is_world s p f.good (sym head_is ∙ h),
          λ off. head_is ∙ none_where_off_map w is_world s p f.good off,
        );
        cost = λ c. (
          λ h. free_at w s p (swept_at w place) are c (sym cost_is ∙ h),
          λ at. cost_is ∙ cost_where_free w s p (swept_at w place) are c at,
        );
        no_cost = (
          λ h. not_free_where_none w s p (swept_at w place) are (sym cost_is ∙ h),
          λ blocked. cost_is ∙ none_where_not_free w s p (swept_at w place) are blocked,
        );
      }

  pub has_lattice_arcs : HasLatticeArcs (network_of w) w
  unfolding network_of
  has_lattice_arcs = record {
    states = refl;
    fan = λ s _. length-indices_from (λ p. p.from == (place_of w.env s).t) 0 w.prims.items;
    arcs = λ s k _ h. let f = found w s k is_world h in (f.0, f.1, f.2.by, arc_of s k f.0 f.1 f.2);
  }
