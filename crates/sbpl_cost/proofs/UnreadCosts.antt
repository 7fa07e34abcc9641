-- Arcs cost the same on two maps on which the cells that they read do.
use Rattle.std.proofs.Common.{◌≡◌, ℕ, ℤ, pos, ◌<◌, ◌≢◌, ◌⊎◌, inl, inr, Bool, true, false, Option, Some, None, IsSomeAnd}
use Rattle.std.proofs.Common.{refl, sym, ◌∙◌, subst}
use Rattle.std.specs.Ordering.{int_eq}
use Rattle.std.proofs.lemmas.Bool.Decides.{Decides-int_eq}
use Rattle.std.proofs.lemmas.Option.{none-some}
use Rattle.sbpl_sweep.specs.sbpl_mprim.declared.prim.Primitive.{Primitive}
use Rattle.sbpl_sweep.specs.Reads.{IsRead}
use Rattle.sbpl_sweep.specs.Reads.IsRead.{at_source, at_target, at_centre, at_swept}
use Rattle.sbpl_terrain.specs.sbpl_map.CellMap.{CellMap, IsCellMap, cost_at, ChangesCell}
use Rattle.sbpl_cost.specs.World.{IsWorld, World, over_map}
use Rattle.sbpl_cost.specs.Arc.{column_from, row_from, cost_from, IsBelow, IsFree, IsPaid, IsGreatestPaid, IsFreeAt}
use Rattle.sbpl_cost.specs.Lattices.{arc_index, head_by, tail_by, network_of}
use Rattle.sbpl_cost.specs.Reads.{ReadsCell}
use Rattle.sbpl_cost.specs.Reading.{UnreadArcsCostTheSame, MapsChangeCostsAlone, MapsChangeNoReads, UnreadCostTheSame}
use Rattle.sbpl_cost.proofs.Arcs.{IsFound, found_at, arc_of}
use Rattle.sbpl_cost.proofs.ArcsRead.{found_by_arc}

-- two answers are the same where each gives what the other gives
pub same_answer : (a b : Option ℕ) → ((c : ℕ) → a ≡ Some c → b ≡ Some c) → ((c : ℕ) → b ≡ Some c → a ≡ Some c) → a ≡ b
same_answer None None there back = refl
same_answer None (Some c) there back = absurd (none-some c (back c refl))
same_answer (Some c) b there back = sym (there c refl)

-- a paid cell is read
paid_read : (w : World) (p : Primitive) (x y : ℤ) → IsPaid w p x y → IsRead w.env.cell w.sweeps.radius p x y
paid_read w p x y (inl source) = at_source source.0 source.1
paid_read w p x y (inr (inl target)) = at_target target.0 target.1
paid_read w p x y (inr (inr centre)) = at_centre centre

-- an arc that is free on one map is so on another
module _ (w : World) (m n : CellMap) (s : ℕ) (p : Primitive)
    (same : (dx dy : ℤ) → IsRead w.env.cell w.sweeps.radius p dx dy
    → cost_from (over_map w n) s dx dy ≡ cost_from (over_map w m) s dx dy) where
  still_below : (dx dy : ℤ) (limit : ℕ) → IsRead w.env.cell w.sweeps.radius p dx dy
      → IsBelow (over_map w m) s dx dy limit → IsBelow (over_map w n) s dx dy limit
  still_below dx dy limit read below = subst (λ o. IsSomeAnd o (λ c. c < limit)) (sym (same dx dy read)) below

  still_free : IsFree (over_map w m) s p → IsFree (over_map w n) s p
  still_free free = record {
    source = still_below (pos 0) (pos 0) w.env.obsthresh (at_source refl refl) free.source;
    target = still_below p.dx p.dy w.env.obsthresh (at_target refl refl) free.target;
    target_inscribed = still_below p.dx p.dy w.env.inscribed (at_target refl refl) free.target_inscribed;
    centres = λ x y lies. still_below x y w.env.inscribed (at_centre lies) (free.centres x y lies);
    swept = λ x y touched. still_below x y w.env.obsthresh (at_swept touched) (free.swept x y touched);
  }

  still_greatest : (greatest : ℕ) → IsGreatestPaid (over_map w m) s p greatest
      → IsGreatestPaid (over_map w n) s p greatest
  still_greatest greatest is = record {
    dx = is.dx;
    dy = is.dy;
    paid = is.paid;
    cost = same is.dx is.dy (paid_read w p is.dx is.dy is.paid) ∙ is.cost;
    none_above = λ x y c paid cost. is.none_above x y c paid (sym (same x y (paid_read w p x y paid)) ∙ cost);
  }

  pub still_free_at : (c : ℕ) → IsFreeAt (over_map w m) s p c → IsFreeAt (over_map w n) s p c
  still_free_at c at = record {
    free = still_free at.free;
    greatest = at.greatest;
    paid = still_greatest at.greatest at.paid;
    product = at.product;
  }

-- an arc's primitive is found in both lattices
pub other_cost : (w : World) (m : CellMap) (s k place : ℕ) (p : Primitive) → IsWorld w
    → IsWorld (over_map w m) → IsFound w s k place p
    → ((x y : ℤ) → ReadsCell w s k x y → cost_at m x y ≡ cost_at w.map x y)
    → (network_of (over_map w m)).cost s k ≡ (network_of w).cost s k
other_cost w m s k place p is_world is_other f alike =
    let same : (dx dy : ℤ) → IsRead w.env.cell w.sweeps.radius p dx dy
    → cost_at m (column_from w s dx) (row_from w s dy) ≡ cost_at w.map (column_from w s dx) (row_from w s dy) =
    λ dx dy read.
    alike (column_from w s dx) (row_from w s dy)
    (record { index = place; prim = p; by = f.by; dx = dx; dy = dy; column = refl; row = refl; read = read }) in
    let here = arc_of w is_world s k place p f in
    let there = arc_of (over_map w m) is_other s k place p (found_by_arc (over_map w m) is_other s k place p f.by) in
    same_answer ((network_of (over_map w m)).cost s k) ((network_of w).cost s k)
    (λ c h. (here.cost c).1 (still_free_at w m w.map s p (λ dx dy read. sym (same dx dy read)) c ((there.cost c).0 h)))
    (λ c h. (there.cost c).1 (still_free_at w w.map m s p same c ((here.cost c).0 h)))

-- an arc that is in no table costs nothing on any map
pub no_cost : (w : World) (s k : ℕ) → arc_index w s k ≡ None → (network_of w).cost s k ≡ None
unfolding network_of
no_cost w s k h = rw h refl

cost_by_place : (w : World) (m : CellMap) (s k : ℕ) (o : Option ℕ) → arc_index w s k ≡ o → IsWorld w
    → IsWorld (over_map w m)
    → ((x y : ℤ) → ReadsCell w s k x y → cost_at m x y ≡ cost_at w.map x y)
    → (network_of (over_map w m)).cost s k ≡ (network_of w).cost s k
cost_by_place w m s k None h is_world is_other alike = no_cost (over_map w m) s k h ∙ sym (no_cost w s k h)
cost_by_place w m s k (Some place) h is_world is_other alike =
    let f = found_at w s k place is_world h in
    other_cost w m s k place f.0 is_world is_other f.1 alike

pub unread_arcs_cost_the_same : UnreadArcsCostTheSame
unread_arcs_cost_the_same w m s k is_world is_other alike =
    cost_by_place w m s k (arc_index w s k) refl is_world is_other alike

pub maps_change_costs_alone : MapsChangeCostsAlone
unfolding network_of head_by tail_by
maps_change_costs_alone w m =
    record { states = refl; fan = refl; head = refl; tail_fan = refl; tail = refl; gap = refl }

pub maps_change_no_reads : MapsChangeNoReads
maps_change_no_reads w m s k x y = (
  λ r. record {
    index = r.index;
    prim = r.prim;
    by = r.by;
    dx = r.dx;
    dy = r.dy;
    column = r.column;
    row = r.row;
    read = r.read;
  },
  λ r. record {
    index = r.index;
    prim = r.prim;
    by = r.by;
    dx = r.dx;
    dy = r.dy;
    column = r.column;
    row = r.row;
    read = r.read;
  },
)

-- where two cells are not the same, their columns or their rows are not
apart_by : (u x v y : ℤ) (b : Bool) → int_eq u x ≡ b → (u ≡ x → v ≡ y → ⊥) → (u ≢ x) ⊎ (v ≢ y)
apart_by u x v y true same h = inr (h ((Decides-int_eq u x).0 same))
apart_by u x v y false other h =
    inl (λ same. absurd (let no : false ≡ true = sym other ∙ (Decides-int_eq u x).1 same in cc))

-- one cell changes
pub unread_cost_the_same : (w : World) (m : CellMap) (x y : ℤ) (c : ℕ) → IsWorld w → IsWorld (over_map w m)
    → ChangesCell w.map m x y c → UnreadCostTheSame w (over_map w m) x y
unread_cost_the_same w m x y c is_world is_other changes s k unread =
    unread_arcs_cost_the_same w m s k is_world is_other (λ u v reads.
    changes.others u v (apart_by u x v y (int_eq u x) refl (λ column row.
    unread (subst (λ q. ReadsCell w s k x q) row (subst (λ q. ReadsCell w s k q v) column reads)))))

-- the lattice over another map of the same size
pub still_world : (w : World) (m : CellMap) → IsWorld w → IsCellMap m → m.width ≡ w.map.width → m.height ≡ w.map.height
    → IsWorld (over_map w m)
still_world w m is_world is_map width height = record {
  env = is_world.env;
  prims = is_world.prims;
  map = is_map;
  cell = is_world.cell;
  headings = is_world.headings;
  width = width ∙ is_world.width;
  height = height ∙ is_world.height;
  sweeps = is_world.sweeps;
  radius = is_world.radius;
  costs = is_world.costs;
}
