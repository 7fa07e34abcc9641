-- Worlds that differ in their tables of sweeps alone are one graph.
use Rattle.std.proofs.Common.{◌≡◌, ℕ, Option, Some, None, refl, ap, sym, ◌∙◌, subst}
use Rattle.std.proofs.Math.Path.{fun_ext}
use Rattle.sbpl_sweep.specs.sbpl_cfg.Environment.{Environment}
use Rattle.sbpl_sweep.specs.sbpl_mprim.declared.prim.Primitive.{Primitive}
use Rattle.sbpl_sweep.specs.sbpl_mprim.Primitives.{Primitives}
use Rattle.sbpl_sweep.specs.Sweep.{IsSwept}
use Rattle.sbpl_sweep.specs.Swept.{Swept}
use Rattle.sbpl_terrain.specs.sbpl_map.CellMap.{CellMap}
use Rattle.sbpl_cost.specs.World.{World, IsWorld}
use Rattle.sbpl_cost.specs.Arc.{IsFree, IsGreatestPaid, IsFreeAt}
use Rattle.sbpl_cost.specs.Lattices.{arc_index, head_by, tail_by, network_of}
use Rattle.sbpl_cost.specs.Alike.{AlikeWorldsAreOneGraph}
use Rattle.sbpl_cost.proofs.Arcs.{found_at, arc_of}
use Rattle.sbpl_cost.proofs.ArcsRead.{found_by_arc}
use Rattle.sbpl_cost.proofs.UnreadCosts.{same_answer, no_cost}

-- the same lattice with other tables of sweeps
abbrev with_sweeps : World → Swept → World
with_sweeps w sweeps = record w { sweeps = sweeps }

-- a motion that is free by one table is so by another for the same radius
module _ (w : World) (a b : Swept) (s : ℕ) (p : Primitive) (radius : b.radius ≡ a.radius) where
  still_free : IsFree (with_sweeps w a) s p → IsFree (with_sweeps w b) s p
  still_free free = record {
    source = free.source;
    target = free.target;
    target_inscribed = free.target_inscribed;
    centres = free.centres;
    swept = λ x y touched. free.swept x y (subst (λ r. IsSwept w.env.cell r p.poses x y) radius touched);
  }

  still_greatest : (greatest : ℕ) → IsGreatestPaid (with_sweeps w a) s p greatest
      → IsGreatestPaid (with_sweeps w b) s p greatest
  still_greatest greatest is =
      record { dx = is.dx; dy = is.dy; paid = is.paid; cost = is.cost; none_above = is.none_above }

  still_free_at : (c : ℕ) → IsFreeAt (with_sweeps w a) s p c → IsFreeAt (with_sweeps w b) s p c
  still_free_at c at = record {
    free = still_free at.free;
    greatest = at.greatest;
    paid = still_greatest at.greatest at.paid;
    product = at.product;
  }

module _ (w : World) (t : Swept) (is_world : IsWorld w) (is_other : IsWorld (with_sweeps w t))
    (radius : t.radius ≡ w.sweeps.radius) where
  -- an arc costs the same by both tables
  cost_by_place : (s k : ℕ) (o : Option ℕ) → arc_index w s k ≡ o
      → (network_of (with_sweeps w t)).cost s k ≡ (network_of w).cost s k
  cost_by_place s k None h = no_cost (with_sweeps w t) s k h ∙ sym (no_cost w s k h)
  cost_by_place s k (Some place) h =
      let f = found_at w s k place is_world h in
      let p = f.0 in
      let here = arc_of w is_world s k place p f.1 in
      let there =
      arc_of (with_sweeps w t) is_other s k place p (found_by_arc (with_sweeps w t) is_other s k place p f.1.by) in
      same_answer ((network_of (with_sweeps w t)).cost s k) ((network_of w).cost s k)
      (λ c h. (here.cost c).1 (still_free_at w t w.sweeps s p (sym radius) c ((there.cost c).0 h)))
      (λ c h. (there.cost c).1 (still_free_at w w.sweeps t s p radius c ((here.cost c).0 h)))

  same_costs : (network_of (with_sweeps w t)).cost ≡ (network_of w).cost
  same_costs = fun_ext (λ s. fun_ext (λ k. cost_by_place s k (arc_index w s k) refl))

  same_graph : network_of (with_sweeps w t) ≡ network_of w
  unfolding network_of head_by tail_by
  same_graph = ap (λ (costs : ℕ → ℕ → Option ℕ). record (network_of w) { cost = costs }) same_costs

-- two worlds of the same environment, primitives and map differ in their sweeps
differ_in_sweeps : (w v : World) → v.env ≡ w.env → v.prims ≡ w.prims → v.map ≡ w.map → v ≡ with_sweeps w v.sweeps
differ_in_sweeps w v env prims map =
    ap (λ (e : Environment). record v { env = e }) env
    ∙ ap (λ (q : Primitives). record v { env = w.env; prims = q }) prims
    ∙ ap (λ (m : CellMap). record w { sweeps = v.sweeps; map = m }) map

pub alike_worlds_are_one_graph : AlikeWorldsAreOneGraph
alike_worlds_are_one_graph w v is_world is_other env prims map radius =
    let differ = differ_in_sweeps w v env prims map in
    ap network_of differ ∙ same_graph w v.sweeps is_world (subst IsWorld differ is_other) radius
