-- Walks by hops are walks of cells.
use Rattle.std.proofs.Common.{◌≡◌, ℕ, ◌*◌, ◌^◌, ◌<◌, ◌≤◌, inl, inr, min, List, [], ◌∷◌, slice_get, Some, sym}
use Rattle.std.proofs.Common.{◌∙◌, arith, subst}
use Rattle.std.proofs.lemmas.Bool.{cases_lt}
use Rattle.sbpl_serial.specs.sbpl_graph.declared.TheConstants.{FAR}
use Rattle.sbpl_cost.specs.sbpl_cfg.Environment.{Environment}
use Rattle.sbpl_cost.specs.sbpl_mprim.declared.prim.Primitive.{Primitive}
use Rattle.sbpl_cost.specs.sbpl_map.CellMap.{CellMap}
use Rattle.sbpl_cost.specs.PrimitiveCost.{primitive_cost, most_cost}
use Rattle.sbpl_heur.specs.declared.hop.Hop.{Hop}
use Rattle.sbpl_heur.specs.Walks.{IsCellStep, IsCellArc, IsWalk, IsLeastWalk, IsFarthest, HasNoWalk, IsCellWeight, IsCellBound}
use Rattle.sbpl_heur.specs.Hops.{AreHops}
use Rattle.sbpl_heur.specs.Boards.{AreLight}
use Rattle.sbpl_heur.specs.Weights.{IsHopArc, IsHopWalk, AreLeast}
use Rattle.sbpl_heur.specs.declared.cap.TheConstants.{MOST}
use Rattle.sbpl_heur.specs.Caps.{IsFarthestReached}

pub light_hops : (e : Environment) (prims : List Primitive) (hops : List Hop)
    → ((i : ℕ) (p : Primitive) → slice_get prims i ≡ Some p
    → (1 ≤ primitive_cost e p) × (primitive_cost e p ≤ most_cost)) → AreHops e prims hops → AreLight hops
light_hops e prims hops cheap are j h at =
    let least = (are.each j h at).least in
    let cost = cheap least.place least.owner least.stands in
    (omega (arith, cost.0, least.own), omega (arith, cost.1, least.own))

module _ (e : Environment) (prims : List Primitive) (m : CellMap) (hops : List Hop) (are : AreHops e prims hops) where
  arc_of_hop : (a b j weight : ℕ) → IsHopArc e m hops a b j weight → IsCellArc e prims m a b weight
  arc_of_hop a b j weight arc =
      let hop = are.each j arc.hop arc.at in
      record {
        dx = arc.hop.dx;
        dy = arc.hop.dy;
        moves = hop.moves;
        cost = arc.hop.cost;
        least = hop.least;
        step = arc.step;
      }

  hop_of_arc : (a b weight : ℕ) → IsCellArc e prims m a b weight → (j : ℕ) × IsHopArc e m hops a b j weight
  hop_of_arc a b weight arc =
      let owner = arc.least.owner in
      let there =
      are.all arc.least.place owner arc.least.stands
      (λ zero. arc.moves (sym arc.least.column ∙ zero.0, sym arc.least.row ∙ zero.1)) in
      let hop = are.each there.0 there.1 there.2 in
      let column : arc.dx ≡ there.1.dx = sym arc.least.column ∙ sym there.3 in
      let row : arc.dy ≡ there.1.dy = sym arc.least.row ∙ sym there.4 in
      let low = hop.least.least arc.least.place owner arc.least.stands (sym there.3) (sym there.4) in
      let high =
      arc.least.least hop.least.place hop.least.owner hop.least.stands (hop.least.column ∙ sym column)
      (hop.least.row ∙ sym row) in
      let cost : arc.cost ≡ there.1.cost = omega (arith, low, high, hop.least.own, arc.least.own) in (
        there.0,
        record {
          hop = there.1;
          at = there.2;
          step =
              subst (λ z. IsCellStep e m there.1.dx there.1.dy z a b weight) cost
              (subst (λ z. IsCellStep e m there.1.dx z arc.cost a b weight) row
              (subst (λ z. IsCellStep e m z arc.dy arc.cost a b weight) column arc.step));
        },
      )

  to_walk : (cells : List ℕ) (goal a weight : ℕ) → IsHopWalk e m hops a cells goal weight
      → IsWalk e prims m a cells goal weight
  to_walk [] goal a weight walk = walk
  to_walk (b ∷ cells) goal a weight (j, first, rest, arc, walk, sum) =
      (first, rest, arc_of_hop a b j first arc, to_walk cells goal b rest walk, sum)

  from_walk : (cells : List ℕ) (goal a weight : ℕ) → IsWalk e prims m a cells goal weight
      → IsHopWalk e m hops a cells goal weight
  from_walk [] goal a weight walk = walk
  from_walk (b ∷ cells) goal a weight (first, rest, arc, walk, sum) =
      let hop = hop_of_arc a b first arc in
      (hop.0, first, rest, hop.1, from_walk cells goal b rest walk, sum)

  module _ (goal : ℕ) (d : ℕ → ℕ) (found : AreLeast e m hops goal d) where
    -- a walk shows that the cell is reached, and weighs no less than its distance
    at_most : (a : ℕ) → a < m.width * m.height → (cells : List ℕ) (weight : ℕ) → IsWalk e prims m a cells goal weight
        → (d a < 2 ^ 60) × (d a ≤ weight)
    at_most a inside cells weight walk = found.least a cells weight inside (from_walk cells goal a weight walk)

    pub least_walk : (a : ℕ) → a < m.width * m.height → d a < FAR → IsLeastWalk e prims m goal a (d a)
    least_walk a inside near =
        let some = found.attained a inside near in
        record {
          cells = some.0;
          walk = to_walk some.0 goal a (d a) some.1;
          least = λ others other walk. (at_most a inside others other walk).1;
        }

    pub no_walk : (a : ℕ) → a < m.width * m.height → FAR ≤ d a → HasNoWalk e prims m goal a
    no_walk a inside far cells weight walk = absurd (omega (arith, (at_most a inside cells weight walk).0, far))

    -- the greatest distance of a reached cell
    farthest_is : (far : ℕ) → IsFarthestReached d (m.width * m.height) far → IsFarthest e prims m goal far
    farthest_is far is =
        let greatest : (a other : ℕ) → a < m.width * m.height → IsLeastWalk e prims m goal a other → other ≤ far =
        λ a other inside low.
        let most = at_most a inside low.cells other low.walk in
        let near : d a < FAR = omega (arith, most.0) in
        let some = found.attained a inside near in
        let back = low.least some.0 (d a) (to_walk some.0 goal a (d a) some.1) in
        omega (arith, back, is.none_above a inside near) in
        elim is.attained [
          | inl none ↦ record {
            cell = goal;
            inside = found.goal_inside;
            attained =
                subst (λ x. IsLeastWalk e prims m goal goal x) (found.at_goal ∙ sym none)
                (least_walk goal found.goal_inside (omega (arith, found.at_goal)));
            greatest = greatest;
          }
          | inr (a, inside, same, near) ↦ record {
            cell = a;
            inside = inside;
            attained =
                subst (λ x. IsLeastWalk e prims m goal a x) same (least_walk a inside (omega (arith, same, near)));
            greatest = greatest;
          }
        ]

    -- a distance capped at the greatest of a reached cell is the cell's weight
    cell_weight : (far a : ℕ) → IsFarthestReached d (m.width * m.height) far → a < m.width * m.height
        → IsCellWeight e prims m goal a (min (d a) far)
    cell_weight far a is inside = elim (cases_lt (d a) FAR) [
      | inl near ↦
          let whole : min (d a) far ≡ d a = omega (arith, is.none_above a inside near) in
          inl (subst (λ x. IsLeastWalk e prims m goal a x) (sym whole) (least_walk a inside near))
      | inr beyond ↦
          let cut : min (d a) far ≡ far = omega (arith, is.small, beyond) in
          inr (no_walk a inside beyond, subst (λ x. IsFarthest e prims m goal x) (sym cut) (farthest_is far is))
    ]

    -- and capped at MOST too it is the cell bound
    pub cell_bound : (far a : ℕ) → IsFarthestReached d (m.width * m.height) far → a < m.width * m.height
        → IsCellBound e prims m goal a (min (d a) (min far MOST))
    cell_bound far a is inside =
        record { weight = min (d a) far; weighs = cell_weight far a is inside; lesser = omega arith }
