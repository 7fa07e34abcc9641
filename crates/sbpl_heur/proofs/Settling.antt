-- Distances that are supported, and that no arc lowers, are the least weights.
use Rattle.std.proofs.Common.{◌≡◌, ◌≢◌, ℕ, zero, suc, ◌+◌, ◌*◌, ◌<◌, ◌≤◌, ◌^◌, inl, inr, List, [], ◌∷◌, ap, sym, ◌∙◌}
use Rattle.std.proofs.Common.{arith, refl}
use Rattle.std.proofs.Math.Nat.{mul-le-mul_right}
use Rattle.std.proofs.lemmas.Bool.{cases_eq, cases_lt, false≢true}
use Rattle.sbpl_serial.specs.sbpl_graph.declared.TheConstants.{FAR}
use Rattle.sbpl_heur.specs.Boards.{cell_count, map_of}
use Rattle.sbpl_heur.specs.Weights.{IsHopWalk}
use Rattle.sbpl_heur.specs.Followed.{Walking, distance, IsArc, IsWalking, IsSupported, IsSinking}
use Rattle.sbpl_heur.specs.Followed.{HasNone, HasLeast, IsDoubtful}
use Rattle.sbpl_heur.proofs.Boarding.{arc_inside, arc_weight, few_cells}
use Rattle.sbpl_heur.proofs.Counts.{count_below, count_more, count_most}

module _ (s : Walking) (is : IsWalking s) where
  -- a walk from a cell to the goal
  abbrev IsWay : ℕ → List ℕ → ℕ → Type 0
  IsWay a cells weight = IsHopWalk s.board.env (map_of s.board) s.board.hops a cells s.goal weight

  module _ (sinks : IsSinking s) (none : HasNone s.waits) where
    relaxed : (a c j weight : ℕ) → IsArc s.board a c j weight → distance s a ≤ weight + distance s c
    relaxed a c j weight arc = elim (sinks.relaxed a c j weight arc) [
      | inl waits ↦ absurd (false≢true (sym (none c) ∙ waits))
      | inr low ↦ low
    ]

    -- a reached cell has a walk of the weight of its distance, which is
    -- at most 2^32 - 1 times the number of lower distances
    record Reached (a : ℕ) : Type 0 where
      cells : List ℕ
      walk : IsWay a cells (distance s a)
      few : distance s a ≤ count_below (distance s) (distance s a) (cell_count s.board) * 4294967295

    reached_by : (a : ℕ) → ((c : ℕ) → distance s c < distance s a → c < cell_count s.board → distance s c < FAR → Reached c)
        → distance s a < FAR → IsSupported s.board s.distances a → Reached a
    reached_by a nearer near held =
        let c = held.next in
        let weight = arc_weight s.board is.board a c held.hop held.weight held.arc in
        let within = arc_inside s.board is.board a c held.hop held.weight held.arc in
        let low = relaxed a c held.hop held.weight held.arc in
        let even : distance s a ≡ held.weight + distance s c = omega (arith, low, held.enough) in
        let there = nearer c (omega (arith, even, weight.0)) within.1 (omega (arith, even, near)) in
        let more =
        count_more (distance s) (distance s c) (distance s a) (cell_count s.board) c within.1 (omega arith)
        (omega (arith, even, weight.0)) in
        let product : (count_below (distance s) (distance s c) (cell_count s.board) + 1) * 4294967295
        ≤ count_below (distance s) (distance s a) (cell_count s.board) * 4294967295 = mul-le-mul_right 4294967295 more in
        record {
          cells = c ∷ there.cells;
          walk = (held.hop, held.weight, distance s c, held.arc, there.walk, even);
          few = omega (arith, there.few, product, even, weight.1);
        }

    reached_at : (a : ℕ) → a < cell_count s.board → distance s a < FAR
        → ((c : ℕ) → distance s c < distance s a → c < cell_count s.board → distance s c < FAR → Reached c) → Reached a
    reached_at a inside near nearer = elim (cases_eq a s.goal) [
      | inl at ↦
          let zero_is : distance s a ≡ 0 = ap (distance s) at ∙ is.at_goal in
          record { cells = []; walk = (at, zero_is); few = omega arith }
      | inr beside ↦ elim (sinks.supported a inside near beside) [
        | inl none_such ↦ absurd none_such
        | inr held ↦ reached_by a nearer near held
      ]
    ]

    reached : (fuel a : ℕ) → distance s a ≤ fuel → a < cell_count s.board → distance s a < FAR → Reached a
    reached zero a low inside near = reached_at a inside near (λ c less _ _. absurd (omega arith))
    reached (suc fuel) a low inside near =
        reached_at a inside near (λ c less within close. reached fuel c (omega arith) within close)

    small : (a : ℕ) → a < cell_count s.board → distance s a < FAR → distance s a < 2 ^ 60
    small a inside near =
        let there = reached (distance s a) a (omega arith) inside near in
        let most = count_most (distance s) (distance s a) (cell_count s.board) in
        let few : count_below (distance s) (distance s a) (cell_count s.board) ≤ 67108864 =
        omega (arith, few_cells s.board is.board) in
        let product = mul-le-mul_right 4294967295 few in
        omega (arith, there.few, product)

    -- no walk weighs less
    least : (cells : List ℕ) (a weight : ℕ) → a < cell_count s.board → IsWay a cells weight
        → (distance s a < 2 ^ 60) × (distance s a ≤ weight)
    least [] a weight inside walk =
        let zero_is : distance s a ≡ 0 = ap (distance s) walk.0 ∙ is.at_goal in
        (omega arith, omega arith)
    least (c ∷ cells) a weight inside (j, first, rest, arc, walk, sum) =
        let within = arc_inside s.board is.board a c j first arc in
        let there = least cells c rest within.1 walk in
        let fits = arc_weight s.board is.board a c j first arc in
        let low = relaxed a c j first arc in
        (small a inside (omega (arith, low, there.0, fits.1)), omega (arith, low, there.1, sum))

    pub settled : HasLeast s
    settled = record {
      goal_inside = omega (arith, is.goal, is.board.cells);
      at_goal = is.at_goal;
      attained = λ a inside near.
          let there = reached (distance s a) a (omega arith) (omega (arith, inside, is.board.cells)) near in
          (there.cells, there.walk);
      least = λ a cells weight inside walk. least cells a weight (omega (arith, inside, is.board.cells)) walk;
    }

  -- the least weights are supported, and no arc lowers one, whichever cells are marked
  module _ (is_least : HasLeast s) where
    first_step : (a : ℕ) (cells : List ℕ) → a ≢ s.goal → IsWay a cells (distance s a)
        → IsSupported s.board s.distances a
    first_step a [] beside walk = absurd (beside walk.0)
    first_step a (c ∷ cells) beside (j, first, rest, arc, walk, sum) =
        let within = arc_inside s.board is.board a c j first arc in
        let low = is_least.least c cells rest (omega (arith, within.1, is.board.cells)) walk in
        record { next = c; hop = j; weight = first; arc = arc; enough = omega (arith, low.1, sum) }

    no_lower : (a c j weight : ℕ) → IsArc s.board a c j weight → distance s a ≤ weight + distance s c
    no_lower a c j weight arc = elim (cases_lt (distance s c) FAR) [
      | inl near ↦
          let within = arc_inside s.board is.board a c j weight arc in
          let way = is_least.attained c (omega (arith, within.1, is.board.cells)) near in
          let low =
          is_least.least a (c ∷ way.0) (weight + distance s c) (omega (arith, within.0, is.board.cells))
          (j, weight, distance s c, arc, way.1, refl) in
          low.1
      | inr far ↦ omega (arith, far, is.at_most a)
    ]

    pub doubtful : IsDoubtful s
    doubtful = record {
      supported = λ a inside near beside.
          let way = is_least.attained a (omega (arith, inside, is.board.cells)) near in
          inr (first_step a way.0 beside way.1);
      relaxed = λ a c j weight arc. inr (no_lower a c j weight arc);
    }
