-- The arcs of a board.
use Rattle.std.proofs.Common.{◌≡◌, ℕ, ◌+◌, ◌*◌, ◌%◌, ◌<◌, ◌≤◌, ◌^◌, ◌-ℤ◌, ◌&&◌, pos, max, slice_get}
use Rattle.std.proofs.Common.{slice_index, Option, Some, None, option_and_then, nat_lt}
use Rattle.std.proofs.Common.{refl, ap, sym, ◌∙◌, arith}
use Rattle.std.proofs.Math.Nat.{mul-le-mul, mul-le-mul_left}
use Rattle.std.proofs.lemmas.Bool.{and_from, lt-ltb, cond-true}
use Rattle.std.proofs.lemmas.Bool.Decides.{nat_tests}
use Rattle.std.proofs.lemmas.Option.{cond_some, none-some, same_Some, slice_get_within}
use Rattle.std.proofs.Common.{MatchOption}
use Rattle.sbpl_serial.specs.sbpl_graph.declared.TheConstants.{FAR}
use Rattle.std.proofs.lemmas.Option.{slice_get-get_or, get_or_from_slice_get}
use Rattle.sbpl_cost.specs.sbpl_cfg.Environment.{Environment}
use Rattle.sbpl_heur.specs.declared.hop.Hop.{Hop}
use Rattle.sbpl_heur.specs.Walks.{LiesFrom}
use Rattle.sbpl_heur.specs.Boards.{Board, IsBoard, map_of, cell_count, cell_before, cell_after, step_cost}
use Rattle.sbpl_heur.specs.Boards.{start_of, end_of, cost_of, cell_in}
use Rattle.sbpl_heur.specs.Followed.{IsArc}
use Rattle.sbpl_heur.specs.declared.cells.Spot.{Spot}
use Rattle.sbpl_heur.specs.Spots.{IsSpot}
use Rattle.sbpl_heur.proofs.Locating.{before_leads, leads_before, after_leads, leads_after}

-- an answer that is computed from another is Some only where the other is
then_some : {X Y : Type 0} (f : X → Option Y) (o : Option X) (y : Y) → option_and_then f o ≡ Some y
    → (x : X) × (o ≡ Some x) × (f x ≡ Some y)
then_some f None y is = absurd (none-some y is)
then_some f (Some x) y is = (x, refl, is)

-- a step that is free, and what it costs
record IsFreeStep (e : Environment) (h : Hop) (start end c : ℕ) : Type 0 where
  start_below : start < e.obsthresh
  end_below : end < e.obsthresh
  end_inscribed : end < e.inscribed
  product : c ≡ h.cost * (max start end + 1)

step_free : (e : Environment) (h : Hop) (start end c : ℕ) → step_cost e h start end ≡ Some c
    → IsFreeStep e h start end c
step_free e h start end c is =
    let some =
    cond_some (nat_lt start e.obsthresh && (nat_lt end e.obsthresh && nat_lt end e.inscribed))
    (h.cost * (max start end + 1)) c is in
    record {
      start_below = grind (arith, nat_tests);
      end_below = grind (arith, nat_tests);
      end_inscribed = grind (arith, nat_tests);
      product = sym some.1;
    }

free_step : (e : Environment) (h : Hop) (start end c : ℕ) → IsFreeStep e h start end c
    → step_cost e h start end ≡ Some c
free_step e h start end c free =
    cond-true _ _ _ (and_from _ _ (lt-ltb start e.obsthresh free.start_below) (and_from _ _
    (lt-ltb end e.obsthresh free.end_below) (lt-ltb end e.inscribed free.end_inscribed))) ∙ ap Some (sym free.product)

module _ (b : Board) (is : IsBoard b) where
  wide : 0 < b.env.width
  wide = omega (arith, is.env.width.0)

  module _ (a c k weight : ℕ) where
    -- the ends of an arc are cells, its hop leads between them, and it costs its weight
    pub arc_inside : IsArc b a c k weight → (a < cell_count b) × (c < cell_count b)
    arc_inside arc =
        (slice_get_within b.costs a arc.step.start arc.step.start_is, slice_get_within b.costs c arc.step.end arc.step.end_is)

    pub arc_start : IsArc b a c k weight → start_of b c k ≡ Some a
    arc_start arc =
        let inside = arc_inside arc in
        ap (option_and_then (cell_before b.env c)) arc.at
        ∙ leads_before b.env b.costs arc.hop a c wide (omega (arith, inside.0, is.cells)) arc.step.leads

    -- by the spot of its end
    pub arc_before : (spot : Spot) → IsSpot b.env c spot → (arc : IsArc b a c k weight)
        → cell_in b.env (pos spot.x -ℤ arc.hop.dx) (pos spot.y -ℤ arc.hop.dy) ≡ Some a
    arc_before spot at arc =
        let inside = arc_inside arc in
        ap (λ n. cell_in b.env (pos n -ℤ arc.hop.dx) (pos spot.y -ℤ arc.hop.dy)) at.column
        ∙ ap (λ n. cell_in b.env (pos (c % b.env.width) -ℤ arc.hop.dx) (pos n -ℤ arc.hop.dy)) at.row
        ∙ leads_before b.env b.costs arc.hop a c wide (omega (arith, inside.0, is.cells)) arc.step.leads

    -- its end is free
    pub arc_free : (arc : IsArc b a c k weight)
        → (slice_index b.costs c < b.env.obsthresh) × (slice_index b.costs c < b.env.inscribed)
    arc_free arc =
        let end : slice_index b.costs c ≡ arc.step.end = get_or_from_slice_get b.costs c arc.step.end 0 arc.step.end_is in
        (omega (arith, end, arc.step.end_below), omega (arith, end, arc.step.end_inscribed))

    -- and it weighs no less than by the cost of its end alone
    pub arc_floor : (arc : IsArc b a c k weight) → arc.hop.cost * (slice_index b.costs c + 1) ≤ weight
    arc_floor arc =
        let end : slice_index b.costs c ≡ arc.step.end = get_or_from_slice_get b.costs c arc.step.end 0 arc.step.end_is in
        let high : slice_index b.costs c + 1 ≤ max arc.step.start arc.step.end + 1 = omega (arith, end) in
        let low : arc.hop.cost * (slice_index b.costs c + 1) ≤ arc.hop.cost * (max arc.step.start arc.step.end + 1) =
        mul-le-mul_left arc.hop.cost high in
        omega (arith, low, arc.step.product)

    pub arc_end : IsArc b a c k weight → end_of b a k ≡ Some c
    arc_end arc =
        let inside = arc_inside arc in
        ap (option_and_then (cell_after b.env a)) arc.at
        ∙ leads_after b.env b.costs arc.hop a c wide (omega (arith, inside.1, is.cells)) arc.step.leads

    pub arc_cost : IsArc b a c k weight → cost_of b a c k ≡ Some weight
    arc_cost arc =
        let start : slice_index b.costs a ≡ arc.step.start =
        get_or_from_slice_get b.costs a arc.step.start 0 arc.step.start_is in
        let end : slice_index b.costs c ≡ arc.step.end = get_or_from_slice_get b.costs c arc.step.end 0 arc.step.end_is in
        ap (option_and_then (λ h. step_cost b.env h (slice_index b.costs a) (slice_index b.costs c))) arc.at
        ∙ free_step b.env arc.hop (slice_index b.costs a) (slice_index b.costs c) weight (record {
          start_below = omega (arith, start, arc.step.start_below);
          end_below = omega (arith, end, arc.step.end_below);
          end_inscribed = omega (arith, end, arc.step.end_inscribed);
          product = rw (start, end) arc.step.product;
        })

    -- a free step between cells between which the hop leads is an arc
    arc_by : (h : Hop) → slice_get b.hops k ≡ Some h → a < cell_count b → c < cell_count b
        → LiesFrom (map_of b) a c h.dx h.dy → cost_of b a c k ≡ Some weight → IsArc b a c k weight
    arc_by h at start end leads costs =
        let free = step_free b.env h (slice_index b.costs a) (slice_index b.costs c) weight
        (sym (ap (option_and_then (λ h. step_cost b.env h (slice_index b.costs a) (slice_index b.costs c))) at) ∙ costs) in
        record {
          hop = h;
          at = at;
          step = record {
            leads = leads;
            start = slice_index b.costs a;
            end = slice_index b.costs c;
            start_is = slice_get-get_or b.costs a 0 start;
            end_is = slice_get-get_or b.costs c 0 end;
            start_below = free.start_below;
            end_below = free.end_below;
            end_inscribed = free.end_inscribed;
            product = free.product;
          };
        }

    pub start_arc : c < cell_count b → start_of b c k ≡ Some a → cost_of b a c k ≡ Some weight → IsArc b a c k weight
    start_arc inside start costs =
        let some = then_some (cell_before b.env c) (slice_get b.hops k) a start in
        let at = before_leads b.env b.costs some.0 a c some.2 in
        arc_by some.0 some.1 (omega (arith, at.1, is.cells)) inside at.0 costs

    pub end_arc : a < cell_count b → end_of b a k ≡ Some c → cost_of b a c k ≡ Some weight → IsArc b a c k weight
    end_arc inside end costs =
        let some = then_some (cell_after b.env a) (slice_get b.hops k) c end in
        let at = after_leads b.env b.costs some.0 a c some.2 in
        arc_by some.0 some.1 inside (omega (arith, at.1, is.cells)) at.0 costs

    -- what an arc costs
    pub arc_weight : IsArc b a c k weight → (1 ≤ weight) × (weight < 2 ^ 32)
    arc_weight arc =
        let light = is.light k arc.hop arc.at in
        let start : slice_index b.costs a ≡ arc.step.start =
        get_or_from_slice_get b.costs a arc.step.start 0 arc.step.start_is in
        let end : slice_index b.costs c ≡ arc.step.end = get_or_from_slice_get b.costs c arc.step.end 0 arc.step.end_is in
        let high : max arc.step.start arc.step.end + 1 ≤ 256 = omega (arith, start, end, is.bytes a, is.bytes c) in
        let most : arc.hop.cost * (max arc.step.start arc.step.end + 1) ≤ 16777215 * 256 = mul-le-mul light.1 high in
        let some : 1 ≤ max arc.step.start arc.step.end + 1 = omega arith in
        let least : 1 * 1 ≤ arc.hop.cost * (max arc.step.start arc.step.end + 1) = mul-le-mul light.0 some in
        (omega (arith, least, arc.step.product), omega (arith, most, arc.step.product))

  -- there are four headings or more
  pub few_cells : cell_count b ≤ 67108864
  few_cells =
      let cells : b.env.width * b.env.height ≤ b.env.width * b.env.height = omega arith in
      let count : b.env.width * b.env.height * 4 ≤ b.env.width * b.env.height * b.env.headings =
      mul-le-mul cells is.env.headings.0 in
      omega (arith, is.cells, count, is.env.states)

-- a weight below FAR is what the step costs
pub weighed : (o : Option ℕ) (r : ℕ) → MatchOption o (r ≡ FAR) (λ cost. r ≡ cost) → r < FAR → o ≡ Some r
weighed None r is near = absurd (omega (arith, is, near))
weighed (Some cost) r is near = ap Some (sym is)

pub weighs : (o : Option ℕ) (r weight : ℕ) → MatchOption o (r ≡ FAR) (λ cost. r ≡ cost) → o ≡ Some weight
    → r ≡ weight
weighs None r weight is at = absurd (none-some weight at)
weighs (Some cost) r weight is at = is ∙ same_Some cost weight at
