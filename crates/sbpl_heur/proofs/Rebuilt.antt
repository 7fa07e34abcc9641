-- What a rebuilt heuristic answers.
use Rattle.std.proofs.Common.{◌≡◌, ℕ, ◌+◌, ◌*◌, ◌/◌, ◌%◌, ◌^◌, ◌<◌, ◌≤◌, inl, inr, min, max, List, [], length}
use Rattle.std.proofs.Common.{replicate, slice_index, refl, ap, sym, ◌∙◌, arith, subst}
use Rattle.std.proofs.lemmas.Bool.{cases_lt}
use Rattle.std.proofs.lemmas.List.{get_or_past, get_or-replicate, length-replicate}
use Rattle.std.proofs.lemmas.Nat.{mod_below}
use Rattle.std.proofs.lemmas.Option.{none-some}
use Rattle.sbpl_serial.specs.sbpl_graph.Laws.{IsSound, HasGaps}
use Rattle.sbpl_cost.specs.sbpl_cfg.Environment.{Environment}
use Rattle.sbpl_cost.specs.sbpl_map.CellMap.{CellMap}
use Rattle.sbpl_cost.specs.World.{World, IsWorld}
use Rattle.sbpl_cost.specs.Arc.{HasLatticeArcs}
use Rattle.sbpl_cost.specs.Lattices.{network_of, states_are}
use Rattle.sbpl_heur.specs.declared.hop.Hop.{Hop}
use Rattle.sbpl_heur.specs.declared.cap.TheConstants.{MOST}
use Rattle.sbpl_heur.specs.Hops.{AreHops}
use Rattle.sbpl_heur.specs.Boards.{AreLight, Board, IsBoard, cell_count, map_of}
use Rattle.sbpl_heur.specs.Followed.{Walking, HasLeast}
use Rattle.sbpl_heur.specs.Weights.{IsHopWalk, AreLeast}
use Rattle.sbpl_heur.specs.Caps.{IsFarthestReached, IsCapped, AreTurns, capped_to}
use Rattle.sbpl_heur.specs.Bests.{Table, Fits, AreParts, IsBest, IsTable, IsGuide, distance_in}
use Rattle.sbpl_heur.proofs.StateCells.{state_below, cell_below}
use Rattle.sbpl_heur.proofs.Splitting.{gap_split}
use Rattle.sbpl_heur.proofs.Walking.{light_hops, cell_bound}
use Rattle.sbpl_heur.proofs.Arriving.{consistent}

-- the primitives of a world are light
pub world_light : (w : World) (hops : List Hop) → IsWorld w → AreHops w.env w.prims.items hops → AreLight hops
world_light w hops is_world are = light_hops w.env w.prims.items hops is_world.costs are

module _ (w : World) (is_world : IsWorld w) (arcs : HasLatticeArcs (network_of w) w) (gaps : HasGaps (network_of w))
    (sound : IsSound (network_of w)) (goal : ℕ) (inside : goal < (network_of w).states) (hops : List Hop)
    (are : AreHops w.env w.prims.items hops)
    (distances : List ℕ) (entries : length distances ≡ w.map.width * w.map.height)
    (least : AreLeast w.env w.map hops (goal / w.env.headings) (slice_index distances))
    (b : Table) (capped : IsCapped w goal distances b.cells) (turned : AreTurns w goal b.turns)
    (turns : length b.turns ≡ w.env.headings) where
  some : 1 ≤ w.env.headings
  some = omega (arith, is_world.headings, is_world.prims.headings.0)

  cells_are : w.map.width * w.map.height ≡ w.env.width * w.env.height
  cells_are = ap (λ x. x * w.map.height) is_world.width ∙ ap (λ y. w.env.width * y) is_world.height

  size : length b.cells ≡ w.env.width * w.env.height
  size = capped.size ∙ entries ∙ cells_are

  farthest : IsFarthestReached (slice_index distances) (w.map.width * w.map.height) capped.far
  farthest = subst (λ n. IsFarthestReached (slice_index distances) n capped.far) entries capped.farthest

  -- the cell of a state, on the map
  cell_inside : (s : ℕ) → s < (network_of w).states → s / w.env.headings < w.map.width * w.map.height
  cell_inside s state = omega (arith, cell_below w s w.env.headings refl some state, cells_are)

  cell_value : (a : ℕ) → a < w.map.width * w.map.height
      → slice_index b.cells a ≡ capped_to w goal (min capped.far MOST) a (slice_index distances a)
  cell_value a within = capped.values a (omega (arith, within, entries))

  state_value : (s : ℕ) → s < (network_of w).states
      → distance_in b s
      ≡ max (min (slice_index distances (s / w.env.headings)) (min capped.far MOST)) ((network_of w).gap s goal)
  state_value s state =
      let n = w.env.headings in
      let cell = cell_value (s / n) (cell_inside s state) in
      let turn = turned (s % n) (omega (arith, mod_below s n some, turns)) in
      let split = gap_split w goal s some (gaps.to_itself goal inside) in
      let first : distance_in b s ≡ max (slice_index b.cells (s / n)) (slice_index b.turns (s % n)) =
      ap (λ k. max (slice_index b.cells (s / k)) (slice_index b.turns (s % k))) turns in
      omega (arith, first, cell, turn, split)

  pub is_best : IsBest w goal (distance_in b)
  is_best = record {
    bound = λ s. min (slice_index distances (s / w.env.headings)) (min capped.far MOST);
    bounds = λ s state.
        cell_bound w.env w.prims.items w.map hops are (goal / w.env.headings) (slice_index distances) least capped.far
        (s / w.env.headings) farthest
        (cell_inside s (omega (arith, state, states_are w)));
    values = λ s state. state_value s (omega (arith, state, states_are w));
  }

  gap_small : (cell heading : ℕ) → cell < w.map.width * w.map.height → heading < w.env.headings
      → (network_of w).gap (cell * w.env.headings + heading) goal < 2 ^ 55
  gap_small cell heading within turn =
      gaps.small (cell * w.env.headings + heading) goal
      (state_below w cell w.env.headings heading refl (omega (arith, within, cells_are)) turn) inside

  cell_small : (a : ℕ) → slice_index b.cells a < 2 ^ 55
  cell_small a = elim (cases_lt a (length b.cells)) [
    | inl in_list ↦
        let within : a < w.map.width * w.map.height = omega (arith, in_list, size, cells_are) in
        let gap = gap_small a (goal % w.env.headings) within (mod_below goal w.env.headings some) in
        omega (arith, cell_value a within, gap)
    | inr beyond ↦ let none : slice_index b.cells a ≡ 0 = get_or_past b.cells a 0 beyond in omega arith
  ]

  turn_small : (t : ℕ) → slice_index b.turns t < 2 ^ 55
  turn_small t = elim (cases_lt t (length b.turns)) [
    | inl in_list ↦ omega (
      arith,
      turned t in_list,
      gap_small (goal / w.env.headings) t (cell_inside goal inside) (omega (arith, in_list, turns)),
    )
    | inr beyond ↦ let none : slice_index b.turns t ≡ 0 = get_or_past b.turns t 0 beyond in omega arith
  ]

  count : length b.cells * length b.turns ≡ (network_of w).states
  count = ap (λ n. n * length b.turns) size ∙ ap (λ n. w.env.width * w.env.height * n) turns ∙ sym (states_are w)

  pub is_table : b.goal ≡ goal → IsTable b
  is_table same = record {
    few_cells = omega (arith, size, cells_are, is_world.map.few_cells);
    few_turns = omega (arith, turns, is_world.headings, is_world.prims.headings.1);
    goal = omega (arith, same, inside, count);
    cells = cell_small;
    turns = turn_small;
  }

  pub is_guide : b.goal ≡ goal → IsGuide (network_of w) goal b
  is_guide same = record {
    table = is_table same;
    states = sym count;
    consistent =
        consistent w is_world hops are arcs gaps goal (omega (arith, inside, states_are w)) (distance_in b) is_best
        (λ s k t c arc. sound.head_is_state s k t arc.source arc.number arc.head);
  }

-- the goal is a state of every lattice that fits
pub goal_inside : (w : World) (b : Table) → Fits w b → IsTable b → b.goal < (network_of w).states
goal_inside w b fits table =
    let count : length b.cells * length b.turns ≡ w.env.width * w.env.height * w.env.headings =
    ap (λ n. n * length b.turns) fits.cells ∙ ap (λ n. w.env.width * w.env.height * n) fits.turns in
    omega (arith, table.goal, count, states_are w)

pub cells_of_map : (w : World) → IsWorld w → w.map.width * w.map.height ≡ w.env.width * w.env.height
cells_of_map w is_world = ap (λ x. x * w.map.height) is_world.width ∙ ap (λ y. w.env.width * y) is_world.height

-- the parts of a world make a graph of its cells
pub board_in_world : (w : World) → IsWorld w → (hops : List Hop) → AreHops w.env w.prims.items hops
    → length hops ≤ length w.prims.items → (e : Environment) (costs : List ℕ) (used : List Hop) (room : ℕ) → e ≡ w.env
    → costs ≡ w.map.costs → used ≡ hops
    → IsBoard (record { env = e; costs = costs; hops = used; room = room })
board_in_world w is_world hops are few e costs used room same_env same_costs same_hops =
    let whole : IsBoard (record { env = w.env; costs = w.map.costs; hops = hops; room = room }) = record {
      env = is_world.env;
      cells = is_world.map.cells ∙ cells_of_map w is_world;
      bytes = is_world.map.costs;
      few_hops = omega (arith, few, is_world.prims.count);
      light = world_light w hops is_world are;
    } in
    let one =
    subst (λ l. IsBoard (record { env = w.env; costs = w.map.costs; hops = l; room = room })) (sym same_hops) whole in
    let two = subst (λ l. IsBoard (record { env = w.env; costs = l; hops = used; room = room })) (sym same_costs) one in
    subst (λ z. IsBoard (record { env = z; costs = costs; hops = used; room = room })) (sym same_env) two

-- and so they do without hops
pub bare_in_world : (w : World) → IsWorld w → (e : Environment) (costs : List ℕ) (room : ℕ) → e ≡ w.env
    → costs ≡ w.map.costs → IsBoard (record { env = e; costs = costs; hops = []; room = room })
bare_in_world w is_world e costs room same_env same_costs =
    let whole : IsBoard (record { env = w.env; costs = w.map.costs; hops = []; room = room }) = record {
      env = is_world.env;
      cells = is_world.map.cells ∙ cells_of_map w is_world;
      bytes = is_world.map.costs;
      few_hops = omega arith;
      light = λ j h at. absurd (none-some h at);
    } in
    let one = subst (λ l. IsBoard (record { env = w.env; costs = l; hops = []; room = room })) (sym same_costs) whole in
    subst (λ z. IsBoard (record { env = z; costs = costs; hops = []; room = room })) (sym same_env) one

-- least weights on the parts of a world are those on the world
pub least_alike : (w : World) (board : Board) (hops : List Hop) (from goal : ℕ) (g d : ℕ → ℕ) → board.env ≡ w.env
    → map_of board ≡ w.map → board.hops ≡ hops → from ≡ goal → ((a : ℕ) → a < w.map.width * w.map.height → d a ≡ g a)
    → AreLeast board.env (map_of board) board.hops from g → AreLeast w.env w.map hops goal d
least_alike w board hops from goal g d same_env same_map same_hops same_goal same least =
    let one = subst (λ e. AreLeast e (map_of board) board.hops from g) same_env least in
    let two = subst (λ m. AreLeast w.env m board.hops from g) same_map one in
    let three = subst (λ l. AreLeast w.env w.map l from g) same_hops two in
    let all = subst (λ a. AreLeast w.env w.map hops a g) same_goal three in
    record {
      goal_inside = all.goal_inside;
      at_goal = same goal all.goal_inside ∙ all.at_goal;
      attained = λ a inside near.
          let is = same a inside in
          let walk = all.attained a inside (omega (arith, near, is)) in
          (walk.0, subst (λ x. IsHopWalk w.env w.map hops a walk.0 goal x) (sym is) walk.1);
      least = λ a cells weight inside walk.
          let is = same a inside in
          let low = all.least a cells weight inside walk in
          (omega (arith, low.0, is), omega (arith, low.1, is));
    }

-- the map of a world, by the size of its environment
pub same_map : (w : World) (e : Environment) (costs : List ℕ) → IsWorld w → e ≡ w.env → costs ≡ w.map.costs
    → record { width = e.width; height = e.height; costs = costs } ≡ w.map
same_map w e costs is_world same_env same_costs =
    let sized : ℕ → ℕ → List ℕ → CellMap = λ x y l. record { width = x; height = y; costs = l } in
    ap (λ (z : Environment). sized z.width z.height costs) same_env
    ∙ ap (λ x. sized x w.env.height costs) (sym is_world.width)
    ∙ ap (λ y. sized w.map.width y costs) (sym is_world.height) ∙ ap (sized w.map.width w.map.height) same_costs

-- the parts from which a heuristic was made anew
pub record IsRebuilt (w : World) (goal : ℕ) (hops : List Hop) (distances : List ℕ) (b : Table) : Type 0 where
  pub world : IsWorld w
  pub arcs : HasLatticeArcs (network_of w) w
  pub gaps : HasGaps (network_of w)
  pub sound : IsSound (network_of w)
  pub inside : goal < (network_of w).states
  pub hops_are : AreHops w.env w.prims.items hops
  pub entries : length distances ≡ w.map.width * w.map.height
  pub least : AreLeast w.env w.map hops (goal / w.env.headings) (slice_index distances)
  pub capped : IsCapped w goal distances b.cells
  pub turned : AreTurns w goal b.turns
  pub count : length b.turns ≡ w.env.headings
  pub same : b.goal ≡ goal

module _ (w : World) (goal : ℕ) (hops : List Hop) (distances : List ℕ) (b : Table)
    (r : IsRebuilt w goal hops distances b) where
  pub rebuilt_best : IsBest w goal (distance_in b)
  rebuilt_best =
      is_best w r.world r.arcs r.gaps r.sound goal r.inside hops r.hops_are distances r.entries r.least b
      r.capped r.turned r.count

  pub rebuilt_guide : IsGuide (network_of w) goal b
  rebuilt_guide =
      is_guide w r.world r.arcs r.gaps r.sound goal r.inside hops r.hops_are distances r.entries r.least b
      r.capped r.turned r.count r.same

zeros_small : (n i : ℕ) → slice_index (replicate n 0) i < 2 ^ 55
zeros_small n i = elim (cases_lt i n) [
  | inl inside ↦ let zero_is : slice_index (replicate n 0) i ≡ 0 = get_or-replicate n i 0 0 inside in omega arith
  | inr beyond ↦
      let zero_is : slice_index (replicate n 0) i ≡ 0 =
      get_or_past (replicate n 0) i 0 (omega (arith, length-replicate {A = ℕ} n 0)) in omega arith
]

-- the parts of a heuristic before its first search
pub fresh_parts : (w : World) (e : Environment) (goal room cells turns : ℕ) (walks : Walking) (distances gaps : List ℕ)
    → IsWorld w → e ≡ w.env → goal < (network_of w).states → cells ≡ e.width * e.height → turns ≡ e.headings
    → distances ≡ replicate cells 0 → gaps ≡ replicate turns 0 → cell_count walks.board ≡ cells
    → walks.goal ≡ goal / turns → walks.board.room ≡ room → HasLeast walks
    → AreParts (record { goal = goal; cells = distances; turns = gaps; room = room }) walks
fresh_parts w e goal room cells turns walks distances gaps is_world same inside cells_are turns_are distances_are
    gaps_are walks_cells walks_goal walks_room walks_least =
    let size : length distances ≡ cells = ap length distances_are ∙ length-replicate cells 0 in
    let count : length gaps ≡ turns = ap length gaps_are ∙ length-replicate turns 0 in
    let area : cells ≡ w.env.width * w.env.height = cells_are ∙ ap (λ (z : Environment). z.width * z.height) same in
    let headings : turns ≡ w.env.headings = turns_are ∙ ap (λ (z : Environment). z.headings) same in
    let on_map : w.map.width * w.map.height ≡ w.env.width * w.env.height =
    ap (λ x. x * w.map.height) is_world.width ∙ ap (λ y. w.env.width * y) is_world.height in
    let all : length distances * length gaps ≡ w.env.width * w.env.height * w.env.headings =
    ap (λ n. n * length gaps) (size ∙ area) ∙ ap (λ n. w.env.width * w.env.height * n) (count ∙ headings) in
    record {
      table = record {
        few_cells = omega (arith, size, area, on_map, is_world.map.few_cells);
        few_turns = omega (arith, count, headings, is_world.headings, is_world.prims.headings.1);
        goal = omega (arith, inside, states_are w, all);
        cells = λ i. subst (λ l. slice_index l i < 2 ^ 55) (sym distances_are) (zeros_small cells i);
        turns = λ i. subst (λ l. slice_index l i < 2 ^ 55) (sym gaps_are) (zeros_small turns i);
      };
      cells = walks_cells ∙ sym size;
      goal = walks_goal ∙ ap (λ n. goal / n) (sym count);
      hops = walks_room;
      least = walks_least;
    }
