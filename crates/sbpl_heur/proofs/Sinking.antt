-- Distances that are lowered one after the other.
use Rattle.std.proofs.Common.{◌≡◌, ◌≢◌, ℕ, ◌+◌, ◌<◌, ◌≤◌, ◌⊎◌, inl, inr, Bool, true, false, List, [], length, slice_get, get_or, set, length-set}
use Rattle.std.proofs.Common.{replicate, ap, sym, ◌∙◌, arith, subst, refl, slice_index}
use Rattle.std.specs.List.{sum_by}
use Rattle.std.proofs.lemmas.Bool.{cases_eq, cases_lt}
use Rattle.std.proofs.lemmas.List.{get_or-set_same, get_or-set_other, get_or-replicate, get_or_past, length-replicate}
use Rattle.std.proofs.lemmas.List.Sums.{sum_by-set}
use Rattle.std.proofs.lemmas.Option.{same_Some, none-some, slice_get_within, get_or_from_slice_get}
use Rattle.sbpl_serial.specs.sbpl_graph.declared.TheConstants.{FAR}
use Rattle.sbpl_heur.specs.Boards.{Board, IsBoard, cell_count, cost_of}
use Rattle.sbpl_heur.specs.Followed.{Walking, distance, IsMarked, IsArc, IsWalking, IsSupported, IsSinking}
use Rattle.sbpl_heur.specs.Followed.{IsWall, IsShut, LowerNone, DiffersInWalls}
use Rattle.sbpl_heur.specs.Followed.{IsExpanded, Takes, HasNone, one_if, left, Lowers, stays, falls}
use Rattle.sbpl_heur.proofs.Boarding.{arc_inside, arc_start, arc_cost}

-- a cell that is marked, and those that were
pub marked_there : (xs : List Bool) (i : ℕ) → i < length xs → IsMarked (set xs i true) i
marked_there xs i inside = get_or-set_same xs i true false inside

pub still_marked : (xs : List Bool) (i a : ℕ) → i < length xs → IsMarked xs a → IsMarked (set xs i true) a
still_marked xs i a inside marked = elim (cases_eq a i) [
  | inl same ↦ subst (λ x. IsMarked (set xs i true) x) (sym same) (marked_there xs i inside)
  | inr beside ↦ get_or-set_other xs i a true false beside ∙ marked
]

module _ (s : Walking) (is : IsWalking s) (cell k : ℕ) where
  -- the arc by this hop would not lower a distance
  stayed : ((a weight : ℕ) → IsArc s.board a cell k weight → distance s a ≤ weight + distance s cell)
      → IsExpanded s cell k → IsExpanded s cell (k + 1)
  stayed low under = record {
    supported = under.supported;
    relaxed = λ a c j weight arc. elim (under.relaxed a c j weight arc) [
      | inl open_ ↦ elim open_ [
        | inl waits ↦ inl (inl waits)
        | inr (same, late) ↦ elim (cases_eq j k) [
          | inl now ↦
              let here : IsArc s.board a cell k weight =
              subst (λ x. IsArc s.board a cell x weight) now (subst (λ x. IsArc s.board a x j weight) same arc) in
              let even : distance s c ≡ distance s cell = ap (distance s) same in
              inr (omega (arith, low a weight here, even))
          | inr later ↦ inl (inr (same, omega arith))
        ]
      ]
      | inr lies ↦ inr lies
    ];
  }

  module _ (a weight : ℕ) (arc : IsArc s.board a cell k weight) (less : weight + distance s cell < distance s a) where
    abbrev fallen : Walking
    fallen = record s {
      distances = set s.distances a (weight + distance s cell);
      waits = set s.waits a true;
    }

    inside : a < length s.distances
    inside = omega (arith, (arc_inside s.board is.board a cell k weight arc).0, is.distances)

    waits_inside : a < length s.waits
    waits_inside = omega (arith, (arc_inside s.board is.board a cell k weight arc).0, is.waits)

    there : distance fallen a ≡ weight + distance s cell
    there = get_or-set_same s.distances a (weight + distance s cell) 0 inside

    beside : (x : ℕ) → x ≢ a → distance fallen x ≡ distance s x
    beside x apart = get_or-set_other s.distances a x (weight + distance s cell) 0 apart

    no_more : (x : ℕ) → distance fallen x ≤ distance s x
    no_more x = elim (cases_eq x a) [
      | inl same ↦
          let even : distance s x ≡ distance s a = ap (distance s) same in
          let now : distance fallen x ≡ distance fallen a = ap (distance fallen) same in
          omega (arith, there, less, even, now)
      | inr apart ↦ omega (arith, beside x apart)
    ]

    lower_supported : IsExpanded s cell k → (x : ℕ) → x < cell_count fallen.board → distance fallen x < FAR
        → x ≢ fallen.goal → IsWall fallen.board x ⊎ IsSupported fallen.board fallen.distances x
    lower_supported under x within near apart = elim (cases_eq x a) [
      | inl same ↦
          let now : distance fallen x ≡ distance fallen a = ap (distance fallen) same in
          inr (record {
            next = cell;
            hop = k;
            weight = weight;
            arc = subst (λ y. IsArc s.board y cell k weight) (sym same) arc;
            enough = omega (arith, no_more cell, there, now);
          })
      | inr other ↦
          let even = beside x other in
          elim (under.supported x within (omega (arith, near, even)) apart) [
            | inl wall ↦ inl wall
            | inr held ↦ inr (record {
              next = held.next;
              hop = held.hop;
              weight = held.weight;
              arc = held.arc;
              enough = omega (arith, no_more held.next, even, held.enough);
            })
          ]
    ]

    lower_relaxed : IsExpanded s cell k → (x c j u : ℕ) → IsArc fallen.board x c j u
        → (IsMarked fallen.waits c ⊎ ((c ≡ cell) × (k + 1 ≤ j))) ⊎ (distance fallen x ≤ u + distance fallen c)
    lower_relaxed under x c j u other = elim (under.relaxed x c j u other) [
      | inl open_ ↦ elim open_ [
        | inl waits ↦ inl (inl (still_marked s.waits a c waits_inside waits))
        | inr (same, late) ↦ elim (cases_eq j k) [
          | inl now ↦
              let here : IsArc s.board x cell k u =
              subst (λ y. IsArc s.board x cell y u) now (subst (λ y. IsArc s.board x y j u) same other) in
              let start : x ≡ a =
              same_Some x a (sym (arc_start s.board is.board x cell k u here)
              ∙ arc_start s.board is.board a cell k weight arc) in
              let cost : u ≡ weight =
              same_Some u weight (sym (arc_cost s.board is.board x cell k u here)
              ∙ ap (λ (y : ℕ). cost_of s.board y cell k) start ∙ arc_cost s.board is.board a cell k weight arc) in
              let apart : cell ≢ a =
              λ at. let even : distance s cell ≡ distance s a = ap (distance s) at in absurd (omega (arith, less, even)) in
              let low : distance fallen x ≡ distance fallen a = ap (distance fallen) start in
              let high : distance fallen c ≡ distance fallen cell = ap (distance fallen) same in
              inr (omega (arith, there, low, high, beside cell apart, cost))
          | inr later ↦ inl (inr (same, omega arith))
        ]
      ]
      | inr lies ↦ elim (cases_eq c a) [
        | inl same ↦ inl (inl (subst (λ y. IsMarked (set s.waits a true) y) (sym same) (marked_there s.waits a waits_inside)))
        | inr apart ↦ inr (omega (arith, no_more x, beside c apart, lies))
      ]
    ]

    fell : IsExpanded s cell k → IsExpanded (record s {
      distances = set s.distances a (weight + distance s cell);
      waits = set s.waits a true;
    }) cell (k + 1)
    fell under = record {
      supported = lower_supported under;
      relaxed = lower_relaxed under;
    }

    one_most : (b : Bool) → one_if b ≤ 1
    one_most true = omega arith
    one_most false = omega arith

    less_left : left (record s {
      distances = set s.distances a (weight + distance s cell);
      waits = set s.waits a true;
    }) ≤ left s
    less_left =
        let distances = sum_by-set (λ d. d) s.distances a (weight + distance s cell) 0 inside in
        let waits = sum_by-set one_if s.waits a true false waits_inside in
        omega (arith, distances, waits, less)

-- the parts belong together still
pub walking_still : (s : Walking) (cell k a weight v : ℕ) (marks : List Bool) → IsWalking s
    → IsArc s.board a cell k weight → v ≡ weight + distance s cell → v < distance s a → marks ≡ set s.waits a true
    → IsWalking (record s { distances = set s.distances a v; waits = marks })
walking_still s cell k a weight v marks is arc value less made =
    let within = arc_inside s.board is.board a cell k weight arc in
    record {
      board = is.board;
      goal = is.goal;
      distances = length-set s.distances a v ∙ is.distances;
      waits = ap length made ∙ length-set s.waits a true ∙ is.waits;
      doubts = is.doubts;
      at_goal = get_or-set_other s.distances a s.goal v 0 (λ same.
          let even : distance s s.goal ≡ distance s a = ap (distance s) same in
          absurd (omega (arith, even, is.at_goal))) ∙ is.at_goal;
      at_most = λ x. elim (cases_eq x a) [
        | inl same ↦
            let there : get_or (set s.distances a v) x 0 ≡ v =
            ap (λ y. get_or (set s.distances a v) y 0) same ∙ get_or-set_same s.distances a v 0
            (omega (arith, within.0, is.distances)) in omega (arith, there, is.at_most a)
        | inr apart ↦ let there = get_or-set_other s.distances a x v 0 apart in omega (arith, there, is.at_most x)
      ];
    }

-- what the arc by a hop into a cell lowers
pub lowered : (s new : Walking) (cell k : ℕ) → IsWalking s → Lowers s new cell k → IsExpanded s cell k
    → IsExpanded new cell (k + 1)
lowered s new cell k is (stays same low) under =
    subst (λ x. IsExpanded x cell (k + 1)) (sym same) (stayed s is cell k low under)
lowered s new cell k is (falls a weight arc less same) under =
    subst (λ x. IsExpanded x cell (k + 1)) (sym same) (fell s is cell k a weight arc less under)

pub no_more_left : (s new : Walking) (cell k : ℕ) → IsWalking s → Lowers s new cell k → left new ≤ left s
no_more_left s new cell k is (stays same low) = let even : left new ≡ left s = ap left same in omega arith
no_more_left s new cell k is (falls a weight arc less same) =
    let even = ap left same in omega (arith, even, less_left s is cell k a weight arc less)

pub same_board : (s new : Walking) (cell k : ℕ) → Lowers s new cell k → (new.board ≡ s.board) × (new.goal ≡ s.goal)
same_board s new cell k (stays same low) = (ap (λ (z : Walking). z.board) same, ap (λ (z : Walking). z.goal) same)
same_board s new cell k (falls a weight arc less same) =
    (ap (λ (z : Walking). z.board) same, ap (λ (z : Walking). z.goal) same)

-- hops that would lower nothing are passed over
pub skipped : (s : Walking) (cell k n : ℕ) → k ≤ n → LowerNone s cell k n → IsExpanded s cell k → IsExpanded s cell n
skipped s cell k n less none under = record {
  supported = under.supported;
  relaxed = λ a c j weight arc. elim (under.relaxed a c j weight arc) [
    | inl open_ ↦ elim open_ [
      | inl waits ↦ inl (inl waits)
      | inr (same, late) ↦ elim (cases_lt j n) [
        | inl here ↦
            let low = none a j weight late here (subst (λ x. IsArc s.board a x j weight) same arc) in
            let even : distance s c ≡ distance s cell = ap (distance s) same in
            inr (omega (arith, low, even))
        | inr later ↦ inl (inr (same, later))
      ]
    ]
    | inr lies ↦ inr lies
  ];
}

-- all hops into a cell are done
pub all_lowered : (s : Walking) (cell k : ℕ) → length s.board.hops ≤ k → IsExpanded s cell k → IsShut s
all_lowered s cell k whole under = record {
  supported = under.supported;
  relaxed = λ a c j weight arc. elim (under.relaxed a c j weight arc) [
    | inl open_ ↦ elim open_ [
      | inl waits ↦ inl waits
      | inr (same, late) ↦ absurd (omega (arith, slice_get_within s.board.hops j arc.hop arc.at))
    ]
    | inr lies ↦ inr lies
  ];
}

-- a waiting cell is taken
module _ (s new : Walking) (cell : ℕ) (rest : new ≡ record s { waits = new.waits })
    (takes : Takes s.waits new.waits cell) where
  pub taken : IsShut s → IsExpanded new cell 0
  taken under = subst (λ x. IsExpanded x cell 0) (sym rest) (record {
    supported = under.supported;
    relaxed = λ a c j weight arc. elim (under.relaxed a c j weight arc) [
      | inl waits ↦ elim (cases_eq c cell) [
        | inl same ↦ inl (inr (same, omega arith))
        | inr apart ↦
            inl (inl (ap (λ l. get_or l c false) takes.taken ∙ get_or-set_other s.waits cell c false false apart ∙ waits))
      ]
      | inr lies ↦ inr lies
    ];
  })

  pub taken_inside : IsWalking new → cell < cell_count new.board
  taken_inside is = omega (arith, takes.inside, ap length takes.taken, length-set s.waits cell false, is.waits)

  pub less_to_do : left new < left s
  less_to_do =
      let same : left new ≡ left (record s { waits = new.waits }) = ap left rest in
      let waits : sum_by one_if new.waits ≡ sum_by one_if (set s.waits cell false) = ap (sum_by one_if) takes.taken in
      let sums = sum_by-set one_if s.waits cell false false takes.inside in
      let one : one_if (get_or s.waits cell false) ≡ 1 = ap one_if takes.marked in
      omega (arith, same, waits, sums, one)

-- before the search the goal alone has a distance
module _ (s : Walking) (distances : s.distances ≡ set (replicate (cell_count s.board) FAR) s.goal 0)
    (is : IsBoard s.board) (goal : s.goal < cell_count s.board) where
  at_goal : distance s s.goal ≡ 0
  at_goal =
      ap (λ l. get_or l s.goal 0) distances
      ∙ get_or-set_same (replicate (cell_count s.board) FAR) s.goal 0 0
      (omega (arith, goal, length-replicate {A = ℕ} (cell_count s.board) FAR))

  far : (a : ℕ) → a < cell_count s.board → a ≢ s.goal → distance s a ≡ FAR
  far a inside apart =
      ap (λ l. get_or l a 0) distances
      ∙ get_or-set_other (replicate (cell_count s.board) FAR) s.goal a 0 0 apart
      ∙ get_or-replicate (cell_count s.board) a FAR 0 inside

  size : length s.distances ≡ cell_count s.board
  size =
      ap length distances ∙ length-set (replicate (cell_count s.board) FAR) s.goal 0
      ∙ length-replicate {A = ℕ} (cell_count s.board) FAR

  at_most : (a : ℕ) → distance s a ≤ FAR
  at_most a = elim (cases_lt a (cell_count s.board)) [
    | inl inside ↦ elim (cases_eq a s.goal) [
      | inl same ↦ let even : distance s a ≡ distance s s.goal = ap (distance s) same in omega (arith, even, at_goal)
      | inr apart ↦ omega (arith, far a inside apart)
    ]
    | inr past ↦ let none : distance s a ≡ 0 = get_or_past s.distances a 0 (omega (arith, past, size)) in omega arith
  ]

  pub fresh : length s.waits ≡ cell_count s.board → length s.doubts ≡ cell_count s.board → IsWalking s
  fresh waits doubts = record {
    board = is;
    goal = goal;
    distances = size;
    waits = waits;
    doubts = doubts;
    at_goal = at_goal;
    at_most = at_most;
  }

  only_goal : (a : ℕ) → a < cell_count s.board → distance s a < FAR → a ≢ s.goal → IsSupported s.board s.distances a
  only_goal a inside near apart = absurd (omega (arith, far a inside apart))

  -- and it waits
  pub begun : s.waits ≡ set (replicate (cell_count s.board) false) s.goal true → IsSinking s
  begun waits = record {
    supported = λ a inside near apart. inr (only_goal a inside near apart);
    relaxed = λ a c j weight arc. elim (cases_eq c s.goal) [
      | inl same ↦
          inl (ap (λ l. get_or l c false) waits
          ∙ subst (λ x. IsMarked (set (replicate (cell_count s.board) false) s.goal true) x) (sym same)
          (marked_there (replicate (cell_count s.board) false) s.goal
          (omega (arith, goal, length-replicate {A = Bool} (cell_count s.board) false))))
      | inr apart ↦
          let within = arc_inside s.board is a c j weight arc in
          inr (omega (arith, far c within.1 apart, at_most a))
    ];
  }

  -- or there is no hop
  pub bare : s.board.hops ≡ [] → IsSinking s
  bare none = record {
    supported = λ a inside near apart. inr (only_goal a inside near apart);
    relaxed = λ a c j weight arc. absurd (none-some arc.hop (ap (λ l. slice_get l j) (sym none) ∙ arc.at));
  }

-- a list without marks
pub none_marked : (n : ℕ) (marks : List Bool) → marks ≡ replicate n false → HasNone marks
none_marked n marks is a = ap (λ l. get_or l a false) is ∙ elim (cases_lt a n) [
  | inl inside ↦ get_or-replicate n a false false inside
  | inr past ↦ get_or_past (replicate n false) a false (omega (arith, past, length-replicate {A = Bool} n false))
]

-- a cell is an obstacle or not, and no arc leads from one or to one
wall_or_not : (b : Board) (a : ℕ) → IsWall b a ⊎ (IsWall b a → ⊥)
wall_or_not b a = elim (cases_lt (slice_index b.costs a) b.env.obsthresh) [
  | inl below ↦ inr (λ wall. absurd (omega (arith, below, wall)))
  | inr wall ↦ inl wall
]

start_open : (b : Board) (a c j weight : ℕ) → IsArc b a c j weight → IsWall b a → ⊥
start_open b a c j weight arc wall =
    let cost : slice_index b.costs a ≡ arc.step.start = get_or_from_slice_get b.costs a arc.step.start 0 arc.step.start_is in
    absurd (omega (arith, cost, wall, arc.step.start_below))

end_open : (b : Board) (a c j weight : ℕ) → IsArc b a c j weight → IsWall b c → ⊥
end_open b a c j weight arc wall =
    let cost : slice_index b.costs c ≡ arc.step.end = get_or_from_slice_get b.costs c arc.step.end 0 arc.step.end_is in
    absurd (omega (arith, cost, wall, arc.step.end_below))

pub alike : (s : Walking) → IsWalking s → DiffersInWalls s s.distances
alike s is = record { size = refl; others = λ a either. refl; at_most = is.at_most }

pub differs_there : (s : Walking) (distances : List ℕ) (cell v : ℕ) → DiffersInWalls s distances → IsWall s.board cell
    → cell ≢ s.goal → v ≤ FAR → DiffersInWalls s (set distances cell v)
differs_there s distances cell v differs wall beside low = record {
  size = length-set distances cell v ∙ differs.size;
  others = λ a either. get_or-set_other distances cell a v 0 (λ same. elim either [
    | inl clear ↦ absurd (clear (subst (IsWall s.board) (sym same) wall))
    | inr at ↦ absurd (beside (sym same ∙ at))
  ]) ∙ differs.others a either;
  at_most = λ a. elim (cases_eq a cell) [
    | inl same ↦ elim (cases_lt cell (length distances)) [
      | inl inside ↦
          let there : get_or (set distances cell v) a 0 ≡ v =
          ap (λ y. get_or (set distances cell v) y 0) same ∙ get_or-set_same distances cell v 0 inside in
          omega (arith, there, low)
      | inr past ↦
          let none : get_or (set distances cell v) a 0 ≡ 0 =
          get_or_past (set distances cell v) a 0 (omega (arith, length-set distances cell v, same, past)) in
          omega arith
    ]
    | inr apart ↦ omega (arith, get_or-set_other distances cell a v 0 apart, differs.at_most a)
  ];
}

-- one more obstacle's distance is written
pub one_written : (s old new : Walking) (cell v : ℕ) → old ≡ record s { distances = old.distances }
    → DiffersInWalls s old.distances → new ≡ record old { distances = set old.distances cell v } → IsWall old.board cell
    → cell ≢ old.goal → v ≤ FAR → (new ≡ record s { distances = new.distances }) × DiffersInWalls s new.distances
one_written s old new cell v rest differs is wall beside low =
    let list : new.distances ≡ set old.distances cell v = ap (λ (z : Walking). z.distances) is in
    let board : old.board ≡ s.board = ap (λ (z : Walking). z.board) rest in
    let goal : old.goal ≡ s.goal = ap (λ (z : Walking). z.goal) rest in (
      is ∙ ap (λ (z : Walking). record z { distances = set old.distances cell v }) rest
          ∙ ap (λ (l : List ℕ). record s { distances = l }) (sym list),
      subst (DiffersInWalls s) (sym list) (differs_there s old.distances cell v differs
          (subst (λ b. IsWall b cell) board wall) (λ at. beside (at ∙ sym goal)) low),
    )

-- where the distances of obstacles alone differ
module _ (s : Walking) (distances : List ℕ) (differs : DiffersInWalls s distances) where
  still_held : (a : ℕ) → (IsWall s.board a → ⊥) → IsSupported s.board s.distances a → IsSupported s.board distances a
  still_held a clear held = record {
    next = held.next;
    hop = held.hop;
    weight = held.weight;
    arc = held.arc;
    enough = omega (
      arith,
      held.enough,
      differs.others a (inl clear),
      differs.others held.next (inl (end_open s.board a held.next held.hop held.weight held.arc)),
    );
  }

  pub walking_beside : IsWalking s → IsWalking (record s { distances = distances })
  walking_beside is = record {
    board = is.board;
    goal = is.goal;
    distances = differs.size ∙ is.distances;
    waits = is.waits;
    doubts = is.doubts;
    at_goal = differs.others s.goal (inr refl) ∙ is.at_goal;
    at_most = differs.at_most;
  }

  still_relaxed : (a c j weight : ℕ) → IsArc s.board a c j weight → distance s a ≤ weight + distance s c
      → slice_index distances a ≤ weight + slice_index distances c
  still_relaxed a c j weight arc low = omega (
    arith,
    low,
    differs.others a (inl (start_open s.board a c j weight arc)),
    differs.others c (inl (end_open s.board a c j weight arc)),
  )

  -- obstacles say nothing any more
  pub now_shut : IsSinking s → IsShut (record s { distances = distances })
  now_shut under = record {
    supported = λ a inside near apart. elim (wall_or_not s.board a) [
      | inl wall ↦ inl wall
      | inr clear ↦ elim (under.supported a inside (omega (arith, near, differs.others a (inl clear))) apart) [
        | inl none ↦ absurd none
        | inr held ↦ inr (still_held a clear held)
      ]
    ];
    relaxed = λ a c j weight arc. elim (under.relaxed a c j weight arc) [
      | inl waits ↦ inl waits
      | inr low ↦ inr (still_relaxed a c j weight arc low)
    ];
  }

  -- obstacles are not reached
  pub now_open : ((a : ℕ) → a < cell_count s.board → a ≢ s.goal → IsWall s.board a → slice_index distances a ≡ FAR)
      → IsShut s → IsSinking (record s { distances = distances })
  now_open far under = record {
    supported = λ a inside near apart. elim (wall_or_not s.board a) [
      | inl wall ↦ absurd (omega (arith, near, far a inside apart wall))
      | inr clear ↦ elim (under.supported a inside (omega (arith, near, differs.others a (inl clear))) apart) [
        | inl wall ↦ absurd (clear wall)
        | inr held ↦ inr (still_held a clear held)
      ]
    ];
    relaxed = λ a c j weight arc. elim (under.relaxed a c j weight arc) [
      | inl waits ↦ inl waits
      | inr low ↦ inr (still_relaxed a c j weight arc low)
    ];
  }
