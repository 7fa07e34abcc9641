-- A graph of a few states with a guide.
use Rattle.std.specs.Prelude.{ℕ, ◌+◌, ◌-◌, ◌*◌, ◌/◌, ◌%◌, ◌&&◌, ◌==◌, min, max, nat_lt, if◌then◌else◌, Some, None, List, slice_index, slice_index_or}
use Rattle.sbpl_plan.specs.sbpl_graph.Network.{Network}

-- how far a state is from the goal at least
abbrev pub height : List ℕ → ℕ → ℕ
height heights s = min (slice_index heights s) 1000

-- arc k of s, as its head and its cost, with no head past the end
abbrev pub arc_at : List (ℕ × ℕ) → ℕ → ℕ → ℕ × ℕ
arc_at arcs s k = slice_index_or arcs (2 * s + k) (6, 0)

-- this many states with two arcs each; one whose head is no state leads off the map, one of cost 0 is not free, and none costs less than the height falls
abbrev pub counted : ℕ → List (ℕ × ℕ) → List ℕ → Network
counted count arcs heights = record {
  states = count;
  fan = λ _. 2;
  head = λ s k. if nat_lt (arc_at arcs s k).0 count then Some (arc_at arcs s k).0 else None;
  cost = λ s k.
      if nat_lt (arc_at arcs s k).0 count && nat_lt 0 (arc_at arcs s k).1
      then Some (max (min (arc_at arcs s k).1 1000) (height heights s - height heights (arc_at arcs s k).0)) else None;
  tail_fan = λ _. 2 * count;
  tail = λ t j. if (slice_index_or arcs j (6, 0)).0 == t then Some (j / 2, j % 2) else None;
  gap = λ _ _. 0;
}

-- how many states there are up to the last, which is state 5 at most
abbrev pub count_of : ℕ → ℕ
count_of last = min last 5 + 1

-- the states up to this last one
abbrev pub sample : ℕ → List (ℕ × ℕ) → List ℕ → Network
sample last arcs heights = counted (count_of last) arcs heights
