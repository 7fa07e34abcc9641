-- The reversed graph over a map: what it reads, and at which ends of its arcs.
use Rattle.std.proofs.Common.{◌≡◌, ℕ, ℤ, ◌<◌, List, Option, Some, None, option_and_then, refl, ap, sym, ◌∙◌, subst}
use Rattle.std.specs.List.{find, range_with_len}
use Rattle.std.specs.Option.{option_map}
use Rattle.std.proofs.lemmas.Option.{same_Some}
use Rattle.sbpl_cost.specs.sbpl_graph.Network.{Network}
use Rattle.sbpl_cost.specs.sbpl_graph.Laws.{HasExactTails, IsSound}
use Rattle.sbpl_cost.specs.sbpl_terrain.Cells.{Cells, DifferInCostsAlone, IsTerrain}
use Rattle.sbpl_cost.specs.sbpl_terrain.Ends.{at_end, other_end}
use Rattle.sbpl_cost.specs.sbpl_terrain.Reading.{AddsEnds, IsEndReading}
use Rattle.sbpl_cost.specs.sbpl_terrain.declared.arc_end.ArcEnd.{ArcEnd}
use Rattle.sbpl_cost.specs.sbpl_terrain.declared.arc_end.ArcEnd.TheVariants as end
use Rattle.sbpl_back.specs.Reversed.{is_arc, reversed, tail_number}
use Rattle.sbpl_back.specs.ReversedCells.{reversed_cells}
use Rattle.sbpl_back.proofs.Finding.{number_is_tail, numbered}
use Rattle.sbpl_back.proofs.Turning.{arc_of_reversed, reversed_of_tail}

-- ---- a change of the map changes costs alone

pub reversed_differ : (n m : Network) → DifferInCostsAlone n m → DifferInCostsAlone (reversed n) (reversed m)
unfolding tail_number
reversed_differ n m d = record {
  states = d.states;
  fan = d.tail_fan;
  head = λ i t j. option_map (λ (arc : ℕ × ℕ). arc.0) (d.tail i t j);
  tail_fan = d.fan;
  tail = λ i s k. option_and_then (λ t. option_map (λ (j : ℕ). (t, j))
      (find (λ j. is_arc s k (d.tail i t j)) (range_with_len 0 (d.tail_fan i t)))) (d.head i s k);
  gap = refl;
}

-- costs of arcs that are told by their tails
costs_by : (n m : Network) (o : Option (ℕ × ℕ)) → ((s k : ℕ) → o ≡ Some (s, k) → m.cost s k ≡ n.cost s k)
    → option_and_then (λ (arc : ℕ × ℕ). m.cost arc.0 arc.1) o ≡ option_and_then (λ (arc : ℕ × ℕ). n.cost arc.0 arc.1) o
costs_by n m None same = refl
costs_by n m (Some arc) same = same arc.0 arc.1 refl

module _ {W : Type 0} (network : W → Network) (cells : Cells W) (law : IsTerrain network cells) where
  pub reversed_is_terrain : IsTerrain (λ w. reversed (network w)) (reversed_cells network cells)
  reversed_is_terrain = record {
    map = law.map;
    present = law.present;
    again = law.again;
    rest = λ w m made other. reversed_differ (network (cells.over w m)) (network w) (law.rest w m made other);
    reads = λ w m t j x y made other.
        let same = (law.rest w m made other).tail in (
          λ r. (r.0, r.1, sym (ap (λ (tail : ℕ → ℕ → Option (ℕ × ℕ)). tail t j) same) ∙ r.2, (law.reads w m r.0 r.1 x y made other).0 r.3),
          λ r. (r.0, r.1, ap (λ (tail : ℕ → ℕ → Option (ℕ × ℕ)). tail t j) same ∙ r.2, (law.reads w m r.0 r.1 x y made other).1 r.3),
        );
    costs = λ w m t j made other read.
        let n = network w in
        let over = network (cells.over w m) in
        let same = (law.rest w m made other).tail in
        let own : (s k : ℕ) → n.tail t j ≡ Some (s, k) → over.cost s k ≡ n.cost s k =
        λ s k tail. law.costs w m s k made other (λ x y reads. read x y (s, k, tail, reads)) in
        ap (λ (tail : ℕ → ℕ → Option (ℕ × ℕ)). option_and_then (λ (arc : ℕ × ℕ). over.cost arc.0 arc.1) (tail t j)) same
        ∙ costs_by n over (n.tail t j) own;
  }

-- ---- the ends of arcs that read a cell

at_other : (end : ArcEnd) (s t : ℕ) → at_end (other_end end) (s, t) ≡ at_end end (t, s)
at_other end.Source s t = refl
at_other end.Head s t = refl

module _ {W : Type 0} (network : W → Network) (cells : Cells W) (w : W) (sound : IsSound (network w))
    (tails : HasExactTails (network w)) (end : ArcEnd) (x y : ℤ) (e : ℕ) where
  pub reads_back : IsEndReading network cells (other_end end) w x y e
      → IsEndReading (λ (v : W). reversed (network v)) (reversed_cells network cells) end w x y e
  reads_back r =
      let n = network w in
      let inside : r.head < n.states = sound.head_is_state r.source r.number r.head r.arc.source r.arc.number r.arc.head in
      let at = numbered n tails r.source r.number r.head r.arc in
      let tail = number_is_tail n tails r.source r.number r.head inside at.0 at.1 in
      record {
        source = r.head;
        number = at.0;
        head = r.source;
        arc = reversed_of_tail n tails r.head at.0 r.source r.number tail;
        reads = (r.source, r.number, tail.tail, r.reads);
        at = r.at ∙ at_other end r.source r.head;
      }

  pub reads_forth : IsEndReading (λ (v : W). reversed (network v)) (reversed_cells network cells) end w x y e
      → IsEndReading network cells (other_end end) w x y e
  reads_forth r =
      let n = network w in
      let at = arc_of_reversed n tails r.source r.number r.head r.arc in
      let same = same_Some {A = ℕ × ℕ} (r.reads.0, r.reads.1) (r.head, at.0) (sym r.reads.2 ∙ at.1.tail) in
      record {
        source = r.head;
        number = at.0;
        head = r.source;
        arc = tails.tails_are_arcs r.source r.number r.head at.0 at.1;
        reads = subst (λ (p : ℕ × ℕ). cells.reads w p.0 p.1 x y) same r.reads.3;
        at = r.at ∙ sym (at_other end r.head r.source);
      }

module _ {W : Type 0} (network : W → Network) (cells : Cells W) (w : W) (sound : IsSound (network w))
    (tails : HasExactTails (network w)) (end : ArcEnd) (x y : ℤ) (old new : List ℕ) where
  -- the ends of the lattice's arcs that were added are the other ends of the reversed arcs
  pub adds_back : AddsEnds network cells (other_end end) w x y old new
      → AddsEnds (λ (v : W). reversed (network v)) (reversed_cells network cells) end w x y old new
  adds_back adds = record {
    added = adds.added;
    kept = adds.kept;
    sound = λ i s at. reads_back network cells w sound tails end x y s (adds.sound i s at);
    complete = λ s reads. adds.complete s (reads_forth network cells w sound tails end x y s reads);
    states = adds.states;
  }
