-- The states that a batch touches.
use Rattle.std.proofs.Common.{◌≡◌, ◌≢◌, ℕ, ℤ, pos, ◌<◌, nat_eq, Bool, true, false, List, Option, Some, None, IsSome}
use Rattle.std.proofs.Common.{refl, ap, sym, ◌∙◌, subst}
use Rattle.std.specs.List.{Contains}
use Rattle.std.specs.BTreeMap.{BTreeMap, get}
use Rattle.std.proofs.lemmas.Bool.Decides.{Decides-eqb}
use Rattle.std.proofs.lemmas.Option.{none-some, same_Some}
use Rattle.sbpl_graph.specs.Network.{Network, IsArc, IsFreeArc}
use Rattle.sbpl_map.specs.CellMap.{CellMap, cost_at}
use Rattle.sbpl_map.specs.MapAfter.{AreWritten}
use Rattle.sbpl_map.specs.declared.write.Write.{Write}
use Rattle.sbpl_terrain.specs.Cells.{Cells, DifferInCostsAlone, IsTerrain}
use Rattle.sbpl_terrain.specs.Ends.{at_end}
use Rattle.sbpl_terrain.specs.Reading.{IsEndReading}
use Rattle.sbpl_terrain.specs.declared.arc_end.ArcEnd.{ArcEnd}
use Rattle.sbpl_terrain.specs.Noted.{cell_cmp, AreNoted}
use Rattle.sbpl_terrain.specs.ChangedEnds.{IsEndOf, AreEndsOf}
use Rattle.sbpl_terrain.specs.Affected.{IsAffected, AreAffected, KeepArcsElsewhere}
use Rattle.sbpl_terrain.proofs.Written.{changed_is_written}

same_numbers_unless : (a b : ℕ) (r : Bool) → nat_eq a b ≡ r → ((Some a ≢ Some b) → ⊥) → Some a ≡ Some b
same_numbers_unless a b true is h = ap (λ n. Some n) ((Decides-eqb a b).0 is)
same_numbers_unless a b false is h = absurd (h (λ same.
    let no : false ≡ true = sym is ∙ (Decides-eqb a b).1 (same_Some a b same) in cc))

-- two costs are the same where they cannot differ
same_unless : (a b : Option ℕ) → ((a ≢ b) → ⊥) → a ≡ b
same_unless None None h = refl
same_unless None (Some b) h = absurd (h (λ same. none-some b same))
same_unless (Some a) None h = absurd (h (λ same. none-some a (sym same)))
same_unless (Some a) (Some b) h = same_numbers_unless a b (nat_eq a b) refl h

-- an arc of one graph is an arc of another that differs in costs alone
same_arc : (n m : Network) (s k t : ℕ) → DifferInCostsAlone n m → IsArc n s k t → IsArc m s k t
same_arc n m s k t rest arc = record {
  source = subst (λ states. s < states) rest.states arc.source;
  number = subst (λ fan. k < fan s) rest.fan arc.number;
  head = subst (λ head. head s k ≡ Some t) rest.head arc.head;
}

module _ {W : Type 0} (network : W → Network) (cells : Cells W) (is : IsTerrain network cells) (end : ArcEnd) (w : W)
    (m : CellMap) (is_made : cells.is_made w) (is_other : cells.is_made (cells.over w m)) where
  rest : DifferInCostsAlone (network (cells.over w m)) (network w)
  rest = is.rest w m is_made is_other

  cost_after : (x y : ℤ) → cost_at (cells.map (cells.over w m)) x y ≡ cost_at m x y
  cost_after x y = ap (λ l. cost_at l x y) (is.map w m)

  end_before : (x y : ℤ) (t : ℕ) → IsEndReading network cells end (cells.over w m) x y t
      → IsEndReading network cells end w x y t
  end_before x y t h = record {
    source = h.source;
    number = h.number;
    head = h.head;
    arc = same_arc (network (cells.over w m)) (network w) h.source h.number h.head rest h.arc;
    reads = (is.reads w m h.source h.number x y is_made is_other).0 h.reads;
    at = h.at;
  }

  -- the other way round
  rest_back : DifferInCostsAlone (network w) (network (cells.over w m))
  rest_back = record {
    states = sym rest.states;
    fan = sym rest.fan;
    head = sym rest.head;
    tail_fan = sym rest.tail_fan;
    tail = sym rest.tail;
    gap = sym rest.gap;
  }

  end_after : (x y : ℤ) (t : ℕ) → IsEndReading network cells end w x y t
      → IsEndReading network cells end (cells.over w m) x y t
  end_after x y t h = record {
    source = h.source;
    number = h.number;
    head = h.head;
    arc = same_arc (network w) (network (cells.over w m)) h.source h.number h.head rest_back h.arc;
    reads = (is.reads w m h.source h.number x y is_made is_other).1 h.reads;
    at = h.at;
  }

  module _ (batch : List Write) (costs : BTreeMap (ℕ × ℕ) ℕ) (ends : List ℕ)
      (noted : AreNoted (cells.map w) batch costs) (written : AreWritten (cells.map w) batch m)
      (are : AreEndsOf network cells end (cells.over w m) costs ends) where
    touched_by_end : (t : ℕ) → IsEndOf network cells end (cells.over w m) costs t → IsAffected network cells end w m t
    touched_by_end t h = record {
      x = pos h.x;
      y = pos h.y;
      changed = λ same. h.at.changed (cost_after (pos h.x) (pos h.y) ∙ same ∙ noted.sound h.x h.y h.cost h.noted);
      reads = end_before (pos h.x) (pos h.y) t h.at.reads;
    }

    end_by_note : (x y t : ℕ) (o : Option ℕ) → get cell_cmp costs (x, y) ≡ o → IsSome o
        → cost_at m (pos x) (pos y) ≢ cost_at (cells.map w) (pos x) (pos y)
        → IsEndReading network cells end w (pos x) (pos y) t → IsEndOf network cells end (cells.over w m) costs t
    end_by_note x y t None found some changed here = absurd (cc)
    end_by_note x y t (Some c) found some changed here = record {
      x = x;
      y = y;
      cost = c;
      noted = found;
      at = record {
        changed = λ same. changed (sym (cost_after (pos x) (pos y)) ∙ same ∙ sym (noted.sound x y c found));
        reads = end_after (pos x) (pos y) t here;
      };
    }

    end_by_touched : (t : ℕ) → IsAffected network cells end w m t → IsEndOf network cells end (cells.over w m) costs t
    end_by_touched t h =
        let to = changed_is_written batch (cells.map w) m h.x h.y written h.changed in
        let v = to.write in
        let changed : cost_at m (pos v.x) (pos v.y) ≢ cost_at (cells.map w) (pos v.x) (pos v.y) =
        subst (λ y. cost_at m (pos v.x) y ≢ cost_at (cells.map w) (pos v.x) y) to.row
        (subst (λ x. cost_at m x h.y ≢ cost_at (cells.map w) x h.y) to.column h.changed) in
        let here : IsEndReading network cells end w (pos v.x) (pos v.y) t =
        subst (λ y. IsEndReading network cells end w (pos v.x) y t) to.row
        (subst (λ x. IsEndReading network cells end w x h.y t) to.column h.reads) in
        end_by_note v.x v.y t (get cell_cmp costs (v.x, v.y)) refl (noted.complete to.place v to.stands) changed here

    pub ends_are_touched : AreAffected network cells end w m ends
    ends_are_touched t = (λ h. touched_by_end t (are.sound t h), λ h. are.complete t (end_by_touched t h))

  module _ (touched : List ℕ) (are : AreAffected network cells end w m touched) where
    same_cost : (s k t : ℕ) → IsArc (network w) s k t → (Contains touched (at_end end (s, t)) → ⊥)
        → (network (cells.over w m)).cost s k ≡ (network w).cost s k
    same_cost s k t arc none = is.costs w m s k is_made is_other (λ x y read.
        same_unless (cost_at m x y) (cost_at (cells.map w) x y) (λ changed.
        none ((are (at_end end (s, t))).1 (record {
          x = x;
          y = y;
          changed = changed;
          reads = record { source = s; number = k; head = t; arc = arc; reads = read; at = refl };
        }))))

    free_after : (s k t c : ℕ) → (Contains touched (at_end end (s, t)) → ⊥) → IsFreeArc (network w) s k t c
        → IsFreeArc (network (cells.over w m)) s k t c
    free_after s k t c none free =
        let arc : IsArc (network w) s k t = record { source = free.source; number = free.number; head = free.head } in
        let there = same_arc (network w) (network (cells.over w m)) s k t rest_back arc in
        record {
          source = there.source;
          number = there.number;
          head = there.head;
          cost = same_cost s k t arc none ∙ free.cost;
        }

    free_before : (s k t c : ℕ) → (Contains touched (at_end end (s, t)) → ⊥)
        → IsFreeArc (network (cells.over w m)) s k t c → IsFreeArc (network w) s k t c
    free_before s k t c none free =
        let arc =
        same_arc (network (cells.over w m)) (network w) s k t rest
        (record { source = free.source; number = free.number; head = free.head }) in
        record {
          source = arc.source;
          number = arc.number;
          head = arc.head;
          cost = sym (same_cost s k t arc none) ∙ free.cost;
        }

    pub arcs_kept_elsewhere : KeepArcsElsewhere end (network w) (network (cells.over w m)) touched
    arcs_kept_elsewhere s k t c none = (free_after s k t c none, free_before s k t c none)
