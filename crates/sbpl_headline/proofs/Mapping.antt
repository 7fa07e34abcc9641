-- What the headline's map says of a cell is what the map after the first batches says.
use Rattle.std.proofs.Common.{◌≡◌, ◌↔◌, ℕ, zero, suc, ℤ, pos, negsuc, ◌+◌, ◌*◌, ◌<◌, nat_lt, ◌&&◌, ◌==◌, List, [], ◌∷◌}
use Rattle.std.proofs.Common.{◌++◌, map, take, Option, Some, None, slice_get, refl, sym, ap, ◌∙◌, inl, inr}
use Rattle.std.specs.List.{filter_map, flat_map, last_or}
use Rattle.std.proofs.lemmas.Bool.{cases_Bool, and_from, and_parts, lt-ltb, ltb-true}
use Rattle.std.proofs.lemmas.List.{map-append}
use Rattle.std.proofs.lemmas.List.Elements.{filter_map-append}
use Rattle.std.proofs.lemmas.Option.{none-some}
use Rattle.sbpl_promises.specs.sbpl_map.CellMap.{CellMap, cost_at}
use Rattle.sbpl_promises.specs.sbpl_map.ChangeText.{Given, write_in, writes_of}
use Rattle.sbpl_promises.specs.sbpl_map.MapAfter.{cost_after, first_writes, found_or, last_cost, IsMapAfter}
use Rattle.sbpl_headline.specs.Map.{Costs, cost_in}
use Rattle.sbpl_headline.proofs.Told.{line_of, lines_of, map_with}

-- ---- the last line that gives a cell a cost

-- what is found first of three does not depend on which two are joined
found_or_assoc : (a b c : Option ℕ) → found_or (found_or a b) c ≡ found_or a (found_or b c)
found_or_assoc (Some x) b c = refl
found_or_assoc None b c = refl

-- the cost of the last write to a cell is that of the last line that gives it one
last_given : (given : List Given) (u v : ℕ) (o : Option ℕ)
    → found_or (last_cost (filter_map write_in given) (pos u) (pos v)) o
    ≡ last_or o (flat_map (cost_in u v) (map line_of given))
unfolding last_cost
last_given [] u v o = refl
last_given (inl w ∷ given) u v o =
    let later = last_cost (filter_map write_in given) (pos u) (pos v) in
    elim (cases_Bool ((w.x == u) && (w.y == v))) [
      | inl e ↦ rw e (found_or_assoc later (Some w.cost) o ∙ last_given given u v (Some w.cost))
      | inr e ↦ rw e (found_or_assoc later None o ∙ last_given given u v o)
    ]
last_given (inr p ∷ given) u v o = last_given given u v o

-- the writes of the first batches are those that their lines give
writes_of_first : (told : List (List Given)) (k : ℕ)
    → first_writes (map writes_of told) k ≡ filter_map write_in (flat_map (λ b. b) (take k told))
writes_of_first told zero = refl
writes_of_first [] (suc k) = refl
writes_of_first (batch ∷ told) (suc k) =
    ap (λ l. writes_of batch ++ l) (writes_of_first told k)
    ∙ sym (filter_map-append write_in batch (flat_map (λ b. b) (take k told)))

-- the lines of the first batches are those of what they give
pub lines_of_first : (told : List (List Given)) (k : ℕ)
    → flat_map (λ b. b) (take k (lines_of told)) ≡ map line_of (flat_map (λ b. b) (take k told))
lines_of_first told zero = refl
lines_of_first [] (suc k) = refl
lines_of_first (batch ∷ told) (suc k) =
    ap (λ l. map line_of batch ++ l) (lines_of_first told k)
    ∙ sym (map-append line_of batch (flat_map (λ b. b) (take k told)))

-- so the cost of the last write of the first batches is that of the last of their lines
last_of_first : (first : CellMap) (told : List (List Given)) (k u v : ℕ) (o : Option ℕ)
    → found_or (last_cost (first_writes (map writes_of told) k) (pos u) (pos v)) o
    ≡ last_or o (flat_map (cost_in u v) (map_with first told k).changed)
last_of_first first told k u v o =
    ap (λ l. found_or (last_cost l (pos u) (pos v)) o) (writes_of_first told k)
    ∙ last_given (flat_map (λ b. b) (take k told)) u v o
    ∙ ap (λ l. last_or o (flat_map (cost_in u v) l)) (sym (lines_of_first told k))

-- ---- cells of the map

-- the cost of a cell of the map stands at its index
cost_inside : (m : CellMap) (u v : ℕ) → u < m.width → v < m.height
    → cost_at m (pos u) (pos v) ≡ slice_get m.costs (v * m.width + u)
cost_inside m u v wide high =
    rw (and_from (nat_lt u m.width) (nat_lt v m.height) (lt-ltb u m.width wide) (lt-ltb v m.height high)) refl

-- the cost of a cell of the map after the first batches is that of the last line that gives it one
cost_told : (first : CellMap) (told : List (List Given)) (k u v : ℕ) → u < first.width → v < first.height
    → cost_after first (map writes_of told) k (pos u) (pos v)
    ≡ last_or (slice_get first.costs (v * first.width + u)) (flat_map (cost_in u v) (map_with first told k).changed)
cost_told first told k u v wide high =
    ap (λ o. found_or (last_cost (first_writes (map writes_of told) k) (pos u) (pos v)) o)
    (cost_inside first u v wide high)
    ∙ last_of_first first told k u v (slice_get first.costs (v * first.width + u))

-- a cell that has a cost after the first batches has it on the headline's map
costs_by_map : (first now : CellMap) (told : List (List Given)) (k : ℕ) → IsMapAfter first (map writes_of told) k now
    → (x y : ℤ) (c : ℕ) → cost_at now x y ≡ Some c → Costs (map_with first told k) x y c
costs_by_map first now told k after (pos u) (pos v) c h =
    elim (cases_Bool (nat_lt u now.width && nat_lt v now.height)) [
      | inl e ↦ let both = and_parts (nat_lt u now.width) (nat_lt v now.height) e in
          let wide : u < first.width = rw (← after.width) (ltb-true u now.width both.0) in
          let high : v < first.height = rw (← after.height) (ltb-true v now.height both.1) in
          record {
            u = u;
            v = v;
            on_map = (refl, wide, refl, high);
            last = sym (cost_told first told k u v wide high) ∙ sym (after.costs (pos u) (pos v)) ∙ h;
          }
      | inr e ↦ absurd (none-some c (rw e at h))
    ]
costs_by_map first now told k after (pos u) (negsuc v) c h = absurd (none-some c h)
costs_by_map first now told k after (negsuc u) y c h = absurd (none-some c h)

-- and a cell that has a cost on the headline's map has it after the first batches
map_by_costs : (first now : CellMap) (told : List (List Given)) (k : ℕ) → IsMapAfter first (map writes_of told) k now
    → (x y : ℤ) (c : ℕ) → Costs (map_with first told k) x y c → cost_at now x y ≡ Some c
map_by_costs first now told k after x y c h =
    let on = h.on_map in
    ap (λ z. cost_at now z y) on.0 ∙ ap (λ z. cost_at now (pos h.u) z) on.2
    ∙ after.costs (pos h.u) (pos h.v) ∙ cost_told first told k h.u h.v on.1 on.3 ∙ h.last

-- the costs of cells after the first batches are those of the headline's map with their lines
pub costs_are : (first now : CellMap) (told : List (List Given)) (k : ℕ) → IsMapAfter first (map writes_of told) k now
    → (x y : ℤ) (c : ℕ) → (cost_at now x y ≡ Some c) ↔ Costs (map_with first told k) x y c
costs_are first now told k after x y c =
    (costs_by_map first now told k after x y c, map_by_costs first now told k after x y c)
