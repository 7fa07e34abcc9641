-- The least way to a state over the tails below a number, with one more tail.
use Rattle.std.proofs.Common.{◌≡◌, ℕ, ◌+◌, ◌<◌, ◌≤◌, Option, Some, None, arith, ⊎_elim, refl, sym, ap, subst, ◌∙◌}
use Rattle.std.proofs.lemmas.Bool.{cases_lt}
use Rattle.std.proofs.lemmas.Option.{same_Some}
use Rattle.sbpl_graph.specs.declared.TheConstants.{FAR}
use Rattle.sbpl_graph.specs.Network.{Network}
use Rattle.sbpl_graph.proofs.Keeping.{same_arc}
use Rattle.sbpl_labels.specs.declared.row.Row.{Row}
use Rattle.sbpl_labels.specs.Marks.{Marks, ChangesRow, v_of}
use Rattle.sbpl_labels.specs.Recomputed.{IsWay, IsRecomputed, Recomputes}
use Rattle.sbpl_labels.specs.Ways.{IsLeastWay, IsLeastBelow, limit_of}

module _ (n : Network) (v : ℕ → ℕ) (t : ℕ) where
  -- a tail is at most one way
  pub same_sum : {j s k c a l d : ℕ} → IsWay n v t j s k c → IsWay n v t j a l d → v a + d ≡ v s + c
  same_sum {j} {s} {k} {c} {a} {l} {d} way other =
      let arcs = same_arc a l s k (sym other.tail.tail ∙ way.tail.tail) in
      let own : n.cost s k ≡ Some d = rw (← arcs.0, ← arcs.1) other.free.cost in
      let cost : d ≡ c = same_Some d c (sym own ∙ way.free.cost) in
      rw (arcs.0, cost) refl

  module _ (i : ℕ) where
    at_or_below : (P : ℕ → Type 0) → ((x : ℕ) → x < i → P x) → P i → (x : ℕ) → x < i + 1 → P x
    at_or_below P below here x inside =
        ⊎_elim (λ (before : x < i). below x before)
        (λ (after : i ≤ x). let at : x ≡ i = omega arith in rw at here) (cases_lt x i)

    -- tail i is the first way
    way_found : {g s k c : ℕ} → ((j a l d : ℕ) → j < i → IsWay n v t j a l d → ⊥) → IsWay n v t i s k c → g ≡ v s + c
        → IsLeastWay n v t (i + 1) g i s k c
    way_found {g} none way gives = record {
      below = omega arith;
      way = way;
      gives = gives;
      least = λ x a l d inside.
          at_or_below (λ y. IsWay n v t y a l d → g ≤ v a + d) (λ y before other. absurd (none y a l d before other))
          (λ other. omega (arith, same_sum way other)) x inside;
      first = λ x a l d before other. absurd (none x a l d before other);
    }

    -- tail i gives less than the least way so far
    way_lower : {g g' j s k c s' k' c' : ℕ} → IsLeastWay n v t i g j s k c → IsWay n v t i s' k' c'
        → g' ≡ v s' + c' → g' < g
        → IsLeastWay n v t (i + 1) g' i s' k' c'
    way_lower {g} {g'} best way gives low = record {
      below = omega arith;
      way = way;
      gives = gives;
      least = λ x a l d inside.
          at_or_below (λ y. IsWay n v t y a l d → g' ≤ v a + d)
          (λ y before other. omega (arith, best.least y a l d before other))
          (λ other. omega (arith, same_sum way other)) x inside;
      first = λ x a l d before other. omega (arith, best.least x a l d before other);
    }

    -- tail i gives no less
    way_kept : {g j s k c : ℕ} → IsLeastWay n v t i g j s k c → ((a l d : ℕ) → IsWay n v t i a l d → g ≤ v a + d)
        → IsLeastWay n v t (i + 1) g j s k c
    way_kept {g} best above = record {
      below = omega (arith, best.below);
      way = best.way;
      gives = best.gives;
      least = λ x a l d inside.
          at_or_below (λ y. IsWay n v t y a l d → g ≤ v a + d) (λ y. best.least y a l d) (above a l d) x inside;
      first = best.first;
    }

    -- no way over tail i gives less than the least so far
    pub least_kept : (best : Option ((ℕ × ℕ) × ℕ)) → IsLeastBelow n v t i best
        → ((a l d : ℕ) → IsWay n v t i a l d → (limit_of best ≤ v a + d) × (v a + d < FAR))
        → IsLeastBelow n v t (i + 1) best
    least_kept None least above =
        λ j s k c inside.
        at_or_below (λ y. IsWay n v t y s k c → ⊥) (λ y. least y s k c)
        (λ way. let over = above s k c way in absurd (omega (arith, over.0, over.1))) j inside
    least_kept (Some ((s, k), g)) least above = (least.0, least.1, way_kept least.2 (λ a l d way. (above a l d way).0))

    -- the way over tail i does
    pub least_found : (best : Option ((ℕ × ℕ) × ℕ)) (s k c g : ℕ) → IsLeastBelow n v t i best → IsWay n v t i s k c
        → g ≡ v s + c → g < limit_of best
        → IsLeastBelow n v t (i + 1) (Some ((s, k), g))
    least_found None s k c g least way gives low = (i, c, way_found least way gives)
    least_found (Some ((s', k'), g')) s k c g least way gives low = (i, c, way_lower least.2 way gives low)

    -- what a way over tail i comes from and costs
    pub way_over : {s k a l d : ℕ} → n.tail t i ≡ Some (s, k) → IsWay n v t i a l d
        → (n.cost s k ≡ Some d) × (v a ≡ v s)
    way_over {s} {k} {a} {l} {d} tail way =
        let arcs = same_arc a l s k (sym way.tail.tail ∙ tail) in
        (rw (← arcs.0, ← arcs.1) way.free.cost, rw arcs.0 refl)

-- the least of all ways is what recomputing gives
recomputed_least : {n : Network} {v : ℕ → ℕ} {t s k g : ℕ} → IsLeastBelow n v t (n.tail_fan t) (Some ((s, k), g))
    → IsRecomputed n v t g (Some (s, k))
recomputed_least least = (
  least.0,
  least.1,
  record {
    way = least.2.way;
    gives = least.2.gives;
    least = λ i a l d way. least.2.least i a l d way.tail.number way;
    first = least.2.first;
  },
)

pub recomputes_least : {n : Network} {old new : Marks} {t s k g : ℕ}
    → IsLeastBelow n (v_of old) t (n.tail_fan t) (Some ((s, k), g))
    → ChangesRow old new t (record { g = g; v = v_of old t; back = Some (s, k) }) → Recomputes n old new t
recomputes_least {n} {old} {new} {t} {s} {k} {g} least changed =
    let is = recomputed_least least in
    record {
      same_start = changed.start;
      same_states = changed.states;
      recomputed =
          subst (λ (r : Row). IsRecomputed n (v_of old) t r.g r.back) (sym changed.at) is;
      same_v = ap (λ (r : Row). r.v) changed.at;
      others = changed.others;
    }
