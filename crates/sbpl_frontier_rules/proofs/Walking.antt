-- A state that may be opened has a bounded g: the walk along a free path to it.
use Rattle.std.proofs.Common.{◌≡◌, ℕ, ◌+◌, ◌-◌, ◌*◌, ◌<◌, ◌≤◌, true, false, List, [], ◌∷◌, ◌++◌, arith, ⊎_elim, inl}
use Rattle.std.proofs.Common.{inr, refl, sym, subst, ◌∙◌}
use Rattle.std.proofs.Math.Nat.{mul-le-mul_left, mul-le-mul_right}
use Rattle.std.proofs.lemmas.Bool.{cases_Bool, cases_lt, false_from_ne_true, true≢false}
use Rattle.sbpl_serial.specs.sbpl_graph.declared.TheConstants.{FAR}
use Rattle.sbpl_serial.specs.sbpl_graph.Laws.{HasGaps, IsConsistent}
use Rattle.sbpl_serial.specs.sbpl_graph.Network.{Network, IsFreeArc}
use Rattle.sbpl_serial.specs.sbpl_graph.Path.{IsFreePath}
use Rattle.sbpl_serial.proofs.Paths.{head_inside, stays_near}
use Rattle.sbpl_serial.specs.sbpl_labels.Marks.{g_of, v_of}
use Rattle.sbpl_serial.specs.sbpl_search.Query.{Query}
use Rattle.sbpl_serial.specs.Run.{IsOver}
use Rattle.sbpl_serial.proofs.Keys.{key_over}
use Rattle.sbpl_frontier_rules.specs.Events.{MayOpen}
use Rattle.sbpl_frontier_rules.specs.Frontier.{Frontier, is_due, is_opened}
use Rattle.sbpl_frontier_rules.specs.Independent.{IsClearOf, IsOpenIn}
use Rattle.sbpl_frontier_rules.specs.Kept.{IsKept}
use Rattle.sbpl_frontier_rules.specs.Laws.{IsLawful}

-- a free path and a free arc from its end are a free path
pub path_then : (n : Network) (s : ℕ) (arcs : List ℕ) (u a k t c : ℕ) → IsFreePath n s arcs u a → IsFreeArc n u k t c
    → IsFreePath n s (arcs ++ k ∷ []) t (a + c)
path_then n s [] u a k t c path arc =
    (t, c, 0, subst (λ (x : ℕ). IsFreeArc n x k t c) (sym path.0) arc, (refl, refl), omega arith)
path_then n s (j ∷ rest) u a k t c path arc =
    (path.0, path.1, path.2 + c, path.3, path_then n path.0 rest u path.2 k t c path.4 arc, omega arith)

-- the gap between two states is at most the cost of each free path from the one to the other
pub gap_at_most : (n : Network) → HasGaps n → (p : ℕ) (arcs : List ℕ) (s cost : ℕ) → s < n.states
    → IsFreePath n p arcs s cost
    → n.gap p s ≤ cost
gap_at_most n gaps p [] s cost inside path =
    let none : n.gap p s ≡ 0 = rw path.0 (gaps.to_itself s inside) in omega arith
gap_at_most n gaps p (k ∷ rest) s cost inside path =
    let after = gap_at_most n gaps path.0 rest s path.2 inside path.4 in
    let step = gaps.along p k path.0 path.1 s path.3 inside in
    omega (arith, path.5)

-- a consistent guide falls along a free path by at most what it costs
pub guide_falls : (n : Network) (goal : ℕ) (h : ℕ → ℕ) → IsConsistent n goal h → (p : ℕ) (arcs : List ℕ) (s cost : ℕ)
    → IsFreePath n p arcs s cost → h p ≤ cost + h s
guide_falls n goal h consistent p [] s cost path =
    let same : h p ≡ h s = rw path.0 refl in omega arith
guide_falls n goal h consistent p (k ∷ rest) s cost path =
    let after = guide_falls n goal h consistent path.0 rest s path.2 path.4 in
    let step = consistent.along p k path.0 path.1 path.3 in
    omega (arith, path.5)

-- one arc further: at an inflation of at least one its cost is added at least once
more_times : (eps spent next g c : ℕ) → 1000 ≤ eps → g ≤ next + c → 1000 * next ≤ eps * spent
    → 1000 * g ≤ eps * (spent + c)
more_times eps spent next g c one above within =
    let once = mul-le-mul_right c one in omega arith

module _ (q : Query) (f : Frontier) (s : ℕ) (lawful : IsLawful q) (kept : IsKept q f) (may : MayOpen q f s) where
  -- s is one of the states
  inside : s < q.network.states
  inside = omega (arith, may.inside, kept.states)

  -- from a state of bounded g that s is clear of, s has a bounded g
  by_clear : (p spent rest : ℕ) → 1000 * g_of f.labels p ≤ q.eps * spent → q.network.gap p s ≤ rest
      → IsClearOf q f.labels s p
      → 1000 * g_of f.labels s ≤ q.eps * (spent + rest)
  by_clear p spent rest within gap clear =
      let most = mul-le-mul_left q.eps gap in
      ⊎_elim (λ (above : g_of f.labels s ≤ g_of f.labels p). omega arith)
      (λ (near : 1000 * (g_of f.labels s - g_of f.labels p) ≤ q.eps * q.network.gap p s). omega arith) clear

  -- from an open state of bounded g whose key does not begin with less than that of s, s has a bounded g
  by_order : (p spent rest : ℕ) → 1000 * g_of f.labels p ≤ q.eps * spent → q.guide p ≤ rest + q.guide s
      → 1000 * g_of f.labels s + q.eps * q.guide s ≤ 1000 * g_of f.labels p + q.eps * q.guide p
      → 1000 * g_of f.labels s ≤ q.eps * (spent + rest)
  by_order p spent rest within falls order =
      let most = mul-le-mul_left q.eps falls in omega arith

  -- so from each open state of bounded g: it comes before s, which is clear of it, or its key does not begin with less
  by_open : (p spent rest : ℕ) → 1000 * g_of f.labels p ≤ q.eps * spent → q.network.gap p s ≤ rest
      → q.guide p ≤ rest + q.guide s
      → IsOpenIn f p → IsOver f.labels p → 1000 * g_of f.labels s ≤ q.eps * (spent + rest)
  by_open p spent rest within gap falls is_open over =
      let own = key_over q.eps q.guide f.labels s may.over in
      let other = key_over q.eps q.guide f.labels p over in
      ⊎_elim
      (λ (before : 1000 * g_of f.labels p + q.eps * q.guide p < 1000 * g_of f.labels s + q.eps * q.guide s).
      by_clear p spent rest within gap (may.independent.of_earlier p is_open (rw (own, other) (inl (inl before)))))
      (λ after. by_order p spent rest within falls after)
      (cases_lt (1000 * g_of f.labels p + q.eps * q.guide p) (1000 * g_of f.labels s + q.eps * q.guide s))

  -- The walk: these arcs lead to p, whose g is finite and bounded
  -- by what they cost, and more arcs lead from p to s. Where p is
  -- busy with the next arc or open, the walk ends there; otherwise the next state has a bounded g too.
  walk : (arcs : List ℕ) (p spent : ℕ) → p < q.network.states → IsFreePath q.network f.labels.start arcs p spent
      → g_of f.labels p < FAR → 1000 * g_of f.labels p ≤ q.eps * spent
      → (more : List ℕ) (rest : ℕ) → IsFreePath q.network p more s rest
      → 1000 * g_of f.labels s ≤ q.eps * (spent + rest)
  walk arcs p spent place path near within [] rest on =
      let same : g_of f.labels s ≡ g_of f.labels p = rw on.0 refl in
      let most : q.eps * spent ≤ q.eps * (spent + rest) = mul-le-mul_left q.eps (omega arith) in
      omega arith
  walk arcs p spent place path near within (k ∷ more) rest on =
      let u = on.0 in
      let c = on.1 in
      let arc = on.3 in
      let gap = gap_at_most q.network lawful.gaps p (k ∷ more) s rest inside on in
      let falls = guide_falls q.network q.goal q.guide lawful.consistent p (k ∷ more) s rest on in
      let onward : is_due f p k ≡ false → v_of f.labels p < FAR → 1000 * v_of f.labels p ≤ q.eps * spent
      → 1000 * g_of f.labels s ≤ q.eps * (spent + rest) =
      λ idle near_v within_v.
      let given = kept.arcs.used p k u c idle arc near_v in
      let label = (kept.labels.labels p (omega (arith, kept.states))).1 in
      let sum = stays_near q.network lawful.sound (v_of f.labels p) p k u c label near_v arc in
      let bound = more_times q.eps spent (v_of f.labels p) (g_of f.labels u) c lawful.inflation given within_v in
      let whole =
      walk (arcs ++ k ∷ []) u (spent + c) (head_inside q.network lawful.sound p k u c arc)
      (path_then q.network f.labels.start arcs p spent k u c path arc) (omega arith) bound more on.2 on.4 in
      let total : spent + rest ≡ spent + c + on.2 = omega (arith, on.5) in
      rw total whole in
      ⊎_elim
      (λ (opened : is_opened f p ≡ true).
      ⊎_elim
      (λ (due : is_due f p k ≡ true).
      by_clear p spent rest within gap (may.independent.of_busy p (record { opened = opened; arc = k; due = due })))
      (λ (idle : is_due f p k ≡ false).
      onward idle (kept.bounded.near p opened) (kept.bounded.within p arcs spent opened path))
      (cases_Bool (is_due f p k)))
      (λ (fresh : is_opened f p ≡ false).
      let idle : is_due f p k ≡ false =
      false_from_ne_true _ (λ due. true≢false (sym (kept.of_opened p k due).opened ∙ fresh)) in
      ⊎_elim
      (λ (over : IsOver f.labels p).
      by_open p spent rest within gap falls
      (record { inside = omega (arith, kept.states); inconsistent = inr (over, fresh) }) over)
      (λ (settled : v_of f.labels p ≤ g_of f.labels p). onward idle (omega arith) (omega arith))
      (cases_lt (g_of f.labels p) (v_of f.labels p)))
      (cases_Bool (is_opened f p))

-- over a kept frontier g of a state that may be opened is at most the inflation times the cost of every free path to it
pub opening_bounded : (q : Query) (f : Frontier) (s : ℕ) → IsLawful q → IsKept q f → MayOpen q f s
    → (arcs : List ℕ) (cost : ℕ)
    → IsFreePath q.network f.labels.start arcs s cost → 1000 * g_of f.labels s ≤ q.eps * cost
opening_bounded q f s lawful kept may arcs cost path =
    let at_start = kept.arcs.from_start in
    let place : f.labels.start < q.network.states = omega (arith, kept.labels.start_inside, kept.states) in
    let whole =
    walk q f s lawful kept may [] f.labels.start 0 place (refl, refl) (omega arith) (omega arith) arcs cost path in
    omega arith
