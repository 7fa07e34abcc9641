-- With inflation one each opened state of a kept frontier has v = g: back arcs make a path that costs no more than g.
use Rattle.std.proofs.Common.{◌≡◌, ◌≢◌, ℕ, zero, suc, ◌+◌, ◌*◌, ◌<◌, ◌≤◌, Bool, true, false, Option, Some, None, List}
use Rattle.std.proofs.Common.{[], ◌∷◌, ◌++◌, length, arith, ⊎_elim, refl, sym, ◌∙◌}
use Rattle.std.proofs.lemmas.Bool.{cases_eq, cases_lt, true≢false}
use Rattle.std.proofs.lemmas.List.{get_or_past}
use Rattle.sbpl_serial.specs.sbpl_graph.declared.TheConstants.{FAR}
use Rattle.sbpl_serial.specs.sbpl_graph.Kept.{AreKept, NoneUnder}
use Rattle.sbpl_serial.specs.sbpl_graph.Laws.{IsSound}
use Rattle.sbpl_serial.specs.sbpl_graph.Network.{Network}
use Rattle.sbpl_serial.specs.sbpl_graph.Path.{IsFreePath}
use Rattle.sbpl_serial.specs.sbpl_labels.Marks.{v_of}
use Rattle.sbpl_serial.specs.Marked.{closed_at}
use Rattle.sbpl_frontier_rules.specs.Laws.{SettledAtOne}
use Rattle.sbpl_frontier_rules.proofs.Walking.{path_then}

-- a free path from the start to a state that costs no more than g of that state
pub record IsReached (n : Network) (start : ℕ) (g : ℕ → ℕ) (t : ℕ) : Type 0 where
  pub arcs : List ℕ
  pub cost : ℕ
  pub path : IsFreePath n start arcs t cost
  pub cheap : cost ≤ g t

module _ {n : Network} {start : ℕ} {g v : ℕ → ℕ} {back : ℕ → Option (ℕ × ℕ)}
    {pending : ℕ → ℕ → Bool} (sound : IsSound n)
    (kept : AreKept n start g v back pending) (under : NoneUnder n.states g v) where
  -- where no state is underconsistent, back arcs lead to each state of finite g, one of lower g at a time
  reached_below : (count t : ℕ) → g t < count → t < n.states → g t < FAR → IsReached n start g t
  reached_below zero t below inside near = absurd (omega arith)
  reached_below (suc count) t below inside near =
      ⊎_elim
      (λ (at : t ≡ start). record { arcs = []; cost = 0; path = (sym at, refl); cheap = omega arith })
      (λ (apart : t ≢ start).
      by_arc (λ p lower place finite. reached_below count p (omega arith) place finite) apart (back t) refl)
      (cases_eq t start)
    where
      by_arc : ((p : ℕ) → g p < g t → p < n.states → g p < FAR → IsReached n start g p) → t ≢ start
          → (arc : Option (ℕ × ℕ)) → back t ≡ arc → IsReached n start g t
      by_arc earlier apart None is = absurd (omega (arith, kept.far_without_arc t inside apart is))
      by_arc earlier apart (Some (p, k)) is =
          let found = kept.supports t p k inside apart is in
          let c = found.0 in
          let arc = found.1.free in
          let some = sound.cost_at_least_one p k c arc.source arc.number arc.cost in
          let over = under.at p arc.source in
          let sum = found.1.sum in
          let near_v = found.1.near in
          let before = earlier p (omega arith) arc.source (omega arith) in
          record {
            arcs = before.arcs ++ k ∷ [];
            cost = before.cost + c;
            path = path_then n start before.arcs p before.cost k t c before.path arc;
            cheap = omega (arith, before.cheap);
          }

  -- so each state of finite g is reached
  pub reached : (t : ℕ) → t < n.states → g t < FAR → IsReached n start g t
  reached t inside near = reached_below (suc (g t)) t (omega arith) inside near

-- a state that is opened is one of the states
pub opened_inside : (opened : List Bool) (s : ℕ) → closed_at opened s ≡ true → s < length opened
opened_inside opened s is =
    ⊎_elim (λ (inside : s < length opened). inside)
    (λ (past : length opened ≤ s). absurd (true≢false (sym is ∙ get_or_past opened s false past)))
    (cases_lt s (length opened))

-- the path costs at most g, and v is at most what it costs
pub settled_at_one : SettledAtOne
settled_at_one q f lawful one kept s opened =
    let inside : s < q.network.states = omega (arith, opened_inside f.opened s opened, kept.marks) in
    let over = kept.none_under.at s inside in
    let near = kept.bounded.near s opened in
    let way = reached lawful.sound kept.arcs kept.none_under s inside (omega arith) in
    let within : 1000 * v_of f.labels s ≤ 1000 * way.cost =
    rw one at (kept.bounded.within s way.arcs way.cost opened way.path) in
    omega (arith, way.cheap)
