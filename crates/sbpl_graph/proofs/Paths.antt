-- The two facts on labels that show a bound, or that there is no path.
use Rattle.std.proofs.Common.{◌≡◌, ℕ, ◌+◌, ◌<◌, ◌≤◌, List, [], ◌∷◌, subst, arith, ⊎_elim}
use Rattle.std.proofs.lemmas.Bool.{cases_lt, cases_eq}
use Rattle.sbpl_graph.specs.declared.TheConstants.{FAR}
use Rattle.sbpl_graph.specs.Network.{Network, IsFreeArc}
use Rattle.sbpl_graph.specs.Laws.{IsSound, IsConsistent}
use Rattle.sbpl_graph.specs.Path.{IsFreePath}
use Rattle.sbpl_graph.specs.Certificate.{IsLabel, ShowBound, ShowNone, BoundHolds, NoneHolds}

-- a consistent guide is at most the cost of each free path to the goal
pub guide_at_most : (n : Network) (goal : ℕ) (h : ℕ → ℕ) → IsConsistent n goal h
    → (s : ℕ) (arcs : List ℕ) (cost : ℕ) → IsFreePath n s arcs goal cost → h s ≤ cost
guide_at_most n goal h con s [] cost p =
    let zero_here : h s ≡ 0 = rw p.0 con.at_goal in omega arith
guide_at_most n goal h con s (k ∷ ks) cost p =
    let rest = guide_at_most n goal h con p.0 ks p.2 p.4 in
    let step = con.along s k p.0 p.1 p.3 in
    omega (arith, p.5)

-- the head of a free arc is a state
pub head_inside : (n : Network) → IsSound n → (s k t c : ℕ) → IsFreeArc n s k t c → t < n.states
head_inside n sound s k t c arc = sound.head_is_state s k t arc.source arc.number arc.head

-- no label is above infinity
pub label_at_most : (x : ℕ) → IsLabel x → x ≤ FAR
label_at_most x label = ⊎_elim (λ e. omega arith) (λ small. omega arith) label

-- a free path from a state ends at a state
pub end_inside : (n : Network) → IsSound n → (s : ℕ) (arcs : List ℕ) (t cost : ℕ) → s < n.states
    → IsFreePath n s arcs t cost
    → t < n.states
end_inside n sound s [] t cost inside p = subst (λ x. x < n.states) p.0 inside
end_inside n sound s (k ∷ ks) t cost inside p =
    end_inside n sound p.0 ks t p.2 (head_inside n sound s k p.0 p.1 p.3) p.4

module _ (n : Network) (start goal low : ℕ) (g v h : ℕ → ℕ) (sound : IsSound n)
    (shown : ShowBound n start goal g v h low) where
  -- low is at most the label of a state and the cost of a free path from there to the goal
  pub low_at_most : (s : ℕ) (arcs : List ℕ) (cost : ℕ) → s < n.states → IsFreePath n s arcs goal cost → low ≤ g s + cost
  low_at_most s [] cost inside p =
      let at_goal : low ≤ g s = rw p.0 shown.at_goal in omega arith
  low_at_most s (k ∷ ks) cost inside p =
      let rest = low_at_most p.0 ks p.2 (head_inside n sound s k p.0 p.1 p.3) p.4 in
      let guided = guide_at_most n goal h shown.consistent s (k ∷ ks) cost p in
      let goal_inside = end_inside n sound s (k ∷ ks) goal cost inside p in
      let goal_label = label_at_most (g goal) (shown.supported.labels goal goal_inside).0 in
      let at_goal = shown.at_goal in
      let settled : v s ≡ g s → low ≤ g s + cost = λ same.
      ⊎_elim
      (λ near. let step = shown.supported.along s k p.0 p.1 p.3 near in omega (arith, p.5))
      (λ far. omega arith)
      (cases_lt (v s) FAR) in
      ⊎_elim settled (λ differ. let above = shown.unsettled s inside differ in omega arith) (cases_eq (v s) (g s))

-- a finite label stays finite by the cost of one arc
pub stays_near : (n : Network) → IsSound n → (x s k t c : ℕ) → IsLabel x → x < FAR → IsFreeArc n s k t c → x + c < FAR
stays_near n sound x s k t c label near arc =
    let small = sound.cost_fits s k c arc.source arc.number arc.cost in
    ⊎_elim (λ far. absurd (omega arith)) (λ low. omega arith) label

-- from a state of finite label no free path leads to the goal
pub no_path_from : (n : Network) (start goal : ℕ) (g v : ℕ → ℕ) → IsSound n → ShowNone n start goal g v
    → (s : ℕ) (arcs : List ℕ) (cost : ℕ) → s < n.states → g s < FAR → IsFreePath n s arcs goal cost → ⊥
no_path_from n start goal g v sound shown s [] cost inside near p =
    let far : g s ≡ FAR = rw p.0 shown.goal_is_far in omega arith
no_path_from n start goal g v sound shown s (k ∷ ks) cost inside near p =
    let settled = shown.closed s inside near in
    let step = shown.supported.along s k p.0 p.1 p.3 settled in
    let sum_near = stays_near n sound (v s) s k p.0 p.1 (shown.supported.labels s inside).1 settled p.3 in
    let head_near : g p.0 < FAR = omega arith in
    no_path_from n start goal g v sound shown p.0 ks p.2 (head_inside n sound s k p.0 p.1 p.3) head_near p.4

pub bound_holds_lem : BoundHolds
bound_holds_lem n start goal low g v h sound shown [] cost p =
    let at_goal : low ≤ g start = rw p.0 shown.at_goal in
    omega (arith, shown.supported.from_start)
bound_holds_lem n start goal low g v h sound shown (k ∷ ks) cost p =
    let whole = low_at_most n start goal low g v h sound shown start (k ∷ ks) cost p.3.source p in
    omega (arith, shown.supported.from_start)

pub none_holds_lem : NoneHolds
none_holds_lem n start goal g v sound shown [] cost p =
    let far : g start ≡ FAR = rw p.0 shown.goal_is_far in
    omega (arith, shown.supported.from_start)
none_holds_lem n start goal g v sound shown (k ∷ ks) cost p =
    let near : g start < FAR = omega (arith, shown.supported.from_start) in
    no_path_from n start goal g v sound shown start (k ∷ ks) cost p.3.source near p
