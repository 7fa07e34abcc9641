-- How often an arc is among those that are ready or out.
use Rattle.std.proofs.Common.{◌≡◌, ◌≢◌, ℕ, zero, suc, ◌+◌, ◌<◌, ◌≤◌, true, false, not, nat_eq, cond, Option, Some, None}
use Rattle.std.proofs.Common.{List, [], ◌∷◌, ◌++◌, IsSome, arith, ⊎_elim, refl, sym, ap}
use Rattle.std.proofs.lemmas.Bool.{cases_eq, cases_lt}
use Rattle.std.proofs.lemmas.Bool.Decides.{nat_tests}
use Rattle.sbpl_serial.specs.sbpl_graph.Network.{Network}
use Rattle.sbpl_frontier_rules.specs.declared.leg.Leg.{Leg}
use Rattle.sbpl_frontier_rules.specs.Frontier.{Frontier, times_ready, times_out, times_due, with_head, arcs_below}
use Rattle.sbpl_frontier_rules.specs.Events.{IsTaking}

-- an arc is due where it is counted, and idle where it is not
pub idle_from_none : (count : ℕ) → count ≡ 0 → not (nat_eq count 0) ≡ false
idle_from_none count none = grind (arith, nat_tests)

pub none_from_idle : (count : ℕ) → not (nat_eq count 0) ≡ false → count ≡ 0
none_from_idle count idle =
    ⊎_elim (λ (none : count ≡ 0). none) (λ (some : count ≢ 0). absurd (grind (arith, nat_tests))) (cases_eq count 0)

pub due_from_some : (count : ℕ) → 0 < count → not (nat_eq count 0) ≡ true
due_from_some count some = grind (arith, nat_tests)

pub some_from_due : (count : ℕ) → not (nat_eq count 0) ≡ true → 0 < count
some_from_due count due =
    ⊎_elim (λ (none : count ≡ 0). absurd (grind (arith, nat_tests)))
    (λ (some : count ≢ 0). omega arith) (cases_eq count 0)

-- 1 where arc j of a is arc k of s, and 0 where it is not
abbrev pub one_at : (a j s k : ℕ) → ℕ
one_at a j s k = cond (nat_eq a s) (cond (nat_eq j k) 1 0) 0

pub one_here : (s k : ℕ) → one_at s k s k ≡ 1
one_here s k = grind (arith, nat_tests)

pub one_few : (a j s k : ℕ) → one_at a j s k ≤ 1
one_few a j s k = grind (arith, nat_tests)

pub same_from_one : (a j s k : ℕ) → 0 < one_at a j s k → (a ≡ s) × (j ≡ k)
same_from_one a j s k some =
    ⊎_elim
    (λ (same : a ≡ s).
    ⊎_elim (λ (at : j ≡ k). (same, at)) (λ (other : j ≢ k). absurd (grind (arith, nat_tests))) (cases_eq j k))
    (λ (other : a ≢ s). absurd (grind (arith, nat_tests)))
    (cases_eq a s)

-- lists joined
pub ready_append : (xs ys : List (ℕ × ℕ)) (s k : ℕ)
    → times_ready (xs ++ ys) s k ≡ times_ready xs s k + times_ready ys s k
ready_append [] ys s k = omega arith
ready_append (arc ∷ rest) ys s k = omega (arith, ready_append rest ys s k)

pub out_append : (xs ys : List Leg) (s k : ℕ) → times_out (xs ++ ys) s k ≡ times_out xs s k + times_out ys s k
out_append [] ys s k = omega arith
out_append (leg ∷ rest) ys s k = omega (arith, out_append rest ys s k)

-- one arc, if it has a head
headed_few : (head : Option ℕ) (s i a j : ℕ) → times_ready (with_head head (s, i)) a j ≤ 1
headed_few None s i a j = omega arith
headed_few (Some t) s i a j = omega (arith, one_few s i a j)

headed_is : (head : Option ℕ) (s i a j : ℕ) → 0 < times_ready (with_head head (s, i)) a j
    → (a ≡ s) × (j ≡ i) × IsSome head
headed_is None s i a j some = absurd (omega arith)
headed_is (Some t) s i a j some = let same = same_from_one s i a j (omega arith) in (sym same.0, sym same.1, refl)

headed_has : (head : Option ℕ) (t s i : ℕ) → head ≡ Some t → 1 ≤ times_ready (with_head head (s, i)) s i
headed_has None t s i is = absurd (cc)
headed_has (Some u) t s i is = omega (arith, one_here s i)

-- what an arc among the first ones of a state is
pub record IsArcBelow (n : Network) (s i a j : ℕ) : Type 0 where
  pub state : a ≡ s
  pub number : j < i
  pub headed : IsSome (n.head s j)

module _ (n : Network) (s : ℕ) where
  pub arc_below : (i a j : ℕ) → 0 < times_ready (arcs_below n s i) a j → IsArcBelow n s i a j
  arc_below zero a j some = absurd (omega arith)
  arc_below (suc i) a j some =
      let joined = ready_append (arcs_below n s i) (with_head (n.head s i) (s, i)) a j in
      ⊎_elim
      (λ (earlier : 0 < times_ready (arcs_below n s i) a j).
      let found = arc_below i a j earlier in
      record { state = found.state; number = omega (arith, found.number); headed = found.headed })
      (λ (none : times_ready (arcs_below n s i) a j ≤ 0).
      let found = headed_is (n.head s i) s i a j (omega arith) in
      record { state = found.0; number = omega (arith, found.1); headed = rw found.1 found.2 })
      (cases_lt 0 (times_ready (arcs_below n s i) a j))

  -- each is there once
  pub arcs_below_few : (i a j : ℕ) → times_ready (arcs_below n s i) a j ≤ 1
  arcs_below_few zero a j = omega arith
  arcs_below_few (suc i) a j =
      let joined = ready_append (arcs_below n s i) (with_head (n.head s i) (s, i)) a j in
      ⊎_elim
      (λ (earlier : 0 < times_ready (arcs_below n s i) a j).
      let found = arc_below i a j earlier in
      ⊎_elim
      (λ (here : 0 < times_ready (with_head (n.head s i) (s, i)) a j).
      let at = headed_is (n.head s i) s i a j here in
      absurd (omega (arith, found.number, at.1)))
      (λ (none : times_ready (with_head (n.head s i) (s, i)) a j ≤ 0). omega (arith, arcs_below_few i a j))
      (cases_lt 0 (times_ready (with_head (n.head s i) (s, i)) a j)))
      (λ (none : times_ready (arcs_below n s i) a j ≤ 0). omega (arith, headed_few (n.head s i) s i a j))
      (cases_lt 0 (times_ready (arcs_below n s i) a j))

  -- one that has a head is among them
  pub arcs_below_has : (i j t : ℕ) → j < i → n.head s j ≡ Some t → 1 ≤ times_ready (arcs_below n s i) s j
  arcs_below_has zero j t below head = absurd (omega arith)
  arcs_below_has (suc i) j t below head =
      let joined = ready_append (arcs_below n s i) (with_head (n.head s i) (s, i)) s j in
      ⊎_elim
      (λ (at : j ≡ i).
      let head' : n.head s i ≡ Some t = rw (← at) head in
      let has : 1 ≤ times_ready (with_head (n.head s i) (s, i)) s j = rw at (headed_has (n.head s i) t s i head') in
      omega arith)
      (λ (apart : j ≢ i). omega (arith, arcs_below_has i j t (omega arith) head))
      (cases_eq j i)

-- an arc that is handed out stays as often due
pub due_taken : (old new : Frontier) (leg : Leg) → IsTaking old leg new → (s k : ℕ)
    → times_due new s k ≡ times_due old s k
due_taken old new leg taking s k =
    let was : times_ready old.ready s k ≡ times_ready (taking.before ++ (leg.state, leg.arc) ∷ taking.after) s k =
    ap (λ arcs. times_ready arcs s k) taking.was_ready in
    let is : times_ready new.ready s k ≡ times_ready (taking.before ++ taking.after) s k =
    ap (λ arcs. times_ready arcs s k) taking.ready in
    let out : times_out new.out s k ≡ times_out (old.out ++ leg ∷ []) s k =
    ap (λ legs. times_out legs s k) taking.out in
    omega (
      arith,
      ready_append taking.before ((leg.state, leg.arc) ∷ taking.after) s k,
      ready_append taking.before taking.after s k,
      out_append old.out (leg ∷ []) s k,
    )
