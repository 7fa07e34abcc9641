-- A walk along back arcs, one arc at a time.
use Rattle.std.proofs.Common.{◌≡◌, ◌≢◌, ℕ, zero, suc, ◌+◌, ◌<◌, ◌≤◌, ◌++◌, min, cond, nat_lt, Option, Some}
use Rattle.std.proofs.Common.{None, List, [], ◌∷◌, length, reverse, refl, sym, subst, ap, arith, ⊎_elim}
use Rattle.std.proofs.Common.{◌∙◌, add-one, length-append}
use Rattle.std.proofs.lemmas.Bool.{cases_eq, cases_lt}
use Rattle.std.proofs.lemmas.Bool.Decides.{nat_tests}
use Rattle.std.proofs.lemmas.List.{length-reverse, reverse-append}
use Rattle.sbpl_graph.specs.declared.TheConstants.{FAR}
use Rattle.sbpl_graph.specs.Network.{Network, IsFreeArc}
use Rattle.sbpl_graph.specs.Path.{IsFreePath}
use Rattle.sbpl_graph.specs.Exact.{AreExact, GivesLabel}
use Rattle.sbpl_labels.specs.Chain.{chain_at, IsBackPath, IsWalk}

-- the lesser label of a state
abbrev pub least_of : (ℕ → ℕ) → (ℕ → ℕ) → ℕ → ℕ
least_of g v s = min (g s) (v s)

-- 1 where z is above x
pub one_above : ℕ → ℕ → ℕ
one_above x z = cond (nat_lt x z) 1 0

one_where_above : (x z : ℕ) → x < z → one_above x z ≡ 1
unfolding one_above
one_where_above x z less = grind (arith, nat_tests)

none_where_not : (x z : ℕ) → z ≤ x → one_above x z ≡ 0
unfolding one_above
none_where_not x z most = grind (arith, nat_tests)

one_at_most : (x z : ℕ) → one_above x z ≤ 1
one_at_most x z =
    ⊎_elim
    (λ (less : x < z). omega (arith, one_where_above x z less))
    (λ (most : z ≤ x). omega (arith, none_where_not x z most))
    (cases_lt x z)

one_falls : (x y z : ℕ) → x ≤ y → one_above y z ≤ one_above x z
one_falls x y z most =
    ⊎_elim
    (λ (less : x < z). let one = one_where_above x z less in let other = one_at_most y z in omega arith)
    (λ (past : z ≤ x). let none : one_above y z ≡ 0 = none_where_not y z (omega arith) in omega arith)
    (cases_lt x z)

-- how many of the states below this number have a g above x
pub above : (ℕ → ℕ) → ℕ → ℕ → ℕ
above g x zero = 0
above g x (suc s) = one_above x (g s) + above g x s

above_most : (g : ℕ → ℕ) (x states : ℕ) → above g x states ≤ states
unfolding above
above_most g x zero = omega arith
above_most g x (suc s) = let one = one_at_most x (g s) in let rest = above_most g x s in omega arith

above_falls : (g : ℕ → ℕ) (x y states : ℕ) → x ≤ y → above g y states ≤ above g x states
unfolding above
above_falls g x y zero at_most = omega arith
above_falls g x y (suc s) at_most =
    let one = one_falls x y (g s) at_most in let rest = above_falls g x y s at_most in omega arith

above_more : (g : ℕ → ℕ) (x states i : ℕ) → i < states → x < g i → above g (g i) states + 1 ≤ above g x states
unfolding above
above_more g x zero i inside lower = absurd (omega arith)
above_more g x (suc s) i inside lower =
    ⊎_elim
    (λ (here : i ≡ s).
    let same : g i ≡ g s = ap g here in
    let one = one_where_above x (g s) (omega arith) in
    let none = none_where_not (g i) (g s) (omega arith) in
    let rest = above_falls g x (g i) s (omega arith) in
    omega arith)
    (λ (other : i ≢ s).
    let rest = above_more g x s i (omega arith) lower in
    let one = one_falls x (g i) (g s) (omega arith) in
    omega arith)
    (cases_eq i s)

-- a state whose g is not above x is not counted
above_less : (g : ℕ → ℕ) (x states i : ℕ) → i < states → g i ≤ x → above g x states < states
unfolding above
above_less g x zero i inside low = absurd (omega arith)
above_less g x (suc s) i inside low =
    ⊎_elim
    (λ (here : i ≡ s).
    let same : g i ≡ g s = ap g here in
    let none : one_above x (g s) ≡ 0 = none_where_not x (g s) (omega arith) in
    let rest = above_most g x s in
    omega arith)
    (λ (other : i ≢ s).
    let rest = above_less g x s i (omega arith) low in
    let one = one_at_most x (g s) in
    omega arith)
    (cases_eq i s)

some_not_none : {p : ℕ × ℕ} → Some p ≡ None → ⊥
some_not_none e = cc

nothing_is_none : (u : ℕ) → ◌≡◌ {A = Option ℕ} None (Some u) → ⊥
nothing_is_none u e = cc

-- where the chain has no further arc it has no further state
chain_stops : (back : ℕ → Option (ℕ × ℕ)) (goal place s : ℕ) → chain_at back goal place ≡ Some s → back s ≡ None
    → (i u : ℕ) → place < i → chain_at back goal i ≡ Some u → ⊥
chain_stops back goal place s on none zero u past at = omega arith
chain_stops back goal place s on none (suc j) u past at =
    go (λ t beyond e. chain_stops back goal place s on none j t beyond e) (chain_at back goal j) refl
  where
    go : ((t : ℕ) → place < j → chain_at back goal j ≡ Some t → ⊥) → (o : Option ℕ) → chain_at back goal j ≡ o → ⊥
    go earlier None e = let found : ◌≡◌ {A = Option ℕ} None (Some u) = rw e at at in nothing_is_none u found
    go earlier (Some t) e =
        ⊎_elim
        (λ (beyond : place < j). earlier t beyond e)
        (λ (here : j ≤ place).
        let same : j ≡ place = omega arith in
        let both : chain_at back goal place ≡ Some t = rw same at e in
        let state : t ≡ s = let whole : ◌≡◌ {A = Option ℕ} (Some t) (Some s) = sym both ∙ on in cc in
        let found : ◌≡◌ {A = Option ℕ} None (Some u) = rw (e, state, none) at at in
        nothing_is_none u found)
        (cases_lt place j)

-- where a walk is: the arcs that it has followed are a free path
-- to the goal along back arcs, and cost what the labels say
pub record Walking (n : Network) (g v : ℕ → ℕ) (back : ℕ → Option (ℕ × ℕ)) (goal here cost : ℕ)
    (arcs : List ℕ) : Type 0 where
  pub inside : here < n.states
  pub near : least_of g v here < FAR
  pub paid : cost + least_of g v here ≤ g goal
  pub path : IsFreePath n here (reverse arcs) goal cost
  pub followed : IsBackPath back here (reverse arcs) goal
  pub place : chain_at back goal (length arcs) ≡ Some here
  pub before : (i u : ℕ) → i < length arcs → chain_at back goal i ≡ Some u → g u ≤ v u
  pub counted : length arcs ≤ above g (least_of g v here) n.states

module _ {n : Network} {start : ℕ} {g v : ℕ → ℕ} {back : ℕ → Option (ℕ × ℕ)} {goal here cost : ℕ} {arcs : List ℕ}
    (exact : AreExact n start g v back) (walking : Walking n g v back goal here cost arcs)
    (over : g here ≤ v here) where
  -- the back arc of a state on the walk gives its label
  pub arc_gives : {s k : ℕ} → back here ≡ Some (s, k) → (c : ℕ) × GivesLabel n g v s k here c
  arc_gives {s} {k} by =
      exact.gives here s k walking.inside
      (λ (at : here ≡ start). let none : back here ≡ None = rw at exact.none_at_start in some_not_none (sym by ∙ none))
      by

  -- the state that the walk has reached is not underconsistent
  at_end : (i u : ℕ) → i ≡ length arcs → chain_at back goal i ≡ Some u → g u ≤ v u
  at_end i u same on =
      let both : chain_at back goal (length arcs) ≡ Some u = rw same at on in
      let whole : ◌≡◌ {A = Option ℕ} (Some here) (Some u) = sym walking.place ∙ both in
      let state : here ≡ u = cc in
      subst (λ x. g x ≤ v x) state over

  -- labels fall along the walk
  pub walk_falls : {s k : ℕ} → back here ≡ Some (s, k) → (c : ℕ) → n.cost s k ≡ Some c → 1 ≤ c
      → least_of g v s < least_of g v here
  walk_falls {s} {k} by c price some =
      let found = arc_gives by in
      let same_cost : found.0 ≡ c = let listed = found.1.free.cost in cc in
      omega (arith, found.1.sum)

  counted_next : {s k : ℕ} → back here ≡ Some (s, k) → (c : ℕ) → n.cost s k ≡ Some c → 1 ≤ c
      → length arcs + 1 ≤ above g (least_of g v s) n.states
  counted_next {s} {k} by c price some =
      let found = arc_gives by in
      let same_cost : found.0 ≡ c = let listed = found.1.free.cost in cc in
      let same_least : least_of g v here ≡ g here = omega arith in
      let counted = subst (λ x. length arcs ≤ above g x n.states) same_least walking.counted in
      let more = above_more g (least_of g v s) n.states here walking.inside (omega (arith, found.1.sum)) in
      omega arith

  -- there is room for one more arc
  pub room_for_one : {s k : ℕ} → back here ≡ Some (s, k) → (c : ℕ) → n.cost s k ≡ Some c → 1 ≤ c
      → length arcs < n.states
  room_for_one {s} {k} by c price some =
      let counted = counted_next by c price some in
      let most = above_most g (least_of g v s) n.states in
      omega arith

  -- the walk goes on along the back arc
  pub walk_on : {s k : ℕ} → back here ≡ Some (s, k) → (c : ℕ) → n.cost s k ≡ Some c → 1 ≤ c
      → Walking n g v back goal s (cost + c) (arcs ++ k ∷ [])
  walk_on {s} {k} by c price some =
      let found = arc_gives by in
      let same_cost : found.0 ≡ c = let listed = found.1.free.cost in cc in
      let turned : reverse (arcs ++ k ∷ []) ≡ k ∷ reverse arcs = reverse-append arcs (k ∷ []) in
      let longer : length (arcs ++ k ∷ []) ≡ length arcs + 1 = length-append arcs (k ∷ []) in
      let arc : IsFreeArc n s k here c = subst (λ x. IsFreeArc n s k here x) same_cost found.1.free in
      let paid = walking.paid in
      record {
        inside = arc.source;
        near = let near = found.1.near in omega arith;
        paid = omega (arith, found.1.sum);
        path = rw turned (here, c, cost, arc, walking.path, omega arith);
        followed = rw turned (here, by, walking.followed);
        place = rw (longer, add-one, walking.place, by) refl;
        before = λ i u before on.
            ⊎_elim
            (λ (earlier : i < length arcs). walking.before i u earlier on)
            (λ (last : length arcs ≤ i). at_end i u (omega arith) on)
            (cases_lt i (length arcs));
        counted = rw longer (counted_next by c price some);
      }

  -- and it ends at the start
  pub walk_ends : back here ≡ None → g goal < FAR → IsWalk n start g v back goal cost (reverse arcs)
  walk_ends none near =
      let at : here ≡ start =
      ⊎_elim
      (λ (same : here ≡ start). same)
      (λ (other : here ≢ start).
      let far = exact.far_without_arc here walking.inside other none in
      let finite = walking.near in
      absurd (omega arith))
      (cases_eq here start) in
      record {
        near = near;
        unbroken = λ i u on.
            ⊎_elim
            (λ (before : i < length arcs). walking.before i u before on)
            (λ (past : length arcs ≤ i).
            ⊎_elim
            (λ (same : i ≡ length arcs). at_end i u same on)
            (λ (other : i ≢ length arcs).
            absurd (chain_stops back goal (length arcs) here walking.place none i u (omega arith) on))
            (cases_eq i (length arcs)))
            (cases_lt i (length arcs));
        followed = subst (λ x. IsBackPath back x (reverse arcs) goal) at walking.followed;
        path = subst (λ x. IsFreePath n x (reverse arcs) goal cost) at walking.path;
        cheap = let paid = walking.paid in omega arith;
        few =
            let counted = walking.counted in
            let less = above_less g (least_of g v here) n.states here walking.inside (omega arith) in
            rw (length-reverse arcs) (omega arith);
      }
