-- At inflation one the closed states stay settled, and none of them comes later than an open state.
use Rattle.std.proofs.Common.{◌≡◌, ◌≢◌, ℕ, ◌+◌, ◌*◌, ◌<◌, ◌≤◌, ◌⊎◌, Bool, true, false, Option, Some, None, min, arith}
use Rattle.std.proofs.Common.{⊎_elim, inl, inr, refl, sym, ◌∙◌, ap, subst, nat_eq}
use Rattle.std.proofs.lemmas.Bool.{cases_eq, cases_lt, or_cases, or_parts, eqb-true, true≢false}
use Rattle.std.proofs.lemmas.Bool.Decides.{nat_tests}
use Rattle.std.proofs.lemmas.Option.{none-some}
use Rattle.sbpl_search.specs.sbpl_graph.declared.TheConstants.{FAR}
use Rattle.sbpl_search.specs.sbpl_graph.Network.{Network, IsFreeArc}
use Rattle.sbpl_search.specs.sbpl_graph.Laws.{IsSound, IsConsistent}
use Rattle.sbpl_search.specs.sbpl_graph.Exact.{AreExact}
use Rattle.sbpl_search.proofs.Keeping.{same_arc}
use Rattle.sbpl_search.proofs.Paths.{label_at_most}
use Rattle.sbpl_search.specs.sbpl_labels.Marks.{Marks, AreLabels, states_of, g_of, v_of, back_of}
use Rattle.sbpl_search.specs.sbpl_labels.Recomputed.{IsRecomputed}
use Rattle.sbpl_open.specs.KeyOrder.{ComesBefore}
use Rattle.sbpl_search.specs.Query.{Query}
use Rattle.sbpl_serial.specs.Run.{IsOpen, IsOver, IsUnder, IsNext, LowersHeads, RaisesState, key_at, closed_with}
use Rattle.sbpl_serial.proofs.Closing.{lowers}
use Rattle.sbpl_serial.proofs.Keys.{key_over, before_first, lesser_cases}
use Rattle.sbpl_serial.proofs.Raising.{back_inside}

-- the lesser of the labels of a state
abbrev pub low_of : Marks → ℕ → ℕ
low_of m u = min (g_of m u) (v_of m u)

-- a and its guide come no later than b and its guide: by the sum, and where the sums are equal by the first
pub record IsNoLater (a guide b guide' : ℕ) : Type 0 where
  pub sums : a + guide ≤ b + guide'
  pub ties : a + guide ≡ b + guide' → a ≤ b

later_still : {a x b y c z : ℕ} → IsNoLater a x b y → IsNoLater b y c z → IsNoLater a x c z
later_still first second = record {
  sums = omega (arith, first.sums, second.sums);
  ties = λ same.
      let one = first.ties (omega (arith, first.sums, second.sums)) in
      let two = second.ties (omega (arith, first.sums, second.sums)) in
      omega arith;
}

-- each closed state is settled and comes no later than each open state
pub record AreOrdered (h : ℕ → ℕ) (closed : ℕ → Bool) (m : Marks) : Type 0 where
  pub settled : (x : ℕ) → closed x ≡ true → v_of m x ≡ g_of m x
  pub later : (x u : ℕ) → closed x ≡ true → IsOpen closed m u → IsNoLater (g_of m x) (h x) (low_of m u) (h u)

-- at first no state is closed
pub ordered_none : {h : ℕ → ℕ} {closed : ℕ → Bool} {m : Marks} → ((x : ℕ) → closed x ≡ false) → AreOrdered h closed m
ordered_none none = record {
  settled = λ x is. absurd (true≢false (sym is ∙ none x));
  later = λ x u is open_u. absurd (true≢false (sym is ∙ none x));
}

-- the key of an underconsistent state
pub key_under : (eps : ℕ) (h : ℕ → ℕ) (m : Marks) (s : ℕ) → IsUnder m s
    → key_at eps h m s ≡ (1000 * (v_of m s + h s), v_of m s)
key_under eps h m s under = grind (arith, nat_tests)

-- at inflation one a key is made from the lesser label
pub key_low : {eps : ℕ} (h : ℕ → ℕ) (m : Marks) (u : ℕ) → eps ≡ 1000 → IsUnder m u ⊎ IsOver m u
    → key_at eps h m u ≡ (1000 * (low_of m u + h u), low_of m u)
key_low {eps} h m u one apart =
    ⊎_elim
    (λ (under : IsUnder m u).
    let low : low_of m u ≡ v_of m u = omega arith in
    rw low (key_under eps h m u under))
    (λ (over : IsOver m u).
    let low : low_of m u ≡ g_of m u = omega arith in
    let sum : 1000 * (g_of m u + h u) ≡ 1000 * g_of m u + eps * h u = rw one (omega arith) in
    rw (low, sum) (key_over eps h m u over))
    apart

before_second : (a b : ℕ × ℕ) (s t : ℕ) → ComesBefore a s b t → a.0 ≡ b.0 → a.1 ≤ b.1
before_second a b s t before same = grind arith

pub open_differs : {closed : ℕ → Bool} {m : Marks} {u : ℕ} → IsOpen closed m u → IsUnder m u ⊎ IsOver m u
open_differs it = ⊎_elim (λ under. inl under) (λ over. inr over.0) it.inconsistent

-- what recomputing gives is no less than every way from a finite v
recomputed_above : (n : Network) (v : ℕ → ℕ) (t g least : ℕ) (back : Option (ℕ × ℕ))
    → IsRecomputed n v t g back → least ≤ FAR
    → ((a k c : ℕ) → IsFreeArc n a k t c → v a < FAR → least ≤ v a + c) → least ≤ g
recomputed_above n v t g least None is label ways = omega (arith, is.0)
recomputed_above n v t g least (Some (a, k)) is label ways =
    omega (arith, is.2.gives, ways a k is.1 is.2.way.free is.2.way.near)

-- g after the raising of s is g before it, or no less, and g before it was that of a way over s
pub raise_cases : {n : Network} {old new : Marks} {s : ℕ} (t : ℕ)
    → AreExact n old.start (g_of old) (v_of old) (back_of old) → AreLabels old
    → states_of old ≡ n.states → RaisesState n old new s → (back : Option (ℕ × ℕ)) → back_of old t ≡ back
    → (g_of new t ≡ g_of old t)
    ⊎ ((k : ℕ) × (c : ℕ) × IsFreeArc n s k t c × (g_of old t ≡ v_of old s + c) × (g_of old t ≤ g_of new t))
raise_cases {s = s} t exact labels states step None is =
    inl (step.other_g t (λ apart k by. none-some (s, k) (sym is ∙ by)))
raise_cases {n} {old} {new} {s} t exact labels states step (Some (a, l)) is =
    ⊎_elim
    (λ (at : a ≡ s).
    let own : back_of old t ≡ Some (s, l) = subst (λ b. back_of old t ≡ Some (b, l)) at is in
    let inside = back_inside old own in
    let apart : t ≢ old.start =
    λ e. none-some (s, l) (sym exact.none_at_start ∙ ap (λ u. back_of old u) (sym e) ∙ own) in
    let given = exact.gives t s l (omega arith) apart own in
    let above =
    recomputed_above n (v_of new) t (g_of new t) (g_of old t) (back_of new t) (step.heads t l apart own)
    (label_at_most _ (labels.labels t inside).0)
    (λ b k c arc near.
    let other : b ≢ s = λ e. let near_s : v_of new s < FAR = rw (← e) near in absurd (omega (arith, step.raised)) in
    omega (arith, step.other_v b other, exact.least b k t c arc (omega (arith, step.other_v b other)))) in
    inr (l, given.0, given.1.free, given.1.sum, above))
    (λ (other : a ≢ s). inl (step.other_g t (λ apart k by. other (same_arc a l s k (sym is ∙ by)).0)))
    (cases_eq a s)

module _ {q : Query} {closed : ℕ → Bool} {old : Marks} {s : ℕ} (one : q.eps ≡ 1000) (sound : IsSound q.network)
    (consistent : IsConsistent q.network q.goal q.guide) (next : IsNext q closed old s)
    (ordered : AreOrdered q.guide closed old) where
  -- s comes no later than the other open states
  pub first_open : (u : ℕ) → IsOpen closed old u → IsNoLater (low_of old s) (q.guide s) (low_of old u) (q.guide u)
  first_open u open_u =
      ⊎_elim
      (λ (at : u ≡ s). rw at (record { sums = omega arith; ties = λ same. omega arith }))
      (λ (apart : u ≢ s).
      let before =
      rw (key_low q.guide old s one (open_differs next.is_open), key_low q.guide old u one (open_differs open_u))
      at (next.first u open_u apart) in
      let sums : 1000 * (low_of old s + q.guide s) ≤ 1000 * (low_of old u + q.guide u) = before_first _ _ _ _ before in
      record {
        sums = omega arith;
        ties = λ same. before_second _ _ _ _ before (ap (λ x. 1000 * x) same);
      })
      (cases_eq u s)

  -- no state comes earlier over an arc of s
  along : (a b k t c : ℕ) → IsFreeArc q.network s k t c → a + c ≤ b → IsNoLater a (q.guide s) b (q.guide t)
  along a b k t c arc above = record {
    sums = omega (arith, consistent.along s k t c arc);
    ties = λ same. omega arith;
  }

  -- a closed state has not come over an arc of s
  not_along : (x k c : ℕ) → closed x ≡ true → IsFreeArc q.network s k x c → low_of old s + c ≤ g_of old x → ⊥
  not_along x k c is arc above =
      let later = ordered.later x s is next.is_open in
      let some = sound.cost_at_least_one s k c arc.source arc.number arc.cost in
      let tie = later.ties (omega (arith, later.sums, consistent.along s k x c arc)) in
      omega arith

  module _ {new : Marks} (step : LowersHeads q.network old new s) where
    over_low : low_of old s ≡ g_of old s
    over_low = omega (arith, step.over)

    own_same : g_of new s ≡ g_of old s
    own_same = ⊎_elim (λ same. same) (λ found. absurd (omega (arith, found.3, found.4))) (lesser_cases s step)

    not_closed : closed s ≡ false
    not_closed =
        ⊎_elim (λ (under : IsUnder old s). absurd (omega (arith, step.over)))
        (λ (over : IsOver old s × (closed s ≡ false)). over.1) next.is_open.inconsistent

    closed_same : (x : ℕ) → closed x ≡ true → g_of new x ≡ g_of old x
    closed_same x is =
        ⊎_elim
        (λ same. same)
        (λ found. absurd (not_along x found.0 found.1 is found.2 (omega (arith, over_low, found.3, found.4))))
        (lesser_cases x step)

    open_after : (u : ℕ) → IsOpen (closed_with (lowers s) closed) new u
        → IsNoLater (g_of old s) (q.guide s) (low_of new u) (q.guide u)
    open_after u open_u =
        let apart : u ≢ s = λ e.
        let settled : v_of new u ≡ g_of new u = rw e (step.settled ∙ sym own_same) in
        ⊎_elim (λ (under : IsUnder new u). absurd (omega arith)) (λ (over : IsOver new u). absurd (omega arith))
        (open_differs open_u) in
        let same_v = step.other_v u apart in
        let inside : u < states_of old = omega (arith, open_u.inside, step.same_states) in
        ⊎_elim
        (λ (same : g_of new u ≡ g_of old u).
        let was : IsOpen closed old u = record {
          inside = inside;
          inconsistent =
              ⊎_elim
              (λ under. inl (omega (arith, under)))
              (λ over. inr (omega (arith, over.0), (or_parts _ _ over.1).1))
              open_u.inconsistent;
        } in
        let low : low_of new u ≡ low_of old u = omega arith in
        rw (low, ← over_low) (first_open u was))
        (λ found.
        ⊎_elim
        (λ (under : v_of old u < g_of old s + found.1).
        let was : IsOpen closed old u =
        record { inside = inside; inconsistent = inl (omega (arith, found.3, found.4)) } in
        let low : low_of new u ≡ low_of old u = omega (arith, found.3, found.4) in
        rw (low, ← over_low) (first_open u was))
        (λ (above : g_of old s + found.1 ≤ v_of old u).
        along (g_of old s) (low_of new u) found.0 u found.1 found.2 (omega (arith, found.3)))
        (cases_lt (v_of old u) (g_of old s + found.1)))
        (lesser_cases u step)

    pub ordered_lowered : AreOrdered q.guide (closed_with (lowers s) closed) new
    ordered_lowered = record {
      settled = λ x is.
          ⊎_elim
          (λ (own : nat_eq s x ≡ true). let at : s ≡ x = eqb-true s x own in rw (← at) (step.settled ∙ sym own_same))
          (λ (was : closed x ≡ true).
          let apart : x ≢ s = λ e. true≢false (sym was ∙ rw e not_closed) in
          step.other_v x apart ∙ ordered.settled x was ∙ sym (closed_same x was))
          (or_cases _ _ is);
      later = λ x u is open_u.
          let after = open_after u open_u in
          ⊎_elim
          (λ (own : nat_eq s x ≡ true).
          let at : s ≡ x = eqb-true s x own in
          rw (← at, own_same) after)
          (λ (was : closed x ≡ true).
          let before = rw over_low at (ordered.later x s was next.is_open) in
          rw (closed_same x was) (later_still before after))
          (or_cases _ _ is);
    }

  module _ {new : Marks} (exact : AreExact q.network old.start (g_of old) (v_of old) (back_of old))
      (labels : AreLabels old)
      (states : states_of old ≡ q.network.states) (step : RaisesState q.network old new s) where
    under_low : low_of old s ≡ v_of old s
    under_low = omega (arith, step.under)

    cases : (t : ℕ) → (g_of new t ≡ g_of old t)
        ⊎ ((k : ℕ) × (c : ℕ) × IsFreeArc q.network s k t c × (g_of old t ≡ v_of old s + c) × (g_of old t ≤ g_of new t))
    cases t = raise_cases t exact labels states step (back_of old t) refl

    raised_same : (x : ℕ) → closed x ≡ true → g_of new x ≡ g_of old x
    raised_same x is =
        ⊎_elim
        (λ same. same)
        (λ found. absurd (not_along x found.0 found.1 is found.2 (omega (arith, under_low, found.3))))
        (cases x)

    raised_after : (u : ℕ) → IsOpen closed new u → IsNoLater (v_of old s) (q.guide s) (low_of new u) (q.guide u)
    raised_after u open_u =
        let inside : u < states_of old = omega (arith, open_u.inside, step.same_states) in
        let near : v_of old s < FAR =
        omega (arith, step.under, label_at_most _ (labels.labels s next.is_open.inside).0) in
        ⊎_elim
        (λ (at : u ≡ s).
        let above : v_of old s ≤ low_of new s =
        ⊎_elim (λ same. omega (arith, same, step.raised, step.under))
        (λ found. omega (arith, found.4, step.raised, step.under)) (cases s) in
        rw at (record { sums = omega arith; ties = λ same. above }))
        (λ (apart : u ≢ s).
        let same_v = step.other_v u apart in
        ⊎_elim
        (λ (same : g_of new u ≡ g_of old u).
        let was : IsOpen closed old u = record {
          inside = inside;
          inconsistent =
              ⊎_elim (λ under. inl (omega (arith, under)))
              (λ over. inr (omega (arith, over.0), over.1)) open_u.inconsistent;
        } in
        let low : low_of new u ≡ low_of old u = omega arith in
        rw (low, ← under_low) (first_open u was))
        (λ found.
        ⊎_elim
        (λ (under : v_of old u < g_of old u).
        let was : IsOpen closed old u = record { inside = inside; inconsistent = inl under } in
        let low : low_of new u ≡ low_of old u = omega (arith, found.4) in
        rw (low, ← under_low) (first_open u was))
        (λ (above : g_of old u ≤ v_of old u).
        along (v_of old s) (low_of new u) found.0 u found.1 found.2 (omega (arith, found.3, found.4)))
        (cases_lt (v_of old u) (g_of old u)))
        (cases u))
        (cases_eq u s)

    pub ordered_raised : AreOrdered q.guide closed new
    ordered_raised = record {
      settled = λ x is.
          let apart : x ≢ s = λ e.
          let own : v_of old s ≡ g_of old s = rw (← e) (ordered.settled x is) in absurd (omega (arith, step.under)) in
          step.other_v x apart ∙ ordered.settled x is ∙ sym (raised_same x is);
      later = λ x u is open_u.
          let before = rw under_low at (ordered.later x s is (next.is_open)) in
          rw (raised_same x is) (later_still before (raised_after u open_u));
    }
