-- Labels stay kept, at any test of pending arcs, as states are opened and arcs are used.
use Rattle.std.proofs.Common.{◌≡◌, ◌≢◌, ℕ, ◌+◌, ◌<◌, ◌≤◌, ◌⊎◌, Option, Some, None, Bool, false, refl, sym, ap, arith}
use Rattle.std.proofs.Common.{⊎_elim, inl, inr, ◌∙◌}
use Rattle.std.proofs.lemmas.Bool.{cases_lt, cases_eq}
use Rattle.std.proofs.lemmas.Bool.Decides.{nat_tests}
use Rattle.sbpl_graph.specs.declared.TheConstants.{FAR}
use Rattle.sbpl_graph.specs.Network.{Network, IsFreeArc}
use Rattle.sbpl_graph.specs.Certificate.{IsLabel, AreSupported}
use Rattle.sbpl_graph.specs.Exact.{AreExact}
use Rattle.sbpl_graph.specs.Kept.{AreKept, NoneUnder, SettlesState, LowersState, none_pending, pending_from}

some_not_none : {p : ℕ × ℕ} → Some p ≡ None → ⊥
some_not_none e = cc

-- two names of one arc are alike
pub same_arc : (a j s k : ℕ) → ◌≡◌ {A = Option (ℕ × ℕ)} (Some (a, j)) (Some (s, k)) → (a ≡ s) × (j ≡ k)
same_arc a j s k e =
    let inner : ◌≡◌ {A = ℕ × ℕ} (a, j) (s, k) = cc in
    (ap (λ (p : ℕ × ℕ). p.0) inner, ap (λ (p : ℕ × ℕ). p.1) inner)

-- what is not pending belongs to another state, or stands before k
pub not_pending : (s k a j : ℕ) → pending_from s k a j ≡ false → (a ≢ s) ⊎ (j < k)
not_pending s k a j idle =
    ⊎_elim
    (λ same. ⊎_elim (λ before. inr before) (λ after. absurd (grind (arith, nat_tests))) (cases_lt j k))
    (λ other. inl other)
    (cases_eq a s)

-- and the other way round
pub other_not_pending : (s k a j : ℕ) → a ≢ s → pending_from s k a j ≡ false
other_not_pending s k a j other = grind (arith, nat_tests)

pub before_not_pending : (s k a j : ℕ) → j < k → pending_from s k a j ≡ false
before_not_pending s k a j before = grind (arith, nat_tests)

-- What holds with no state changed: arcs stop being pending, and kept labels with none pending are exact.
module _ {n : Network} {start : ℕ} {g v : ℕ → ℕ} {back : ℕ → Option (ℕ × ℕ)} where
  -- arcs stop being pending once they are used
  pub kept_used : {pending : ℕ → ℕ → Bool} (pending' : ℕ → ℕ → Bool) → AreKept n start g v back pending
      → ((s k t c : ℕ) → pending' s k ≡ false → IsFreeArc n s k t c → v s < FAR
      → (pending s k ≡ false) ⊎ (g t ≤ v s + c))
      → AreKept n start g v back pending'
  kept_used pending' kept done = record {
    from_start = kept.from_start;
    none_at_start = kept.none_at_start;
    used = λ s k t c idle arc near.
        ⊎_elim (λ was. kept.used s k t c was arc near) (λ given. given) (done s k t c idle arc near);
    supports = kept.supports;
    far_without_arc = kept.far_without_arc;
    no_arc_where_far = kept.no_arc_where_far;
  }

  -- arc k of s stops being pending once the label of its head is no greater than the way over it
  pub kept_next : {pending : ℕ → ℕ → Bool} (pending' : ℕ → ℕ → Bool) (s k : ℕ) → AreKept n start g v back pending
      → ((a j : ℕ) → pending' a j ≡ false → (pending a j ≡ false) ⊎ ((a ≡ s) × (j ≡ k)))
      → ((t c : ℕ) → IsFreeArc n s k t c → v s < FAR → g t ≤ v s + c)
      → AreKept n start g v back pending'
  kept_next pending' s k kept others given =
      kept_used pending' kept
      (λ a j t c idle arc near.
      ⊎_elim inl
      (λ same.
      let arc' : IsFreeArc n s k t c = rw (← same.0, ← same.1) arc in
      let near' : v s < FAR = rw (← same.0) near in
      let due = given t c arc' near' in
      inr (rw same.0 due))
      (others a j idle))

  -- the same for the arcs of s from k on
  pub kept_next_from : (s k : ℕ) → AreKept n start g v back (pending_from s k)
      → ((t c : ℕ) → IsFreeArc n s k t c → v s < FAR → g t ≤ v s + c)
      → AreKept n start g v back (pending_from s (k + 1))
  kept_next_from s k kept given =
      kept_next (pending_from s (k + 1)) s k kept
      (λ a j idle.
      ⊎_elim
      (λ other. inl (other_not_pending s k a j other))
      (λ upto.
      ⊎_elim
      (λ before. inl (before_not_pending s k a j before))
      (λ from.
      ⊎_elim (λ same. let at : j ≡ k = omega arith in inr (same, at))
      (λ other. inl (other_not_pending s k a j other)) (cases_eq a s))
      (cases_lt j k))
      (not_pending s (k + 1) a j idle))
      given

  -- after its last arc a state has none pending
  pub kept_done : (s k : ℕ) → AreKept n start g v back (pending_from s k) → n.fan s ≤ k
      → AreKept n start g v back none_pending
  kept_done s k kept over =
      kept_used none_pending kept
      (λ a j t c idle arc near.
      inl
      (⊎_elim
      (λ same. let short : n.fan a ≤ k = rw same over in before_not_pending s k a j (omega (arith, arc.number)))
      (λ other. other_not_pending s k a j other)
      (cases_eq a s)))

  -- exact labels are kept, whatever is pending
  pub kept_from_exact : (pending : ℕ → ℕ → Bool) → AreExact n start g v back → AreKept n start g v back pending
  kept_from_exact pending exact = record {
    from_start = exact.from_start;
    none_at_start = exact.none_at_start;
    used = λ s k t c idle arc near. exact.least s k t c arc near;
    supports = λ t s k inside other by.
        let found = exact.gives t s k inside other by in
        (found.0, record { free = found.1.free; near = found.1.near; sum = omega (arith, found.1.sum) });
    far_without_arc = exact.far_without_arc;
    no_arc_where_far = exact.no_arc_where_far;
  }

  -- kept labels are exact where nothing is pending
  pub exact_from_kept : AreKept n start g v back none_pending → AreExact n start g v back
  exact_from_kept kept = record {
    from_start = kept.from_start;
    none_at_start = kept.none_at_start;
    least = λ s k t c arc near. kept.used s k t c refl arc near;
    gives = λ t s k inside other by.
        let found = kept.supports t s k inside other by in
        let due = kept.used s k t found.0 refl found.1.free found.1.near in
        (found.0, record { free = found.1.free; near = found.1.near; sum = omega (arith, found.1.sum) });
    far_without_arc = kept.far_without_arc;
    no_arc_where_far = kept.no_arc_where_far;
  }

  -- exact labels support a certificate
  pub supported_from_exact : ((s : ℕ) → s < n.states → IsLabel (g s) × IsLabel (v s)) → AreExact n start g v back
      → AreSupported n start g v
  supported_from_exact labels exact = record { labels = labels; from_start = exact.from_start; along = exact.least }

  -- opened labels are exact
  pub opened_exact : g start ≡ 0 → ((s : ℕ) → s < n.states → s ≢ start → g s ≡ FAR)
      → ((s : ℕ) → s < n.states → v s ≡ FAR)
      → ((s : ℕ) → back s ≡ None) → AreExact n start g v back
  opened_exact from_start far_g far_v no_arc = record {
    from_start = from_start;
    none_at_start = no_arc start;
    least = λ s k t c arc near. absurd (omega (arith, far_v s arc.source));
    gives = λ t s k inside other by. let none = no_arc t in cc;
    far_without_arc = λ t inside other none. far_g t inside other;
    no_arc_where_far = λ t inside far. no_arc t;
  }

-- What holds after a change of one state.
module _ {n : Network} {start : ℕ} {g v : ℕ → ℕ} {back : ℕ → Option (ℕ × ℕ)} {g' v' : ℕ → ℕ}
    {back' : ℕ → Option (ℕ × ℕ)} where
  -- a state is opened, and its arcs become pending, whatever else is
  pub kept_opened : {pending : ℕ → ℕ → Bool} (pending' : ℕ → ℕ → Bool) (s : ℕ) → AreKept n start g v back pending
      → g s < v s → v s ≤ FAR → SettlesState g v back g' v' back' s
      → ((a j t c : ℕ) → pending' a j ≡ false → IsFreeArc n a j t c → (a ≢ s) × (pending a j ≡ false))
      → AreKept n start g' v' back' pending'
  kept_opened pending' s kept over label settles idle = record {
    from_start = omega (arith, settles.same_g start, kept.from_start);
    none_at_start = let same = settles.same_back start in let none = kept.none_at_start in cc;
    used = λ a j t c rest arc near.
        let apart = idle a j t c rest arc in
        let same_v = settles.other_v a apart.0 in
        let due = kept.used a j t c apart.1 arc (omega arith) in
        omega (arith, settles.same_g t);
    supports = λ t a j inside other by.
        let by_old : back t ≡ Some (a, j) = let same = settles.same_back t in cc in
        let found = kept.supports t a j inside other by_old in
        let lower : v' a ≤ v a =
        ⊎_elim (λ (at : a ≡ s).
        let settled : v' a ≡ g a = rw at settles.settled in let was : g a < v a = rw at over in omega arith)
        (λ (apart : a ≢ s). omega (arith, settles.other_v a apart)) (cases_eq a s) in (
          found.0,
          record {
            free = found.1.free;
            near = omega (arith, found.1.near);
            sum = omega (arith, found.1.sum, settles.same_g t);
          },
        );
    far_without_arc = λ t inside other none.
        let was : back t ≡ None = let same = settles.same_back t in cc in
        omega (arith, kept.far_without_arc t inside other was, settles.same_g t);
    no_arc_where_far = λ t inside far.
        let was : g t ≡ FAR = omega (arith, settles.same_g t) in
        let none = kept.no_arc_where_far t inside was in
        let same = settles.same_back t in
        cc;
  }

  -- the same where nothing else is pending
  pub kept_settled : (s : ℕ) → AreKept n start g v back none_pending → g s < v s → v s ≤ FAR
      → SettlesState g v back g' v' back' s → AreKept n start g' v' back' (pending_from s 0)
  kept_settled s kept over label settles =
      kept_opened (pending_from s 0) s kept over label settles
      (λ a j t c idle arc. (⊎_elim (λ other. other) (λ before. absurd (omega arith)) (not_pending s 0 a j idle), refl))

  -- a state's label is lowered by a free arc, whatever is pending
  pub kept_lowered : {pending : ℕ → ℕ → Bool} (s k t c : ℕ) → AreKept n start g v back pending → IsFreeArc n s k t c
      → t ≢ start → v s < FAR → v s + c < FAR → v s + c < g t → LowersState g v back g' v' back' t s k (v s + c)
      → AreKept n start g' v' back' pending
  kept_lowered s k t c kept arc other near small lower lowers = record {
    from_start =
        let apart : start ≢ t = λ e. other (sym e) in omega (arith, lowers.other_g start apart, kept.from_start);
    none_at_start =
        let apart : start ≢ t = λ e. other (sym e) in
        let same = lowers.other_back start apart in
        let none = kept.none_at_start in
        cc;
    used = λ a j u d idle free near'.
        let due = kept.used a j u d idle free (omega (arith, lowers.same_v a)) in
        ⊎_elim
        (λ (at : u ≡ t). let now : g' u ≡ v s + c = rw at lowers.lowered in
        let was : v s + c < g u = rw at lower in omega (arith, lowers.same_v a))
        (λ (apart : u ≢ t). omega (arith, lowers.other_g u apart, lowers.same_v a))
        (cases_eq u t);
    supports = λ u a j inside apart_start by.
        ⊎_elim
        (λ (at : u ≡ t).
        let by_new : back' u ≡ Some (s, k) = rw at lowers.by in
        let same = same_arc a j s k (sym by ∙ by_new) in
        rw (same.0, same.1, at) (
          c,
          record {
            free = arc;
            near = omega (arith, lowers.same_v s);
            sum = omega (arith, lowers.same_v s, lowers.lowered);
          },
        ))
        (λ (apart : u ≢ t).
        let by_old : back u ≡ Some (a, j) = let same = lowers.other_back u apart in cc in
        let found = kept.supports u a j inside apart_start by_old in (
          found.0,
          record {
            free = found.1.free;
            near = omega (arith, lowers.same_v a, found.1.near);
            sum = omega (arith, lowers.same_v a, lowers.other_g u apart, found.1.sum);
          },
        ))
        (cases_eq u t);
    far_without_arc = λ u inside apart_start none.
        ⊎_elim
        (λ (at : u ≡ t).
        let by_new : back' u ≡ Some (s, k) = rw at lowers.by in absurd (some_not_none (sym by_new ∙ none)))
        (λ (apart : u ≢ t).
        let was : back u ≡ None = let same = lowers.other_back u apart in cc in
        omega (arith, lowers.other_g u apart, kept.far_without_arc u inside apart_start was))
        (cases_eq u t);
    no_arc_where_far = λ u inside far.
        ⊎_elim
        (λ (at : u ≡ t). let now : g' u ≡ v s + c = rw at lowers.lowered in absurd (omega arith))
        (λ (apart : u ≢ t).
        let was : g u ≡ FAR = omega (arith, lowers.other_g u apart) in
        let none = kept.no_arc_where_far u inside was in
        let same = lowers.other_back u apart in
        cc)
        (cases_eq u t);
  }

-- Where no state is underconsistent, settling and lowering keep it so.
module _ {states : ℕ} {g v : ℕ → ℕ} {back : ℕ → Option (ℕ × ℕ)} {g' v' : ℕ → ℕ} {back' : ℕ → Option (ℕ × ℕ)} where
  pub none_under_settled : (s : ℕ) → NoneUnder states g v → SettlesState g v back g' v' back' s → NoneUnder states g' v'
  none_under_settled s under settles = record {
    at = λ u inside.
        ⊎_elim
        (λ (at : u ≡ s). let now : v' u ≡ g u = rw at settles.settled in omega (arith, settles.same_g u))
        (λ (apart : u ≢ s). omega (arith, settles.same_g u, settles.other_v u apart, under.at u inside))
        (cases_eq u s);
  }

  pub none_under_lowered : (t s k value : ℕ) → NoneUnder states g v → value < g t
      → LowersState g v back g' v' back' t s k value
      → NoneUnder states g' v'
  none_under_lowered t s k value under lower lowers = record {
    at = λ u inside.
        ⊎_elim
        (λ (at : u ≡ t).
        let now : g' u ≡ value = rw at lowers.lowered in
        let was : value < g u = rw at lower in
        omega (arith, lowers.same_v u, under.at u inside))
        (λ (apart : u ≢ t). omega (arith, lowers.other_g u apart, lowers.same_v u, under.at u inside))
        (cases_eq u t);
  }
