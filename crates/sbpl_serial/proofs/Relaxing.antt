-- The arcs of a state, relaxed one after the other.
use Rattle.std.proofs.Common.{◌≡◌, ◌≢◌, ℕ, ◌+◌, ◌^◌, ◌<◌, ◌≤◌, Option, Some, None, arith, ⊎_elim, refl, sym, ◌∙◌}
use Rattle.std.proofs.lemmas.Bool.{cases_eq}
use Rattle.sbpl_search.specs.sbpl_graph.declared.TheConstants.{FAR}
use Rattle.sbpl_search.specs.sbpl_graph.Network.{Network, IsFreeArc}
use Rattle.sbpl_search.specs.sbpl_graph.Laws.{IsSound}
use Rattle.sbpl_search.specs.sbpl_graph.Fit.{FitCount}
use Rattle.sbpl_search.specs.sbpl_graph.Kept.{AreKept, NoneUnder, pending_from, none_pending}
use Rattle.sbpl_search.proofs.Keeping.{kept_from_exact, kept_settled, kept_lowered, kept_next_from, kept_done}
use Rattle.sbpl_search.proofs.Keeping.{exact_from_kept, none_under_settled, none_under_lowered}
use Rattle.sbpl_search.proofs.Fitting.{fit_settled, fit_lowered, fit_small}
use Rattle.sbpl_search.specs.sbpl_labels.Marks.{Marks, ChangesRow, states_of, g_of, v_of, back_of}
use Rattle.sbpl_serial.specs.Run.{IsFirstArc, IsOver, LowersHeads}
use Rattle.sbpl_serial.specs.Relaxed.{LowersHead, IsRelaxed}
use Rattle.sbpl_search.specs.Ready.{AreUsable}
use Rattle.sbpl_search.proofs.Changes.{settles_state, lowers_state}

-- g' is the lesser of g and the ways to t over the free arcs of s below
-- number i; where that is lower, back' is the first that gives it
pub record GetsLesserBelow (n : Network) (s i v t g : ℕ) (back : Option (ℕ × ℕ)) (g' : ℕ)
    (back' : Option (ℕ × ℕ)) : Type 0 where
  pub at_most : g' ≤ g
  pub least : (k c : ℕ) → k < i → IsFreeArc n s k t c → g' ≤ v + c
  pub same : g' ≡ g → back' ≡ back
  pub lower : g' < g → (k : ℕ) × (c : ℕ) × IsFirstArc n s v t g' k c × (back' ≡ Some (s, k)) × (k < i)

-- arc i lowers t
lesser_at : {n : Network} {s i v t g : ℕ} {back : Option (ℕ × ℕ)} {g' : ℕ} {back' : Option (ℕ × ℕ)} (c : ℕ)
    → GetsLesserBelow n s i v t g back g' back' → IsFreeArc n s i t c → v + c < g'
    → GetsLesserBelow n s (i + 1) v t g back (v + c) (Some (s, i))
lesser_at {n} {s} {i} {v} {t} c so_far arc lower =
    let at_most = so_far.at_most in
    record {
      at_most = omega arith;
      least = λ k d below other.
          ⊎_elim
          (λ (at : k ≡ i).
          let same_arc : IsFreeArc n s i t d = rw (← at) other in
          let same_cost : Some c ≡ Some d = sym arc.cost ∙ same_arc.cost in
          let same : c ≡ d = cc in
          omega arith)
          (λ (apart : k ≢ i). omega (arith, so_far.least k d (omega arith) other))
          (cases_eq k i);
      same = λ same. absurd (omega arith);
      lower = λ lower'. (
        i,
        c,
        record { free = arc; gives = refl; first = λ j d below other. omega (arith, so_far.least j d below other) },
        refl,
        omega arith,
      );
    }

-- arc i leads to another state
lesser_other : {n : Network} {s i v t g : ℕ} {back : Option (ℕ × ℕ)} {g' : ℕ} {back' : Option (ℕ × ℕ)} (u c : ℕ)
    → GetsLesserBelow n s i v t g back g' back' → IsFreeArc n s i u c → t ≢ u
    → GetsLesserBelow n s (i + 1) v t g back g' back'
lesser_other {n} {s} {i} {v} {t} u c so_far arc apart = record {
  at_most = so_far.at_most;
  least = λ k d below other.
      ⊎_elim
      (λ (at : k ≡ i).
      let same_arc : IsFreeArc n s i t d = rw (← at) other in
      let same_head : Some u ≡ Some t = sym arc.head ∙ same_arc.head in
      let same : t ≡ u = cc in
      absurd (apart same))
      (λ (before : k ≢ i). so_far.least k d (omega arith) other)
      (cases_eq k i);
  same = so_far.same;
  lower = λ lower. let found = so_far.lower lower in (found.0, found.1, found.2, found.3, omega (arith, found.4));
}

-- labels in the middle of the expansion of s, before its arc of number i
pub record IsExpanding (n : Network) (old m : Marks) (s i : ℕ) : Type 0 where
  pub same_start : m.start ≡ old.start
  pub same_states : states_of m ≡ states_of old
  pub settled : v_of m s ≡ g_of old s
  pub other_v : (u : ℕ) → u ≢ s → v_of m u ≡ v_of old u
  pub heads : (t : ℕ) → t ≢ old.start
      → GetsLesserBelow n s i (g_of old s) t (g_of old t) (back_of old t) (g_of m t) (back_of m t)
  pub start_g : g_of m old.start ≡ g_of old old.start
  pub start_back : back_of m old.start ≡ back_of old old.start
  pub kept : AreKept n old.start (g_of m) (v_of m) (back_of m) (pending_from s i)
  pub none_under : NoneUnder n.states (g_of old) (v_of old) → NoneUnder n.states (g_of m) (v_of m)
  pub fits : (count : ℕ) → FitCount n.states (g_of old) (v_of old) count
      → FitCount n.states (g_of m) (v_of m) (count + 1)

module _ {n : Network} {old : Marks} (s : ℕ) where
  -- s is settled
  pub expanding_none : {m : Marks} {count : ℕ} → AreUsable n old count → IsOver old s → v_of old s ≤ FAR
      → ChangesRow old m s (record { g = g_of old s; v = g_of old s; back = back_of old s }) → IsExpanding n old m s 0
  expanding_none {m} ready over label change =
      let settles = settles_state s change in
      record {
        same_start = change.start;
        same_states = change.states;
        settled = settles.settled;
        other_v = settles.other_v;
        heads = λ t apart. record {
          at_most = omega (arith, settles.same_g t);
          least = λ k c below arc. omega arith;
          same = λ same. settles.same_back t;
          lower = λ lower. absurd (omega (arith, settles.same_g t));
        };
        start_g = settles.same_g old.start;
        start_back = settles.same_back old.start;
        kept = kept_settled s (kept_from_exact none_pending ready.exact) over label settles;
        none_under = λ under. none_under_settled s under settles;
        fits = λ count fit. fit_settled s fit settles;
      }

  -- arc i lowers nothing
  pub expanding_same : {m : Marks} (i : ℕ) → IsExpanding n old m s i
      → ((t c : ℕ) → IsFreeArc n s i t c → g_of m t ≤ v_of m s + c) → IsExpanding n old m s (i + 1)
  expanding_same {m} i here given = record {
    same_start = here.same_start;
    same_states = here.same_states;
    settled = here.settled;
    other_v = here.other_v;
    heads = λ t apart.
        let so_far = here.heads t apart in
        record {
          at_most = so_far.at_most;
          least = λ k c below arc.
              ⊎_elim
              (λ (at : k ≡ i).
              let arc' : IsFreeArc n s i t c = rw (← at) arc in omega (arith, given t c arc', here.settled))
              (λ (other : k ≢ i). so_far.least k c (omega arith) arc)
              (cases_eq k i);
          same = so_far.same;
          lower =
              λ lower. let found = so_far.lower lower in (found.0, found.1, found.2, found.3, omega (arith, found.4));
        };
    start_g = here.start_g;
    start_back = here.start_back;
    kept = kept_next_from s i here.kept (λ t c arc near. given t c arc);
    none_under = here.none_under;
    fits = here.fits;
  }

  -- arc i lowers its head
  pub expanding_lowered : {m m' : Marks} (i t c : ℕ) → IsSound n → IsExpanding n old m s i → g_of old s < FAR
      → FitCount n.states (g_of m) (v_of m) (2 ^ 30) → LowersHead n m m' s i t c → IsExpanding n old m' s (i + 1)
  expanding_lowered {m} {m'} i t c sound here near fit by =
      let lowers = lowers_state t s i (v_of m s + c) by.changed in
      let small = sound.cost_fits s i c by.free.source by.free.number by.free.cost in
      let near_here : v_of m s < FAR = omega (arith, here.settled) in
      let way = fit_small s c fit (omega arith) by.free.source near_here small in
      let apart : t ≢ old.start = λ e. by.apart (e ∙ sym here.same_start) in
      let start_apart : old.start ≢ t = λ e. apart (sym e) in
      let value : v_of m s + c ≡ g_of old s + c = omega (arith, here.settled) in
      record {
        same_start = by.changed.start ∙ here.same_start;
        same_states = by.changed.states ∙ here.same_states;
        settled = lowers.same_v s ∙ here.settled;
        other_v = λ u other. lowers.same_v u ∙ here.other_v u other;
        heads = λ u u_apart.
            ⊎_elim
            (λ (at : u ≡ t).
            let so_far : GetsLesserBelow n s i (g_of old s) t (g_of old t) (back_of old t) (g_of m t) (back_of m t) =
            here.heads t apart in
            let lesser = lesser_at c so_far by.free (omega (arith, by.lower)) in
            rw (at, lowers.lowered, lowers.by, value) lesser)
            (λ (other : u ≢ t).
            let lesser = lesser_other t c (here.heads u u_apart) by.free other in
            rw (lowers.other_g u other, lowers.other_back u other) lesser)
            (cases_eq u t);
        start_g = lowers.other_g old.start start_apart ∙ here.start_g;
        start_back = lowers.other_back old.start start_apart ∙ here.start_back;
        kept =
            kept_next_from s i (kept_lowered s i t c here.kept by.free apart near_here (omega arith) by.lower lowers)
            (λ u d arc near'.
            let same_head : Some t ≡ Some u = sym by.free.head ∙ arc.head in
            let same_cost : Some c ≡ Some d = sym by.free.cost ∙ arc.cost in
            let cost : c ≡ d = cc in
            let head : u ≡ t = cc in
            let lowered : g_of m' u ≡ v_of m s + c = rw head lowers.lowered in
            omega (arith, lowers.same_v s));
        none_under = λ under. none_under_lowered t s i (v_of m s + c) (here.none_under under) by.lower lowers;
        fits = λ count fit_old. fit_lowered t s i c (here.fits count fit_old) by.free.source near_here small lowers;
      }

  -- whatever arc i does
  pub expanding_more : {m m' : Marks} (i : ℕ) (head : Option ℕ) → IsSound n → IsExpanding n old m s i → g_of old s < FAR
      → FitCount n.states (g_of m) (v_of m) (2 ^ 30) → IsRelaxed n m m' s i head → IsExpanding n old m' s (i + 1)
  expanding_more i None sound here near fit relaxed = rw relaxed.0 (expanding_same i here relaxed.1)
  expanding_more i (Some t) sound here near fit relaxed = expanding_lowered i t relaxed.0 sound here near fit relaxed.1

  -- after the last arc the labels are usable for one expansion more
  pub usable_all : {m : Marks} {i count : ℕ} → IsExpanding n old m s i → n.fan s ≤ i → AreUsable n old count
      → AreUsable n m (count + 1)
  usable_all {m} {i} {count} here over usable = record {
    states = here.same_states ∙ usable.states;
    exact = rw here.same_start (exact_from_kept (kept_done s i here.kept over));
    fits = here.fits count usable.fits;
  }

  -- after the last arc each head has its lesser label
  pub lowered_all : {m : Marks} {i : ℕ} → IsExpanding n old m s i → n.fan s ≤ i → IsOver old s → LowersHeads n old m s
  lowered_all here over is_over = record {
    same_start = here.same_start;
    same_states = here.same_states;
    over = is_over;
    settled = here.settled;
    other_v = here.other_v;
    heads = λ t apart.
        let so_far = here.heads t apart in
        record {
          at_most = so_far.at_most;
          least = λ k c arc. so_far.least k c (omega (arith, arc.number)) arc;
          same = so_far.same;
          lower = λ lower. let found = so_far.lower lower in (found.0, found.1, found.2, found.3);
        };
    start_g = here.start_g;
    start_back = here.start_back;
  }
