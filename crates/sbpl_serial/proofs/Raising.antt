-- The arcs of a raised state, one after the other.
use Rattle.std.proofs.Common.{◌≡◌, ◌≢◌, ℕ, ◌+◌, ◌<◌, ◌≤◌, Option, Some, None, arith, ⊎_elim, refl, sym, ◌∙◌, ap, subst}
use Rattle.std.proofs.lemmas.Bool.{cases_eq, cases_lt}
use Rattle.std.proofs.lemmas.List.{get_or_past}
use Rattle.std.proofs.lemmas.Option.{none-some, same_Some}
use Rattle.sbpl_search.specs.sbpl_graph.declared.TheConstants.{FAR}
use Rattle.sbpl_search.specs.sbpl_graph.Network.{Network}
use Rattle.sbpl_search.specs.sbpl_graph.Laws.{IsSound, HasExactTails}
use Rattle.sbpl_search.specs.sbpl_graph.Exact.{AreExact}
use Rattle.sbpl_search.specs.sbpl_graph.Fit.{FitCount}
use Rattle.sbpl_search.proofs.Keeping.{same_arc}
use Rattle.sbpl_search.proofs.Paths.{label_at_most}
use Rattle.sbpl_search.specs.sbpl_labels.declared.row.Row.{Row}
use Rattle.sbpl_search.specs.sbpl_labels.Marks.{Marks, AreLabels, states_of, g_of, v_of, back_of, no_row}
use Rattle.sbpl_search.specs.sbpl_labels.Recomputed.{IsRecomputed, Recomputes}
use Rattle.sbpl_serial.specs.Run.{IsUnder, RaisesState}
use Rattle.sbpl_search.specs.Changed.{IsExactAt}
use Rattle.sbpl_serial.specs.Raised.{IsRaising, IsReturned, RaisingBegins}
use Rattle.sbpl_serial.specs.Raised.{RaisingEnds, RaisingGoesOn, RaisingLowersNone}
use Rattle.sbpl_serial.proofs.Repairing.{recomputed_alike}
use Rattle.sbpl_serial.proofs.Exactness.{exact_recomputed, exact_everywhere, exact_at}

-- a state with a back arc is a state
pub back_inside : (m : Marks) {t s k : ℕ} → back_of m t ≡ Some (s, k) → t < states_of m
back_inside m {t} {s} {k} by =
    ⊎_elim
    (λ (inside : t < states_of m). inside)
    (λ (past : states_of m ≤ t).
    absurd (none-some (s, k) (sym (ap (λ (r : Row). r.back) (get_or_past m.rows t no_row past)) ∙ by)))
    (cases_lt t (states_of m))

module _ {n : Network} (old : Marks) (s : ℕ) (exact : AreExact n old.start (g_of old) (v_of old) (back_of old))
    (states : states_of old ≡ n.states) where
  -- a state with a back arc is the head of that arc
  pub head_by : (t k : ℕ) → back_of old t ≡ Some (s, k) → (t ≢ old.start) × (k < n.fan s) × (n.head s k ≡ Some t)
  head_by t k by =
      let inside = back_inside old by in
      let apart : t ≢ old.start =
      λ e. none-some (s, k) (sym exact.none_at_start ∙ ap (λ u. back_of old u) (sym e) ∙ by) in
      let given = exact.gives t s k (omega arith) apart by in
      (apart, given.1.free.number, given.1.free.head)

  module _ {m : Marks} (i : ℕ) (here : IsRaising n old m s i) where
    -- a state whose back arc is arc i or a later one has kept it
    pub waiting : (t k : ℕ) → i ≤ k → back_of old t ≡ Some (s, k) → (l : ℕ) → l < i → back_of old t ≢ Some (s, l)
    waiting t k above by l below other = absurd (omega (arith, (same_arc s k s l (sym by ∙ other)).1))

    -- arc i is no back arc
    pub raising_same : ((t : ℕ) → n.head s i ≡ Some t → back_of m t ≢ Some (s, i)) → IsRaising n old m s (i + 1)
    raising_same none = record {
      same_start = here.same_start;
      same_states = here.same_states;
      raised = here.raised;
      other_v = here.other_v;
      heads = λ t k below by.
          ⊎_elim
          (λ (at : k ≡ i).
          let by_i : back_of old t ≡ Some (s, i) = subst (λ j. back_of old t ≡ Some (s, j)) at by in
          absurd (none t (head_by t i by_i).2 (here.other_back t (waiting t i (omega arith) by_i) ∙ by_i)))
          (λ (before : k ≢ i). here.heads t k (omega arith) by)
          (cases_eq k i);
      other_g = λ t others. here.other_g t (λ k below. others k (omega arith));
      other_back = λ t others. here.other_back t (λ k below. others k (omega arith));
      fits = here.fits;
    }

    -- what is recomputed has no back arc from s
    not_recomputed : (t g : ℕ) (back : Option (ℕ × ℕ)) → back ≡ Some (s, i) → IsRecomputed n (v_of m) t g back → ⊥
    not_recomputed t g None by is = none-some (s, i) by
    not_recomputed t g (Some (a, l)) by is =
        let same = same_arc a l s i by in
        let near : v_of m s < FAR = rw (← same.0) is.2.way.near in
        omega (arith, here.raised)

    -- a state that now has arc i as its back arc had it before
    pub had_arc : (t : ℕ) → back_of m t ≡ Some (s, i) → (was : Option (ℕ × ℕ)) → back_of old t ≡ was
        → back_of old t ≡ Some (s, i)
    had_arc t by None is =
        sym (here.other_back t (λ k below at. none-some (s, k) (sym is ∙ at))) ∙ by
    had_arc t by (Some (a, l)) is =
        ⊎_elim
        (λ (at : a ≡ s).
        ⊎_elim
        (λ (before : l < i).
        let own : back_of old t ≡ Some (s, l) = subst (λ b. back_of old t ≡ Some (b, l)) at is in
        absurd (not_recomputed t (g_of m t) (back_of m t) by (here.heads t l before own)))
        (λ (after : i ≤ l).
        sym (here.other_back t (λ k below other. absurd (omega (arith, (same_arc a l s k (sym is ∙ other)).1)))) ∙ by)
        (cases_lt l i))
        (λ (apart : a ≢ s). sym (here.other_back t (λ k below other. apart (same_arc a l s k (sym is ∙ other)).0)) ∙ by)
        (cases_eq a s)

    -- t, whose back arc is arc i, is recomputed
    pub raising_other : {m' : Marks} (t : ℕ) → n.head s i ≡ Some t → back_of m t ≡ Some (s, i) → Recomputes n m m' t
        → ((count : ℕ) → FitCount (states_of m) (g_of m) (v_of m) count
        → FitCount (states_of m) (g_of m') (v_of m') count)
        → IsRaising n old m' s (i + 1)
    raising_other {m'} t head by recomputes fits =
        let had = had_arc t by (back_of old t) refl in
        let same_v : (u : ℕ) → v_of m' u ≡ v_of m u =
        λ u.
        ⊎_elim
        (λ (at : u ≡ t). rw at recomputes.same_v)
        (λ (other : u ≢ t). ap (λ (r : Row). r.v) (recomputes.others u other))
        (cases_eq u t) in
        let size : states_of m ≡ n.states = here.same_states ∙ states in
        record {
          same_start = recomputes.same_start ∙ here.same_start;
          same_states = recomputes.same_states ∙ here.same_states;
          raised = same_v s ∙ here.raised;
          other_v = λ u other. same_v u ∙ here.other_v u other;
          heads = λ u k below by_k.
              ⊎_elim
              (λ (at : u ≡ t).
              rw at (recomputed_alike n (v_of m) (v_of m') t (g_of m' t) (back_of m' t) same_v recomputes.recomputed))
              (λ (other : u ≢ t).
              let before : k ≢ i =
              λ e.
              other (same_Some u t (sym (head_by u i (subst (λ j. back_of old u ≡ Some (s, j)) e by_k)).2 ∙ head)) in
              let was = here.heads u k (omega arith) by_k in
              let now =
              subst (λ (r : Row). IsRecomputed n (v_of m) u r.g r.back) (sym (recomputes.others u other)) was in
              recomputed_alike n (v_of m) (v_of m') u (g_of m' u) (back_of m' u) same_v now)
              (cases_eq u t);
          other_g = λ u others.
              let other : u ≢ t = λ e. others i (omega arith) (rw e had) in
              ap (λ (r : Row). r.g) (recomputes.others u other) ∙ here.other_g u (λ k below. others k (omega arith));
          other_back = λ u others.
              let other : u ≢ t = λ e. others i (omega arith) (rw e had) in
              ap (λ (r : Row). r.back) (recomputes.others u other)
              ∙ here.other_back u (λ k below. others k (omega arith));
          fits = λ count fit.
              let now = here.fits count fit in
              rw (← size) (fits count (rw size now));
        }

    -- whatever arc i is
    pub raising_more : {m' : Marks} (head : Option ℕ) → IsReturned n m m' s i head
        → ((count : ℕ) → FitCount (states_of m) (g_of m) (v_of m) count
        → FitCount (states_of m) (g_of m') (v_of m') count)
        → IsRaising n old m' s (i + 1)
    raising_more None returned fits = rw returned.0 (raising_same returned.1)
    raising_more (Some t) returned fits = raising_other t returned.head returned.by returned.recomputes fits

  module _ {new : Marks} {i : ℕ} (here : IsRaising n old new s i) (over : n.fan s ≤ i) where
    -- after the last arc s is raised
    pub raises_all : IsUnder old s → RaisesState n old new s
    raises_all under = record {
      same_start = here.same_start;
      same_states = here.same_states;
      under = under;
      raised = here.raised;
      other_v = here.other_v;
      heads = λ t k apart by. here.heads t k (omega (arith, (head_by t k by).1)) by;
      other_g = λ t others. here.other_g t (λ k below by. others (head_by t k by).0 k by);
      other_back = λ t others. here.other_back t (λ k below by. others (head_by t k by).0 k by);
    }

    -- a state whose back arc comes from elsewhere is exact as before
    kept_at : (t : ℕ) → t < n.states → t ≢ old.start → ((k : ℕ) → back_of old t ≢ Some (s, k))
        → IsExactAt n (v_of new) t (g_of new t) (back_of new t)
    kept_at t inside apart others =
        let was = exact_at old exact t inside apart in
        let same_g = here.other_g t (λ k below. others k) in
        let same_back = here.other_back t (λ k below. others k) in
        record {
          least = λ a k c arc near.
              let other : a ≢ s =
              λ e. let near_s : v_of new s < FAR = rw (← e) near in absurd (omega (arith, here.raised)) in
              omega (arith, same_g, here.other_v a other, was.least a k c arc (omega (arith, here.other_v a other)));
          gives = λ a k by.
              let by_old : back_of old t ≡ Some (a, k) = sym same_back ∙ by in
              let other : a ≢ s = λ e. others k (subst (λ b. back_of old t ≡ Some (b, k)) e by_old) in
              let given = was.gives a k by_old in (
                given.0,
                record {
                  free = given.1.free;
                  near = omega (arith, here.other_v a other, given.1.near);
                  sum = omega (arith, same_g, here.other_v a other, given.1.sum);
                },
              );
          far_without_arc = λ none. same_g ∙ was.far_without_arc (sym same_back ∙ none);
          no_arc_where_far = λ far. same_back ∙ was.no_arc_where_far (sym same_g ∙ far);
        }

    -- and each state is exact
    raised_at : IsSound n → HasExactTails n → AreLabels new → (t : ℕ) → t < n.states → t ≢ old.start
        → (back : Option (ℕ × ℕ))
        → back_of old t ≡ back → IsExactAt n (v_of new) t (g_of new t) (back_of new t)
    raised_at sound tails labels t inside apart None is =
        kept_at t inside apart (λ k by. none-some (s, k) (sym is ∙ by))
    raised_at sound tails labels t inside apart (Some (a, l)) is =
        ⊎_elim
        (λ (at : a ≡ s).
        let own : back_of old t ≡ Some (s, l) = subst (λ b. back_of old t ≡ Some (b, l)) at is in
        exact_recomputed n (v_of new) t (g_of new t) sound tails
        (λ u within. (labels.labels u (omega (arith, here.same_states, states))).1) (back_of new t)
        (here.heads t l (omega (arith, (head_by t l own).1)) own))
        (λ (other : a ≢ s). kept_at t inside apart (λ k by. other (same_arc a l s k (sym is ∙ by)).0))
        (cases_eq a s)

    pub exact_raised : IsSound n → HasExactTails n → AreLabels new
        → AreExact n new.start (g_of new) (v_of new) (back_of new)
    exact_raised sound tails labels =
        exact_everywhere labels (here.same_states ∙ states) sound
        (λ t inside apart.
        raised_at sound tails labels t inside (λ e. apart (e ∙ sym here.same_start)) (back_of old t) refl)

-- ---- raising as a law

-- it begins
pub raising_begins : RaisingBegins
raising_begins n old m s by =
    let same_g : (u : ℕ) → g_of m u ≡ g_of old u =
    λ u.
    ⊎_elim
    (λ (at : u ≡ s). rw at (ap (λ (r : Row). r.g) by.at))
    (λ (other : u ≢ s). ap (λ (r : Row). r.g) (by.others u other))
    (cases_eq u s) in
    let same_back : (u : ℕ) → back_of m u ≡ back_of old u =
    λ u.
    ⊎_elim
    (λ (at : u ≡ s). rw at (ap (λ (r : Row). r.back) by.at))
    (λ (other : u ≢ s). ap (λ (r : Row). r.back) (by.others u other))
    (cases_eq u s) in
    let raised : v_of m s ≡ FAR = ap (λ (r : Row). r.v) by.at in
    let other_v : (u : ℕ) → u ≢ s → v_of m u ≡ v_of old u = λ u other. ap (λ (r : Row). r.v) (by.others u other) in
    record {
      same_start = by.start;
      same_states = by.states;
      raised = raised;
      other_v = other_v;
      heads = λ t k below own. absurd (omega (arith, below));
      other_g = λ t others. same_g t;
      other_back = λ t others. same_back t;
      fits = λ count fit. record {
        near_g = λ u inside near. omega (arith, same_g u, fit.near_g u inside (omega (arith, same_g u, near)));
        near_v = λ u inside near.
            ⊎_elim
            (λ (at : u ≡ s). let here : v_of m s < FAR = rw (← at) near in absurd (omega (arith, raised)))
            (λ (other : u ≢ s).
            omega (arith, other_v u other, fit.near_v u inside (omega (arith, other_v u other, near))))
            (cases_eq u s);
      };
    }

module _ (n : Network) (old m new : Marks) (s i : ℕ) (states : states_of old ≡ n.states) (labels : AreLabels old)
    (exact : AreExact n old.start (g_of old) (v_of old) (back_of old)) (here : IsRaising n old m s i) where
  -- what is recomputed comes from a state other than s, over an arc that was there
  no_less_than : (t g : ℕ) (back : Option (ℕ × ℕ)) → t < states_of old
      → IsRecomputed n (v_of m) t g back → g_of old t ≤ g
  no_less_than t g None inside is = omega (arith, is.0, label_at_most _ (labels.labels t inside).0)
  no_less_than t g (Some (a, l)) inside is =
      let way = is.2.way in
      let other : a ≢ s = λ e. let near_s : v_of m s < FAR = rw (← e) way.near in absurd (omega (arith, here.raised)) in
      omega (
        arith,
        is.2.gives,
        here.other_v a other,
        exact.least a l t is.1 way.free (omega (arith, here.other_v a other, way.near)),
      )

  -- the head of an arc that is its back arc had its g until then
  grown_head : (t : ℕ) → back_of m t ≡ Some (s, i) → Recomputes n m new t → g_of m t ≤ g_of new t
  grown_head t by recomputes =
      let had = had_arc old s exact states i here t by (back_of old t) refl in
      let same = here.other_g t (waiting old s exact states i here t i (omega arith) had) in
      omega (arith, same, no_less_than t (g_of new t) (back_of new t) (back_inside old had) recomputes.recomputed)

  pub grown : (head : Option ℕ) → IsReturned n m new s i head → (t : ℕ) → g_of m t ≤ g_of new t
  grown None returned t = let same : new ≡ m = returned.0 in rw same (omega arith)
  grown (Some u) returned t =
      ⊎_elim
      (λ (at : t ≡ u). rw at (grown_head u returned.by returned.recomputes))
      (λ (other : t ≢ u). omega (arith, ap (λ (r : Row). r.g) (returned.recomputes.others t other)))
      (cases_eq t u)

-- it goes on
pub raising_goes_on : RaisingGoesOn
raising_goes_on n old m new s i head states exact here returned fits =
    raising_more old s exact states i here head returned fits

pub raising_lowers_none : RaisingLowersNone
raising_lowers_none n old m new s i head states labels exact here returned =
    grown n old m new s i states labels exact here head returned

-- and it ends
pub raising_ends : RaisingEnds
raising_ends n old new s i sound tails states labels exact here over under = (
  raises_all old s exact states here over under,
  exact_raised old s exact states here over sound tails labels,
)
