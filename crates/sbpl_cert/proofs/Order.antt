-- Which flaw comes first.
use Rattle.std.proofs.Common.{◌≡◌, ℕ, ◌+◌, ◌*◌, ◌<◌, ◌≤◌, ◌⊎◌, inl, inr, length, take, refl, sym, ap, subst, ◌∙◌, arith}
use Rattle.std.proofs.Common.{Option, Some, None, Result, Ok, Err, MatchResult, cond, eq-eqb, nat_eq}
use Rattle.std.specs.Prelude.{◌≢◌, IsTrue}
use Rattle.std.proofs.lemmas.Bool.{cases_eq, cases_lt, ne_eqb}
use Rattle.sbpl_labels.specs.sbpl_graph.declared.TheConstants.{FAR}
use Rattle.sbpl_labels.specs.sbpl_graph.Network.{Network, IsFreeArc}
use Rattle.sbpl_labels.specs.sbpl_graph.Path.{IsFreePath}
use Rattle.sbpl_labels.specs.sbpl_graph.Bound.{IsBound}
use Rattle.sbpl_labels.specs.sbpl_graph.Laws.{IsSound}
use Rattle.sbpl_labels.specs.sbpl_graph.Certificate.{ShowNone, BoundHolds, NoneHolds}
use Rattle.std.proofs.Math.Nat.{mul-le-mul_left}
use Rattle.sbpl_cert.specs.declared.outcome.Outcome.{Outcome}
use Rattle.sbpl_cert.specs.declared.outcome.Outcome.TheVariants as outcome
use Rattle.sbpl_cert.specs.declared.flaw.Flaw.{Flaw}
use Rattle.sbpl_cert.specs.declared.flaw.Flaw.TheVariants as flaw
use Rattle.sbpl_cert.specs.Claims.{AreLabelled, Claim}
use Rattle.sbpl_cert.specs.Sound.{ShowsBound, ShowsOutcome, ShowsAll, IsSo}
use Rattle.sbpl_cert.specs.Flaws.{HasFlaw, HasNoFlaw, IsFirstFlaw, IsBefore, number_of, turn_of, arc_of, IsArcOff}
use Rattle.sbpl_cert.specs.Flaws.{IsGuideOff, IsLeastBound, IsLimit}
use Rattle.sbpl_cert.specs.Checking.{AreAllKept, IsSupportFlaw, IsGuideRight, IsGuideOffFirst, IsLowAllowed}
use Rattle.sbpl_cert.specs.Checking.{IsLowFlaw, IsEndFlaw, IsOutcomeRight, IsOutcomeFlaw, IsArcKept, IsFirstArcFlaw}
use Rattle.sbpl_cert.specs.Checking.{IsGuideKept, IsFirstGuideFlaw, IsLowKept, IsFirstLowFlaw, IsStepFlaw}
use Rattle.sbpl_cert.specs.Checking.{IsBoundFlaw, IsSettled, IsFirstUnsettledFlaw}
use Rattle.sbpl_cert.proofs.Paths.{same_end, same_head, arc_on_path, arc_on_front}

-- no flaw has a smaller number
abbrev pub Clear : Network → ℕ → ℕ → Claim → ℕ → Type 0
Clear n start goal s m = (e : Flaw) → HasFlaw n start goal s e → number_of e < m → ⊥

-- no flaw has this number
abbrev pub NoneAt : Network → ℕ → ℕ → Claim → ℕ → Type 0
NoneAt n start goal s m = (e : Flaw) → HasFlaw n start goal s e → number_of e ≡ m → ⊥

-- of two flaws of one number
abbrev pub IsEarlier : ℕ → Flaw → Flaw → Type 0
IsEarlier goal e f = (turn_of goal e < turn_of goal f) ⊎ ((turn_of goal e ≡ turn_of goal f) × (arc_of e < arc_of f))

module _ (n : Network) (start goal : ℕ) (s : Claim) where
  pub clear_more : (m k : ℕ) → k ≡ m + 1 → Clear n start goal s m → NoneAt n start goal s m → Clear n start goal s k
  clear_more m k next clear none e has lt =
      elim (cases_eq (number_of e) m) [ inl same ↦ none e has same | inr other ↦ clear e has (omega arith) ]

  pub clear_one : Clear n start goal s 1
  clear_one (flaw.Start _) has lt = omega arith
  clear_one (flaw.Arc _ _ _ _) has lt = omega arith
  clear_one (flaw.GoalGuide _) has lt = omega arith
  clear_one (flaw.Guide _ _ _ _) has lt = omega arith
  clear_one (flaw.Low _ _ _) has lt = omega arith
  clear_one (flaw.Path _) has lt = omega arith
  clear_one (flaw.Cost _ _) has lt = omega arith
  clear_one (flaw.Bound _ _) has lt = omega arith
  clear_one (flaw.Goal _) has lt = omega arith

  -- ---- none of a number

  arc_off : (u k has most : ℕ) → IsArcOff n s.g s.v u k has most → IsArcKept n s.g s.v u k → ⊥
  arc_off u k has most off kept = let le = kept off.target off.cost off.free off.near in omega arith

  guide_off : (u k has most : ℕ) → IsGuideOff n s.h u k has most → IsGuideKept n s.h u k → ⊥
  guide_off u k has most off kept = let le = kept off.target off.cost off.free in omega arith

  pub none_at_start : s.g start ≡ 0 → NoneAt n start goal s 1
  none_at_start zero_is (flaw.Start g) off same = off.some (off.has_is ∙ zero_is)
  none_at_start zero_is _ off same = omega arith

  pub none_at_arcs : ((u k : ℕ) → IsArcKept n s.g s.v u k) → NoneAt n start goal s 2
  none_at_arcs kept (flaw.Arc u k has most) off same = arc_off u k has most off (kept u k)
  none_at_arcs kept _ off same = omega arith

  pub none_at_guide : s.h goal ≡ 0 → ((u k : ℕ) → IsGuideKept n s.h u k) → NoneAt n start goal s 3
  none_at_guide zero_is kept (flaw.GoalGuide has) off same = off.1.some (off.1.has_is ∙ zero_is)
  none_at_guide zero_is kept (flaw.Guide u k has most) off same = guide_off u k has most off.1 (kept u k)
  none_at_guide zero_is kept _ off same = omega arith

  pub none_at_low : s.low ≤ s.g goal → ((u : ℕ) → u < n.states → IsLowKept s.g s.v s.h s.low u)
      → NoneAt n start goal s 4
  none_at_low at_goal kept (flaw.Low u has most) off same =
      elim off.limit [
        | inl w ↦ omega (arith, w.1, off.has_is, off.above)
        | inr w ↦ (let le = kept u w.1 w.2 in omega (arith, w.3, off.has_is, off.above))
      ]
  none_at_low at_goal kept _ off same = omega arith

  pub none_at_steps : (t c : ℕ) → IsFreePath n start s.arcs t c → NoneAt n start goal s 5
  none_at_steps t c path (flaw.Path i) off same =
      let arc = arc_on_path n start s.arcs i t off.at c off.paid off.inside path off.before in
      off.shut arc.0 arc.1 arc.2
  none_at_steps t c path _ off same = omega arith

  pub none_at_cost : (t c b : ℕ) → IsFreePath n start s.arcs t c → s.outcome ≡ outcome.Path c b
      → NoneAt n start goal s 6
  none_at_cost t c b path is (flaw.Cost has paid) off same =
      let ends = same_end n start s.arcs off.end t paid c off.path path in
      let said = off.outcome in
      let costs : has ≡ c = cc in
      off.differ (ends.1 ∙ sym costs)
  none_at_cost t c b path is _ off same = omega arith

  least_is_one : (c low b b' : ℕ) → IsBound c low b → IsBound c low b' → b ≡ b'
  least_is_one c low b b' one two =
      let le = one.least b' two.at_least_one two.reaches in
      let ge = two.least b one.at_least_one one.reaches in
      omega arith

  bound_is_one : (c low b : ℕ) (least : Option ℕ) → IsBound c low b → IsLeastBound c low least → least ≡ Some b
  bound_is_one c low b (Some b') one two = ap Some (least_is_one c low b' b two one)
  bound_is_one c low b None one two =
      let none : b * low ≡ 0 = rw (two.1) (omega arith) in
      let reaches = one.reaches in
      absurd (omega (arith, two.0))

  pub none_at_bound : (c b : ℕ) → s.outcome ≡ outcome.Path c b → IsBound c s.low b → NoneAt n start goal s 7
  none_at_bound c b is bound (flaw.Bound has least) off same =
      let said = off.outcome in
      let costs : off.cost ≡ c = cc in
      let bounds : has ≡ b = cc in
      off.differ (bound_is_one c s.low b least bound (subst (λ (x : ℕ). IsLeastBound x s.low least) costs off.least_is)
      ∙ ap Some (sym bounds))
  none_at_bound c b is bound _ off same = omega arith

  pub none_at_end : (c b : ℕ) → s.outcome ≡ outcome.Path c b → IsFreePath n start s.arcs goal c
      → NoneAt n start goal s 8
  none_at_end c b is path (flaw.Goal u) off same =
      elim off [
        | inl w ↦ w.other (same_end n start s.arcs u goal w.paid c w.path path).0
        | inr w ↦ (let said = w.outcome in cc)
      ]
  none_at_end c b is path _ off same = omega arith

  -- ---- none of a number where there is no path to judge

  other_than_path : (c b : ℕ) → s.outcome ≡ outcome.NoPath → s.outcome ≡ outcome.Path c b → ⊥
  other_than_path c b one two = cc

  unknown_is_no_path : (c b : ℕ) → s.outcome ≡ outcome.Unknown → s.outcome ≡ outcome.Path c b → ⊥
  unknown_is_no_path c b one two = cc

  pub none_of_path : ((c b : ℕ) → s.outcome ≡ outcome.Path c b → ⊥) → Clear n start goal s 5 → Clear n start goal s 8
  none_of_path other clear (flaw.Path _) off lt = other off.cost off.bound off.outcome
  none_of_path other clear (flaw.Cost has _) off lt = other has off.bound off.outcome
  none_of_path other clear (flaw.Bound has _) off lt = other off.cost has off.outcome
  none_of_path other clear (flaw.Goal _) off lt = omega arith
  none_of_path other clear (flaw.Start g) off lt = clear (flaw.Start g) off (omega arith)
  none_of_path other clear (flaw.Arc a b c d) off lt = clear (flaw.Arc a b c d) off (omega arith)
  none_of_path other clear (flaw.GoalGuide g) off lt = clear (flaw.GoalGuide g) off (omega arith)
  none_of_path other clear (flaw.Guide a b c d) off lt = clear (flaw.Guide a b c d) off (omega arith)
  none_of_path other clear (flaw.Low a b c) off lt = clear (flaw.Low a b c) off (omega arith)

  pub none_open : s.outcome ≡ outcome.NoPath → ((u : ℕ) → u < n.states → IsSettled goal s.g s.v u)
      → NoneAt n start goal s 8
  none_open is settled (flaw.Goal u) off same =
      elim off [
        | inl w ↦ (let said = w.outcome in cc)
        | inr w ↦
            (let now = settled u w.inside w.near in elim w.unsettled [
              | inl at ↦ now.0 at
              | inr far ↦ omega (arith, now.1)
            ])
      ]
  none_open is settled _ off same = omega arith

  pub none_at_all : s.outcome ≡ outcome.Unknown → NoneAt n start goal s 8
  none_at_all is (flaw.Goal u) off same =
      elim off [
        | inl w ↦ (let said = w.outcome in cc)
        | inr w ↦ (let said = w.outcome in cc)
      ]
  none_at_all is _ off same = omega arith

  few_numbers : (e : Flaw) → number_of e < 9
  few_numbers (flaw.Start _) = omega arith
  few_numbers (flaw.Arc _ _ _ _) = omega arith
  few_numbers (flaw.GoalGuide _) = omega arith
  few_numbers (flaw.Guide _ _ _ _) = omega arith
  few_numbers (flaw.Low _ _ _) = omega arith
  few_numbers (flaw.Path _) = omega arith
  few_numbers (flaw.Cost _ _) = omega arith
  few_numbers (flaw.Bound _ _) = omega arith
  few_numbers (flaw.Goal _) = omega arith

  pub all_clear : Clear n start goal s 9 → HasNoFlaw n start goal s
  all_clear clear e has = clear e has (few_numbers e)

  -- ---- the first flaw

  first_by : (f : Flaw) → HasFlaw n start goal s f → Clear n start goal s (number_of f)
      → ((e : Flaw) → HasFlaw n start goal s e → number_of e ≡ number_of f → IsEarlier goal e f → ⊥)
      → IsFirstFlaw n start goal s f
  first_by f has clear none = record {
    has = has;
    first = λ e other before. elim before [ inl lt ↦ clear e other lt | inr w ↦ none e other w.0 w.1 ];
  }

  nothing_earlier : (e f : Flaw) → turn_of goal f ≡ 0 → arc_of f ≡ 0 → IsEarlier goal e f → ⊥
  nothing_earlier e f turn arc before = elim before [ inl lt ↦ omega arith | inr w ↦ omega (arith, w.1) ]

  -- the first of its number, where it has the first turn
  first_turn : (f : Flaw) → HasFlaw n start goal s f → Clear n start goal s (number_of f) → turn_of goal f ≡ 0
      → arc_of f ≡ 0 → IsFirstFlaw n start goal s f
  first_turn f has clear turn arc = first_by f has clear (λ e _ _ before. nothing_earlier e f turn arc before)

  none_before_arc : (u k has most : ℕ) → ((j : ℕ) → j < k → IsArcKept n s.g s.v u j)
      → ((v : ℕ) → v < u → (j : ℕ) → IsArcKept n s.g s.v v j)
      → (e : Flaw) → HasFlaw n start goal s e → number_of e ≡ 2 → IsEarlier goal e (flaw.Arc u k has most) → ⊥
  none_before_arc u k has most arcs states (flaw.Arc v j has' most') off same before =
      elim before [
        | inl lt ↦ arc_off v j has' most' off (states v lt j)
        | inr w ↦ arc_off v j has' most' off (subst (λ (x : ℕ). IsArcKept n s.g s.v x j) (sym w.0) (arcs j w.1))
      ]
  none_before_arc u k has most arcs states _ off same before = omega arith

  pub first_at_arc : (f : Flaw) → Clear n start goal s 2 → IsFirstArcFlaw n s.g s.v f → IsFirstFlaw n start goal s f
  first_at_arc f clear w =
      let u = w.0 in let at = w.1 in let k = at.0 in let off = at.1 in
      let g : Flaw = flaw.Arc u k off.0 off.1 in
      let first : IsFirstFlaw n start goal s g = first_by g off.3 clear (none_before_arc u k off.0 off.1 at.2 w.2) in
      subst (λ (x : Flaw). IsFirstFlaw n start goal s x) (sym off.2) first

  none_before_guide : (u k has most : ℕ) → s.h goal ≡ 0 → ((j : ℕ) → j < k → IsGuideKept n s.h u j)
      → ((v : ℕ) → v < u → (j : ℕ) → IsGuideKept n s.h v j)
      → (e : Flaw) → HasFlaw n start goal s e → number_of e ≡ 3 → IsEarlier goal e (flaw.Guide u k has most) → ⊥
  none_before_guide u k has most zero_is arcs states (flaw.GoalGuide has') off same before =
      off.1.some (off.1.has_is ∙ zero_is)
  none_before_guide u k has most zero_is arcs states (flaw.Guide v j has' most') off same before =
      elim before [
        | inl lt ↦ guide_off v j has' most' off.1 (states v (omega (arith, lt)) j)
        | inr w ↦
            (let at : u ≡ v = omega (arith, w.0) in
            guide_off v j has' most' off.1 (subst (λ (x : ℕ). IsGuideKept n s.h x j) at (arcs j w.1)))
      ]
  none_before_guide u k has most zero_is arcs states _ off same before = omega arith

  pub first_at_guide : IsTrue s.own → (f : Flaw) → Clear n start goal s 3 → s.h goal ≡ 0 → IsFirstGuideFlaw n s.h f
      → IsFirstFlaw n start goal s f
  first_at_guide own f clear zero_is w =
      let u = w.0 in let at = w.1 in let k = at.0 in let off = at.1 in
      let g : Flaw = flaw.Guide u k off.0 off.1 in
      let first : IsFirstFlaw n start goal s g =
      first_by g (own, off.3) clear (none_before_guide u k off.0 off.1 zero_is at.2 w.2) in
      subst (λ (x : Flaw). IsFirstFlaw n start goal s x) (sym off.2) first

  pub first_at_goal_low : Clear n start goal s 4 → s.g goal < s.low
      → IsFirstFlaw n start goal s (flaw.Low goal s.low (s.g goal))
  first_at_goal_low clear above =
      first_turn (flaw.Low goal s.low (s.g goal)) (record { limit = inl (refl, refl); has_is = refl; above = above })
      clear (rw (eq-eqb goal goal refl) refl) refl

  none_before_low : (u most : ℕ) → u ≢ goal → s.low ≤ s.g goal → ((v : ℕ) → v < u → IsLowKept s.g s.v s.h s.low v)
      → (e : Flaw) → HasFlaw n start goal s e → number_of e ≡ 4 → IsEarlier goal e (flaw.Low u s.low most) → ⊥
  none_before_low u most other at_goal kept (flaw.Low v has' most') off same before =
      elim off.limit [
        | inl w ↦ omega (arith, w.1, off.has_is, off.above)
        | inr w ↦ (
            let turn : IsEarlier goal (flaw.Low v has' most') (flaw.Low u s.low most) → v < u =
            rw (ne_eqb v goal w.0, ne_eqb u goal other)
            (λ b. elim b [ inl lt ↦ omega (arith, lt) | inr q ↦ omega (arith, q.1) ]) in
            let le = kept v (turn before) w.2 in
            omega (arith, w.3, off.has_is, off.above)
            )
      ]
  none_before_low u most other at_goal kept _ off same before = omega arith

  pub first_at_low : (f : Flaw) → Clear n start goal s 4 → s.low ≤ s.g goal
      → IsFirstLowFlaw n.states s.g s.v s.h s.low f → IsFirstFlaw n start goal s f
  first_at_low f clear at_goal w =
      let u = w.0 in
      let most = s.g u + s.h u in
      let other : u ≢ goal = λ here. let limit : s.g u ≡ s.g goal = ap s.g here in omega (arith, w.4) in
      let g : Flaw = flaw.Low u s.low most in
      let first : IsFirstFlaw n start goal s g =
      first_by g (record { limit = inr (other, w.2, w.3, refl); has_is = refl; above = w.4 }) clear
      (none_before_low u most other at_goal w.5) in
      subst (λ (x : Flaw). IsFirstFlaw n start goal s x) (sym w.1) first

  -- ---- the first flaw of an outcome

  none_before_step : (i at paid : ℕ) → i < length s.arcs → IsFreePath n start (take i s.arcs) at paid
      → (e : Flaw) → HasFlaw n start goal s e → number_of e ≡ 5 → IsEarlier goal e (flaw.Path i) → ⊥
  none_before_step i at paid inside path (flaw.Path j) off same before =
      let lt : j < i = elim before [ inl lt ↦ lt | inr w ↦ omega (arith, w.1) ] in
      let arc = arc_on_front n start s.arcs j i at off.at paid off.paid lt inside path off.before in
      off.shut arc.0 arc.1 arc.2
  none_before_step i at paid inside path _ off same before = omega arith

  pub first_at_step : (f : Flaw) (c b : ℕ) → s.outcome ≡ outcome.Path c b → Clear n start goal s 5
      → IsStepFlaw n start s.arcs f → IsFirstFlaw n start goal s f
  first_at_step f c b is clear w =
      let g : Flaw = flaw.Path w.0 in
      let first : IsFirstFlaw n start goal s g =
      first_by g
      (record { cost = c; bound = b; outcome = is; inside = w.2; at = w.3; paid = w.4; before = w.5; shut = w.6 }) clear
      (none_before_step w.0 w.3 w.4 w.2 w.5) in
      subst (λ (x : Flaw). IsFirstFlaw n start goal s x) (sym w.1) first

  pub first_at_cost : (t c b paid : ℕ) → s.outcome ≡ outcome.Path c b → Clear n start goal s 5
      → IsFreePath n start s.arcs t paid → paid ≢ c → IsFirstFlaw n start goal s (flaw.Cost c paid)
  first_at_cost t c b paid is clear path differ =
      first_turn (flaw.Cost c paid) (record { bound = b; outcome = is; end = t; path = path; differ = differ })
      (clear_more 5 6 refl clear (none_at_steps t paid path)) refl refl

  pub first_at_bound : (f : Flaw) (t c b : ℕ) → s.outcome ≡ outcome.Path c b → Clear n start goal s 5
      → IsFreePath n start s.arcs t c
      → IsBoundFlaw c s.low b f → IsFirstFlaw n start goal s f
  first_at_bound f t c b is clear path w =
      let g : Flaw = flaw.Bound b w.0 in
      let first : IsFirstFlaw n start goal s g =
      first_turn g (record { cost = c; outcome = is; least_is = w.2; differ = w.3 })
      (clear_more 6 7 refl (clear_more 5 6 refl clear (none_at_steps t c path)) (none_at_cost t c b path is)) refl
      refl in
      subst (λ (x : Flaw). IsFirstFlaw n start goal s x) (sym w.1) first

  none_before_end : (u c b : ℕ) → s.outcome ≡ outcome.Path c b → IsFreePath n start s.arcs u c
      → (e : Flaw) → HasFlaw n start goal s e → number_of e ≡ 8 → IsEarlier goal e (flaw.Goal u) → ⊥
  none_before_end u c b is path (flaw.Goal v) off same before =
      elim off [
        | inl w ↦ (
            let at : v ≡ u = (same_end n start s.arcs v u w.paid c w.path path).0 in
            elim before [ inl lt ↦ omega (arith, lt) | inr q ↦ omega (arith, q.1) ]
            )
        | inr w ↦ (let said = w.outcome in cc)
      ]
  none_before_end u c b is path _ off same before = omega arith

  pub clear_of_path : (t c b : ℕ) → s.outcome ≡ outcome.Path c b → Clear n start goal s 5
      → IsFreePath n start s.arcs t c → IsBound c s.low b → Clear n start goal s 8
  clear_of_path t c b is clear path bound =
      clear_more 7 8 refl (clear_more 6 7 refl (clear_more 5 6 refl clear (none_at_steps t c path))
      (none_at_cost t c b path is)) (none_at_bound c b is bound)

  pub first_at_end : (u c b : ℕ) → s.outcome ≡ outcome.Path c b → Clear n start goal s 5 → IsFreePath n start s.arcs u c
      → IsBound c s.low b → u ≢ goal → IsFirstFlaw n start goal s (flaw.Goal u)
  first_at_end u c b is clear path bound other =
      first_by (flaw.Goal u) (inl (record { cost = c; bound = b; outcome = is; paid = c; path = path; other = other }))
      (clear_of_path u c b is clear path bound) (none_before_end u c b is path)

  none_before_open : (u : ℕ) → s.outcome ≡ outcome.NoPath → ((v : ℕ) → v < u → IsSettled goal s.g s.v v)
      → (e : Flaw) → HasFlaw n start goal s e → number_of e ≡ 8 → IsEarlier goal e (flaw.Goal u) → ⊥
  none_before_open u is settled (flaw.Goal v) off same before =
      let lt : v < u = elim before [ inl lt ↦ lt | inr q ↦ omega (arith, q.1) ] in
      elim off [
        | inl w ↦ (let said = w.outcome in cc)
        | inr w ↦
            (let now = settled v lt w.near in elim w.unsettled [ inl at ↦ now.0 at | inr far ↦ omega (arith, now.1) ])
      ]
  none_before_open u is settled _ off same before = omega arith

  pub first_at_open : (f : Flaw) → s.outcome ≡ outcome.NoPath → Clear n start goal s 5
      → IsFirstUnsettledFlaw n.states goal s.g s.v f → IsFirstFlaw n start goal s f
  first_at_open f is clear w =
      let g : Flaw = flaw.Goal w.0 in
      let first : IsFirstFlaw n start goal s g =
      first_by g (inr (record { outcome = is; inside = w.2; near = w.3; unsettled = w.4 }))
      (none_of_path (λ c b two. other_than_path c b is two) clear) (none_before_open w.0 is w.5) in
      subst (λ (x : Flaw). IsFirstFlaw n start goal s x) (sym w.1) first

  -- ---- what passed so far

  pub clear_two : s.g start ≡ 0 → Clear n start goal s 2
  clear_two zero_is = clear_more 1 2 refl clear_one (none_at_start zero_is)

  pub clear_three : s.g start ≡ 0 → ((u k : ℕ) → IsArcKept n s.g s.v u k) → Clear n start goal s 3
  clear_three zero_is arcs = clear_more 2 3 refl (clear_two zero_is) (none_at_arcs arcs)

  pub clear_four : s.g start ≡ 0 → ((u k : ℕ) → IsArcKept n s.g s.v u k) → s.h goal ≡ 0
      → ((u k : ℕ) → IsGuideKept n s.h u k) → Clear n start goal s 4
  clear_four zero_is arcs none guide = clear_more 3 4 refl (clear_three zero_is arcs) (none_at_guide none guide)

  pub shows_bound : AreLabelled n.states s → s.g start ≡ 0 → ((u k : ℕ) → IsArcKept n s.g s.v u k) → s.h goal ≡ 0
      → ((u k : ℕ) → IsGuideKept n s.h u k) → s.low ≤ s.g goal
      → ((u : ℕ) → u < n.states → IsLowKept s.g s.v s.h s.low u) → ShowsBound n start goal s
  shows_bound labelled zero_is arcs none guide at_goal low = record {
    supported = record {
      labels = labelled;
      from_start = zero_is;
      along = λ u k t c free near. arcs u k t c free near;
    };
    consistent = record { at_goal = none; along = λ u k t c free. guide u k t c free };
    at_goal = at_goal;
    unsettled = λ u inside differ. low u inside differ;
  }

  pub clear_five : ShowsBound n start goal s → Clear n start goal s 5
  clear_five b =
      clear_more 4 5 refl (clear_four b.supported.from_start (λ u k t c free near. b.supported.along u k t c free near)
      b.consistent.at_goal (λ u k t c free. b.consistent.along u k t c free))
      (none_at_low b.at_goal (λ u inside differ. b.unsettled u inside differ))

  pub shows_none : goal < n.states → ShowsBound n start goal s → ((u : ℕ) → u < n.states → IsSettled goal s.g s.v u)
      → ShowNone n start goal s.g s.v
  shows_none inside b settled = record {
    supported = b.supported;
    goal_is_far =
        let label = (b.supported.labels goal inside).0 in
        elim label [ inl far ↦ far | inr near ↦ absurd ((settled goal inside (omega (arith, near))).0 refl) ];
    closed = λ u at near. (settled u at near).1;
  }

  -- ---- the stages of a check

  named : (f e : Flaw) → f ≡ e → IsFirstFlaw n start goal s e → IsFirstFlaw n start goal s f
  named f e is first = subst (λ (x : Flaw). IsFirstFlaw n start goal s x) (sym is) first

  pub support_flaw : (f : Flaw) → IsSupportFlaw n start s.g s.v f → IsFirstFlaw n start goal s f
  support_flaw f w = elim w [
    | inl off ↦
        named f (flaw.Start (s.g start)) off.1
        (first_turn (flaw.Start (s.g start)) (record { has_is = refl; some = off.0 }) clear_one refl refl)
    | inr arc ↦ first_at_arc f (clear_two arc.0) arc.1
  ]

  pub guide_flaw : IsTrue s.own → AreAllKept n start s.g s.v → (f : Flaw) → IsGuideOffFirst n goal s.h f
      → IsFirstFlaw n start goal s f
  guide_flaw own kept f w = elim w [
    | inl off ↦
        named f (flaw.GoalGuide (s.h goal)) off.1 (first_turn (flaw.GoalGuide (s.h goal))
        (own, record { has_is = refl; some = off.0 }) (clear_three kept.0 kept.1) refl refl)
    | inr arc ↦ first_at_guide own f (clear_three kept.0 kept.1) arc.0 arc.1
  ]

  pub low_flaw : AreAllKept n start s.g s.v → IsGuideRight n goal s.h → (f : Flaw)
      → IsLowFlaw n.states goal s.g s.v s.h s.low f → IsFirstFlaw n start goal s f
  low_flaw kept right f w = elim w [
    | inl off ↦
        named f (flaw.Low goal s.low (s.g goal)) off.1
        (first_at_goal_low (clear_four kept.0 kept.1 right.0 right.1) off.0)
    | inr low ↦ first_at_low f (clear_four kept.0 kept.1 right.0 right.1) low.0 low.1
  ]

  pub bound_shown : AreLabelled n.states s → AreAllKept n start s.g s.v → IsGuideRight n goal s.h
      → IsLowAllowed n.states goal s.g s.v s.h s.low → ShowsBound n start goal s
  bound_shown labelled kept right low = shows_bound labelled kept.0 kept.1 right.0 right.1 low.0 low.1

  end_flaw : (c b at paid : ℕ) → s.outcome ≡ outcome.Path c b → Clear n start goal s 5
      → IsFreePath n start s.arcs at paid
      → (f : Flaw) → IsEndFlaw goal c s.low b at paid f → IsFirstFlaw n start goal s f
  end_flaw c b at paid is clear path f w = elim w [
    | inl cost ↦ named f (flaw.Cost c paid) cost.1 (first_at_cost at c b paid is clear path cost.0)
    | inr rest ↦ (
        let paid_path : IsFreePath n start s.arcs at c = subst (λ x. IsFreePath n start s.arcs at x) rest.0 path in
        elim rest.1 [
          | inl bound ↦ first_at_bound f at c b is clear paid_path bound
          | inr end ↦ named f (flaw.Goal at) end.2 (first_at_end at c b is clear paid_path end.0 end.1)
        ]
        )
  ]

  outcome_flaw : (o : Outcome) → s.outcome ≡ o → ShowsBound n start goal s → (f : Flaw)
      → IsOutcomeFlaw n start goal s.low s.arcs s.g s.v o f → IsFirstFlaw n start goal s f
  outcome_flaw (outcome.Path c b) is shown f w = elim w [
    | inl step ↦ first_at_step f c b is (clear_five shown) step
    | inr end ↦ end_flaw c b end.0 end.1 is (clear_five shown) end.2 f end.3
  ]
  outcome_flaw outcome.NoPath is shown f w = first_at_open f is (clear_five shown) w
  outcome_flaw outcome.Unknown is shown f w = absurd w

  outcome_shown : (o : Outcome) → goal < n.states → ShowsBound n start goal s
      → IsOutcomeRight n start goal s.low s.arcs s.g s.v o → ShowsOutcome n start goal s o
  outcome_shown (outcome.Path c b) inside shown w = w
  outcome_shown outcome.NoPath inside shown w = shows_none inside shown w
  outcome_shown outcome.Unknown inside shown w = tt

  pub stages_passed : (r : Result (Unit {0}) Flaw) → goal < n.states → ShowsBound n start goal s
      → MatchResult r (λ _. IsOutcomeRight n start goal s.low s.arcs s.g s.v s.outcome)
      (IsOutcomeFlaw n start goal s.low s.arcs s.g s.v s.outcome)
      → MatchResult r (λ _. ShowsAll n start goal s) (IsFirstFlaw n start goal s)
  stages_passed (Ok x) inside shown w = record { bound = shown; outcome = outcome_shown s.outcome inside shown w }
  stages_passed (Err f) inside shown w = outcome_flaw s.outcome refl shown f w

  -- ---- sections without a flaw

  kind : (o : Outcome) → ((c : ℕ) × (b : ℕ) × (o ≡ outcome.Path c b)) ⊎ ((o ≡ outcome.NoPath) ⊎ (o ≡ outcome.Unknown))
  kind (outcome.Path c b) = inl (c, b, refl)
  kind outcome.NoPath = inr (inl refl)
  kind outcome.Unknown = inr (inr refl)

  shown_as : (o : Outcome) → s.outcome ≡ o → ShowsOutcome n start goal s s.outcome → ShowsOutcome n start goal s o
  shown_as o is shown = subst (λ (x : Outcome). ShowsOutcome n start goal s x) is shown

  no_goal : ShowNone n start goal s.g s.v → (u : ℕ) → u ≡ goal → s.g u < FAR → ⊥
  no_goal none u here near = let far : s.g u ≡ FAR = ap s.g here ∙ none.goal_is_far in omega arith

  -- what is shown has no flaw
  pub shown_is_clear : ShowsAll n start goal s → HasNoFlaw n start goal s
  shown_is_clear all =
      let clear = clear_five all.bound in
      elim (kind s.outcome) [
        | inl w ↦ (
            let path = shown_as (outcome.Path w.0 w.1) w.2 all.outcome in
            all_clear (clear_more 8 9 refl (clear_of_path goal w.0 w.1 w.2 clear path.0 path.1)
            (none_at_end w.0 w.1 w.2 path.0))
            )
        | inr v ↦ elim v [
          | inl is ↦ (
              let none = shown_as outcome.NoPath is all.outcome in
              all_clear (clear_more 8 9 refl (none_of_path (λ c b two. other_than_path c b is two) clear)
              (none_open is (λ u at near. (λ here. no_goal none u here near, none.closed u at near))))
              )
          | inr is ↦
              all_clear (clear_more 8 9 refl
              (none_of_path (λ c b two. unknown_is_no_path c b is two) clear) (none_at_all is))
        ]
      ]

  -- what is shown is so
  so_as : (o : Outcome) → IsSound n → BoundHolds → NoneHolds → ShowsBound n start goal s → ShowsOutcome n start goal s o
      → IsSo n start goal s.arcs o
  so_as (outcome.Path c b) sound bound none all shown = (
    shown.0,
    λ others dear path.
        let low = bound n start goal s.low s.g s.v s.h sound all others dear path in
        let reaches = shown.1.reaches in
        let more = mul-le-mul_left b low in
        omega (arith, more),
  )
  so_as outcome.NoPath sound bound none all shown =
      λ others cost path. none n start goal s.g s.v sound shown others cost path
  so_as outcome.Unknown sound bound none all shown = tt

  pub shown_is_so : IsSound n → BoundHolds → NoneHolds → ShowsAll n start goal s → IsSo n start goal s.arcs s.outcome
  shown_is_so sound bound none all = so_as s.outcome sound bound none all.bound all.outcome

  -- ---- one first flaw

  arcs_agree : (u k a b u' k' a' b' : ℕ) → u ≡ u' → k ≡ k' → IsArcOff n s.g s.v u k a b
      → IsArcOff n s.g s.v u' k' a' b' → (a ≡ a') × (b ≡ b')
  arcs_agree u k a b u' k' a' b' us ks one two =
      let free : IsFreeArc n u k two.target two.cost =
      subst (λ (x : ℕ). IsFreeArc n u x two.target two.cost) (sym ks)
      (subst (λ (x : ℕ). IsFreeArc n x k' two.target two.cost) (sym us) two.free) in
      let heads = same_head n u k one.target two.target one.cost two.cost one.free free in
      let vs : s.v u ≡ s.v u' = ap s.v us in
      (one.has_is ∙ ap s.g heads.0 ∙ sym two.has_is, omega (arith, one.most_is, two.most_is, heads.1))

  guides_agree : (u k a b u' k' a' b' : ℕ) → u ≡ u' → k ≡ k' → IsGuideOff n s.h u k a b
      → IsGuideOff n s.h u' k' a' b' → (a ≡ a') × (b ≡ b')
  guides_agree u k a b u' k' a' b' us ks one two =
      let free : IsFreeArc n u k two.target two.cost =
      subst (λ (x : ℕ). IsFreeArc n u x two.target two.cost) (sym ks)
      (subst (λ (x : ℕ). IsFreeArc n x k' two.target two.cost) (sym us) two.free) in
      let heads = same_head n u k one.target two.target one.cost two.cost one.free free in
      let hs : s.h one.target ≡ s.h two.target = ap s.h heads.0 in
      (one.has_is ∙ ap s.h us ∙ sym two.has_is, omega (arith, one.most_is, two.most_is, heads.1))

  turns_agree : (u v : ℕ) → cond (nat_eq u goal) 0 (u + 1) ≡ cond (nat_eq v goal) 0 (v + 1) → u ≡ v
  turns_agree u v e =
      elim (cases_eq u goal) [
        | inl here ↦ elim (cases_eq v goal) [
          | inl there ↦ here ∙ sym there
          | inr off ↦ absurd (let k : 0 ≡ v + 1 = rw (eq-eqb u goal here, ne_eqb v goal off) at e in omega arith)
        ]
        | inr on ↦ elim (cases_eq v goal) [
          | inl there ↦ absurd (let k : u + 1 ≡ 0 = rw (ne_eqb u goal on, eq-eqb v goal there) at e in omega arith)
          | inr off ↦ (let k : u + 1 ≡ v + 1 = rw (ne_eqb u goal on, ne_eqb v goal off) at e in omega arith)
        ]
      ]

  limit_here : (u most : ℕ) → u ≡ goal → IsLimit n goal s.g s.v s.h u most → most ≡ s.g goal
  limit_here u most here w = elim w [ inl at ↦ at.1 | inr off ↦ absurd (off.0 here) ]

  limit_there : (u most : ℕ) → u ≢ goal → IsLimit n goal s.g s.v s.h u most → most ≡ s.g u + s.h u
  limit_there u most other w = elim w [ inl at ↦ absurd (other at.0) | inr off ↦ off.3 ]

  limits_agree : (u v a b : ℕ) → u ≡ v → IsLimit n goal s.g s.v s.h u a → IsLimit n goal s.g s.v s.h v b → a ≡ b
  limits_agree u v a b same one two =
      elim (cases_eq u goal) [
        | inl here ↦ limit_here u a here one ∙ sym (limit_here v b (sym same ∙ here) two)
        | inr off ↦
            limit_there u a off one ∙ ap (λ (x : ℕ). s.g x + s.h x) same
            ∙ sym (limit_there v b (λ at. off (same ∙ at)) two)
      ]

  leasts_agree : (c low : ℕ) (l m : Option ℕ) → IsLeastBound c low l → IsLeastBound c low m → l ≡ m
  leasts_agree c low (Some a) m one two = sym (bound_is_one c low a m one two)
  leasts_agree c low None (Some b) one two = bound_is_one c low b None two one
  leasts_agree c low None None one two = refl

  same_flaw : (f e : Flaw) → number_of f ≡ number_of e → turn_of goal f ≡ turn_of goal e → arc_of f ≡ arc_of e
      → HasFlaw n start goal s f → HasFlaw n start goal s e → f ≡ e
  same_flaw (flaw.Start a) (flaw.Start b) number turn arc one two = ap flaw.Start (one.has_is ∙ sym two.has_is)
  same_flaw (flaw.Start a) _ number turn arc one two = absurd (omega arith)
  same_flaw (flaw.Arc u k a b) (flaw.Arc u' k' a' b') number turn arc one two =
      let agree = arcs_agree u k a b u' k' a' b' turn arc one two in let as_ = agree.0 in let bs = agree.1 in cc
  same_flaw (flaw.Arc u k a b) _ number turn arc one two = absurd (omega arith)
  same_flaw (flaw.GoalGuide a) (flaw.GoalGuide b) number turn arc one two =
      ap flaw.GoalGuide (one.1.has_is ∙ sym two.1.has_is)
  same_flaw (flaw.GoalGuide a) _ number turn arc one two = absurd (omega arith)
  same_flaw (flaw.Guide u k a b) (flaw.Guide u' k' a' b') number turn arc one two =
      let us : u ≡ u' = omega arith in
      let agree = guides_agree u k a b u' k' a' b' us arc one.1 two.1 in let as_ = agree.0 in let bs = agree.1 in cc
  same_flaw (flaw.Guide u k a b) _ number turn arc one two = absurd (omega arith)
  same_flaw (flaw.Low u a b) (flaw.Low u' a' b') number turn arc one two =
      let us = turns_agree u u' turn in
      let lows : a ≡ a' = one.has_is ∙ sym two.has_is in
      let mosts = limits_agree u u' b b' us one.limit two.limit in
      cc
  same_flaw (flaw.Low u a b) _ number turn arc one two = absurd (omega arith)
  same_flaw (flaw.Path i) (flaw.Path j) number turn arc one two = ap flaw.Path turn
  same_flaw (flaw.Path i) _ number turn arc one two = absurd (omega arith)
  same_flaw (flaw.Cost a p) (flaw.Cost b q) number turn arc one two =
      let said = one.outcome in let said' = two.outcome in
      let costs : a ≡ b = cc in
      let ends = same_end n start s.arcs one.end two.end p q one.path two.path in
      let paids = ends.1 in
      cc
  same_flaw (flaw.Cost a p) _ number turn arc one two = absurd (omega arith)
  same_flaw (flaw.Bound a l) (flaw.Bound b m) number turn arc one two =
      let said = one.outcome in let said' = two.outcome in
      let costs : two.cost ≡ one.cost = cc in
      let bounds : a ≡ b = cc in
      let leasts =
      leasts_agree one.cost s.low l m one.least_is (subst (λ (x : ℕ). IsLeastBound x s.low m) costs two.least_is) in
      cc
  same_flaw (flaw.Bound a l) _ number turn arc one two = absurd (omega arith)
  same_flaw (flaw.Goal u) (flaw.Goal v) number turn arc one two = ap flaw.Goal turn
  same_flaw (flaw.Goal u) _ number turn arc one two = absurd (omega arith)

  -- neither comes before the other only where both are the same
  pub one_first : (f e : Flaw) → IsFirstFlaw n start goal s f → IsFirstFlaw n start goal s e → f ≡ e
  one_first f e one two =
      let no : IsBefore goal f e → ⊥ = two.first f one.has in
      let yes : IsBefore goal e f → ⊥ = one.first e two.has in
      let numbers : number_of f ≡ number_of e =
      elim (cases_lt (number_of f) (number_of e)) [
        | inl lt ↦ absurd (no (inl lt))
        | inr le ↦ elim (cases_lt (number_of e) (number_of f)) [ inl lt ↦ absurd (yes (inl lt)) | inr ge ↦ omega arith ]
      ] in
      let turns : turn_of goal f ≡ turn_of goal e =
      elim (cases_lt (turn_of goal f) (turn_of goal e)) [
        | inl lt ↦ absurd (no (inr (numbers, inl lt)))
        | inr le ↦ elim (cases_lt (turn_of goal e) (turn_of goal f)) [
          | inl lt ↦ absurd (yes (inr (sym numbers, inl lt)))
          | inr ge ↦ omega arith
        ]
      ] in
      let arcs : arc_of f ≡ arc_of e =
      elim (cases_lt (arc_of f) (arc_of e)) [
        | inl lt ↦ absurd (no (inr (numbers, inr (turns, lt))))
        | inr le ↦ elim (cases_lt (arc_of e) (arc_of f)) [
          | inl lt ↦ absurd (yes (inr (sym numbers, inr (sym turns, lt))))
          | inr ge ↦ omega arith
        ]
      ] in
      same_flaw f e numbers turns arcs one.has two.has

  -- ---- what a check answers

  pub only_none : (r : Result (Unit {0}) Flaw)
      → MatchResult r (λ _. ShowsAll n start goal s) (IsFirstFlaw n start goal s) → HasNoFlaw n start goal s → r ≡ Ok tt
  only_none (Ok x) w none = refl
  only_none (Err f) w none = absurd (none f w.has)

  pub only_first : (r : Result (Unit {0}) Flaw)
      → MatchResult r (λ _. ShowsAll n start goal s) (IsFirstFlaw n start goal s)
      → (f : Flaw) → IsFirstFlaw n start goal s f → r ≡ Err f
  only_first (Ok x) w f first = absurd (shown_is_clear w f first.has)
  only_first (Err e) w f first = ap Err (one_first e f w first)
