-- What labels show is determined: the path that back arcs lead along, its cost and its bound.
use Rattle.std.proofs.Common.{◌≡◌, ◌≢◌, ℕ, ◌<◌, ◌≤◌, Option, Some, None, List, [], ◌∷◌, length, refl, sym, ap, arith}
use Rattle.std.proofs.Common.{⊎_elim, inl, inr, ◌∙◌}
use Rattle.std.proofs.lemmas.Bool.{cases_eq}
use Rattle.std.proofs.lemmas.Option.{none-some, same_Some}
use Rattle.sbpl_search.specs.sbpl_graph.Bound.{IsBound, IsLow}
use Rattle.sbpl_search.specs.sbpl_graph.Network.{Network}
use Rattle.sbpl_search.specs.sbpl_graph.Path.{IsFreePath}
use Rattle.sbpl_search.specs.sbpl_labels.Chain.{IsBackPath}
use Rattle.sbpl_search.specs.sbpl_labels.CutOff.{IsCutOff}
use Rattle.sbpl_search.specs.sbpl_labels.Marks.{Marks, states_of, g_of, v_of, back_of}
use Rattle.sbpl_search.specs.sbpl_graph.declared.TheConstants.{FAR}
use Rattle.sbpl_plan.specs.declared.found.Found.{Found}
use Rattle.sbpl_plan.specs.declared.found.Found.TheVariants as found
use Rattle.sbpl_plan.specs.declared.result.FoundPath.{FoundPath}
use Rattle.sbpl_plan.specs.declared.result.PlanResult.{PlanResult}
use Rattle.sbpl_plan.specs.declared.result.PlanResult.TheVariants as outcome
use Rattle.sbpl_plan.specs.Looking.{IsPathFound, WalkFinds}
use Rattle.sbpl_plan.specs.Outcomes.{IsResultOf}
use Rattle.sbpl_search.specs.Determined.{AreAlikeGuides}
use Rattle.sbpl_plan.specs.Determined.{OutcomesAreOne}
use Rattle.sbpl_plan.proofs.Results.{no_path_found}

-- arcs that are the same have one source and one number
same_arc : (a j s k : ℕ) → ◌≡◌ {A = Option (ℕ × ℕ)} (Some (a, j)) (Some (s, k)) → (a ≡ s) × (j ≡ k)
same_arc a j s k e =
    let inner : ◌≡◌ {A = ℕ × ℕ} (a, j) (s, k) = cc in
    (ap (λ (p : ℕ × ℕ). p.0) inner, ap (λ (p : ℕ × ℕ). p.1) inner)

module _ (back : ℕ → Option (ℕ × ℕ)) (t : ℕ) where
  -- two ways along back arcs of the same length are the same
  as_long : (xs ys : List ℕ) (s u : ℕ) → IsBackPath back s xs t → IsBackPath back u ys t
      → length xs ≡ length ys → (s ≡ u) × (xs ≡ ys)
  as_long [] [] s u left right same = (left ∙ sym right, refl)
  as_long [] (y ∷ ys) s u left right same = absurd (omega arith)
  as_long (x ∷ xs) [] s u left right same = absurd (omega arith)
  as_long (x ∷ xs) (y ∷ ys) s u left right same =
      let rest = as_long xs ys left.0 right.0 left.2 right.2 (omega arith) in
      let arcs = same_arc s x u y (sym left.1 ∙ ap back rest.0 ∙ right.1) in
      (arcs.0, λ i. arcs.1 i ∷ rest.1 i)

  -- none is longer than the one from a state with no back arc
  no_longer : (xs : List ℕ) (start : ℕ) → back start ≡ None → IsBackPath back start xs t → (ys : List ℕ) (s : ℕ)
      → IsBackPath back s ys t → length ys ≤ length xs
  no_longer xs start none left [] s right = omega arith
  no_longer xs start none left (y ∷ ys) s right =
      let rest = no_longer xs start none left ys right.0 right.2 in
      ⊎_elim
      (λ (same : length xs ≡ length ys).
      let at = (as_long xs ys start right.0 left right.2 same).0 in
      absurd (none-some (s, y) (sym none ∙ ap back at ∙ right.1)))
      (λ (apart : length xs ≢ length ys). omega arith)
      (cases_eq (length xs) (length ys))

  -- so from such a state there is one
  one_way : (xs ys : List ℕ) (start : ℕ) → back start ≡ None → IsBackPath back start xs t
      → IsBackPath back start ys t → xs ≡ ys
  one_way xs ys start none left right =
      let down = no_longer xs start none left ys start right in
      let up = no_longer ys start none right xs start left in
      (as_long xs ys start start left right (omega arith)).1

-- the same arcs cost the same
one_cost : (n : Network) (t : ℕ) (arcs : List ℕ) (s u c d : ℕ) → s ≡ u → IsFreePath n s arcs t c
    → IsFreePath n u arcs t d → c ≡ d
one_cost n t [] s u c d same left right = left.1 ∙ sym right.1
one_cost n t (k ∷ ks) s u c d same left right =
    let head : left.0 ≡ right.0 =
    same_Some left.0 right.0 (sym left.3.head ∙ ap (λ (x : ℕ). n.head x k) same ∙ right.3.head) in
    let cost : left.1 ≡ right.1 =
    same_Some left.1 right.1 (sym left.3.cost ∙ ap (λ (x : ℕ). n.cost x k) same ∙ right.3.cost) in
    let rest = one_cost n t ks left.0 right.0 left.2 right.2 head left.4 right.4 in
    omega (arith, left.5, right.5)

-- the low by another guide that says the same of each state
pub guided_low : {states goal : ℕ} {g v h : ℕ → ℕ} (h' : ℕ → ℕ) {low : ℕ} → AreAlikeGuides states h h'
    → IsLow states goal g v h low → IsLow states goal g v h' low
guided_low {states} {goal} {g} {v} {h} h' {low} alike is = record {
  at_goal = is.at_goal;
  unsettled = λ s inside differ. omega (arith, alike s inside, is.unsettled s inside differ);
  greatest = λ x most each. is.greatest x most (λ s inside differ. omega (arith, alike s inside, each s inside differ));
}

one_low : {states goal : ℕ} {g v h : ℕ → ℕ} {low low' : ℕ} → IsLow states goal g v h low
    → IsLow states goal g v h low' → low ≡ low'
one_low {states} {goal} {g} {v} {h} {low} {low'} a b =
    let up : low ≤ low' = b.greatest low a.at_goal a.unsettled in
    let down : low' ≤ low = a.greatest low' b.at_goal b.unsettled in
    omega arith

one_bound : {cost low b b' : ℕ} → IsBound cost low b → IsBound cost low b' → b ≡ b'
one_bound {cost} {low} {b} {b'} one other =
    let up : b ≤ b' = one.least b' other.at_least_one other.reaches in
    let down : b' ≤ b = other.least b one.at_least_one one.reaches in
    omega arith

-- a path found by another guide that says the same of each state
pub guided_path : {n : Network} {h : ℕ → ℕ} (h' : ℕ → ℕ) {goal : ℕ} {m : Marks} {arcs : List ℕ} {cost bound : ℕ}
    → AreAlikeGuides (states_of m) h h'
    → IsPathFound n h goal m arcs cost bound → IsPathFound n h' goal m arcs cost bound
guided_path h' alike path =
    record { walk = path.walk; low = path.low; low_is = guided_low h' alike path.low_is; bound_is = path.bound_is }

module _ (n : Network) (h : ℕ → ℕ) (goal : ℕ) (m : Marks) (none : back_of m m.start ≡ None) where
  -- the path that was found is determined
  pub one_path : {arcs arcs' : List ℕ} {cost cost' bound bound' : ℕ} → IsPathFound n h goal m arcs cost bound
      → IsPathFound n h goal m arcs' cost' bound'
      → (arcs ≡ arcs') × (cost ≡ cost') × (bound ≡ bound')
  one_path {arcs} {arcs'} {cost} {cost'} {bound} {bound'} a b =
      let way : arcs ≡ arcs' = one_way (back_of m) goal arcs arcs' m.start none a.walk.followed b.walk.followed in
      let own : IsFreePath n m.start arcs goal cost' = rw way b.walk.path in
      let price : cost ≡ cost' = one_cost n goal arcs m.start m.start cost cost' refl a.walk.path own in
      let lows : a.low ≡ b.low = one_low a.low_is b.low_is in
      let bounds : IsBound cost a.low bound' = rw (price, lows) b.bound_is in
      (way, price, one_bound a.bound_is bounds)

  -- what the walk gives is determined
  pub one_find : (arcs arcs' : List ℕ) (f f' : Found) → WalkFinds n h goal m arcs f
      → WalkFinds n h goal m arcs' f' → f ≡ f'
  one_find arcs arcs' (found.Path cost bound) (found.Path cost' bound') a b =
      let one = one_path a b in
      λ i. found.Path (one.1 i) (one.2 i)
  one_find arcs arcs' (found.Path cost bound) found.None a b =
      absurd (no_path_found n h goal m arcs' found.None b (inl refl) arcs cost bound a)
  one_find arcs arcs' (found.Path cost bound) found.Broken a b =
      absurd (no_path_found n h goal m arcs' found.Broken b (inr refl) arcs cost bound a)
  one_find arcs arcs' found.None (found.Path cost bound) a b =
      absurd (no_path_found n h goal m arcs found.None a (inl refl) arcs' cost bound b)
  one_find arcs arcs' found.None found.None a b = refl
  one_find arcs arcs' found.None found.Broken a b =
      let near : g_of m goal < FAR = b.0.1.near in
      let far : g_of m goal ≡ FAR = a.0 in
      absurd (omega arith)
  one_find arcs arcs' found.Broken (found.Path cost bound) a b =
      absurd (no_path_found n h goal m arcs found.Broken a (inr refl) arcs' cost bound b)
  one_find arcs arcs' found.Broken found.None a b =
      let near : g_of m goal < FAR = a.0.1.near in
      let far : g_of m goal ≡ FAR = b.0 in
      absurd (omega arith)
  one_find arcs arcs' found.Broken found.Broken a b = refl

  -- where the labels show that there is no path none is found
  cut_no_path : IsCutOff (states_of m) goal (g_of m) (v_of m) → {arcs : List ℕ} {cost bound : ℕ}
      → IsPathFound n h goal m arcs cost bound → ⊥
  cut_no_path cut path =
      let near : g_of m goal < FAR = path.walk.near in
      let far : g_of m goal ≡ FAR = cut.goal_is_far in
      omega arith

  -- the result is determined
  pub one_outcome : (o o' : PlanResult FoundPath) → IsResultOf n h goal m o → IsResultOf n h goal m o' → o ≡ o'
  one_outcome (outcome.Path p) (outcome.Path r) a b =
      let one = one_path a b in
      λ i. outcome.Path (record { arcs = one.0 i; cost = one.1 i; bound = one.2 i })
  one_outcome (outcome.Path p) outcome.NoPath a b = absurd (cut_no_path b a)
  one_outcome (outcome.Path p) outcome.Unknown a b = absurd (b.1 p.arcs p.cost p.bound a)
  one_outcome outcome.NoPath (outcome.Path p) a b = absurd (cut_no_path a b)
  one_outcome outcome.NoPath outcome.NoPath a b = refl
  one_outcome outcome.NoPath outcome.Unknown a b = absurd (b.0 a)
  one_outcome outcome.Unknown (outcome.Path p) a b = absurd (a.1 p.arcs p.cost p.bound b)
  one_outcome outcome.Unknown outcome.NoPath a b = absurd (a.0 b)
  one_outcome outcome.Unknown outcome.Unknown a b = refl

-- the result by another guide that says the same of each state
guided_outcome : (n : Network) (h h' : ℕ → ℕ) (goal : ℕ) (m : Marks) (o : PlanResult FoundPath)
    → AreAlikeGuides (states_of m) h h' → IsResultOf n h goal m o → IsResultOf n h' goal m o
guided_outcome n h h' goal m (outcome.Path p) alike is = guided_path h' alike is
guided_outcome n h h' goal m outcome.NoPath alike is = is
guided_outcome n h h' goal m outcome.Unknown alike is =
    (is.0, λ arcs cost bound path. is.1 arcs cost bound (guided_path h (λ s inside. sym (alike s inside)) path))

pub outcomes_are_one : OutcomesAreOne
outcomes_are_one n h h' goal m one other none alike is is' =
    one_outcome n h' goal m none one other (guided_outcome n h h' goal m one alike is) is'
