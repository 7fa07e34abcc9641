-- A step is determined: what it takes and what it leaves.
use Rattle.std.proofs.Common.{◌≡◌, ◌≢◌, ℕ, ◌<◌, ◌≤◌, Bool, true, false, MatchBool, Option, Some, None, arith, ⊎_elim}
use Rattle.std.proofs.Common.{refl, sym, ap, ◌∙◌}
use Rattle.std.proofs.lemmas.Bool.{cases_lt, cases_eq}
use Rattle.sbpl_search.specs.sbpl_graph.Network.{Network}
use Rattle.sbpl_search.proofs.Keeping.{same_arc}
use Rattle.sbpl_search.specs.sbpl_labels.Marks.{Marks, g_of, v_of, back_of}
use Rattle.sbpl_search.specs.sbpl_labels.Recomputed.{IsRecomputed}
use Rattle.sbpl_serial.specs.declared.step.Step.{Step}
use Rattle.sbpl_serial.specs.Run.{IsExpansion, GetsLesser, LowersHeads, RaisesState}
use Rattle.sbpl_serial.proofs.Agreeing.{Agree, same_marks, same_recomputed}

module _ {n : Network} {s v t g g1 g2 : ℕ} {back back1 back2 : Option (ℕ × ℕ)} where
  -- of two lesser labels of one state the second is not above the first
  no_less : GetsLesser n s v t g back g1 back1 → GetsLesser n s v t g back g2 back2 → g2 ≤ g1
  no_less a b =
      ⊎_elim
      (λ (less : g1 < g2).
      let found = a.lower (omega (arith, b.at_most)) in
      absurd (omega (arith, b.least found.0 found.1 found.2.free, found.2.gives)))
      (λ (more : g2 ≤ g1). more)
      (cases_lt g1 g2)

module _ {n : Network} {s v t g g1 g2 : ℕ} {back back1 back2 : Option (ℕ × ℕ)} where
  -- the lesser label and its arc are determined
  pub same_lesser : GetsLesser n s v t g back g1 back1 → GetsLesser n s v t g back g2 back2
      → (g1 ≡ g2) × (back1 ≡ back2)
  same_lesser a b =
      let down = no_less a b in
      let up = no_less b a in
      let same : g1 ≡ g2 = omega arith in
      ⊎_elim
      (λ (lower : g1 < g).
      let left = a.lower lower in
      let right = b.lower (omega arith) in
      let number : left.0 ≡ right.0 =
      ⊎_elim
      (λ (before : left.0 < right.0).
      let less = right.2.first left.0 left.1 before left.2.free in absurd (omega (arith, left.2.gives)))
      (λ (later : right.0 ≤ left.0).
      ⊎_elim
      (λ (before : right.0 < left.0).
      let less = left.2.first right.0 right.1 before right.2.free in absurd (omega (arith, right.2.gives)))
      (λ (other : left.0 ≤ right.0). omega arith)
      (cases_lt right.0 left.0))
      (cases_lt left.0 right.0)
      in
      let arcs : ◌≡◌ {A = Option (ℕ × ℕ)} (Some (s, left.0)) (Some (s, right.0)) = ap (λ (k : ℕ). Some (s, k)) number in
      (same, left.3 ∙ arcs ∙ sym right.3))
      (λ (kept : g ≤ g1).
      let left : g1 ≡ g = omega (arith, a.at_most) in
      let right : g2 ≡ g = omega arith in
      (same, ◌∙◌ {b = back} (a.same left) (sym (b.same right))))
      (cases_lt g1 g)

module _ {n : Network} {old new new' : Marks} {s : ℕ} where
  -- lowering determines the row of each state
  lowered_rows : LowersHeads n old new s → LowersHeads n old new' s → (t : ℕ) → Agree new new' t
  lowered_rows a b t = record {
    g = ⊎_elim
        (λ (at : t ≡ old.start). rw at (a.start_g ∙ sym b.start_g))
        (λ (apart : t ≢ old.start). (same_lesser (a.heads t apart) (b.heads t apart)).0)
        (cases_eq t old.start);
    v = ⊎_elim
        (λ (at : t ≡ s). rw at (a.settled ∙ sym b.settled))
        (λ (apart : t ≢ s). a.other_v t apart ∙ sym (b.other_v t apart))
        (cases_eq t s);
    back = ⊎_elim
        (λ (at : t ≡ old.start). rw at (a.start_back ∙ sym b.start_back))
        (λ (apart : t ≢ old.start). (same_lesser (a.heads t apart) (b.heads t apart)).1)
        (cases_eq t old.start);
  }

  lowered_one : LowersHeads n old new s → LowersHeads n old new' s → new ≡ new'
  lowered_one a b =
      same_marks new new' (a.same_start ∙ sym b.same_start) (a.same_states ∙ sym b.same_states)
      (λ t _. lowered_rows a b t)

  -- raising determines v of each state
  raised_v : RaisesState n old new s → RaisesState n old new' s → (t : ℕ) → v_of new t ≡ v_of new' t
  raised_v a b t =
      ⊎_elim
      (λ (at : t ≡ s). rw at (a.raised ∙ sym b.raised))
      (λ (apart : t ≢ s). a.other_v t apart ∙ sym (b.other_v t apart))
      (cases_eq t s)

  -- a state whose back arc does not begin at s keeps its label
  raised_kept : RaisesState n old new s → RaisesState n old new' s → (t : ℕ)
      → (t ≢ old.start → (k : ℕ) → back_of old t ≢ Some (s, k)) → Agree new new' t
  raised_kept a b t other = record {
    g = a.other_g t other ∙ sym (b.other_g t other);
    v = raised_v a b t;
    back = a.other_back t other ∙ sym (b.other_back t other);
  }

  -- and each other state but the start is recomputed
  raised_again : RaisesState n old new s → RaisesState n old new' s → (t k : ℕ) → t ≢ old.start
      → back_of old t ≡ Some (s, k) → Agree new new' t
  raised_again a b t k apart by =
      let vs : v_of new ≡ v_of new' = λ i u. raised_v a b u i in
      let own : IsRecomputed n (v_of new') t (g_of new t) (back_of new t) = rw vs at (a.heads t k apart by) in
      let one = same_recomputed n (v_of new') t (back_of new t) (back_of new' t) own (b.heads t k apart by) in
      record { g = one.0; v = raised_v a b t; back = one.1 }

  raised_rows : RaisesState n old new s → RaisesState n old new' s → (t : ℕ) (back : Option (ℕ × ℕ))
      → back_of old t ≡ back → Agree new new' t
  raised_rows a b t None by =
      raised_kept a b t (λ _ k e. let none : ◌≡◌ {A = Option (ℕ × ℕ)} None (Some (s, k)) = sym by ∙ e in absurd (cc))
  raised_rows a b t (Some (u, l)) by =
      ⊎_elim
      (λ (at : t ≡ old.start). raised_kept a b t (λ apart. absurd (apart at)))
      (λ (apart : t ≢ old.start).
      ⊎_elim
      (λ (same : u ≡ s). raised_again a b t l apart (rw (← same) by))
      (λ (other : u ≢ s). raised_kept a b t (λ _ k e. other (same_arc u l s k (sym by ∙ e)).0))
      (cases_eq u s))
      (cases_eq t old.start)

  raised_one : RaisesState n old new s → RaisesState n old new' s → new ≡ new'
  raised_one a b =
      same_marks new new' (a.same_start ∙ sym b.same_start) (a.same_states ∙ sym b.same_states)
      (λ t _. raised_rows a b t (back_of old t) refl)

module _ (n : Network) (old : Marks) (s : ℕ) {new new' : Marks} where
  -- a state is raised or lowered, and not both, and the new labels are determined
  pub same_raised : (r r' : Bool) → MatchBool r (RaisesState n old new s) (LowersHeads n old new s)
      → MatchBool r' (RaisesState n old new' s) (LowersHeads n old new' s)
      → (r ≡ r') × (new ≡ new')
  same_raised true true a b = (refl, raised_one a b)
  same_raised true false a b = absurd (omega (arith, a.under, b.over))
  same_raised false true a b = absurd (omega (arith, a.over, b.under))
  same_raised false false a b = (refl, lowered_one a b)

-- two steps of one state are equal
pub same_step : (n : Network) (old : Marks) {new new' : Marks} (x y : Step) → x.state ≡ y.state
    → IsExpansion n old x new → IsExpansion n old y new' → (x ≡ y) × (new ≡ new')
same_step n old {new} {new'} x y at a b =
    let own : MatchBool y.raised (RaisesState n old new' x.state) (LowersHeads n old new' x.state) = rw at b in
    let one = same_raised n old x.state x.raised y.raised a own in
    (λ i. record { state = at i; raised = one.0 i }, one.1)
