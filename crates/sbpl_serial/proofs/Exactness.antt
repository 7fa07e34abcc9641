-- Labels are exact state by state.
use Rattle.std.proofs.Common.{◌≡◌, ◌≢◌, ℕ, ◌^◌, ◌<◌, ◌⊎◌, Option, Some, None, List, [], ◌∷◌, zero, suc, length}
use Rattle.std.proofs.Common.{slice_index_or, arith, ⊎_elim, inl, inr, refl, sym, ◌∙◌, subst}
use Rattle.std.proofs.Math.Logic.{∥∥₁_elim, ∥∥₁_map}
use Rattle.std.proofs.Math.Bridge.{le_prop}
use Rattle.std.proofs.lemmas.Bool.{cases_eq}
use Rattle.std.proofs.lemmas.Option.{none-some}
use Rattle.std.specs.List.{Contains}
use Rattle.sbpl_search.specs.sbpl_graph.declared.TheConstants.{FAR}
use Rattle.sbpl_search.specs.sbpl_graph.Network.{Network, IsArc, IsFreeArc}
use Rattle.sbpl_search.specs.sbpl_graph.Laws.{IsSound, HasExactTails}
use Rattle.sbpl_search.specs.sbpl_graph.Certificate.{IsLabel}
use Rattle.sbpl_search.specs.sbpl_graph.Exact.{AreExact}
use Rattle.sbpl_search.proofs.Keeping.{same_arc}
use Rattle.sbpl_search.specs.sbpl_labels.declared.row.Row.{Row}
use Rattle.sbpl_search.specs.sbpl_labels.Marks.{Marks, AreLabels, states_of, g_of, v_of, back_of}
use Rattle.sbpl_search.specs.sbpl_labels.Recomputed.{IsWay, IsRecomputed}
use Rattle.sbpl_search.specs.Changed.{IsExactAt}
use Rattle.sbpl_serial.specs.Repaired.{AreRepaired, ExactWhereSame}

module _ (n : Network) (v : ℕ → ℕ) (t g : ℕ) (sound : IsSound n) (tails : HasExactTails n)
    (labels : (s : ℕ) → s < n.states → IsLabel (v s)) where
  -- each free arc from a finite v is a way
  pub way_by : (s k c : ℕ) → IsFreeArc n s k t c → v s < FAR → ∥ ((j : ℕ) × IsWay n v t j s k c) ∥₁
  way_by s k c arc near =
      let is_arc : IsArc n s k t = record { source = arc.source; number = arc.number; head = arc.head } in
      ∥∥₁_map (tails.arcs_are_tails t s k is_arc)
      (λ found. (found.0, record { tail = found.1; free = arc; near = near }))

  -- a recomputed state is exact
  pub exact_recomputed : (back : Option (ℕ × ℕ)) → IsRecomputed n v t g back → IsExactAt n v t g back
  exact_recomputed None is = record {
    least = λ s k c arc near.
        ∥∥₁_elim (way_by s k c arc near) (λ a b. le_prop a b) (λ way. absurd (is.1 way.0 s k c way.1));
    gives = λ s k by. absurd (none-some (s, k) by);
    far_without_arc = λ _. is.0;
    no_arc_where_far = λ _. refl;
  }
  exact_recomputed (Some (a, l)) is =
      let way = is.2.way in
      let cost = sound.cost_fits a l is.1 way.free.source way.free.number way.free.cost in
      let small : v a < 2 ^ 62 =
      ⊎_elim (λ far. absurd (omega (arith, way.near))) (λ below. below) (labels a way.free.source) in
      record {
        least = λ s k c arc near.
            ∥∥₁_elim (way_by s k c arc near) (λ x y. le_prop x y) (λ other. is.2.least other.0 s k c other.1);
        gives = λ s k by.
            let same = same_arc s k a l (sym by) in
            rw (same.0, same.1) (is.1, record { free = way.free; near = way.near; sum = is.2.gives });
        far_without_arc = λ none. absurd (none-some (a, l) (sym none));
        no_arc_where_far = λ far. absurd (omega (arith, is.2.gives));
      }

-- what is neither the first nor among the rest is not there
not_among : (y : ℕ) (xs : List ℕ) (x : ℕ) → y ≢ x → (Contains xs x → ⊥) → (k : ℕ) → k < length (y ∷ xs)
    → slice_index_or (y ∷ xs) k x ≡ x → ⊥
not_among y xs x apart none zero inside own = apart own
not_among y xs x apart none (suc k) inside own = none (k, omega arith, own)

-- a list contains a number or does not
pub contains_or_not : (xs : List ℕ) (x : ℕ) → Contains xs x ⊎ (Contains xs x → ⊥)
contains_or_not [] x = inr (λ among. absurd (omega (arith, among.1)))
contains_or_not (y ∷ xs) x =
    ⊎_elim
    (λ (at : y ≡ x). inl (0, omega arith, at))
    (λ (apart : y ≢ x).
    ⊎_elim
    (λ (among : Contains xs x). inl (suc among.0, omega (arith, among.1), among.2))
    (λ (none : Contains xs x → ⊥). inr (λ among. not_among y xs x apart none among.0 among.1 among.2))
    (contains_or_not xs x))
    (cases_eq y x)

-- labels that are exact at each state but the start are exact
pub exact_everywhere : {n : Network} {m : Marks} → AreLabels m → states_of m ≡ n.states → IsSound n
    → ((t : ℕ) → t < n.states → t ≢ m.start → IsExactAt n (v_of m) t (g_of m t) (back_of m t))
    → AreExact n m.start (g_of m) (v_of m) (back_of m)
exact_everywhere {n} {m} labels states sound at = record {
  from_start = labels.from_start;
  none_at_start = labels.none_at_start;
  least = λ s k t c arc near.
      ⊎_elim
      (λ (start : t ≡ m.start). let zero_here : g_of m t ≡ 0 = rw start labels.from_start in omega arith)
      (λ (apart : t ≢ m.start).
      (at t (sound.head_is_state s k t arc.source arc.number arc.head) apart).least s k c arc near)
      (cases_eq t m.start);
  gives = λ t s k inside apart by.
      let given = (at t inside apart).gives s k by in
      (given.0, record { free = given.1.free; near = given.1.near; sum = given.1.sum });
  far_without_arc = λ t inside apart none. (at t inside apart).far_without_arc none;
  no_arc_where_far = λ t inside far.
      ⊎_elim
      (λ (start : t ≡ m.start). rw start labels.none_at_start)
      (λ (apart : t ≢ m.start). (at t inside apart).no_arc_where_far far)
      (cases_eq t m.start);
}

-- and the other way round
pub exact_at : {n : Network} (m : Marks) → AreExact n m.start (g_of m) (v_of m) (back_of m) → (t : ℕ)
    → t < n.states → t ≢ m.start
    → IsExactAt n (v_of m) t (g_of m t) (back_of m t)
exact_at m exact t inside apart = record {
  least = λ s k c arc near. exact.least s k t c arc near;
  gives = λ s k by.
      let given = exact.gives t s k inside apart by in
      (given.0, record { free = given.1.free; near = given.1.near; sum = given.1.sum });
  far_without_arc = exact.far_without_arc t inside apart;
  no_arc_where_far = exact.no_arc_where_far t inside;
}

-- exactness at a state looks at each v alone
pub exact_alike : {n : Network} {v : ℕ → ℕ} (v' : ℕ → ℕ) {t g : ℕ} {back : Option (ℕ × ℕ)} → ((u : ℕ) → v' u ≡ v u)
    → IsExactAt n v t g back
    → IsExactAt n v' t g back
exact_alike v' same is = record {
  least = λ s k c arc near. omega (arith, same s, is.least s k c arc (omega (arith, same s)));
  gives = λ s k by.
      let given = is.gives s k by in (
        given.0,
        record {
          free = given.1.free;
          near = omega (arith, same s, given.1.near);
          sum = omega (arith, same s, given.1.sum);
        },
      );
  far_without_arc = is.far_without_arc;
  no_arc_where_far = is.no_arc_where_far;
}

-- repaired labels are exact where those that were not touched are
pub exact_repaired : {n : Network} {touched : List ℕ} {old new : Marks} → IsSound n → HasExactTails n → AreLabels new
    → states_of old ≡ n.states → AreRepaired n touched old new
    → ((t : ℕ) → t < n.states → t ≢ old.start → (Contains touched t → ⊥)
    → IsExactAt n (v_of old) t (g_of old t) (back_of old t))
    → AreExact n new.start (g_of new) (v_of new) (back_of new)
exact_repaired {n} {touched} {old} {new} sound tails labels states repaired untouched =
    exact_everywhere labels (repaired.same_states ∙ states) sound
    (λ t inside apart.
    let not_start : t ≢ old.start = λ e. apart (e ∙ sym repaired.same_start) in
    ⊎_elim
    (λ among.
    exact_recomputed n (v_of new) t (g_of new t) sound tails
    (λ s within. (labels.labels s (omega (arith, repaired.same_states))).1) (back_of new t)
    (repaired.recomputed t among not_start))
    (λ none.
    let was = exact_alike (v_of new) repaired.same_v (untouched t inside not_start none) in
    subst (λ (r : Row). IsExactAt n (v_of new) t r.g r.back) (sym (repaired.others t none)) was)
    (contains_or_not touched t))

-- a state with the same free arcs into it stays exact
pub exact_where_same_lem : ExactWhereSame
exact_where_same_lem n n' start g v back exact t inside apart same = record {
  least = λ s k c arc near. exact.least s k t c (same.none_new s k c arc) near;
  gives = λ s k by.
      let given = exact.gives t s k inside apart by in
      (given.0, record { free = same.kept s k given.0 given.1.free; near = given.1.near; sum = given.1.sum });
  far_without_arc = exact.far_without_arc t inside apart;
  no_arc_where_far = exact.no_arc_where_far t inside;
}
