-- States are raised in turn, and listed as they become underconsistent.
use Rattle.std.proofs.Common.{◌≡◌, ◌≢◌, ℕ, ◌+◌, ◌-◌, ◌<◌, ◌≤◌, ◌⊎◌, Option, Some, None, List, [], ◌∷◌, ◌++◌, length}
use Rattle.std.proofs.Common.{slice_index, take, drop, arith, ⊎_elim, inl, inr, refl, sym, ◌∙◌, ap, subst}
use Rattle.std.proofs.lemmas.Bool.{cases_eq, cases_lt}
use Rattle.std.proofs.lemmas.List.{drop_all, drop-append-le, drop_more, get_or_append_left, get_or-append-add}
use Rattle.std.proofs.lemmas.List.{get_or_default, length-append, take-append-le, take_all, take_more}
use Rattle.std.proofs.lemmas.List.Elements.{Contains-append_left, Contains-get_or, Contains-push, Contains-push_cases}
use Rattle.std.proofs.lemmas.Option.{none-some, same_Some}
use Rattle.std.specs.List.{All, Contains}
use Rattle.std.specs.List.Sorted.{IsStrictlyIncreasing}
use Rattle.sbpl_ara.specs.sbpl_graph.declared.TheConstants.{FAR}
use Rattle.sbpl_ara.specs.sbpl_graph.Kept.{NoneUnder}
use Rattle.sbpl_ara.specs.sbpl_graph.Network.{Network}
use Rattle.sbpl_ara.proofs.Paths.{label_at_most}
use Rattle.sbpl_ara.specs.sbpl_labels.declared.row.Row.{Row}
use Rattle.sbpl_ara.specs.sbpl_labels.Marks.{Marks, AreLabels, states_of, g_of, v_of, back_of}
use Rattle.sbpl_ara.specs.sbpl_labels.Recomputed.{Recomputes}
use Rattle.sbpl_ara.specs.sbpl_search.Ready.{IsStartFresh}
use Rattle.sbpl_ara.specs.sbpl_serial.Raised.{ChangesV, IsReturned, ReturnsHead}
use Rattle.sbpl_ara.specs.sbpl_serial.Run.{IsOver, IsUnder, RaisesState}
use Rattle.sbpl_adstar.specs.Listed.{AddsBecome, AreListed}
use Rattle.sbpl_adstar.specs.Raised.{AreRaised, AreUnder, RaisesFirst}
use Rattle.sbpl_adstar.proofs.Occurrences.{once_push}

-- a state whose v is infinite is not underconsistent
pub far_not_under : (m : Marks) (s : ℕ) → AreLabels m → s < states_of m → v_of m s ≡ FAR → IsUnder m s → ⊥
far_not_under m s labels inside far under =
    omega (arith, far, under, label_at_most (g_of m s) (labels.labels s inside).0)

-- ---- v of a listed state becomes infinite

module _ (old m : Marks) (s : ℕ) (by : ChangesV old m s FAR) where
  other_under : (u : ℕ) → u ≢ s → IsUnder m u → IsUnder old u
  other_under u other under =
      omega (arith, under, ap (λ (r : Row). r.g) (by.others u other), ap (λ (r : Row). r.v) (by.others u other))

  pub under_other : (u : ℕ) → u ≢ s → IsUnder old u → IsUnder m u
  under_other u other under =
      omega (arith, under, ap (λ (r : Row). r.g) (by.others u other), ap (λ (r : Row). r.v) (by.others u other))

  pub changed_g : (u : ℕ) → g_of m u ≡ g_of old u
  changed_g u =
      ⊎_elim
      (λ (at : u ≡ s). rw at (ap (λ (r : Row). r.g) by.at))
      (λ (other : u ≢ s). ap (λ (r : Row). r.g) (by.others u other))
      (cases_eq u s)

  far : v_of m s ≡ FAR
  far = ap (λ (r : Row). r.v) by.at

  not_under : AreLabels old → s < states_of old → IsUnder m s → ⊥
  not_under labels inside under =
      omega (arith, far, under, ap (λ (r : Row). r.g) by.at, label_at_most (g_of old s) (labels.labels s inside).0)

  pub listed_raised : AreLabels old → s < states_of old → (list : List ℕ) → AreListed old list → AreListed m list
  listed_raised labels state list here = record {
    inside = λ u among. omega (arith, by.states, here.inside u among);
    all = λ u inside under.
        let other : u ≢ s = λ e. not_under labels state (subst (IsUnder m) e under) in
        here.all u (omega (arith, by.states, inside)) (other_under u other under);
    only = λ u among.
        ⊎_elim
        (λ (at : u ≡ s). inr (ap (v_of m) at ∙ far))
        (λ (other : u ≢ s).
        ⊎_elim
        (λ (under : IsUnder old u). inl (under_other u other under))
        (λ (was : v_of old u ≡ FAR). inr (ap (λ (r : Row). r.v) (by.others u other) ∙ was))
        (here.only u among))
        (cases_eq u s);
    once = here.once;
  }

-- ---- over one arc

module _ (n : Network) (m new : Marks) (s k : ℕ) where
  pub returned_states : (head : Option ℕ) → IsReturned n m new s k head → states_of new ≡ states_of m
  returned_states None returned = ap (λ (a : Marks). states_of a) returned.0
  returned_states (Some t) returned = returned.recomputes.same_states

  returned_v : (head : Option ℕ) → IsReturned n m new s k head → (u : ℕ) → v_of new u ≡ v_of m u
  returned_v None returned u = ap (λ (a : Marks). v_of a u) returned.0
  returned_v (Some t) returned u =
      ⊎_elim
      (λ (at : u ≡ t). rw at returned.recomputes.same_v)
      (λ (other : u ≢ t). ap (λ (r : Row). r.v) (returned.recomputes.others u other))
      (cases_eq u t)

  returned_g : (head : Option ℕ) → IsReturned n m new s k head → (t : ℕ) → n.head s k ≡ Some t → (u : ℕ)
      → u ≢ t → g_of new u ≡ g_of m u
  returned_g None returned t is u other = ap (λ (a : Marks). g_of a u) returned.0
  returned_g (Some a) returned t is u other =
      let same : t ≡ a = same_Some t a (sym is ∙ returned.head) in
      ap (λ (r : Row). r.g) (returned.recomputes.others u (λ e. other (e ∙ sym same)))

  -- the head of a back arc is recomputed; it is not the start, which has no back arc
  pub returns_head : (t : ℕ) → AreLabels m → Some t ≡ n.head s k → back_of m t ≡ Some (s, k)
      → (t ≢ m.start → Recomputes n m new t) → ReturnsHead n m new s k t
  returns_head t labels is by recomputes =
      let apart : t ≢ m.start = λ e. none-some (s, k) (sym labels.none_at_start ∙ ap (back_of m) (sym e) ∙ by) in
      record { head = sym is; by = by; recomputes = recomputes apart }

  module _ (head : Option ℕ) (returned : IsReturned n m new s k head) (grows : (u : ℕ) → g_of m u ≤ g_of new u) where
    -- what was underconsistent stays so
    pub stays_under : (u : ℕ) → IsUnder m u → IsUnder new u
    stays_under u under = omega (arith, under, grows u, returned_v head returned u)

    module _ (t : ℕ) (is : n.head s k ≡ Some t) where
      was_under : (u : ℕ) → u ≢ t → IsUnder new u → IsUnder m u
      was_under u other under = omega (arith, under, returned_v head returned u, returned_g head returned t is u other)

      module _ (list : List ℕ) (here : AreListed m list) where
        only_still : (u : ℕ) → Contains list u → IsUnder new u ⊎ (v_of new u ≡ FAR)
        only_still u among =
            ⊎_elim
            (λ (under : IsUnder m u). inl (stays_under u under))
            (λ (was : v_of m u ≡ FAR). inr (returned_v head returned u ∙ was))
            (here.only u among)

        -- the head was underconsistent, or is not now
        pub listed_still : (IsUnder new t → IsUnder m t) → AreListed new list
        listed_still as_before = record {
          inside = λ u among. omega (arith, returned_states head returned, here.inside u among);
          all = λ u inside under.
              let within : u < states_of m = omega (arith, returned_states head returned, inside) in
              ⊎_elim
              (λ (at : u ≡ t).
              here.all u within (subst (IsUnder m) (sym at) (as_before (subst (IsUnder new) at under))))
              (λ (other : u ≢ t). here.all u within (was_under u other under))
              (cases_eq u t);
          only = only_still;
          once = here.once;
        }

        module _ (labels : AreLabels new) (inside : t < states_of m) (before : IsUnder m t → ⊥)
            (now : IsUnder new t) where
          -- a head that becomes underconsistent is not in the list
          not_listed : Contains list t → ⊥
          not_listed among =
              ⊎_elim
              (λ (under : IsUnder m t). before under)
              (λ (was : v_of m t ≡ FAR).
              far_not_under new t labels (omega (arith, returned_states head returned, inside))
              (returned_v head returned t ∙ was) now)
              (here.only t among)

          pub listed_more : AreListed new (list ++ t ∷ [])
          listed_more = record {
            inside = λ u among.
                ⊎_elim
                (λ (there : Contains list u). omega (arith, returned_states head returned, here.inside u there))
                (λ (last : t ≡ u). omega (arith, returned_states head returned, inside, last))
                (Contains-push_cases list t u among);
            all = λ u within under.
                ⊎_elim
                (λ (at : u ≡ t). subst (Contains (list ++ t ∷ [])) (sym at) (Contains-push list t))
                (λ (other : u ≢ t).
                Contains-append_left list (t ∷ []) u
                (here.all u (omega (arith, returned_states head returned, within)) (was_under u other under)))
                (cases_eq u t);
            only = λ u among.
                ⊎_elim
                (λ (there : Contains list u). only_still u there)
                (λ (last : t ≡ u). inl (subst (IsUnder new) last now))
                (Contains-push_cases list t u among);
            once = once_push list t not_listed here.once;
          }

-- ---- one state after the other

-- one more state is raised
pub raised_more : (n : Network) (old m new : Marks) (waiting xs left later : List ℕ) (s : ℕ)
    → AreRaised n old waiting xs m left → RaisesFirst n m left s new later
    → AreRaised n old waiting (xs ++ s ∷ []) new later
raised_more n old m new waiting [] left later s same step = (
  new,
  later,
  subst (λ (a : Marks). RaisesFirst n a waiting s new later) same.1
      (subst (λ (ws : List ℕ). RaisesFirst n m ws s new later) same.0 step),
  (refl, refl),
)
raised_more n old m new waiting (x ∷ xs) left later s (mid, ws, first, rest) step =
    (mid, ws, first, raised_more n mid m new ws xs left later s rest step)

-- the first i states of the list are raised, and the others wait and are underconsistent
pub record IsTurn (n : Network) (old m : Marks) (list : List ℕ) (i : ℕ) : Type 0 where
  pub first : List ℕ
  pub at_first : AreUnder old first
  pub raised : AreRaised n old first (take i list) m (drop i list)
  pub listed : AreListed m list
  pub done : (j : ℕ) → j < i → v_of m (slice_index list j) ≡ FAR
  pub waiting : (j : ℕ) → i ≤ j → j < length list → IsUnder m (slice_index list j)
  pub over : (s : ℕ) → IsOver m s → IsOver old s ⊎ Contains list s
  pub start : m.start ≡ old.start
  pub start_v : v_of m old.start ≡ v_of old old.start
  pub states : states_of m ≡ states_of old

pub turn_none : (n : Network) (m : Marks) (list : List ℕ) → AreListed m list
    → All (IsUnder m) list → IsStrictlyIncreasing list → IsTurn n m m list 0
turn_none n m list listed under upwards = record {
  first = list;
  at_first = record { under = under; all = listed.all; upwards = upwards };
  raised = (refl, refl);
  listed = listed;
  done = λ j before. absurd (omega (arith, before));
  waiting = λ j from inside. under j 0 inside;
  over = λ s over. inl over;
  start = refl;
  start_v = refl;
  states = refl;
}

module _ {n : Network} {old m new : Marks} {list longer : List ℕ} (i : ℕ) (here : IsTurn n old m list i)
    (before : i < length list)
    (step : RaisesState n m new (slice_index list i)) (listed : AreListed new longer)
    (others : (t : ℕ) → t ≢ slice_index list i → IsUnder m t → IsUnder new t)
    (added : AddsBecome m new (slice_index list i) list longer)
    (grown : (t : ℕ) → g_of m t ≤ g_of new t) (zero_g : g_of m m.start ≡ 0) where
  -- the list is as it was, and more
  front : (j : ℕ) → j < length list → slice_index longer j ≡ slice_index list j
  front j inside = ap (λ (xs : List ℕ). slice_index xs j) added.added ∙ get_or_append_left list added.more 0 j inside

  parted : take (i + 1) longer ≡ take i list ++ slice_index list i ∷ []
  parted =
      ap (λ (xs : List ℕ). take (i + 1) xs) added.added ∙ take-append-le (i + 1) list added.more (omega (arith, before))
      ∙ take_more list i 0 before

  -- the raised state was listed
  listed_now : (s : ℕ) → Contains list s → Contains longer s
  listed_now s among =
      subst (λ (xs : List ℕ). Contains xs s) (sym added.added) (Contains-append_left list added.more s among)

  -- the start is not underconsistent
  not_start : old.start ≢ slice_index list i
  not_start at =
      let under : IsUnder m m.start = subst (IsUnder m) (sym at ∙ sym here.start) step.under in
      omega (arith, under, zero_g)

  -- it waited first, and those that become underconsistent by it wait last
  in_turn : RaisesFirst n m (drop i list) (slice_index list i) new (drop (i + 1) longer)
  in_turn = record {
    rest = drop (i + 1) list;
    more = added.more;
    first = drop_more list i 0 before;
    raises = step;
    become = added.become;
    after = ap (λ (xs : List ℕ). drop (i + 1) xs) added.added
        ∙ drop-append-le (i + 1) list added.more (omega (arith, before));
  }

  pub turn_more : IsTurn n old new longer (i + 1)
  turn_more = record {
    first = here.first;
    at_first = here.at_first;
    raised =
        subst (λ (xs : List ℕ). AreRaised n old here.first xs new (drop (i + 1) longer)) (sym parted)
        (raised_more n old m new here.first (take i list) (drop i list) (drop (i + 1) longer) (slice_index list i)
        here.raised in_turn);
    listed = listed;
    done = λ j below.
        ⊎_elim
        (λ (at : j ≡ i).
        ap (λ (k : ℕ). v_of new (slice_index longer k)) at ∙ ap (v_of new) (front i before) ∙ step.raised)
        (λ (other : j ≢ i).
        let apart = here.listed.once j i 0 (omega (arith, below, other)) before in
        ap (v_of new) (front j (omega (arith, below, before))) ∙ step.other_v (slice_index list j) apart
        ∙ here.done j (omega (arith, below, other)))
        (cases_eq j i);
    waiting = λ j from inside.
        ⊎_elim
        (λ (within : j < length list).
        let apart = here.listed.once i j 0 (omega (arith, from)) within in
        subst (IsUnder new) (sym (front j within))
        (others (slice_index list j) (λ e. apart (sym e)) (here.waiting j (omega (arith, from)) within)))
        (λ (past : length list ≤ j). later j past inside)
        (cases_lt j (length list));
    over = λ s over.
        ⊎_elim
        (λ (at : s ≡ slice_index list i).
        inr (listed_now s (subst (Contains list) (sym at) (Contains-get_or list i 0 before))))
        (λ (other : s ≢ slice_index list i).
        ⊎_elim
        (λ (was : IsOver old s). inl was)
        (λ (among : Contains list s). inr (listed_now s among))
        (here.over s (omega (arith, over, grown s, step.other_v s other))))
        (cases_eq s (slice_index list i));
    start = step.same_start ∙ here.start;
    start_v = step.other_v old.start not_start ∙ here.start_v;
    states = step.same_states ∙ here.states;
  }
    where
      later : (j : ℕ) → length list ≤ j → j < length longer → IsUnder new (slice_index longer j)
      later j past inside =
          let long : length longer ≡ length list + length added.more =
          ap (λ (xs : List ℕ). length xs) added.added ∙ length-append list added.more in
          let at : length list + (j - length list) ≡ j = omega (arith, past) in
          let own : slice_index longer j ≡ slice_index added.more (j - length list) =
          ap (λ (xs : List ℕ). slice_index xs j) added.added
          ∙ ap (λ (k : ℕ). slice_index (list ++ added.more) k) (sym at)
          ∙ get_or-append-add list added.more (j - length list) 0
          in
          subst (IsUnder new) (sym own) (added.become.under (j - length list) 0 (omega (arith, long, past, inside)))

-- after the last turn no state is underconsistent
pub none_under : {n : Network} {old m : Marks} {list : List ℕ} (i : ℕ) → AreLabels m → IsTurn n old m list i
    → length list ≤ i → NoneUnder (states_of m) (g_of m) (v_of m)
none_under {n} {old} {m} {list} i labels here over = record {
  at = λ s inside.
      ⊎_elim
      (λ (under : v_of m s < g_of m s).
      let among = here.listed.all s inside under in
      let same : slice_index list among.0 ≡ s = get_or_default list among.0 0 s among.1 ∙ among.2 in
      let far : v_of m s ≡ FAR = ap (v_of m) (sym same) ∙ here.done among.0 (omega (arith, over, among.1)) in
      absurd (far_not_under m s labels inside far under))
      (λ (fine : g_of m s ≤ v_of m s). fine)
      (cases_lt (v_of m s) (g_of m s));
}

-- and all of the list was raised
pub all_raised : {n : Network} {old m : Marks} {list : List ℕ} (i : ℕ) (here : IsTurn n old m list i)
    → length list ≤ i → AreRaised n old here.first list m []
all_raised {n} {old} {m} {list} i here over =
    subst (λ (ws : List ℕ). AreRaised n old here.first list m ws) (drop_all i list over)
    (subst (λ (xs : List ℕ). AreRaised n old here.first xs m (drop i list)) (take_all i list over) here.raised)

-- the start is fresh as it was
pub turn_fresh : {n : Network} {old m : Marks} {list : List ℕ} (i : ℕ) → IsTurn n old m list i
    → IsStartFresh old → IsStartFresh m
turn_fresh {n} {old} {m} {list} i here fresh =
    let same : v_of m m.start ≡ v_of old old.start = ap (v_of m) here.start ∙ here.start_v in
    ⊎_elim (λ (far : v_of old old.start ≡ FAR). inl (same ∙ far))
    (λ (none : v_of old old.start ≡ 0). inr (same ∙ none)) fresh
