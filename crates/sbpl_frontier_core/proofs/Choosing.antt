-- What is found in the queue says what a core does next.
use Rattle.std.proofs.Common.{◌≡◌, ◌≢◌, ℕ, ◌<◌, ◌≤◌, ◌⊎◌, Bool, false, not, Option, Some, None, List, [], ◌∷◌, length}
use Rattle.std.proofs.Common.{map, slice_index_or, arith, ⊎_elim, inl, inr, refl, sym, ◌∙◌, ap, subst}
use Rattle.std.specs.List.{All, AllPairs, Contains}
use Rattle.std.proofs.lemmas.Bool.{cases_eq, cases_lt, eq-eqb, false≢true}
use Rattle.std.proofs.lemmas.List.{get_or-map, length-map}
use Rattle.std.proofs.lemmas.List.Elements.{All-contains, All-get_or, All-map, All-nil, Contains-get_or}
use Rattle.std.proofs.lemmas.Option.{same_Some}
use Rattle.sbpl_frontier_rules.specs.sbpl_labels.Counts.{HasLeft, IsSpent}
use Rattle.sbpl_frontier_rules.specs.sbpl_labels.Marks.{Marks}
use Rattle.sbpl_frontier_rules.specs.sbpl_open.declared.entry.Entry.{Entry}
use Rattle.sbpl_frontier_rules.specs.sbpl_open.Entries.{key_of, no_entry}
use Rattle.sbpl_frontier_rules.specs.sbpl_open.KeyOrder.{ComesBefore, IsBelow}
use Rattle.sbpl_frontier_rules.specs.sbpl_open.OpenList.{IsLeast, OpenList}
use Rattle.sbpl_frontier_rules.specs.sbpl_open.OpenList as open_list
use Rattle.sbpl_frontier_rules.specs.sbpl_search.Query.{Query}
use Rattle.sbpl_frontier_rules.specs.sbpl_serial.Queue.{AreQueued, IsFirstBelow, IsQueued}
use Rattle.sbpl_frontier_rules.specs.sbpl_serial.Run.{IsAtRest, IsOpen, IsOver, IsUnder, goal_key_at, key_at}
use Rattle.sbpl_frontier_rules.specs.declared.leg.Leg.{Leg}
use Rattle.sbpl_frontier_rules.specs.Events.{IsOutOfBudget, IsRest, MayOpen}
use Rattle.sbpl_frontier_rules.specs.Frontier.{Frontier, IsBusy, is_opened, times_due, times_ready}
use Rattle.sbpl_frontier_rules.specs.Independent.{IsClearOf, IsIndependent, IsOpenIn}
use Rattle.sbpl_frontier_rules.specs.Kept.{IsKept}
use Rattle.sbpl_frontier_core.specs.Answers.{AreFirst, IsBefore, IsFirstChoice, IsOpenBelow, IsWaiting}
use Rattle.sbpl_frontier_core.specs.Clear.{ArePopped, HaveSameKeys, IsClear, IsClearIn}
use Rattle.sbpl_frontier_core.specs.Clear.{IsClearNext, IsSearched, NoneBelow}
use Rattle.sbpl_frontier_core.proofs.Aside.{IsAmong, left_not_popped, left_was, one_before, popped_or_left}
use Rattle.sbpl_frontier_core.proofs.Replaying.{due_out, leg_of_times, opened_out}

-- an open state has a key, its present one
queued_some : (eps : ℕ) (h : ℕ → ℕ) (closed : ℕ → Bool) (m : Marks) (s : ℕ) (key : Option (ℕ × ℕ))
    → IsQueued eps h closed m s key
    → IsOpen closed m s → key ≡ Some (key_at eps h m s)
queued_some eps h closed m s None queued is_open = absurd (queued is_open)
queued_some eps h closed m s (Some key) queued is_open = ap Some queued.1

-- queues with the same keys hold the same open states
pub queued_same : {eps : ℕ} {h : ℕ → ℕ} {closed : ℕ → Bool} {m : Marks} {f g : OpenList} → HaveSameKeys f g
    → AreQueued eps h closed m f
    → AreQueued eps h closed m g
queued_same same queued = record { states = same.states ∙ queued.states; each = λ s. rw (same.each s) (queued.each s) }

empty : (legs : List Leg) → length legs ≡ 0 → legs ≡ []
empty [] none = refl
empty (first ∷ rest) none = absurd (omega arith)

-- the states of entries
states_in : List Entry → List ℕ
states_in entries = map (λ (entry : Entry). entry.state) entries

module _ (entries : List Entry) where
  count_in : length (states_in entries) ≡ length entries
  unfolding states_in
  count_in = length-map entries (λ (entry : Entry). entry.state)

  all_in : (P : ℕ → Type 0) → All (λ (entry : Entry). P entry.state) entries → All P (states_in entries)
  unfolding states_in
  all_in P all = All-map P (λ (entry : Entry). entry.state) entries all

  among_in : (s : ℕ) → IsAmong entries s → Contains (states_in entries) s
  unfolding states_in
  among_in s (entry, (k, inside, same), at) = (
    k,
    omega (arith, length-map entries (λ (e : Entry). e.state)),
    get_or-map (λ (e : Entry). e.state) entries k entry s inside ∙ ap (λ (e : Entry). e.state) same ∙ at,
  )

  apart_in : AllPairs (λ (a b : Entry). a.state ≢ b.state) entries → AllPairs (λ (a b : ℕ). a ≢ b) (states_in entries)
  unfolding states_in
  apart_in apart = λ i j d first inside same.
      let within : j < length entries = omega (arith, length-map entries (λ (e : Entry). e.state)) in
      apart i j no_entry first within
      (sym (get_or-map (λ (e : Entry). e.state) entries i no_entry d (omega arith)) ∙ same
      ∙ get_or-map (λ (e : Entry). e.state) entries j no_entry d within)

module _ (q : Query) (f : Frontier) (queue : OpenList)
    (queued : AreQueued q.eps q.guide (is_opened f) f.labels queue) where
  pub open_key : (s : ℕ) → IsOpenIn f s → open_list.key_at queue s ≡ Some (key_at q.eps q.guide f.labels s)
  open_key s is_open =
      queued_some q.eps q.guide (is_opened f) f.labels s (open_list.key_at queue s) (queued.each s) is_open

  pub key_open : (s : ℕ) (key : ℕ × ℕ) → open_list.key_at queue s ≡ Some key
      → IsOpenIn f s × (key ≡ key_at q.eps q.guide f.labels s)
  key_open s key there =
      subst (λ (o : Option (ℕ × ℕ)). IsQueued q.eps q.guide (is_opened f) f.labels s o) there (queued.each s)

  -- no key is below the goal's
  pub rest_from : IsFirstBelow queue (goal_key_at q f.labels) None → IsAtRest q (is_opened f) f.labels
  rest_from none =
      record { none_below = λ s is_open below. none s (key_at q.eps q.guide f.labels s) (open_key s is_open) below }

  pub over_from : f.ready ≡ [] → length f.out ≡ 0 → IsFirstBelow queue (goal_key_at q f.labels) None → IsRest q f
  over_from none_ready none_out none =
      record { idle = record { none_ready = none_ready; none_out = empty f.out none_out }; rest = rest_from none }

  pub waits_at_rest : f.ready ≡ [] → 0 < length f.out → IsFirstBelow queue (goal_key_at q f.labels) None → IsWaiting q f
  waits_at_rest none_ready some_out none = record {
    none_ready = none_ready;
    some_out = some_out;
    held =
        inr
        (record {
          states = [];
          first = record {
            are_open = All-nil (IsOpenBelow q f);
            apart = λ i j d first inside. absurd (omega arith);
            few = omega arith;
            rest = λ u open_u. absurd ((rest_from none).none_below u open_u.is_open open_u.below);
          };
          held = All-nil (λ (s : ℕ). IsIndependent q f s → ⊥);
        });
  }

  -- one is, and the budget is spent
  pub spent_from : (s : ℕ) → f.ready ≡ [] → length f.out ≡ 0 → IsSpent f.counts
      → IsFirstBelow queue (goal_key_at q f.labels) (Some s) → IsOutOfBudget q f
  spent_from s none_ready none_out spent (key, least, below) =
      let at = key_open s key least.there in
      record {
        idle = record { none_ready = none_ready; none_out = empty f.out none_out };
        spent = spent;
        state = s;
        is_open = at.0;
        below_goal = rw (← at.1) below;
      }

  module _ (kept : IsKept q f) (none_ready : f.ready ≡ []) where
    -- where no arc is ready, busy are the sources of arcs that are out
    busy_out : (p : ℕ) → IsBusy f p → (leg : Leg) × Contains f.out leg × (leg.state ≡ p)
    busy_out p busy =
        let ready : times_ready f.ready p busy.arc ≡ 0 = rw none_ready refl in
        leg_of_times f.out p busy.arc
        (λ none.
        let sum : times_due f p busy.arc ≡ 0 = omega arith in
        false≢true (sym (ap not (eq-eqb (times_due f p busy.arc) 0 sum)) ∙ busy.due))

    pub out_busy : (leg : Leg) → Contains f.out leg → IsBusy f leg.state
    out_busy leg among =
        record { opened = (opened_out leg kept among).opened; arc = leg.arc; due = due_out f leg among }

    -- a state that is clear in the queue is independent
    pub clear_independent : (s : ℕ) (key : ℕ × ℕ) → key ≡ key_at q.eps q.guide f.labels s
        → IsClearIn q.network q.eps f.labels f.out queue s key
        → IsIndependent q f s
    clear_independent s key own clear = record {
      of_busy = λ p busy.
          let leg = busy_out p busy in
          subst (λ (x : ℕ). IsClearOf q f.labels s x) leg.2
          (All-contains (λ (l : Leg). IsClear q.network q.eps f.labels s l.state) f.out leg.0 clear.of_legs leg.1);
      of_earlier =
          λ p open_p before. clear.of_earlier p (key_at q.eps q.guide f.labels p) (open_key p open_p) (rw own before);
    }

    -- and the other way round
    pub independent_clear : (s : ℕ) (key : ℕ × ℕ) → key ≡ key_at q.eps q.guide f.labels s → IsIndependent q f s
        → IsClearIn q.network q.eps f.labels f.out queue s key
    independent_clear s key own free = record {
      of_legs = λ k d inside. free.of_busy (slice_index_or f.out k d).state
          (out_busy (slice_index_or f.out k d) (Contains-get_or f.out k d inside));
      of_earlier = λ p other there before.
          let at = key_open p other there in
          free.of_earlier p at.0 (rw (← at.1, ← own) before);
    }

    module _ (popped : List Entry) (rest : OpenList)
        (are : ArePopped q.network q.eps f.labels f.out (goal_key_at q f.labels) queue popped rest) where
      popped_open : (k : ℕ) (d : Entry) → k < length popped
          → IsOpenIn f (slice_index_or popped k d).state
          × (key_of (slice_index_or popped k d) ≡ key_at q.eps q.guide f.labels (slice_index_or popped k d).state)
      popped_open k d inside =
          key_open (slice_index_or popped k d).state (key_of (slice_index_or popped k d))
          (All-get_or (λ (e : Entry). open_list.key_at queue e.state ≡ Some (key_of e)) popped k
          d inside are.aside.there)

      popped_held : All (λ (e : Entry). IsIndependent q f e.state → ⊥) popped
      popped_held = λ k d inside free.
          let at = popped_open k d inside in
          All-get_or (λ (e : Entry). IsClearIn q.network q.eps f.labels f.out queue e.state (key_of e) → ⊥)
          popped k d inside are.held
          (independent_clear (slice_index_or popped k d).state (key_of (slice_index_or popped k d)) at.1 free)

      popped_first : NoneBelow rest (goal_key_at q f.labels) ⊎ (length popped ≡ 64) → AreFirst q f 64 (states_in popped)
      popped_first ends = record {
        are_open =
            all_in popped (IsOpenBelow q f)
            (λ k d inside.
            let at = popped_open k d inside in
            record {
              is_open = at.0;
              below = rw (← at.1)
                  (All-get_or (λ (e : Entry). IsBelow (key_of e) (goal_key_at q f.labels)) popped k d inside are.below);
            });
        apart = apart_in popped are.apart;
        few = omega (arith, count_in popped, are.few);
        rest = λ u open_u.
            ⊎_elim
            (λ (among : IsAmong popped u). inl (among_in popped u among))
            (λ (left : open_list.key_at rest u ≡ Some (key_at q.eps q.guide f.labels u)).
            ⊎_elim
            (λ (none : NoneBelow rest (goal_key_at q f.labels)).
            absurd (none u (key_at q.eps q.guide f.labels u) left open_u.below))
            (λ (many : length popped ≡ 64).
            inr (
              count_in popped ∙ many,
              all_in popped (λ s. IsBefore q f s u)
                  (λ k d inside.
                  rw (← (popped_open k d inside).1)
                  (All-get_or (λ (e : Entry).
                  (x : ℕ) (y : ℕ × ℕ) → open_list.key_at rest x ≡ Some y → ComesBefore (key_of e) e.state y x)
                  popped k d inside are.before u (key_at q.eps q.guide f.labels u) left)),
            ))
            ends)
            (popped_or_left are u (key_at q.eps q.guide f.labels u) (open_key u open_u.is_open));
      }

      popped_choice : (s : ℕ) → IsClearNext q.network q.eps f.labels f.out (goal_key_at q f.labels) queue popped rest s
          → IsFirstChoice q f s
      popped_choice s next =
          let at = key_open s next.key (left_was are s next.key next.least.there) in
          record {
            earlier = states_in popped;
            few = omega (arith, count_in popped, next.few);
            all = λ u open_u before.
                let earlier : ComesBefore (key_at q.eps q.guide f.labels u) u next.key s = rw at.1 before in
                ⊎_elim
                (λ (among : IsAmong popped u). among_in popped u among)
                (λ (left : open_list.key_at rest u ≡ Some (key_at q.eps q.guide f.labels u)).
                ⊎_elim
                (λ (same : u ≡ s).
                let own : key_at q.eps q.guide f.labels u ≡ next.key = rw same (sym at.1) in
                let again : ComesBefore next.key s next.key s = rw (own, same) at earlier in
                absurd (one_before next.key next.key s s again again))
                (λ (apart : u ≢ s). absurd (one_before next.key (key_at q.eps q.guide f.labels u) s u
                (next.least.first u (key_at q.eps q.guide f.labels u) left apart) earlier))
                (cases_eq u s))
                (popped_or_left are u (key_at q.eps q.guide f.labels u) (open_key u open_u));
            held = all_in popped (λ u. IsIndependent q f u → ⊥) popped_held;
          }

      popped_may : (s : ℕ) → IsClearNext q.network q.eps f.labels f.out (goal_key_at q f.labels) queue popped rest s
          → HasLeft f.counts → MayOpen q f s
      popped_may s next left =
          let at = key_open s next.key (left_was are s next.key next.least.there) in
          let fresh : IsOver f.labels s × (is_opened f s ≡ false) =
          ⊎_elim
          (λ (under : IsUnder f.labels s).
          absurd (omega (arith, kept.none_under.at s (omega (arith, at.0.inside, kept.states)))))
          (λ over. over) at.0.inconsistent in
          record {
            inside = at.0.inside;
            fresh = fresh.1;
            over = fresh.0;
            below_goal = rw (← at.1) next.below;
            left = left;
            independent = clear_independent s next.key at.1 next.clear;
          }

      -- the least open state is clear where nothing is out
      none_out_clear : {s : ℕ} {key : ℕ × ℕ} → length f.out ≡ 0 → IsLeast queue s key
          → IsClearIn q.network q.eps f.labels f.out queue s key
      none_out_clear {s} {key} none least = record {
        of_legs = λ k d inside. absurd (omega arith);
        of_earlier = λ p other there before.
            ⊎_elim
            (λ (same : p ≡ s).
            let own : key ≡ other =
            same_Some key other (sym least.there ∙ sym (ap (open_list.key_at queue) same) ∙ there) in
            let again : ComesBefore key s key s = rw (sym own, same) at before in
            absurd (one_before key key s s again again))
            (λ (apart : p ≢ s). absurd (one_before key other s p (least.first p other there apart) before))
            (cases_eq p s);
      }

      -- so something is out where none is found
      popped_out : (s : ℕ) → IsFirstBelow queue (goal_key_at q f.labels) (Some s)
          → NoneBelow rest (goal_key_at q f.labels) ⊎ (length popped ≡ 64) → length f.out ≡ 0 → ⊥
      popped_out s (key, least, below) ends none =
          ⊎_elim
          (λ (among : IsAmong popped s).
          let entry = among.0 in
          let there =
          All-contains (λ (e : Entry). open_list.key_at queue e.state ≡ Some (key_of e)) popped entry
          are.aside.there among.1 in
          let own : key ≡ key_of entry =
          same_Some key (key_of entry) (sym least.there ∙ sym (ap (open_list.key_at queue) among.2) ∙ there) in
          let clear : IsClearIn q.network q.eps f.labels f.out queue s key = none_out_clear none least in
          All-contains (λ (e : Entry). IsClearIn q.network q.eps f.labels f.out queue e.state (key_of e) → ⊥) popped
          entry are.held among.1 (rw (among.2, ← own) clear))
          (λ (left : open_list.key_at rest s ≡ Some key).
          ⊎_elim
          (λ (nothing : NoneBelow rest (goal_key_at q f.labels)). nothing s key left below)
          (λ (many : length popped ≡ 64).
          let some : 0 < length popped = omega arith in
          let first = slice_index_or popped 0 no_entry in
          let apart = All-get_or (λ (e : Entry). e.state ≢ s) popped 0 no_entry some (left_not_popped are s key left) in
          let there =
          All-get_or (λ (e : Entry). open_list.key_at queue e.state ≡ Some (key_of e)) popped 0
          no_entry some are.aside.there in
          let before =
          All-get_or (λ (e : Entry). (x : ℕ) (y : ℕ × ℕ) → open_list.key_at rest x ≡ Some y
          → ComesBefore (key_of e) e.state y x) popped 0 no_entry some are.before s key left in
          one_before (key_of first) key first.state s before (least.first first.state (key_of first) there apart))
          ends)
          (popped_or_left are s key least.there)

    -- what the search in the queue says
    pub chosen_from : (s : ℕ) → HasLeft f.counts
        → IsSearched q.network q.eps f.labels f.out (goal_key_at q f.labels) queue (Some s)
        → MayOpen q f s × IsFirstChoice q f s
    chosen_from s left found = (
      popped_may found.popped found.rest found.are s found.leads left,
      popped_choice found.popped found.rest found.are s found.leads,
    )

    pub waits_from : (s : ℕ) → IsFirstBelow queue (goal_key_at q f.labels) (Some s)
        → IsSearched q.network q.eps f.labels f.out (goal_key_at q f.labels) queue None → IsWaiting q f
    waits_from s least found = record {
      none_ready = none_ready;
      some_out =
          ⊎_elim
          (λ (some : 0 < length f.out). some)
          (λ (none : length f.out ≤ 0).
          absurd (popped_out found.popped found.rest found.are s least found.leads (omega arith)))
          (cases_lt 0 (length f.out));
      held =
          inr
          (record {
            states = states_in found.popped;
            first = popped_first found.popped found.rest found.are found.leads;
            held = all_in found.popped (λ s. IsIndependent q f s → ⊥) (popped_held found.popped found.rest found.are);
          });
    }
