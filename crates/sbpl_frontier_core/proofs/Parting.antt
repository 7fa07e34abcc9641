-- The parts of a core stay together over each event.
use Rattle.std.proofs.Common.{◌≡◌, ℕ, ◌≢◌, ◌+◌, ◌-◌, ◌^◌, ◌<◌, ◌≤◌, Bool, true, false, Option, Some, None, List, []}
use Rattle.std.proofs.Common.{◌∷◌, ◌++◌, length, slice_set, arith, ⊎_elim, refl, sym, ◌∙◌, ap, length-append}
use Rattle.std.specs.List.{Contains}
use Rattle.std.proofs.lemmas.Bool.{cases_eq, true≢false}
use Rattle.std.proofs.lemmas.List.{get_or-set_other, length-set}
use Rattle.std.proofs.lemmas.List.Elements.{All-nil, All-push, Contains-append_left, Contains-push}
use Rattle.sbpl_frontier_rules.specs.sbpl_graph.Network.{Network}
use Rattle.sbpl_frontier_rules.specs.sbpl_labels.Counts.{AreCounts, Counts, GrowBy}
use Rattle.sbpl_frontier_rules.specs.sbpl_labels.Marks.{ChangesRow, Marks, back_of, g_of, states_of}
use Rattle.sbpl_frontier_rules.specs.sbpl_open.OpenList.{OpenList}
use Rattle.sbpl_frontier_rules.specs.sbpl_search.Query.{Query}
use Rattle.sbpl_frontier_rules.specs.sbpl_serial.Marked.{closed_at}
use Rattle.sbpl_frontier_rules.specs.sbpl_serial.Queue.{AreQueued}
use Rattle.sbpl_frontier_rules.specs.sbpl_serial.Relaxed.{IsRelaxed}
use Rattle.sbpl_frontier_rules.specs.declared.event.Event.TheVariants.{Opened, Posted, Taken}
use Rattle.sbpl_frontier_rules.specs.declared.leg.Leg.{Leg}
use Rattle.sbpl_frontier_rules.specs.Events.{IsFirst, IsOpening, IsPosting, IsTaking, MayOpen}
use Rattle.sbpl_frontier_rules.specs.Frontier.{Frontier, is_opened, without}
use Rattle.sbpl_frontier_rules.specs.Kept.{IsKept}
use Rattle.sbpl_frontier_rules.specs.Laws.{EventsKeep, FirstIsKept, IsLawful, MayBegin}
use Rattle.sbpl_frontier_core.specs.Book.{frontier_of}
use Rattle.sbpl_frontier_core.specs.Clear.{HaveSameKeys}
use Rattle.sbpl_frontier_core.specs.Cursor.{IsFirstHead, arcs_from}
use Rattle.sbpl_frontier_core.specs.Log.{Log}
use Rattle.sbpl_frontier_core.specs.Together.{AreCoreParts, Room}
use Rattle.sbpl_frontier_core.proofs.Choosing.{queued_same}
use Rattle.sbpl_frontier_core.proofs.Cursors.{all_from, few_within}
use Rattle.sbpl_frontier_core.proofs.Replaying.{fewer_without, kept_by_replay, replay_push}

-- the first ready arc is taken
pub taking : (n : Network) (labels : Marks) (opened : List Bool) (state from : ℕ) (out out' : List Leg) (next : ℕ)
    (counts : Counts) (arc : ℕ)
    → IsFirstHead n state from arc → out' ≡ out ++ record { ticket = next; state = state; arc = arc } ∷ []
    → IsTaking (frontier_of n labels opened state from out next counts)
    (record { ticket = next; state = state; arc = arc })
    (frontier_of n labels opened state (arc + 1) out' (next + 1) counts)
taking n labels opened state from out out' next counts arc head pushed = record {
  before = [];
  after = arcs_from n state (arc + 1);
  was_ready = head.first;
  ready = refl;
  ticket = refl;
  out = pushed;
  next = refl;
  labels = refl;
  opened = refl;
  counts = refl;
}

-- a state is opened
pub opening_of : (q : Query) (labels labels' : Marks) (opened opened' : List Bool) (state from : ℕ) (out : List Leg)
    (next : ℕ) (counts counts' : Counts) (s : ℕ)
    → arcs_from q.network state from ≡ [] → MayOpen q (frontier_of q.network labels opened state from out next counts) s
    → ChangesRow labels labels' s (record { g = g_of labels s; v = g_of labels s; back = back_of labels s })
    → opened' ≡ slice_set opened s true → GrowBy 1 counts counts'
    → IsOpening q (frontier_of q.network labels opened state from out next counts) s
    (frontier_of q.network labels' opened' s 0 out next counts')
opening_of q labels labels' opened opened' state from out next counts counts' s none_ready may settled marked counted =
    record {
      may = may;
      settled = settled;
      opened = marked;
      ready = rw none_ready (all_from q.network s);
      counted = counted;
      out = refl;
      next = refl;
    }

-- a judgement is applied
pub posting_of : (n : Network) (labels labels' : Marks) (opened : List Bool) (state from : ℕ) (out out' : List Leg)
    (next : ℕ) (counts : Counts) (leg : Leg)
    (cost head : Option ℕ) → Contains out leg → cost ≡ n.cost leg.state leg.arc
    → IsRelaxed n labels labels' leg.state leg.arc head
    → out' ≡ without leg.ticket out
    → IsPosting n (frontier_of n labels opened state from out next counts) leg cost
    (frontier_of n labels' opened state from out' next counts)
posting_of n labels labels' opened state from out out' next counts leg cost head was judged relaxed taken = record {
  was_out = was;
  judged = judged;
  head = head;
  relaxed = relaxed;
  out = taken;
  ready = refl;
  next = refl;
  opened = refl;
  counts = refl;
}

-- no state is added by an arc
pub head_lowered : (n : Network) (old new : Marks) (s k : ℕ) (head : Option ℕ) → IsRelaxed n old new s k head
    → states_of new ≡ states_of old
head_lowered n old new s k None relaxed = ap states_of relaxed.0
head_lowered n old new s k (Some t) relaxed = relaxed.1.changed.states

module _ {q : Query} {opening : Marks} {before : Counts} {keeps : Bool} where
  -- the laws of the events hold of the frontier
  pub parts_kept : {f : Frontier} {log : Log} {queue : OpenList} {expanded : List ℕ} {state : ℕ} {aside : Room}
      → FirstIsKept → EventsKeep
      → AreCoreParts q opening before keeps f log queue expanded state aside → IsKept q f
  parts_kept first each here = kept_by_replay first each here.lawful here.may_begin here.replay

  pub parts_taken : {f f' : Frontier} {log log' : Log} {queue : OpenList} {expanded : List ℕ} {state : ℕ}
      {aside : Room} (seat : ℕ) (leg : Leg)
      → AreCoreParts q opening before keeps f log queue expanded state aside → IsTaking f leg f'
      → log'.events ≡ log.events ++ Taken leg.ticket seat leg.state leg.arc ∷ [] → log'.keeps ≡ log.keeps
      → length f.out + 1 ≤ log'.spare
      → AreCoreParts q opening before keeps f' log' queue expanded state aside
  parts_taken {f} {f'} {log} {log'} seat leg here taking pushed same room = record {
    lawful = here.lawful;
    may_begin = here.may_begin;
    replay = replay_push (Taken leg.ticket seat leg.state leg.arc) log'.events here.replay taking pushed;
    states = ap states_of taking.labels ∙ here.states;
    marks = ap length taking.opened ∙ here.marks;
    goal_inside = here.goal_inside;
    queued = rw (taking.labels, taking.opened) here.queued;
    listed = rw taking.opened here.listed;
    listed_inside = here.listed_inside;
    cursor = here.cursor;
    room = omega (arith, ap length taking.out ∙ length-append f.out (leg ∷ []));
    counted =
        let was = ap length taking.was_ready ∙ length-append taking.before ((leg.state, leg.arc) ∷ taking.after) in
        let now = ap length taking.ready ∙ length-append taking.before taking.after in
        let run : f'.counts.run ≡ f.counts.run = ap (λ (c : Counts). c.run) taking.counts in
        omega (arith, taking.next, here.counted);
    kept = same ∙ here.kept;
    none_aside = here.none_aside;
    aside_room = here.aside_room;
  }

  -- where an arc is ready the next ticket has a small number
  pub fewer_tickets : {f : Frontier} {log : Log} {queue : OpenList} {expanded : List ℕ} {state : ℕ} {aside : Room}
      {arc : ℕ × ℕ} {rest : List (ℕ × ℕ)}
      → AreCoreParts q opening before keeps f log queue expanded state aside → AreCounts f.counts
      → f.ready ≡ arc ∷ rest → f.next < 2 ^ 42
  fewer_tickets here counts ready = omega (arith, here.counted, counts.within_run, ap length ready)

  pub parts_opened : {f f' : Frontier} {log log' : Log} {queue queue' : OpenList} {expanded expanded' : List ℕ}
      {state : ℕ} {aside : Room} (s : ℕ)
      → AreCoreParts q opening before keeps f log queue expanded state aside → f.ready ≡ [] → IsOpening q f s f'
      → f'.ready ≡ arcs_from q.network s 0
      → log'.events ≡ log.events ++ Opened s ∷ [] → log'.keeps ≡ log.keeps → length f.out ≤ log'.spare
      → AreQueued q.eps q.guide (is_opened f') f'.labels queue' → expanded' ≡ expanded ++ s ∷ []
      → AreCoreParts q opening before keeps f' log' queue' expanded' s aside
  parts_opened {f} {f'} {log} {log'} {expanded = expanded} s here none_ready opening ready pushed
      same room queued listed =
      let inside : s < q.network.states = omega (arith, opening.may.inside, here.states) in
      record {
        lawful = here.lawful;
        may_begin = here.may_begin;
        replay = replay_push (Opened s) log'.events here.replay opening pushed;
        states = opening.settled.states ∙ here.states;
        marks = ap length opening.opened ∙ length-set f.opened s true ∙ here.marks;
        goal_inside = here.goal_inside;
        queued = queued;
        listed = λ u is.
            rw listed
            (⊎_elim
            (λ (at : u ≡ s). rw at (Contains-push expanded s))
            (λ (apart : u ≢ s).
            let was : is_opened f u ≡ true =
            sym (ap (λ (marks : List Bool). closed_at marks u) opening.opened
            ∙ get_or-set_other f.opened s u true false apart) ∙ is in
            Contains-append_left expanded (s ∷ []) u (here.listed u was))
            (cases_eq u s));
        listed_inside = rw listed (All-push (λ (u : ℕ). u < q.network.states) expanded s here.listed_inside inside);
        cursor = inside;
        room = omega (arith, ap length opening.out);
        counted =
            let more = few_within q.network s 0 (q.network.fan s - 0) in
            let arcs = ap length ready in
            let few = here.lawful.sound.few_arcs s inside in
            omega (arith, opening.next, here.counted, opening.counted.run);
        kept = same ∙ here.kept;
        none_aside = here.none_aside;
        aside_room = here.aside_room;
      }

  -- a judgement is applied
  pub parts_posted : {f f' : Frontier} {log log' : Log} {queue queue' : OpenList} {expanded : List ℕ} {state : ℕ}
      {aside : Room} (leg : Leg) (cost : Option ℕ)
      → AreCoreParts q opening before keeps f log queue expanded state aside → IsPosting q.network f leg cost f'
      → states_of f'.labels ≡ states_of f.labels
      → log'.events ≡ log.events ++ Posted leg.ticket cost ∷ [] → log'.keeps ≡ log.keeps → log.spare ≤ log'.spare + 1
      → AreQueued q.eps q.guide (is_opened f') f'.labels queue'
      → AreCoreParts q opening before keeps f' log' queue' expanded state aside
  parts_posted {f} {f'} {log} {log'} leg cost here posting states pushed same room queued = record {
    lawful = here.lawful;
    may_begin = here.may_begin;
    replay = replay_push (Posted leg.ticket cost) log'.events here.replay (leg, refl, posting) pushed;
    states = states ∙ here.states;
    marks = ap length posting.opened ∙ here.marks;
    goal_inside = here.goal_inside;
    queued = queued;
    listed = rw posting.opened here.listed;
    listed_inside = here.listed_inside;
    cursor = here.cursor;
    room = omega (arith, ap length posting.out, fewer_without f.out leg posting.was_out, here.room);
    counted =
        let run : f'.counts.run ≡ f.counts.run = ap (λ (c : Counts). c.run) posting.counts in
        omega (arith, ap length posting.ready, posting.next, here.counted);
    kept = same ∙ here.kept;
    none_aside = here.none_aside;
    aside_room = here.aside_room;
  }

  -- a pass begins
  pub parts_first : {f : Frontier} {log : Log} {queue : OpenList} {expanded : List ℕ} {state : ℕ} {aside : Room}
      → IsLawful q → MayBegin q opening before
      → IsFirst opening before f → log.events ≡ [] → log.keeps ≡ keeps → q.goal < q.network.states
      → state < q.network.states
      → AreQueued q.eps q.guide (is_opened f) f.labels queue → expanded ≡ [] → aside.entries ≡ [] → 64 ≤ aside.size
      → AreCoreParts q opening before keeps f log queue expanded state aside
  parts_first {f} {log} lawful may first empty same goal cursor queued unlisted none room = record {
    lawful = lawful;
    may_begin = may;
    replay = rw empty (record { first = f; begins = first; leads = refl });
    states = ap states_of first.labels ∙ may.ready.states;
    marks = first.marks ∙ may.ready.states;
    goal_inside = goal;
    queued = queued;
    listed = λ s is. absurd (true≢false (sym is ∙ first.none_opened s));
    listed_inside = rw unlisted (All-nil (λ (u : ℕ). u < q.network.states));
    cursor = cursor;
    room = omega (arith, ap length first.none_out);
    counted = omega (arith, ap length first.none_ready, first.next);
    kept = same;
    none_aside = none;
    aside_room = room;
  }

  -- room is made in the journal
  pub parts_reserved : {f : Frontier} {log log' : Log} {queue : OpenList} {expanded : List ℕ} {state : ℕ} {aside : Room}
      → AreCoreParts q opening before keeps f log queue expanded state aside → log'.events ≡ log.events
      → log'.keeps ≡ log.keeps → log.spare ≤ log'.spare
      → AreCoreParts q opening before keeps f log' queue expanded state aside
  parts_reserved here events keeps spare = record {
    lawful = here.lawful;
    may_begin = here.may_begin;
    replay = rw events here.replay;
    states = here.states;
    marks = here.marks;
    goal_inside = here.goal_inside;
    queued = here.queued;
    listed = here.listed;
    listed_inside = here.listed_inside;
    cursor = here.cursor;
    room = omega (arith, here.room);
    counted = here.counted;
    kept = keeps ∙ here.kept;
    none_aside = here.none_aside;
    aside_room = here.aside_room;
  }

  -- states were put aside and back
  pub parts_searched : {f : Frontier} {log : Log} {queue queue' : OpenList} {expanded : List ℕ}
      {state : ℕ} {aside aside' : Room}
      → AreCoreParts q opening before keeps f log queue expanded state aside → HaveSameKeys queue queue'
      → aside'.entries ≡ [] → aside'.size ≡ aside.size
      → AreCoreParts q opening before keeps f log queue' expanded state aside'
  parts_searched here same none size = record {
    lawful = here.lawful;
    may_begin = here.may_begin;
    replay = here.replay;
    states = here.states;
    marks = here.marks;
    goal_inside = here.goal_inside;
    queued = queued_same same here.queued;
    listed = here.listed;
    listed_inside = here.listed_inside;
    cursor = here.cursor;
    room = here.room;
    counted = here.counted;
    kept = here.kept;
    none_aside = none;
    aside_room = omega (arith, here.aside_room);
  }
