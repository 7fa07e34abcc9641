-- What a list of events opens: each state at most once.
use Rattle.std.proofs.Common.{◌≡◌, ◌≢◌, ℕ, zero, suc, ◌+◌, ◌<◌, ◌≤◌, Bool, true, false, cond, Option, Some, None, List}
use Rattle.std.proofs.Common.{[], ◌∷◌, length, slice_set, arith, ⊎_elim, refl, sym, ap, ◌∙◌}
use Rattle.std.proofs.lemmas.Bool.{cases_eq, eq-eqb, ne_eqb, false≢true}
use Rattle.std.proofs.lemmas.List.{length-set}
use Rattle.sbpl_serial.specs.sbpl_graph.Network.{Network}
use Rattle.sbpl_serial.specs.sbpl_labels.Counts.{GrowBy}
use Rattle.sbpl_serial.specs.sbpl_labels.Marks.{Marks, states_of}
use Rattle.sbpl_serial.proofs.Growing.{grow_none, grow_twice}
use Rattle.sbpl_serial.specs.sbpl_search.Query.{Query}
use Rattle.sbpl_serial.specs.Marked.{closed_at}
use Rattle.sbpl_serial.specs.Relaxed.{IsRelaxed}
use Rattle.sbpl_serial.specs.Run.{IsOver, IsUnder}
use Rattle.sbpl_frontier_rules.specs.declared.event.Event.{Event}
use Rattle.sbpl_frontier_rules.specs.declared.event.Event.TheVariants.{Opened, Taken, Posted}
use Rattle.sbpl_frontier_rules.specs.Frontier.{Frontier, is_opened}
use Rattle.sbpl_frontier_rules.specs.Events.{AreEvents, IsOpening}
use Rattle.sbpl_frontier_rules.specs.Journal.{opens, opened_times, is_opening, openings}
use Rattle.sbpl_frontier_rules.specs.Laws.{EachOpensOnce}
use Rattle.sbpl_frontier_rules.proofs.First.{first_kept}
use Rattle.sbpl_frontier_rules.proofs.Opening.{opened_here, opened_still}
use Rattle.sbpl_frontier_rules.proofs.Replaying.{OpeningBounded, events_kept}

-- how many of the tests are true
abbrev pub marked : List Bool → ℕ
marked [] = 0
marked (mark ∷ rest) = cond mark 1 0 + marked rest

mark_few : (mark : Bool) → cond mark 1 0 ≤ 1
mark_few true = omega arith
mark_few false = omega arith

marked_few : (marks : List Bool) → marked marks ≤ length marks
marked_few [] = omega arith
marked_few (mark ∷ rest) = omega (arith, mark_few mark, marked_few rest)

marked_none : (marks : List Bool) → ((s : ℕ) → closed_at marks s ≡ false) → marked marks ≡ 0
marked_none [] none = refl
marked_none (mark ∷ rest) none =
    let own : mark ≡ false = none 0 in
    rw own (omega (arith, marked_none rest (λ s. none (suc s))))

marked_more : (marks : List Bool) (s : ℕ) → s < length marks → closed_at marks s ≡ false
    → marked (slice_set marks s true) ≡ marked marks + 1
marked_more [] s inside fresh = absurd (omega arith)
marked_more (mark ∷ rest) zero inside fresh = let own : mark ≡ false = fresh in rw own (omega arith)
marked_more (mark ∷ rest) (suc s) inside fresh = omega (arith, marked_more rest s (omega arith) fresh)

marked_fewer : (marks : List Bool) (s : ℕ) → s < length marks → closed_at marks s ≡ false → marked marks < length marks
marked_fewer marks s inside fresh =
    omega (arith, marked_more marks s inside fresh, marked_few (slice_set marks s true), length-set marks s true)

-- what these events have opened, from one frontier to another
record HasOpened (events : List Event) (old new : Frontier) : Type 0 where
  none : (s : ℕ) → is_opened old s ≡ true → opened_times s events ≡ 0
  each : (s : ℕ) → opened_times s events ≤ 1
  still : (s : ℕ) → is_opened old s ≡ true → is_opened new s ≡ true
  opened : (s : ℕ) → 0 < opened_times s events → is_opened new s ≡ true
  total : marked new.opened ≡ marked old.opened + openings events
  marks : length new.opened ≡ length old.opened
  counted : GrowBy (openings events) old.counts new.counts
  start : new.labels.start ≡ old.labels.start
  states : states_of new.labels ≡ states_of old.labels

opened_none : (old : Frontier) → HasOpened [] old old
opened_none old =
    record {
      none = λ s was. refl;
      each = λ s. omega arith;
      still = λ s was. was;
      opened = λ s some. absurd (omega arith);
      total = omega arith;
      marks = refl;
      counted = grow_none old.counts;
      start = refl;
      states = refl;
    }

-- an event that opens nothing comes before
record IsQuiet (old mid : Frontier) : Type 0 where
  opened : mid.opened ≡ old.opened
  counts : mid.counts ≡ old.counts
  start : mid.labels.start ≡ old.labels.start
  states : states_of mid.labels ≡ states_of old.labels

opened_quiet : {e : Event} {rest : List Event} {old mid new : Frontier} → ((s : ℕ) → opens s e ≡ 0)
    → is_opening e ≡ 0 → IsQuiet old mid
    → HasOpened rest mid new → HasOpened (e ∷ rest) old new
opened_quiet {e} {rest} {old} {mid} {new} opens_not no_opening quiet later =
    let still : (s : ℕ) → is_opened old s ≡ true → is_opened mid s ≡ true =
    λ s was. ap (λ marks. closed_at marks s) quiet.opened ∙ was in
    let total : marked mid.opened ≡ marked old.opened = ap marked quiet.opened in
    let counted : GrowBy (openings rest) old.counts new.counts = rw (← quiet.counts) later.counted in
    let as_many : openings (e ∷ rest) ≡ openings rest = omega arith in
    record {
      none = λ s was. omega (arith, opens_not s, later.none s (still s was));
      each = λ s. omega (arith, opens_not s, later.each s);
      still = λ s was. later.still s (still s was);
      opened = λ s some. later.opened s (omega (arith, opens_not s));
      total = omega (arith, later.total);
      marks = later.marks ∙ ap length quiet.opened;
      counted = rw as_many counted;
      start = later.start ∙ quiet.start;
      states = later.states ∙ quiet.states;
    }

-- the opening of a state comes before
opened_more : {q : Query} {s : ℕ} {rest : List Event} {old mid new : Frontier}
    → s < length old.opened → IsOpening q old s mid
    → HasOpened rest mid new → HasOpened (Opened s ∷ rest) old new
opened_more {q} {s} {rest} {old} {mid} {new} inside opening later =
    let here = opened_here old.opened mid.opened s inside opening.opened in
    let still : (u : ℕ) → is_opened old u ≡ true → is_opened mid u ≡ true =
    λ u was. opened_still old.opened mid.opened s u inside opening.opened was in
    let total : marked mid.opened ≡ marked old.opened + 1 =
    ap marked opening.opened ∙ marked_more old.opened s inside opening.may.fresh in
    record {
      none = λ u was.
          let apart : s ≢ u =
          λ same. let own : is_opened old s ≡ true = rw same was in absurd (false≢true (sym opening.may.fresh ∙ own)) in
          rw (ne_eqb s u apart) (omega (arith, later.none u (still u was)));
      each = λ u.
          ⊎_elim
          (λ (at : s ≡ u).
          let own : is_opened mid u ≡ true = rw (← at) here in
          rw (eq-eqb s u at) (omega (arith, later.none u own)))
          (λ (apart : s ≢ u). rw (ne_eqb s u apart) (omega (arith, later.each u)))
          (cases_eq s u);
      still = λ u was. later.still u (still u was);
      opened = λ u some.
          ⊎_elim
          (λ (at : s ≡ u).
          let own : is_opened mid u ≡ true = rw (← at) here in
          later.still u own)
          (λ (apart : s ≢ u).
          let some' = rw (ne_eqb s u apart) at some in
          later.opened u (omega arith))
          (cases_eq s u);
      total = omega (arith, later.total);
      marks = later.marks ∙ ap length opening.opened ∙ length-set old.opened s true;
      counted = grow_twice (1 + openings rest) refl opening.counted later.counted;
      start = later.start ∙ opening.settled.start;
      states = later.states ∙ opening.settled.states;
    }

-- applying the judgement of an arc keeps the start and the number of states
pub relaxed_same : (n : Network) (old new : Marks) (s k : ℕ) (head : Option ℕ) → IsRelaxed n old new s k head
    → (new.start ≡ old.start) × (states_of new ≡ states_of old)
relaxed_same n old new s k None relaxed = (ap (λ (m : Marks). m.start) relaxed.0, ap states_of relaxed.0)
relaxed_same n old new s k (Some t) (c, by) = (by.changed.start, by.changed.states)

opened_all : (q : Query) (events : List Event) (old new : Frontier) → length old.opened ≡ states_of old.labels
    → AreEvents q events old new
    → HasOpened events old new
opened_all q [] old new marks same = rw same (opened_none old)
opened_all q (Opened s ∷ rest) old new marks (mid, opening, further) =
    let marks' : length mid.opened ≡ states_of mid.labels =
    ap length opening.opened ∙ length-set old.opened s true ∙ marks ∙ sym opening.settled.states in
    opened_more (omega (arith, opening.may.inside)) opening (opened_all q rest mid new marks' further)
opened_all q (Taken ticket seat s k ∷ rest) old new marks (mid, taking, further) =
    let quiet : IsQuiet old mid =
    record {
      opened = taking.opened;
      counts = taking.counts;
      start = ap (λ (m : Marks). m.start) taking.labels;
      states = ap states_of taking.labels;
    }
    in
    opened_quiet (λ u. refl) refl quiet
    (opened_all q rest mid new (ap length quiet.opened ∙ marks ∙ sym quiet.states) further)
opened_all q (Posted ticket cost ∷ rest) old new marks (mid, (leg, same, posting), further) =
    let labels = relaxed_same q.network old.labels mid.labels leg.state leg.arc posting.head posting.relaxed in
    let quiet : IsQuiet old mid =
    record { opened = posting.opened; counts = posting.counts; start = labels.0; states = labels.1 } in
    opened_quiet (λ u. refl) refl quiet
    (opened_all q rest mid new (ap length quiet.opened ∙ marks ∙ sym quiet.states) further)

pub each_opens_once : OpeningBounded → EachOpensOnce
each_opens_once bounded q m before events old new lawful may first run =
    let kept = events_kept bounded q events old new lawful run (first_kept q m before old may first) in
    let has = opened_all q events old new (first.marks ∙ sym (ap states_of first.labels)) run in
    let none = marked_none old.opened first.none_opened in
    let states : states_of new.labels ≡ states_of m = has.states ∙ ap states_of first.labels in
    record {
      each = has.each;
      few = omega (arith, has.total, marked_few new.opened, has.marks, first.marks);
      unfinished = λ out.
          let state_inside : out.state < length new.opened =
          omega (arith, out.is_open.inside, kept.states, kept.marks) in
          let fresh : is_opened new out.state ≡ false =
          ⊎_elim
          (λ (under : IsUnder new.labels out.state).
          absurd (omega (arith, kept.none_under.at out.state (omega (arith, kept.marks)))))
          (λ (over : IsOver new.labels out.state × (is_opened new out.state ≡ false)). over.1)
          out.is_open.inconsistent
          in
          omega (arith, has.total, marked_fewer new.opened out.state state_inside fresh, has.marks, first.marks);
      opened = has.opened;
      counted = rw (← first.counts) has.counted;
      start = has.start ∙ ap (λ (m : Marks). m.start) first.labels;
      states = states;
    }
