-- What a core leaves.
use Rattle.std.proofs.Common.{◌≡◌, ℕ, ◌<◌, ◌≤◌, Bool, true, false, List, [], replicate, refl, arith, ⊎_elim, inl, inr}
use Rattle.std.proofs.lemmas.Bool.{cases_Bool, cases_lt}
use Rattle.std.proofs.lemmas.List.{get_or-replicate, get_or_past, length-replicate}
use Rattle.sbpl_frontier_rules.specs.sbpl_labels.Counts.{Counts}
use Rattle.sbpl_frontier_rules.specs.sbpl_labels.Marks.{Marks, states_of}
use Rattle.sbpl_frontier_rules.specs.sbpl_open.OpenList.{OpenList}
use Rattle.sbpl_frontier_rules.specs.sbpl_search.Query.{Query}
use Rattle.sbpl_frontier_rules.specs.Events.{IsFirst, IsIdle}
use Rattle.sbpl_frontier_rules.specs.Frontier.{Frontier, is_opened}
use Rattle.sbpl_frontier_rules.specs.Laws.{EachOpensOnce, EventsKeep, FirstIsKept, IdleIsExact, IdleShows}
use Rattle.sbpl_frontier_rules.specs.Laws.{IsLawful, MayBegin, SettledAtOne}
use Rattle.sbpl_frontier_rules.specs.sbpl_serial.Marked.{closed_at}
use Rattle.sbpl_frontier_core.specs.Book.{Book}
use Rattle.sbpl_frontier_core.specs.Finished.{IsFinished, IsGivenUp}
use Rattle.sbpl_frontier_core.specs.Log.{Log}
use Rattle.sbpl_frontier_core.specs.Together.{AreCoreParts, Room}
use Rattle.sbpl_frontier_core.specs.Passes.{IsPassGivenUp}
use Rattle.sbpl_frontier_core.specs.Waiting.{HoldsOver}
use Rattle.sbpl_frontier_core.proofs.Choosing.{open_key}
use Rattle.sbpl_frontier_core.proofs.Parting.{parts_kept}

module _ {q : Query} {opening : Marks} {before : Counts} {keeps : Bool} {f : Frontier} {log : Log} {queue : OpenList}
    {expanded : List ℕ} {state : ℕ} {aside : Room}
    (here : AreCoreParts q opening before keeps f log queue expanded state aside) (first : FirstIsKept)
    (each : EventsKeep) (once : EachOpensOnce) where
  pub finished : IdleIsExact → IdleShows → SettledAtOne → IsIdle f
      → IsFinished q opening before keeps (record { frontier = f; journal = log.events }) f.labels f.counts log
  finished exact shows settled idle =
      let kept = parts_kept first each here in
      let at = exact q f kept idle in
      record {
        labels_are = refl;
        counts_are = refl;
        events = refl;
        keeps_are = here.kept;
        replay = here.replay;
        again = record {
          labels = kept.labels;
          ready = record { states = kept.states; exact = at.0; none_under = kept.none_under; fits = kept.fits };
          counts = kept.counts;
        };
        kept = kept;
        supported = at.1;
        shows = λ low is. shows q f low here.lawful kept idle is;
        once =
            once q opening before log.events here.replay.first f here.lawful here.may_begin
            here.replay.begins here.replay.leads;
        settled = λ one. settled q f here.lawful one kept;
      }

  pub given_up : IsGivenUp q opening before (record { frontier = f; journal = log.events }) f.labels f.counts
  given_up = record {
    labels_are = refl;
    counts_are = refl;
    replay = here.replay;
    kept = parts_kept first each here;
    once =
        once q opening before log.events here.replay.first f here.lawful here.may_begin
        here.replay.begins here.replay.leads;
  }

-- the overconsistent states are in the queue or were expanded
pub over_held : {q : Query} {opening : Marks} {before : Counts} {keeps : Bool} {f : Frontier} {log : Log}
    {queue : OpenList} {expanded : List ℕ} {state : ℕ} {aside : Room}
    → AreCoreParts q opening before keeps f log queue expanded state aside
    → HoldsOver (record { marks = f.opened; queue = queue; expanded = expanded }) f.labels
over_held {q} {f = f} {queue = queue} here = record {
  states = here.queued.states;
  over = λ s inside over.
      ⊎_elim
      (λ (opened : is_opened f s ≡ true). inr (here.listed s opened))
      (λ (fresh : is_opened f s ≡ false).
      let there = open_key q f queue here.queued s (record { inside = inside; inconsistent = inr (over, fresh) }) in
      inl (rw there refl))
      (cases_Bool (is_opened f s));
}

-- a frontier with these labels and counts before its first event
first_book : Marks → Counts → Book
first_book m counts = record {
  frontier =
      record { labels = m; opened = replicate (states_of m) false; ready = []; out = []; next = 0; counts = counts };
  journal = [];
}

none_marked : (count s : ℕ) → closed_at (replicate count false) s ≡ false
none_marked count s =
    ⊎_elim
    (λ (inside : s < count). get_or-replicate count s false false inside)
    (λ (past : count ≤ s). get_or_past (replicate count false) s false (omega (arith, length-replicate count false)))
    (cases_lt s count)

begins_so : (m : Marks) (counts : Counts) → IsFirst m counts (first_book m counts).frontier
unfolding first_book
begins_so m counts = record {
  labels = refl;
  counts = refl;
  marks = length-replicate (states_of m) false;
  none_opened = none_marked (states_of m);
  none_ready = refl;
  none_out = refl;
  next = refl;
}

-- a pass that could not begin leaves what it was given
pub not_begun : {q : Query} {m : Marks} {counts : Counts} → FirstIsKept → EachOpensOnce → IsLawful q
    → MayBegin q m counts → IsPassGivenUp q m counts m counts
unfolding first_book
not_begun {q} {m} {counts} first once lawful may =
    let begins = begins_so m counts in
    record {
      book = first_book m counts;
      given_up = record {
        labels_are = refl;
        counts_are = refl;
        replay = record { first = (first_book m counts).frontier; begins = begins; leads = refl };
        kept = first q m counts (first_book m counts).frontier may begins;
        once = once q m counts [] (first_book m counts).frontier (first_book m counts).frontier lawful may begins refl;
      };
    }
