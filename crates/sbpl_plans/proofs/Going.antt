-- How the making of plans goes on from one to the next.
use Rattle.std.proofs.Common.{◌≡◌, ◌==◌, if◌then◌else◌, ◌⊎◌, ℕ, suc, add-zero, ◌+◌, ◌≤◌, Bool, true, false, List, [], ◌∷◌, ◌++◌, flat_map, length}
use Rattle.std.proofs.Common.{slice_get, Option, Some, None, Result, Ok, Err, refl, sym, ◌∙◌, ap, subst, append_assoc}
use Rattle.std.proofs.Common.{append-nil, arith, inl, inr}
use Rattle.std.proofs.lemmas.Option.{slice_get_within}
use Rattle.sbpl_worlds.specs.sbpl_desk.Desk.{NoneFalls, Stays}
use Rattle.sbpl_worlds.specs.sbpl_desk.declared.desk.WriteStop.{WriteStop}
use Rattle.sbpl_worlds.specs.sbpl_desk.declared.desk.WriteStop.TheVariants.{Failed, NoMemory}
use Rattle.sbpl_worlds.specs.sbpl_terrain.Cells.{IsTerrain}
use Rattle.sbpl_worlds.specs.sbpl_job.declared.job.Outputs.{Outputs}
use Rattle.sbpl_worlds.specs.sbpl_job.declared.job.Planner.{Planner}
use Rattle.sbpl_worlds.specs.sbpl_job.declared.job.SearchJob.{SearchJob}
use Rattle.sbpl_worlds.specs.sbpl_labels.Counts.{Counts}
use Rattle.sbpl_worlds.specs.sbpl_labels.Marks.{Marks}
use Rattle.sbpl_worlds.specs.sbpl_map.CellMap.{CellMap}
use Rattle.sbpl_worlds.specs.sbpl_map.MapAfter.{AreWritten, IsMapAfter}
use Rattle.sbpl_worlds.specs.sbpl_map.declared.write.Write as change
use Rattle.sbpl_worlds.specs.sbpl_promises.Asked.{PlannerOn, planner_as_is, to_by}
use Rattle.sbpl_worlds.specs.sbpl_promises.Sites.{Site, from_of}
use Rattle.sbpl_worlds.specs.sbpl_search.State.{State}
use Rattle.sbpl_worlds.specs.sbpl_replan.Replanning.{BeginsWith, IsAimed, Standing, StaysTheSame}
use Rattle.sbpl_worlds.specs.sbpl_report.declared.record.PlanRecord.{PlanRecord}
use Rattle.sbpl_worlds.specs.sbpl_plan.declared.found.Found.{Found}
use Rattle.sbpl_worlds.specs.sbpl_promises.Headline.{Before, Carried, Changed, IsBrokenIn, IsBrokenOff, IsPlanOf, NoPlan}
use Rattle.sbpl_worlds.specs.sbpl_promises.Published.{Entry, with_paths, with_plan, with_plans}
use Rattle.sbpl_worlds.specs.sbpl_promises.Intents.{end_writes, last_write, plans_status}
use Rattle.sbpl_plans.specs.Planning.{EndsOnePlan, GoesOnFrom, IsSetFor, carried_of}
use Rattle.sbpl_worlds.specs.sbpl_promises.Promises.{EndsPlans}
use Rattle.sbpl_worlds.specs.sbpl_promises.Writing.{AreAppended, DeskState, EndsAs, EndsIn, Write, status_after}
use Rattle.sbpl_telling.proofs.Writings.{ends_as_after, none_made, status_ends}

-- where the start stays or the search goes the other way round, it goes from the same state
from_stays : (back : Bool) (start next goal : ℕ) → (back ≡ false → next ≡ start)
    → from_of back start goal ≡ from_of back next goal
from_stays true start next goal still = refl
from_stays false start next goal still = sym (still refl)

-- how the writing of a plan failed is the same whatever would have come of it
failed_so : (a b : DeskState) (ws : List Write) (e : WriteStop) → EndsIn {T = List ℕ} a b ws (Err e)
    → EndsIn {T = Unit {0}} a b ws (Err e)
failed_so a b ws Failed ends = ends
failed_so a b ws NoMemory ends = ends

-- where a plan was not told nothing is
none_told : (told : List ℕ) (status : ℕ) (e : WriteStop) → status ≡ status_after {T = Unit {0}} 9 (Err e)
    → [] ≡ (if status == 0 then told else [])
none_told told status Failed is = rw is refl
none_told told status NoMemory is = rw is refl

-- ---- plans in turn

-- What the plans of a run share: how they are known, written and told, the first world, the batches of changes to its map,
-- what is asked, where each plan starts, and the goal.
pub record Plans (W : Type 0) : Type 1 where
  pub by : PlannerOn W
  pub written_of : PlanRecord → List Write
  pub told_of : PlanRecord → List ℕ
  pub world : W
  pub batches : List (List change.Write)
  pub how : SearchJob
  pub outputs : Outputs
  pub starts : ℕ → ℕ
  pub goal : ℕ

module _ {W : Type 0} (plans : Plans W) where
  open plans use {by, written_of, told_of, world as w, batches, how, outputs, starts, goal}

  -- how the plans from plan k on end, where these entries were published and this was to be told before, and after
  abbrev Ends : (k : ℕ) (log shown : List Entry) (told why : List ℕ) → Before → (a b : DeskState) → (status : ℕ) → Type 0
  Ends k log shown told why before a b status =
      EndsPlans by written_of told_of w batches how outputs starts goal k log shown told why before a b status

  -- the plans before plan k were made and told, and the map is that after the first k batches; these entries were
  -- published before the first
  -- of them, and these after the last, and this is to be told of them
  pub record IsGoing (now : W) (k start : ℕ) (first log : List Entry) (told : List ℕ) (r : Standing by.Action)
      (a b : DeskState) : Type 0 where
    pub same : now ≡ by.on.cells.over w (by.on.cells.map now)
    pub inside : k ≤ length batches
    pub after : IsMapAfter (by.on.cells.map w) batches k (by.on.cells.map now)
    pub kept : by.on.cells.is_made now
    pub start_is : start ≡ starts k
    pub set : IsSetFor by.on how start goal r
    pub before : Before
    pub goes_on : GoesOnFrom by.means by.on now start goal before r
    pub ends : (c : DeskState) (status : ℕ) (shown : List Entry) (why : List ℕ) → Ends k log shown told why before b c status
        → Ends 0 first shown [] why NoPlan a c status

module _ {W : Type 0} {plans : Plans W} where
  open plans use {by, written_of, told_of, world as w, batches, how, outputs, starts, goal}

  -- plan k was made and told, and then the others ended so
  one_more : {k : ℕ} {log shown : List Entry} {told why : List ℕ} {before : Before} {a b c : DeskState} {status : ℕ}
      (carried : Carried) (r : PlanRecord) → IsMapAfter (by.on.cells.map w) batches k carried.map
      → IsPlanOf by (by.on.cells.over w carried.map) how outputs (starts k) goal k log before carried r
      → AreAppended a b (written_of r) → NoneFalls a.write_faults b.write_faults
      → Ends plans (k + 1) (with_plan log r) shown (told ++ told_of r) why (Changed carried) b c status
      → Ends plans k log shown told why before a c status
  one_more {k} {log} {told = told} {a = a} {b = b} {c = c} {status = status} carried r after plan made low e =
      let count : k + 1 + length e.records ≡ k + suc (length e.records) = omega arith in
      record {
        records = r ∷ e.records;
        all = e.all;
        broken = e.broken;
        each = (carried, after, plan, e.each);
        broken_in = subst (λ (n : ℕ). IsBrokenIn by w batches how outputs starts goal n e.broken) count e.broken_in;
        none_broken = e.none_broken;
        shown_is = e.shown_is ∙ ap (λ (n : ℕ). with_paths (with_plans (with_plan log r) e.records) n 0 e.broken) count;
        few = let rest = e.few in omega arith;
        all_made = λ is. let rest = e.all_made is in omega arith;
        ends =
            rw (append_assoc (written_of r) (flat_map written_of e.records) (end_writes e.all))
            (ends_as_after a b c (written_of r) (flat_map written_of e.records ++ end_writes e.all) (plans_status e.all)
            status made low e.ends);
        why_is = e.why_is ∙ ap (λ (l : List ℕ). if status == 0 then l else [])
            (append_assoc told (told_of r) (flat_map told_of e.records));
      }

  -- memory ran out before plan k was made, or in it
  pub breaks_off : {k : ℕ} {log shown : List Entry} {told : List ℕ} {before : Before} {a b : DeskState} (found : List Found)
      → k ≤ length batches + 1 → IsBrokenIn by w batches how outputs starts goal k found
      → shown ≡ with_paths log k 0 found
      → Stays a.written b.written → Ends plans k log shown told [] before a b 9
  breaks_off {k} {log} {a = a} {b = b} found inside broken shown_is same = record {
    records = [];
    all = false;
    broken = found;
    each = tt;
    broken_in = subst (λ (n : ℕ). IsBrokenIn by w batches how outputs starts goal n found) (sym (add-zero k)) broken;
    none_broken = λ is. absurd (cc);
    shown_is = shown_is ∙ ap (λ (n : ℕ). with_paths log n 0 found) (sym (add-zero k));
    few = omega arith;
    all_made = λ is. absurd (cc);
    ends = inl (refl, none_made a b same);
    why_is = refl;
  }

  -- memory ran out before plan k was begun
  pub no_more : {k : ℕ} {log : List Entry} {told : List ℕ} {before : Before} {a b : DeskState} → k ≤ length batches + 1
      → Stays a.written b.written → Ends plans k log log told [] before a b 9
  no_more inside same = breaks_off [] inside (inl refl) refl same

  -- plan k was the last, and so was the last line
  all_told : {k : ℕ} {log : List Entry} {told why : List ℕ} {before : Before} {a b : DeskState} {status : ℕ}
      → k ≡ length batches + 1 → EndsAs a b (last_write ∷ []) 0 status → why ≡ (if status == 0 then told else [])
      → Ends plans k log log told why before a b status
  all_told {told = told} {status = status} last ends is = record {
    records = [];
    all = true;
    broken = [];
    each = tt;
    broken_in = inl refl;
    none_broken = λ is. refl;
    shown_is = refl;
    few = omega arith;
    all_made = λ is. omega arith;
    ends = ends;
    why_is = is ∙ ap (λ (l : List ℕ). if status == 0 then l else []) (sym (append-nil told));
  }

  -- plan k was made, but was not told
  untold : {k : ℕ} {log : List Entry} {told : List ℕ} {before : Before} {a b : DeskState} {status : ℕ}
      (carried : Carried) (r : PlanRecord) (e : WriteStop)
      → k ≤ length batches → IsMapAfter (by.on.cells.map w) batches k carried.map
      → IsPlanOf by (by.on.cells.over w carried.map) how outputs (starts k) goal k log before carried r
      → EndsIn {T = List ℕ} a b (written_of r) (Err e) → status ≡ status_after {T = Unit {0}} 9 (Err e)
      → Ends plans k log (with_plan log r) told [] before a b status
  untold {told = told} {a = a} {b = b} {status = status} carried r e inside after plan ends is = record {
    records = r ∷ [];
    all = false;
    broken = [];
    each = (carried, after, plan, tt);
    broken_in = inl refl;
    none_broken = λ no_way. refl;
    shown_is = refl;
    few = omega arith;
    all_made = λ no_way. absurd (cc);
    ends =
        subst (λ (l : List Write). EndsAs a b l 9 status) (sym (append-nil (written_of r ++ [])
        ∙ append-nil (written_of r))) (status_ends (Err e) (failed_so a b (written_of r) e ends) is);
    why_is = none_told (told ++ (told_of r ++ [])) status e is;
  }

  -- so they end, where no more is told than the status says
  pub plainly : {shown first : List Entry} {why : List ℕ} {a b : DeskState} {n status : ℕ} → n ≡ status → why ≡ []
      → Ends plans 0 first shown [] [] NoPlan a b status → Ends plans 0 first shown [] why NoPlan a b n
  plainly {shown} {first} {why} {a} {b} {n} {status} is none ends =
      subst (λ (k : ℕ). Ends plans 0 first shown [] why NoPlan a b k) (sym is)
      (subst (λ (l : List ℕ). Ends plans 0 first shown [] l NoPlan a b status) (sym none) ends)

  pub sets_out : {start : ℕ} {log : List Entry} {told : List ℕ} {r : Standing by.Action} {a : DeskState}
      → IsTerrain by.on.network by.on.cells → IsMapAfter (by.on.cells.map w) batches 0 (by.on.cells.map w)
      → by.on.cells.is_made w → start ≡ starts 0 → IsSetFor by.on how start goal r
      → GoesOnFrom by.means by.on w start goal NoPlan r → told ≡ []
      → IsGoing plans w 0 start log log told r a a
  sets_out {start} {log} {a = a} law first kept start_is set begun none = record {
    same = sym (law.present w);
    inside = omega arith;
    after = first;
    kept = kept;
    start_is = start_is;
    set = set;
    before = NoPlan;
    goes_on = begun;
    ends = λ c status shown why e. subst (λ (l : List ℕ). Ends plans 0 log shown l why NoPlan a c status) none e;
  }

  pub at_last : {now : W} {k start : ℕ} {first log : List Entry} {told : List ℕ} {r : Standing by.Action} {a b : DeskState} (n : ℕ)
      → k ≡ n → IsGoing plans now k start first log told r a b → IsGoing plans now n start first log told r a b
  at_last {now} {start = start} {first = first} {log = log} {told = told} {r = r} {a = a} {b = b} n same going =
      subst (λ (i : ℕ). IsGoing plans now i start first log told r a b) same going

  module _ {now : W} {k start : ℕ} {first log : List Entry} {told : List ℕ} {r : Standing by.Action} {a b : DeskState}
      (shown : List Entry) (s : Standing by.Action) (c : DeskState)
      (going : IsGoing plans now k start first log told r a b) where
    on_that : (before : Before) (p : PlanRecord)
        → IsPlanOf by now how outputs start goal k log before (carried_of (by.on.cells.map now) s) p
        → IsPlanOf by (by.on.cells.over w (by.on.cells.map now)) how outputs (starts k) goal k log before
        (carried_of (by.on.cells.map now) s) p
    on_that before p plan =
        subst (λ (x : ℕ). IsPlanOf by (by.on.cells.over w (by.on.cells.map now)) how outputs x goal k log before
        (carried_of (by.on.cells.map now) s) p) going.start_is
        (subst (λ (v : W). IsPlanOf by v how outputs start goal k log before (carried_of (by.on.cells.map now) s) p)
        going.same plan)

    broken_on_that : (before : Before) (found : List Found)
        → (found ≡ []) ⊎ IsBrokenOff by now how outputs start goal before found
        → IsBrokenIn by w batches how outputs starts goal k found
    broken_on_that before found (inl none) = inl none
    broken_on_that before found (inr broken) = inr (
      by.on.cells.map now,
      before,
      going.after,
      subst (λ (x : ℕ). IsBrokenOff by (by.on.cells.over w (by.on.cells.map now)) how outputs x goal before found)
          going.start_is
          (subst (λ (v : W). IsBrokenOff by v how outputs start goal before found) going.same broken),
    )

    -- what holds of the plan that is made next
    abbrev pub NextEnds : Result (List ℕ) WriteStop → Type 0
    NextEnds result =
        (before : Before) → GoesOnFrom by.means by.on now start goal before r
        → EndsOnePlan by written_of told_of now how outputs start goal k log shown before
        (carried_of (by.on.cells.map now) s) b c result

    -- the next plan was not told
    pub stops : {status : ℕ} (e : WriteStop) → NextEnds (Err e) → status ≡ status_after {T = Unit {0}} 9 (Err e)
        → Ends plans 0 first shown [] [] NoPlan a c status
    stops {status} e made is = going.ends c status shown [] (elim (made going.before going.goes_on) [
      | inl (out, same, part) ↦
          subst (λ (n : ℕ). Ends plans k log shown told [] going.before b c n) (sym (is ∙ nine out))
          (breaks_off part.found (let room = going.inside in omega arith)
          (broken_on_that going.before part.found part.broken) part.shown_is same)
      | inr (p, made_so, ends) ↦
          subst (λ (l : List Entry). Ends plans k log l told [] going.before b c status) (sym made_so.shown_is)
          (untold (carried_of (by.on.cells.map now) s) p e going.inside going.after
          (on_that going.before p made_so.plan) ends is)
    ])
      where
        nine : e ≡ NoMemory → status_after {T = Unit {0}} 9 (Err e) ≡ 9
        nine out = rw out refl

    -- it was told, and then the others ended so
    pub tells : {d : DeskState} {status : ℕ} {later : List Entry} {why line : List ℕ} → NextEnds (Ok line)
        → NoneFalls b.write_faults c.write_faults
        → Ends plans (k + 1) shown later (told ++ line) why (Changed (carried_of (by.on.cells.map now) s)) c d status
        → Ends plans 0 first later [] why NoPlan a d status
    tells {d} {status} {later} {why} {line} made low e =
        let of_it = made going.before going.goes_on in
        going.ends d status later why
        (one_more (carried_of (by.on.cells.map now) s) of_it.0 going.after
        (on_that going.before of_it.0 of_it.1.plan) of_it.2 low
        (subst (λ (l : List Entry). Ends plans (k + 1) l later (told ++ told_of of_it.0) why
        (Changed (carried_of (by.on.cells.map now) s)) c d status) of_it.1.shown_is
        (subst (λ (x : List ℕ). Ends plans (k + 1) shown later (told ++ x) why
        (Changed (carried_of (by.on.cells.map now) s)) c d status) of_it.3 e)))

    -- it was the last, and the last line was written, or was not
    pub tells_last : {d : DeskState} {status : ℕ} {why line : List ℕ} → NextEnds (Ok line)
        → NoneFalls b.write_faults c.write_faults → k ≡ length batches → EndsAs c d (last_write ∷ []) 0 status
        → why ≡ (if status == 0 then told ++ line else []) → Ends plans 0 first shown [] why NoPlan a d status
    tells_last made low last ends is = tells made low (all_told (omega arith) ends is)

    -- it was told, and memory ran out after it
    pub tells_no_more : {line : List ℕ} → NextEnds (Ok line) → NoneFalls b.write_faults c.write_faults
        → Ends plans 0 first shown [] [] NoPlan a c 9
    tells_no_more made low = tells made low (no_more (let room = going.inside in omega arith) (λ name. refl))

    -- it was told, then the map was changed, and then the start moved
    pub changes : {line further : List ℕ} → IsTerrain by.on.network by.on.cells
        → (next : W) (next_start : ℕ) (t u : Standing by.Action) (batch : List change.Write)
        → ((first m m' : CellMap) (bs : List (List change.Write)) (n : ℕ) (l : List change.Write)
        → IsMapAfter first bs n m → slice_get bs n ≡ Some l → AreWritten m l m' → IsMapAfter first bs (n + 1) m')
        → NextEnds (Ok line) → NoneFalls b.write_faults c.write_faults → IsSetFor by.on how start goal s
        → slice_get batches k ≡ Some batch → AreWritten (by.on.cells.map now) batch (by.on.cells.map next)
        → next ≡ by.on.cells.over now (by.on.cells.map next) → by.on.cells.is_made next
        → BeginsWith by.means by.on.network by.on.cells now next s.search.labels t.search.labels
        t.search.raised → StaysTheSame s t → t.counts ≡ s.counts
        → next_start ≡ starts (k + 1) → (by.on.reporting.back ≡ false → next_start ≡ start)
        → IsAimed (to_by by next_start goal) t u → further ≡ told ++ line
        → IsGoing plans next (k + 1) next_start first shown further u a c
    changes terrain next next_start t u batch law made low set at written others kept begins stays counts start_is
        still aimed adds = record {
          same =
              others ∙ ap (λ (v : W). by.on.cells.over v (by.on.cells.map next)) going.same
              ∙ terrain.again w (by.on.cells.map now) (by.on.cells.map next);
          inside = let room = slice_get_within batches k batch at in omega arith;
          after =
              law (by.on.cells.map w) (by.on.cells.map now) (by.on.cells.map next) batches k
              batch going.after at written;
          kept = kept;
          start_is = start_is;
          set = record {
            between = record {
              from_is =
                  ap (λ (x : State by.Action). x.labels.start) aimed.search ∙ stays.start ∙ set.between.from_is
                  ∙ from_stays by.on.reporting.back start next_start goal still;
              to_is = ap (λ (x : State by.Action). x.goal) aimed.search;
            };
            workers_are = ap (λ (x : State by.Action). x.workers) aimed.search ∙ stays.workers ∙ set.workers_are;
            budget_is = ap (λ (n : Counts). n.per_plan) aimed.counts ∙ stays.per_plan ∙ set.budget_is;
          };
          before = Changed (carried_of (by.on.cells.map now) s);
          goes_on = record {
            begins =
                subst (λ (v : W). BeginsWith by.means by.on.network by.on.cells v next s.search.labels
                u.search.labels u.search.raised) (sym back)
                (subst
                (λ (l : List ℕ). BeginsWith by.means by.on.network by.on.cells now next s.search.labels
                u.search.labels l) (ap (λ (x : State by.Action). x.raised) (sym aimed.search))
                (subst
                (λ (m : Marks). BeginsWith by.means by.on.network by.on.cells now next s.search.labels m
                t.search.raised) (ap (λ (x : State by.Action). x.labels) (sym aimed.search)) begins));
            counted = ap (λ (n : Counts). n.run) (sym counts ∙ sym aimed.counts);
          };
          ends = λ d status later why e. tells made low (subst (λ (l : List ℕ). Ends plans (k + 1) shown later l why
              (Changed (carried_of (by.on.cells.map now) s)) c d status) adds e);
        }
      where
        back : by.on.cells.over next (by.on.cells.map now) ≡ now
        back =
            ap (λ (v : W). by.on.cells.over v (by.on.cells.map now)) others
            ∙ terrain.again now (by.on.cells.map next) (by.on.cells.map now) ∙ terrain.present now

-- plans by the planner that was asked for
pub ends_by : {W : Type 0} {on : Site W} {written_of : PlanRecord → List Write} {told_of : PlanRecord → List ℕ} {w : W}
    {batches : List (List change.Write)} {how : SearchJob} {outputs : Outputs} {starts : ℕ → ℕ} {goal : ℕ}
    {log shown : List Entry} {why : List ℕ} {a b : DeskState} {status : ℕ}
    (p : Planner) → how.planner ≡ p
    → EndsPlans (planner_as_is on p) written_of told_of w batches how outputs starts goal 0 log shown [] why NoPlan a b status
    → EndsPlans (planner_as_is on how.planner) written_of told_of w batches how outputs starts goal 0 log shown [] why NoPlan a b status
ends_by {W} {on} {written_of} {told_of} {w} {batches} {how} {outputs} {starts} {goal} {log} {shown} {why} {a} {b} {status} p is ends =
    subst (λ (x : Planner).
    EndsPlans (planner_as_is on x) written_of told_of w batches how outputs starts goal 0 log shown [] why NoPlan a b status) (sym is) ends
