-- How the checking of sections ends, from how its parts end.
use Rattle.std.proofs.Common.{◌≡◌, ℕ, zero, suc, ◌+◌, ◌≤◌, List, [], ◌∷◌, length, Some, None, Result, Ok, Err}
use Rattle.std.proofs.Common.{IfOk, IfErr, ◌<◌, refl, sym, ap, subst, arith, inl}
use Rattle.sbpl_worlds.specs.sbpl_fixed.Formats.{Left, start_at}
use Rattle.sbpl_worlds.specs.sbpl_fixed.Tokens.{Piece}
use Rattle.sbpl_worlds.specs.sbpl_desk.Desk.{NoneFalls}
use Rattle.sbpl_worlds.specs.sbpl_cert.declared.fault.LabelFault.TheVariants as fault
use Rattle.sbpl_worlds.specs.sbpl_cert.declared.outcome.Outcome.{Outcome}
use Rattle.sbpl_worlds.specs.sbpl_map.MapAfter.{IsMapAfter}
use Rattle.sbpl_worlds.specs.sbpl_terrain.Cells.{IsTerrain}
use Rattle.sbpl_worlds.specs.sbpl_promises.declared.section_stop.SectionStop.{SectionStop}
use Rattle.sbpl_worlds.specs.sbpl_promises.declared.section_stop.SectionStop.TheVariants as section
use Rattle.sbpl_worlds.specs.sbpl_promises.Checked.{AreChecked, Case, Ground, IsGroundAfter, IsSectionStop, IsShownHolding}
use Rattle.sbpl_worlds.specs.sbpl_promises.Checked.{IsStoppedIn, IsTrailing, case_of, from_in, ground, to_in}
use Rattle.sbpl_worlds.specs.sbpl_promises.Intents.{checked_status, checked_writes, last_write, stop_status, stop_writes}
use Rattle.sbpl_worlds.specs.sbpl_report.Refusals.{label_fault_text}
use Rattle.sbpl_worlds.specs.sbpl_promises.declared.updates.Updates.{Updates}
use Rattle.sbpl_checks.specs.Checking.{EndsAtSection, EndsSections, EndsText, HoldsAndPrints, HoldsInCase}
use Rattle.sbpl_checks.specs.Checking.{IsFaultTold, IsPlanIn, stopped, unwritten}
use Rattle.sbpl_checks.specs.declared.label_file.LabelFile.{LabelFile}
use Rattle.sbpl_telling.specs.declared.ending.Ending.{Ending}
use Rattle.sbpl_worlds.specs.sbpl_promises.Sites.{Site, from_of, start_after, to_of}
use Rattle.sbpl_worlds.specs.sbpl_report.Statuses.{number_of}
use Rattle.sbpl_worlds.specs.sbpl_report.Verdicts.{holds_text}
use Rattle.sbpl_worlds.specs.sbpl_promises.Writing.{DeskState, EndsAs, IsOutput, WritesOnly, to_output}
use Rattle.sbpl_telling.proofs.Writings.{ends_as_after, none_made, status_ends}
use Rattle.sbpl_telling.proofs.Frames.{nothing_done}
use Rattle.sbpl_worlds.proofs.Moving.{start_first}

-- a token is left after the last section
pub some_left : {left : Left} {t : Piece} {ts : List Piece} {a b : DeskState} (file : LabelFile) (e : Ending)
    → left.tokens ≡ t ∷ ts → EndsAs a b (to_output (label_fault_text (fault.Trailing t.place)) ∷ []) 10 (number_of e.status)
    → IsFaultTold file (fault.Trailing t.place) e → EndsText left file a b e
some_left {t} file e some ends told = record {
  end = Some (section.Fault (fault.Trailing t.place));
  is_end = subst (λ (l : List Piece). IsTrailing l (section.Fault (fault.Trailing t.place))) (sym some) refl;
  ends = λ goals plan. ends;
  told = told;
}

-- no token is left
pub none_left : {left : Left} {a b : DeskState} (file : LabelFile) (e : Ending) → left.tokens ≡ []
    → EndsAs a b (last_write ∷ []) 0 (number_of e.status) → e.why ≡ [] → EndsText left file a b e
none_left file e none ends untold = record { end = None; is_end = none; ends = λ goals plan. ends; told = untold }

module _ {W : Type 0} {on : Site W} (c : Case on) where
  -- a section does not hold on its graph
  stopped_in : (n : Ground) (plan : ℕ) (left : Left) (s : SectionStop) → IsGroundAfter c plan n
      → IsSectionStop n (from_in c plan) (to_in c plan) plan left s → IsStoppedIn c plan left s
  stopped_in n plan left (section.Flaw f) after is = (n, after, is)
  stopped_in n plan left (section.Fault f) after is = (n, after, is)
  stopped_in n plan left section.NoMemory after is = tt

  -- memory may run out anywhere
  out_of_memory : (plan more : ℕ) (left : Left) → AreChecked IsShownHolding c plan more left [] (Some section.NoMemory)
  out_of_memory plan zero left = tt
  out_of_memory plan (suc more) left = tt

  -- memory ran out before a section
  pub runs_out : (plan more : ℕ) (left : Left) (file : LabelFile) (a : DeskState) (e : Ending) → number_of e.status ≡ 9
      → e.why ≡ [] → EndsSections c plan more left file a a e
  runs_out plan more left file a e nine untold = record {
    outcomes = [];
    end = Some section.NoMemory;
    checked = out_of_memory plan more left;
    ends = inl (nine, none_made a a (λ name. refl));
    told = untold;
  }

  -- after the last section
  pub ends_text : (plan : ℕ) (left : Left) (file : LabelFile) (a b : DeskState) (e : Ending) → EndsText left file a b e
      → EndsSections c plan 0 left file a b e
  ends_text plan left file a b e t =
      record { outcomes = []; end = t.end; checked = t.is_end; ends = t.ends (to_in c) plan; told = t.told }

  module _ {n : Ground} {from to : ℕ} (plan : ℕ) (after : IsGroundAfter c plan n) (from_is : from_in c plan ≡ from)
      (to_is : to_in c plan ≡ to) where
    -- it holds for the case too
    holds_in : (left rest : Left) (o : Outcome) → IsShownHolding n from to plan left o rest
        → IsShownHolding n (from_in c plan) (to_in c plan) plan left o rest
    holds_in left rest o is =
        subst (λ (x : ℕ). IsShownHolding n x (to_in c plan) plan left o rest) (sym from_is)
        (subst (λ (y : ℕ). IsShownHolding n from y plan left o rest) (sym to_is) is)

    -- the next section does not hold, or memory ran out, or it holds and the line that says so was not written
    pub ends_there : (more : ℕ) (left : Left) (file : LabelFile) (a b : DeskState) (e : Ending)
        → EndsAtSection n from to plan left file a b e → EndsSections c plan (suc more) left file a b e
    ends_there more left file a b e (stopped s is ends told) = record {
      outcomes = [];
      end = Some s;
      checked = stopped_in n plan left s after
          (subst (λ (x : ℕ). IsSectionStop n x (to_in c plan) plan left s) (sym from_is)
          (subst (λ (y : ℕ). IsSectionStop n from y plan left s) (sym to_is) is));
      ends = subst (λ (y : ℕ). EndsAs a b (stop_writes y plan s) (stop_status s) (number_of e.status)) (sym to_is) ends;
      told = told;
    }
    ends_there more left file a b e (unwritten o rest stop is ends status_is untold) = record {
      outcomes = o ∷ [];
      end = Some section.NoMemory;
      checked = (n, after, rest, holds_in left rest o is, out_of_memory (plan + 1) more rest);
      ends = status_ends (Err stop) ends status_is;
      told = untold;
    }

    pub all_ends_there : {A : Type 0} (r : Result A Ending) (more : ℕ) (left : Left) (file : LabelFile)
        (a b : DeskState) → IfErr r (EndsAtSection n from to plan left file a b)
        → IfErr r (EndsSections c plan (suc more) left file a b)
    all_ends_there (Ok x) more left file a b ends = tt
    all_ends_there (Err e) more left file a b ends = ends_there more left file a b e ends

    -- it holds, and the line that says so was written
    pub holds_there : {a b : DeskState} {left rest : Left} → HoldsAndPrints n from to plan left rest a b
        → HoldsInCase c plan left rest a b
    holds_there {left} {rest} is = record {
      ground = n;
      is_ground = after;
      prints = record { outcome = is.outcome; holds = holds_in left rest is.outcome is.holds; line = is.line };
    }

  -- the section of a plan holds, the line that says so was written, and then the checking of the others ended so
  pub goes_on : {a b d : DeskState} {left rest : Left} (file : LabelFile) (e : Ending) (plan more : ℕ)
      → HoldsInCase c plan left rest a b → NoneFalls a.write_faults b.write_faults
      → EndsSections c (plan + 1) more rest file b d e → EndsSections c plan (suc more) left file a d e
  goes_on {a} {b} {d} {rest} file e plan more is low ends = record {
    outcomes = is.prints.outcome ∷ ends.outcomes;
    end = ends.end;
    checked = (is.ground, is.is_ground, rest, is.prints.holds, ends.checked);
    ends =
        ends_as_after a b d (to_output (holds_text plan is.prints.outcome) ∷ []) (checked_writes (to_in c) (plan + 1)
        ends.outcomes ends.end) (checked_status ends.end) (number_of e.status) is.prints.line low ends.ends;
    told = ends.told;
  }

  -- from and to which states a plan is searched
  pub from_is : (k : ℕ) (w : W) (start goal : ℕ) → IsPlanIn c k w start goal
      → from_in c k ≡ from_of on.reporting.back start goal
  from_is k w start goal is =
      let start_is = is.start_is in
      let goal_is = is.goal_is in
      λ i. from_of on.reporting.back (start_is i) (goal_is i)

  pub to_is : (k : ℕ) (w : W) (start goal : ℕ) → IsPlanIn c k w start goal
      → to_in c k ≡ to_of on.reporting.back start goal
  to_is k w start goal is =
      let start_is = is.start_is in
      let goal_is = is.goal_is in
      λ i. to_of on.reporting.back (start_is i) (goal_is i)

  -- what guides the checking of a plan
  pub ground_in : (k : ℕ) (w : W) (start goal : ℕ) (guide : ℕ → ℕ) → IsPlanIn c k w start goal
      → on.says w (to_of on.reporting.back start goal) guide → IsGroundAfter c k (ground (on.network w) guide)
  ground_in k w start goal guide is says = record {
    map = on.cells.map w;
    after = is.after;
    is_world = subst on.cells.is_made is.same is.is_world;
    network = ap on.network is.same;
    guide = subst (λ (v : W). on.says v (to_in c k) guide) is.same
        (subst (λ (t : ℕ). on.says w t guide) (sym (to_is k w start goal is)) says);
  }

-- what holds of a value holds of it in another way
pub ok_so : {A E : Type 0} (r : Result A E) (P Q : A → Type 0) → ((x : A) → P x → Q x) → IfOk r P → IfOk r Q
ok_so (Ok x) P Q so is = so x is
ok_so (Err e) P Q so is = tt

-- how far the checking of a text has come, where what guides the
-- search is made for the present world: the sections of the first k
-- maps hold, and however it ends from there on it ends from the first section on
pub record IsCheckedTo {W : Type 0} (on : Site W) (first now : W) (Made : Type 0) (updates : Updates)
    (start here goal : ℕ) (file : LabelFile) (k at : ℕ) (s t : DeskState) : Type 0 where
  pub leads : (more : ℕ) → k + more ≡ length updates.batches → (u : DeskState) (e : Ending)
      → EndsSections (case_of on first updates start goal) k (suc more) (start_at file.text.now at) file t u e
      → EndsSections (case_of on first updates start goal) 0 (suc (length updates.batches)) (start_at file.text.now 0)
      file s u e
  pub made : Made
  pub far : k ≤ length updates.batches
  pub map_after : IsMapAfter (on.cells.map first) updates.batches k (on.cells.map now)
  pub other_parts : now ≡ on.cells.over first (on.cells.map now)
  pub kept : on.cells.is_made now
  pub start_is : start_after on.reporting first start updates.moves k ≡ here
  pub state : here < (on.reporting.told now).states
  pub inside : at ≤ length file.text.now
  pub frame : WritesOnly IsOutput s t

-- plan k of the text is planned in the present world
pub plan_in : {W : Type 0} {on : Site W} {first now : W} {Made : Type 0} {updates : Updates}
    {start here goal : ℕ} {file : LabelFile} {k at : ℕ} {s t : DeskState}
    → IsCheckedTo on first now Made updates start here goal file k at s t
    → IsPlanIn (case_of on first updates start goal) k now here goal
plan_in so = record {
  after = so.map_after;
  same = so.other_parts;
  is_world = so.kept;
  start_is = so.start_is;
  goal_is = refl;
}

-- at the first section
pub none_checked : {W : Type 0} {w : W} {Made : Type 0} {updates : Updates} {start goal : ℕ} {file : LabelFile}
    {s : DeskState} (on : Site W) → IsTerrain on.network on.cells → Made
    → IsMapAfter (on.cells.map w) updates.batches 0 (on.cells.map w) → on.cells.is_made w → start < (on.reporting.told w).states
    → IsCheckedTo on w w Made updates start start goal file 0 0 s s
none_checked {w} {updates} {start} {goal} {file} {s} on law made after kept state = record {
  made = made;
  state = state;
  leads = λ more is u e ends.
      subst (λ (m : ℕ). EndsSections (case_of on w updates start goal) 0 (suc m) (start_at file.text.now 0) file s u e)
      (let same : more ≡ length updates.batches = omega arith in same) ends;
  far = omega arith;
  map_after = after;
  other_parts = sym (law.present w);
  kept = kept;
  start_is = start_first on.reporting w start updates.moves;
  inside = omega arith;
  frame = nothing_done IsOutput s;
}
