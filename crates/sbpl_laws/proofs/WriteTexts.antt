-- That no write of a job is empty, and how many writes there are of plans.
use Rattle.std.proofs.Common.{◌≡◌, ◌≢◌, ℕ, ◌+◌, ◌*◌, ◌<◌, Bool, true, false, List, [], ◌∷◌, ◌++◌, flat_map}
use Rattle.std.proofs.Common.{length, map, get_or, slice_get, Option, Some, None, refl, sym, subst, arith, inl}
use Rattle.std.proofs.Common.{inr, length-append, if◌then◌else◌}
use Rattle.std.proofs.Math.Nat.{suc-mul}
use Rattle.std.proofs.lemmas.List.Elements.{All-append, All-cons, All-from_get_or, All-map, All-nil}
use Rattle.std.proofs.lemmas.List.FromFn.{get_or-range_with_len, length-range_with_len}
use Rattle.std.proofs.lemmas.Option.{slice_get_cases}
use Rattle.std.specs.List.{All, range_with_len}
use Rattle.std.specs.Option.{is_some}
use Rattle.sbpl_promises.specs.sbpl_fixed.Printed.{line_text}
use Rattle.sbpl_promises.specs.sbpl_map.declared.write.Write as change
use Rattle.sbpl_promises.specs.sbpl_mprim.declared.prim.Primitive.{Primitive}
use Rattle.sbpl_promises.specs.sbpl_sweep.declared.cell.Cell.{Cell}
use Rattle.sbpl_promises.specs.sbpl_cert.Printed as labels
use Rattle.sbpl_promises.specs.sbpl_cert.declared.outcome.Outcome.{Outcome}
use Rattle.sbpl_promises.specs.sbpl_cert.declared.section.Section.{Section}
use Rattle.sbpl_promises.specs.sbpl_cert.declared.section.Section.TheVariants.{Full, Sparse}
use Rattle.sbpl_promises.specs.sbpl_cost.World.{World}
use Rattle.sbpl_promises.specs.sbpl_job.declared.job.Job.{Job}
use Rattle.sbpl_promises.specs.sbpl_job.declared.job.Job.TheVariants as job
use Rattle.sbpl_promises.specs.sbpl_job.declared.job.Outputs.{Outputs}
use Rattle.sbpl_promises.specs.sbpl_job.declared.job.SearchJob.{SearchJob}
use Rattle.sbpl_promises.specs.sbpl_job.declared.job.Sources.{Sources}
use Rattle.sbpl_promises.specs.sbpl_cert.declared.flaw.Flaw.{Flaw}
use Rattle.sbpl_promises.specs.sbpl_report.declared.record.PlanRecord.{PlanRecord}
use Rattle.sbpl_promises.specs.sbpl_report.declared.refusal.Refusal.{Refusal}
use Rattle.sbpl_promises.specs.sbpl_report.declared.refusal.Refusal.TheVariants as refusal
use Rattle.sbpl_promises.specs.declared.section_stop.SectionStop.{SectionStop}
use Rattle.sbpl_promises.specs.declared.section_stop.SectionStop.TheVariants as section
use Rattle.sbpl_promises.specs.Asked.{PlannerOn}
use Rattle.sbpl_promises.specs.Causes.{ReadsWorld}
use Rattle.sbpl_promises.specs.Headline.{AreRecords, Before, Changed, NoPlan}
use Rattle.sbpl_promises.specs.Asked.{planner_for}
use Rattle.sbpl_promises.specs.GridSite.{grid_site, grid_reporting}
use Rattle.sbpl_promises.specs.LatticeSite.{lattice_site, lattice_reporting}
use Rattle.sbpl_promises.specs.Sites.{start_after}
use Rattle.sbpl_promises.specs.Intents.{Intent, Refused, Planned, Checked, Listed, Demonstrated, OutOfMemory}
use Rattle.sbpl_promises.specs.Intents.{checked_writes, end_writes, incumbent_writes, labels_writes, last_write}
use Rattle.sbpl_promises.specs.Intents.{section_writes, stop_writes, trace_writes, writes_of}
use Rattle.sbpl_promises.specs.sbpl_report.Refusals.{fault_text, refusal_text, unread_text}
use Rattle.sbpl_promises.specs.sbpl_report.Shown.{labels_text}
use Rattle.sbpl_promises.specs.sbpl_report.Listing.{listing_at, listing_text, listings, prim_text}
use Rattle.sbpl_promises.specs.Promises.{GivesIntent}
use Rattle.sbpl_promises.specs.Published.{Entry, with_plan}
use Rattle.sbpl_promises.specs.sbpl_report.Report.{demo_text, entry_text, incumbent_text, plan_line, section_text}
use Rattle.sbpl_promises.specs.sbpl_report.Shown.{IsThere}
use Rattle.sbpl_promises.specs.sbpl_report.Traces.{trace_text}
use Rattle.sbpl_promises.specs.sbpl_report.Verdicts.{flaw_kind, flaw_text, holds_text}
use Rattle.sbpl_promises.specs.WriteTexts.{NoneEmpty, WritesAreCounted, WritesHaveTexts, named_count}
use Rattle.sbpl_promises.specs.Writing.{Names, ReadFailed, Told, Write, to_named, to_output}

-- ---- the texts

-- a text that begins with something is not empty
not_empty : (x : ℕ) (rest : List ℕ) → (x ∷ rest) ≢ []
not_empty x rest = λ is. cc

fault_full : (kind : List ℕ) (number : ℕ) (name : List ℕ) (place : ℕ) → fault_text kind number name place ≢ []
unfolding fault_text
fault_full kind number name place = not_empty _ _

unread_full : (why name : List ℕ) → unread_text why name ≢ []
unfolding unread_text
unread_full why name = not_empty _ _

refusal_full : (j : Job) (r : Refusal) → refusal_text j r ≢ []
refusal_full j (refusal.Environment f) = fault_full _ _ _ _
refusal_full j (refusal.Grid f) = fault_full _ _ _ _
refusal_full j (refusal.OffMap end) = not_empty _ _
refusal_full j (refusal.Primitives f) = fault_full _ _ _ _
refusal_full j (refusal.TooWide i) = fault_full _ _ _ _
refusal_full j (refusal.TooDear i) = fault_full _ _ _ _
refusal_full j (refusal.Changes f) = fault_full _ _ _ _
refusal_full j (refusal.Read i) = unread_full _ _
refusal_full j (refusal.Length i) = unread_full _ _

report_full : (r : PlanRecord) → section_text r ≢ []
unfolding section_text
report_full r = not_empty _ _

labels_full : (s : Section) → labels.section_text s ≢ []
unfolding labels.full_text labels.sparse_text line_text
labels_full (Full s) = not_empty _ _
labels_full (Sparse s) = not_empty _ _

trace_full : (r : PlanRecord) → trace_text r ≢ []
unfolding trace_text
trace_full r = not_empty _ _

demo_full : (states primitives batches : ℕ) → demo_text states primitives batches ≢ []
unfolding demo_text
demo_full states primitives batches = not_empty _ _

entry_full : (e : Entry) → entry_text e ≢ []
unfolding entry_text
entry_full e = not_empty _ _

incumbent_full : (o : Option Entry) → incumbent_text o ≢ []
incumbent_full (Some e) = entry_full e
incumbent_full None = not_empty _ _

line_full : (r : PlanRecord) → plan_line r ≢ []
unfolding plan_line
line_full r = not_empty _ _

holds_full : (plan : ℕ) (o : Outcome) → holds_text plan o ≢ []
unfolding holds_text
holds_full plan o = not_empty _ _

flaw_full : (goal plan : ℕ) (f : Flaw) → flaw_text goal plan f ≢ []
unfolding flaw_text flaw_kind
flaw_full goal plan f = not_empty _ _

listing_full : (p : Primitive) (cost : ℕ) (centres swept : List Cell) → listing_text p cost centres swept ≢ []
unfolding listing_text prim_text
listing_full p cost centres swept = not_empty _ _

-- ---- the writes

abbrev HasText : Write → Type 0
HasText w = w.text ≢ []

no_writes : NoneEmpty []
no_writes = All-nil HasText

one_more : (w : Write) (ws : List Write) → HasText w → NoneEmpty ws → NoneEmpty (w ∷ ws)
one_more w ws has rest = All-cons HasText w ws has rest

one_write : (w : Write) → HasText w → NoneEmpty (w ∷ [])
one_write w has = one_more w [] has no_writes

both : (ws vs : List Write) → NoneEmpty ws → NoneEmpty vs → NoneEmpty (ws ++ vs)
both ws vs left right = All-append HasText ws vs left right

last_full : NoneEmpty (last_write ∷ [])
last_full = one_write last_write (not_empty _ _)

end_full : (all : Bool) → NoneEmpty (end_writes all)
end_full true = last_full
end_full false = no_writes

named_full : (o : Option (List ℕ)) (text : List ℕ) → text ≢ [] → NoneEmpty (to_named o text)
named_full None text full = no_writes
named_full (Some name) text full = one_write _ full

-- where labels are asked for, a record has them
asked_full : (o : Option (List ℕ)) (P : Section → Type 0) (s : Option Section) → IsThere (is_some o) P s
    → NoneEmpty (to_named o (labels_text s))
asked_full None P s there = no_writes
asked_full (Some name) P (Some s) there = one_write _ (labels_full s)
asked_full (Some name) P None there = absurd there

section_full : (o : Outputs) (P : Section → Type 0) (r : PlanRecord) → IsThere (is_some o.labels) P r.labels
    → NoneEmpty (section_writes o r)
section_full o P r there =
    let written = asked_full o.labels P r.labels there in
    let traced = named_full o.trace (trace_text r) (trace_full r) in
    let shown = named_full o.incumbent (incumbent_text r.incumbent) (incumbent_full r.incumbent) in
    one_more (to_output (section_text r)) _ (report_full r) (both (labels_writes o r)
    (trace_writes o r ++ incumbent_writes o r) written (both (trace_writes o r) (incumbent_writes o r) traced shown))

module _ {W : Type 0} (by : PlannerOn W) (w : W) (batches : List (List change.Write)) (how : SearchJob) (o : Outputs)
    (starts : ℕ → ℕ) (goal : ℕ) where
  records_full : (k : ℕ) (log : List Entry) (before : Before) (rs : List PlanRecord)
      → AreRecords by w batches how o starts goal k log before rs
      → NoneEmpty (flat_map (section_writes o) rs)
  records_full k log before [] each = no_writes
  records_full k log before (r ∷ rs) (carried, after, is, rest) =
      let own = section_full o _ r is.searched.labels in
      both (section_writes o r) (flat_map (section_writes o) rs) own
      (records_full (k + 1) (with_plan log r) (Changed carried) rs rest)

lines_full : (rs : List PlanRecord) → NoneEmpty (flat_map (λ (r : PlanRecord). to_output (plan_line r) ∷ []) rs)
lines_full [] = no_writes
lines_full (r ∷ rs) = one_more _ _ (line_full r) (lines_full rs)

stop_full : (goal plan : ℕ) (e : SectionStop) → NoneEmpty (stop_writes goal plan e)
stop_full goal plan (section.Flaw f) = one_write _ (flaw_full goal plan f)
stop_full goal plan (section.Fault f) = one_write _ (fault_full _ _ _ _)
stop_full goal plan section.NoMemory = no_writes

checked_full : (goals : ℕ → ℕ) (plan : ℕ) (os : List Outcome) (end : Option SectionStop)
    → NoneEmpty (checked_writes goals plan os end)
checked_full goals plan [] None = last_full
checked_full goals plan [] (Some e) = stop_full (goals plan) plan e
checked_full goals plan (o ∷ os) end = one_more _ _ (holds_full plan o) (checked_full goals (plan + 1) os end)

-- ---- a list of sweeps

module _ (held : Told) (from : Sources) (w : World) (says : ReadsWorld held from w) where
  -- how many primitives there are
  abbrev many : ℕ
  many = length w.prims.items

  abbrev places : List ℕ
  places = range_with_len 0 many

  -- what is listed of the primitive at a place is not empty
  abbrev IsListed : ℕ → Type 0
  IsListed i = listing_at w i ≢ []

  found_listed : (i : ℕ) (p : Primitive) → slice_get w.prims.items i ≡ Some p → IsListed i
  found_listed i p at =
      let centres = (says.sweeps.centres.each i p at).1 in
      let swept = (says.sweeps.swept.each i p at).1 in
      rw (at, centres, swept) (listing_full p _ _ _)

  within_listed : (i : ℕ) → i < many → IsListed i
  within_listed i inside = elim ((slice_get_cases w.prims.items i).1) [
    | inl (p, within, at, is) ↦ found_listed i p at
    | inr (past, none) ↦ absurd (omega arith)
  ]

  place_listed : (i : ℕ) → i < length places → IsListed (get_or places i 0)
  place_listed i inside =
      let here : i < many = omega (arith, length-range_with_len 0 many) in
      let same : get_or places i 0 ≡ i = omega (arith, get_or-range_with_len 0 many i 0 here) in
      subst (λ (k : ℕ). IsListed k) (sym same) (within_listed i here)

  listed_full : NoneEmpty (map to_output (listings w))
  listed_full =
      let each : All IsListed places = All-from_get_or IsListed places 0 place_listed in
      All-map HasText to_output (listings w) (All-map (λ (text : List ℕ). text ≢ []) (listing_at w) places each)

-- ---- what a job means to do

intent_full : (held : Told) (Failed : Names) (j : Job) (i : Intent) → GivesIntent held Failed j i
    → NoneEmpty (writes_of j i)
intent_full held Failed j (Refused r) gives = one_write _ (refusal_full j r)
intent_full held Failed j OutOfMemory gives = no_writes
intent_full held Failed (job.Plan p) (Planned records all log broken) gives =
    let plans = gives.plans in
    let sections =
    records_full (planner_for lattice_site p.search.planner) gives.world gives.updates.batches p.search p.outputs
    (start_after lattice_reporting gives.world plans.start gives.updates.moves) plans.goal 0 log NoPlan records plans.each in
    both _ _ sections (end_full all)
intent_full held Failed (job.Check c) (Checked goals os end) gives = checked_full goals 0 os end
intent_full held Failed (job.Nav n) (Planned records all log broken) gives =
    let plans = gives.plans in
    let sections =
    records_full (planner_for grid_site n.search.planner) gives.world gives.updates.batches n.search n.outputs
    (start_after grid_reporting gives.world plans.start gives.updates.moves) plans.goal 0 log NoPlan records plans.each in
    both _ _ sections (end_full all)
intent_full held Failed (job.NavCheck n) (Checked goals os end) gives = checked_full goals 0 os end
intent_full held Failed (job.Sweep from) (Listed w) gives = both _ _ (listed_full held from w gives.0) last_full
intent_full held Failed (job.Demo d) (Demonstrated w count records all log broken) gives =
    one_more _ _ (demo_full _ _ _) (both _ _ (lines_full records) (end_full all))
intent_full held Failed _ _ gives = absurd gives

pub writes_have_texts : WritesHaveTexts
writes_have_texts before after j i gives = intent_full before.held (ReadFailed before after) j i gives

-- ---- how many there are

named_length : (o : Option (List ℕ)) (text : List ℕ) → length (to_named o text) ≡ (if is_some o then 1 else 0)
named_length None text = refl
named_length (Some name) text = refl

section_length : (o : Outputs) (r : PlanRecord) → length (section_writes o r) ≡ 1 + named_count o
section_length o r =
    let labels = named_length o.labels (labels_text r.labels) in
    let trace = named_length o.trace (trace_text r) in
    let shown = named_length o.incumbent (incumbent_text r.incumbent) in
    omega (
      arith,
      length-append (labels_writes o r) (trace_writes o r ++ incumbent_writes o r),
      length-append (trace_writes o r) (incumbent_writes o r),
    )

-- where each record has as many
all_lengths : (f : PlanRecord → List Write) (m : ℕ) → ((r : PlanRecord) → length (f r) ≡ m) → (rs : List PlanRecord)
    → length (flat_map f rs) ≡ length rs * m
all_lengths f m each [] = omega arith
all_lengths f m each (r ∷ rs) =
    let further = all_lengths f m each rs in
    omega (arith, length-append (f r) (flat_map f rs), suc-mul (length rs) m, each r)

pub writes_are_counted : WritesAreCounted
writes_are_counted o rs =
    let each = all_lengths (section_writes o) (1 + named_count o) (section_length o) rs in
    omega (arith, length-append (flat_map (section_writes o) rs) (end_writes true))
