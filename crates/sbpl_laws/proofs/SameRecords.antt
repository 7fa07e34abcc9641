-- The record of a plan is determined, and so are the records of plans in turn.
use Rattle.std.proofs.Common.{map, ◌≡◌, ◌≢◌, ℕ, ◌+◌, ◌^◌, ◌<◌, ◌≤◌, ◌⊎◌, Bool, true, false, if◌then◌else◌, Option, Some}
use Rattle.std.proofs.Common.{None, List, [], ◌∷◌, ◌++◌, append-nil, length, inl, inr, refl, sym, ap, subst, ◌∙◌, arith}
use Rattle.std.proofs.lemmas.Bool.{MatchBool-at_true, false≢true}
use Rattle.std.proofs.lemmas.List.{ext_get_or, length-append, nil_from_length}
use Rattle.std.proofs.lemmas.Option.{same_Some}
use Rattle.std.specs.Option.{is_some}
use Rattle.sbpl_promises.specs.sbpl_graph.Bound.{IsLow}
use Rattle.sbpl_promises.specs.sbpl_graph.Network.{Network}
use Rattle.sbpl_promises.specs.sbpl_map.CellMap.{CellMap}
use Rattle.sbpl_promises.specs.sbpl_map.declared.write.Write.{Write}
use Rattle.sbpl_promises.specs.sbpl_cert.Sections.{FullSection, row_at}
use Rattle.sbpl_promises.specs.sbpl_cert.Sections as section
use Rattle.sbpl_promises.specs.sbpl_cert.Cut.{AreCutRows, CutRowsAreOne}
use Rattle.sbpl_promises.specs.sbpl_cert.Sparse.{SparseSection}
use Rattle.sbpl_promises.specs.sbpl_cert.declared.outcome.Outcome.{Outcome}
use Rattle.sbpl_promises.specs.sbpl_cert.declared.section.Section.{Section}
use Rattle.sbpl_promises.specs.sbpl_cert.declared.section.Section.TheVariants.{Full, Sparse}
use Rattle.sbpl_promises.specs.sbpl_job.declared.job.LabelForm.{LabelForm}
use Rattle.sbpl_promises.specs.sbpl_job.declared.job.LabelForm.TheVariants as form
use Rattle.sbpl_promises.specs.sbpl_cert.declared.row.Row.{Row}
use Rattle.sbpl_promises.specs.sbpl_labels.Marks.{Marks, states_of, g_of, v_of, back_of}
use Rattle.sbpl_promises.specs.sbpl_search.Determined.{AreAlikeGuides, AreBeginningsDetermined, AreDetermined}
use Rattle.sbpl_promises.specs.sbpl_search.Meaning.{Meaning}
use Rattle.sbpl_promises.specs.sbpl_report.declared.record.TraceLine.{TraceLine}
use Rattle.sbpl_promises.specs.sbpl_report.Traces.{traced_pass}
use Rattle.sbpl_promises.specs.sbpl_serial.Determined.{InitialLabelsAreOne}
use Rattle.sbpl_promises.specs.sbpl_ara.Planner.{ara}
use Rattle.sbpl_promises.specs.sbpl_adstar.Planner.{adstar}
use Rattle.sbpl_promises.specs.sbpl_job.declared.job.Planner.{Planner}
use Rattle.sbpl_promises.specs.sbpl_job.declared.job.Planner.TheVariants as planner
use Rattle.sbpl_promises.specs.sbpl_plan.declared.ask.Ask.{Ask}
use Rattle.sbpl_promises.specs.sbpl_plan.declared.passes.PassRecord.{PassRecord}
use Rattle.sbpl_promises.specs.sbpl_plan.declared.result.FoundPath.{FoundPath}
use Rattle.sbpl_promises.specs.sbpl_plan.declared.result.PlanResult.{PlanResult}
use Rattle.sbpl_promises.specs.sbpl_plan.declared.result.PlanResult.TheVariants as outcome
use Rattle.sbpl_promises.specs.sbpl_plan.Asked.{lowered}
use Rattle.sbpl_promises.specs.sbpl_labels.declared.time.Time.{Time}
use Rattle.sbpl_promises.specs.sbpl_labels.declared.time.Time.TheVariants.{Late, Unlimited}
use Rattle.sbpl_promises.specs.sbpl_plan.Determined.{AreWithin, OutcomesAreOne, PassesAreOne}
use Rattle.sbpl_promises.specs.sbpl_plan.Outcomes.{IsResultOf}
use Rattle.sbpl_promises.specs.sbpl_plan.Passing.{ArePasses, Inquiry, expansions, query_at}
use Rattle.sbpl_promises.specs.sbpl_job.declared.job.Outputs.{Outputs}
use Rattle.sbpl_promises.specs.sbpl_job.declared.job.SearchJob.{SearchJob}
use Rattle.sbpl_promises.specs.sbpl_report.declared.record.Blockage.{Blockage}
use Rattle.sbpl_promises.specs.sbpl_report.declared.record.Blockage.TheVariants as blocked
use Rattle.sbpl_promises.specs.sbpl_report.declared.record.PathStep.{PathStep}
use Rattle.sbpl_promises.specs.sbpl_report.declared.record.PathRecord.{PathRecord}
use Rattle.sbpl_promises.specs.sbpl_report.declared.record.PlanRecord.{PlanRecord}
use Rattle.sbpl_promises.specs.Asked.{PlannerOn, Search, ask_of, from_by, is_determined, planner_for, planner_on, search_of, to_by, workers_of}
use Rattle.sbpl_promises.specs.Sites.{Leads, Site, searched_on, start_after}
use Rattle.sbpl_promises.specs.sbpl_job.Jobs.{may_move}
use Rattle.sbpl_promises.specs.Blocked.{IsBlockage, IsBlockageOf}
use Rattle.sbpl_promises.specs.Headline.{AreRecords, AreSteps, Before, Carried, Changed, IsMarked, IsPlanOf, IsSearched, IsTurned}
use Rattle.sbpl_promises.specs.Headline.{Joins, IsSameResult, NoPlan, expanded_before}
use Rattle.sbpl_promises.specs.sbpl_back.Reversed.{PathsTurnOnce}
use Rattle.sbpl_promises.specs.sbpl_map.MapAfter.{IsMapAfter}
use Rattle.sbpl_laws.proofs.AlikeSites.{AreAlike, GoesAlike, LeadsOnce, goes_alike, leads_once, same_starts}
use Rattle.sbpl_promises.specs.Determined.{FewAreFirst, RecordsAreOne}
use Rattle.sbpl_promises.specs.Published.{Entry, founds, newest, with_paths, with_plan}
use Rattle.sbpl_promises.specs.sbpl_report.Shown.{IsShown, IsShownInFull, IsShownSparsely, IsThere}
use Rattle.sbpl_laws.proofs.OneEnding.{OneMap}
use Rattle.sbpl_laws.proofs.SameBegun.{AreCarried, one_begun}

-- ---- what is told

-- the steps of the same arcs are the same
module _ {W : Type 0} (on : Site W) (Alike : W → W → Type 0) (alike : AreAlike on Alike) (back : Bool) (w v : W)
    (a : Alike w v) (same : on.reporting.told w ≡ on.reporting.told v) where
  one_steps : (s u : ℕ) → s ≡ u → (arcs : List ℕ) (xs ys : List PathStep) → AreSteps on w s arcs xs
      → AreSteps on v u arcs ys → xs ≡ ys
  one_steps s u at [] [] [] left right = refl
  one_steps s u at [] [] (y ∷ ys) left right = absurd right
  one_steps s u at [] (x ∷ xs) ys left right = absurd left
  one_steps s u at (k ∷ ks) [] ys left right = absurd left
  one_steps s u at (k ∷ ks) (x ∷ xs) [] left right = absurd right
  one_steps s u at (k ∷ ks) (x ∷ xs) (y ∷ ys) left right =
      let own : AreSteps on v s (k ∷ ks) (y ∷ ys) =
      subst (λ (z : ℕ). AreSteps on v z (k ∷ ks) (y ∷ ys)) (sym at) right in
      let head : (on.reporting.told w).head s k ≡ Some own.0 = ap (λ (n : Network). n.head s k) same ∙ own.1 in
      let target : left.0 ≡ own.0 = same_Some left.0 own.0 (sym left.1 ∙ head) in
      let first : x ≡ y =
      alike.step w v s k left.0 x y a left.2 (subst (λ (t : ℕ). on.reporting.step v s k t y) (sym target) own.2) in
      let rest = one_steps left.0 own.0 target ks xs ys left.3 own.3 in
      λ i. first i ∷ rest i

  -- the outcome that tells a result is determined
  one_told : (start goal : ℕ) (r : PlanResult FoundPath) (o p : PlanResult PathRecord) → IsSameResult r o → IsSameResult r p
      → Joins (searched_on on back) w start goal o → Joins (searched_on on back) v start goal p → o ≡ p
  one_told start goal (outcome.Path found) (outcome.Path x) (outcome.Path y) told also joins joins' =
      let way : x.arcs ≡ y.arcs = told.0 ∙ sym also.0 in
      let price : x.cost ≡ y.cost = told.1 ∙ sym also.1 in
      let limit : x.bound ≡ y.bound = told.2 ∙ sym also.2 in
      let from : x.start ≡ y.start = joins.from ∙ alike.report_pose w v start a ∙ sym joins'.from in
      let own : AreSteps on v start x.arcs y.steps =
      subst (λ (arcs : List ℕ). AreSteps on v start arcs y.steps) (sym way) joins'.steps in
      let steps = one_steps start start refl x.arcs x.steps y.steps joins.steps own in
      λ i. outcome.Path (record { cost = price i; bound = limit i; start = from i; steps = steps i; arcs = way i })
  one_told start goal (outcome.Path found) (outcome.Path x) outcome.NoPath told also joins joins' = absurd also
  one_told start goal (outcome.Path found) (outcome.Path x) outcome.Unknown told also joins joins' = absurd also
  one_told start goal (outcome.Path found) outcome.NoPath p told also joins joins' = absurd told
  one_told start goal (outcome.Path found) outcome.Unknown p told also joins joins' = absurd told
  one_told start goal outcome.NoPath (outcome.Path x) p told also joins joins' = absurd told
  one_told start goal outcome.NoPath outcome.NoPath (outcome.Path y) told also joins joins' = absurd also
  one_told start goal outcome.NoPath outcome.NoPath outcome.NoPath told also joins joins' = refl
  one_told start goal outcome.NoPath outcome.NoPath outcome.Unknown told also joins joins' = absurd also
  one_told start goal outcome.NoPath outcome.Unknown p told also joins joins' = absurd told
  one_told start goal outcome.Unknown (outcome.Path x) p told also joins joins' = absurd told
  one_told start goal outcome.Unknown outcome.NoPath p told also joins joins' = absurd told
  one_told start goal outcome.Unknown outcome.Unknown (outcome.Path y) told also joins joins' = absurd also
  one_told start goal outcome.Unknown outcome.Unknown outcome.NoPath told also joins joins' = absurd also
  one_told start goal outcome.Unknown outcome.Unknown outcome.Unknown told also joins joins' = refl

-- a result that a found one leads to is determined
one_turned : {leads other : List ℕ → List ℕ → Type 0} → ((f a b : List ℕ) → leads f a → other f b → a ≡ b)
    → (f p q : PlanResult FoundPath) → IsTurned leads f p → IsTurned other f q → p ≡ q
one_turned one (outcome.Path f) (outcome.Path p) (outcome.Path q) x y =
    let arcs : p.arcs ≡ q.arcs = one f.arcs p.arcs q.arcs x.0 y.0 in
    let cost : p.cost ≡ q.cost = x.1 ∙ sym y.1 in
    let bound : p.bound ≡ q.bound = x.2 ∙ sym y.2 in
    λ i. outcome.Path (record { arcs = arcs i; cost = cost i; bound = bound i })
one_turned one outcome.NoPath outcome.NoPath outcome.NoPath x y = refl
one_turned one outcome.Unknown outcome.Unknown outcome.Unknown x y = refl
one_turned one (outcome.Path f) (outcome.Path p) outcome.NoPath x y = absurd y
one_turned one (outcome.Path f) (outcome.Path p) outcome.Unknown x y = absurd y
one_turned one (outcome.Path f) outcome.NoPath q x y = absurd x
one_turned one (outcome.Path f) outcome.Unknown q x y = absurd x
one_turned one outcome.NoPath (outcome.Path p) q x y = absurd x
one_turned one outcome.NoPath outcome.Unknown q x y = absurd x
one_turned one outcome.NoPath outcome.NoPath (outcome.Path q) x y = absurd y
one_turned one outcome.NoPath outcome.NoPath outcome.Unknown x y = absurd y
one_turned one outcome.Unknown (outcome.Path p) q x y = absurd x
one_turned one outcome.Unknown outcome.NoPath q x y = absurd x
one_turned one outcome.Unknown outcome.Unknown (outcome.Path q) x y = absurd y
one_turned one outcome.Unknown outcome.Unknown outcome.NoPath x y = absurd y

-- ---- the section of final labels

one_row : (a b : Row) (g v h h' : ℕ) → h ≡ h' → a ≡ record { g = g; v = v; h = h }
    → b ≡ record { g = g; v = v; h = h' } → a ≡ b
one_row a b g v h h' alike x y = let own : b ≡ record { g = g; v = v; h = h } = rw alike y in x ∙ sym own

one_low : {states goal : ℕ} {g v h h' : ℕ → ℕ} {low low' : ℕ} → AreAlikeGuides states h h' → IsLow states goal g v h low
    → IsLow states goal g v h' low' → low ≡ low'
one_low {states} {goal} {g} {v} {h} {h'} {low} {low'} alike a b =
    let up : low ≤ low' =
    b.greatest low a.at_goal (λ s inside differ. omega (arith, alike s inside, a.unsettled s inside differ)) in
    let down : low' ≤ low =
    a.greatest low' b.at_goal (λ s inside differ. omega (arith, alike s inside, b.unsettled s inside differ)) in
    omega arith

one_full : {n n' : Network} {h h' : ℕ → ℕ} {start goal plan : ℕ} {m : Marks} {found : PlanResult FoundPath}
    → AreAlikeGuides (states_of m) h h' → (s u : FullSection)
    → IsShownInFull n h start goal plan m found s → IsShownInFull n' h' start goal plan m found u → s ≡ u
one_full {n} {n'} {h} {h'} {start} {goal} {plan} {m} {found} alike s u x y =
    let number : s.plan ≡ u.plan = x.number ∙ sym y.number in
    let low : s.low ≡ u.low = one_low alike x.labels.low y.labels.low in
    let answer : s.outcome ≡ u.outcome = x.outcome ∙ sym y.outcome in
    let arcs : s.arcs ≡ u.arcs = x.arcs ∙ sym y.arcs in
    let labels : s.labels ≡ u.labels =
    ext_get_or section.no_row s.labels u.labels (x.labels.labels.states ∙ sym y.labels.labels.states)
    (λ k within.
    let inside : k < states_of m = subst (λ (count : ℕ). k < count) x.labels.labels.states within in
    one_row (row_at s.labels k) (row_at u.labels k) (g_of m k) (v_of m k) (h k) (h' k) (alike k inside)
    (x.labels.labels.rows k inside) (y.labels.labels.rows k inside))
    in
    λ i. record { plan = number i; low = low i; outcome = answer i; arcs = arcs i; labels = labels i }

one_sparse : CutRowsAreOne → {n : Network} {h h' : ℕ → ℕ} {start goal plan : ℕ} {m : Marks} {found : PlanResult FoundPath}
    → states_of m ≡ n.states → AreAlikeGuides (states_of m) h h' → (s u : SparseSection)
    → IsShownSparsely n h start goal plan m found s → IsShownSparsely n h' start goal plan m found u → s ≡ u
one_sparse cut_one {n} {h} {h'} {start} {goal} {plan} {m} {found} all alike s u x y =
    let number : s.plan ≡ u.plan = x.number ∙ sym y.number in
    let states : s.states ≡ u.states = x.states ∙ sym y.states in
    let low : s.low ≡ u.low = one_low alike x.labels.low y.labels.low in
    let answer : s.outcome ≡ u.outcome = x.outcome ∙ sym y.outcome in
    let arcs : s.arcs ≡ u.arcs = x.arcs ∙ sym y.arcs in
    let own : AreCutRows s.outcome n m h' s.low u.rows =
    subst (λ (o : Outcome). AreCutRows o n m h' s.low u.rows) (sym answer)
    (subst (λ (l : ℕ). AreCutRows u.outcome n m h' l u.rows) (sym low) y.labels.rows)
    in
    let rows : s.rows ≡ u.rows =
    cut_one s.outcome n m h h' s.low s.rows u.rows
    (λ t inside. alike t (subst (λ (count : ℕ). t < count) (sym all) inside)) x.labels.rows own in
    λ i. record { plan = number i; states = states i; low = low i; outcome = answer i; arcs = arcs i; rows = rows i }

one_section : CutRowsAreOne → (n : Network) (h h' : ℕ → ℕ) (start goal plan : ℕ) (m : Marks) (found : PlanResult FoundPath)
    → states_of m ≡ n.states → AreAlikeGuides (states_of m) h h' → (f : LabelForm) (s u : Section)
    → IsShown f n h start goal plan m found s → IsShown f n h' start goal plan m found u → s ≡ u
one_section cut_one n h h' start goal plan m found all alike form.Full (Full s) (Full u) x y =
    ap (λ (t : FullSection). Full t) (one_full alike s u x y)
one_section cut_one n h h' start goal plan m found all alike form.Full (Full s) (Sparse u) x y = absurd y
one_section cut_one n h h' start goal plan m found all alike form.Full (Sparse s) u x y = absurd x
one_section cut_one n h h' start goal plan m found all alike form.Sparse (Sparse s) (Sparse u) x y =
    ap (λ (t : SparseSection). Sparse t) (one_sparse cut_one all alike s u x y)
one_section cut_one n h h' start goal plan m found all alike form.Sparse (Sparse s) (Full u) x y = absurd y
one_section cut_one n h h' start goal plan m found all alike form.Sparse (Full s) u x y = absurd x

one_there : {X : Type 0} (asked : Bool) (P Q : X → Type 0) (o p : Option X) → ((x y : X) → P x → Q y → x ≡ y)
    → IsThere asked P o → IsThere asked Q p → o ≡ p
one_there true P Q None p one a b = absurd a
one_there true P Q (Some x) None one a b = absurd b
one_there true P Q (Some x) (Some y) one a b = ap (λ z. Some z) (one x y a b)
one_there false P Q (Some x) p one a b = absurd a
one_there false P Q None (Some y) one a b = absurd b
one_there false P Q None None one a b = refl

-- what marks a plan as spent is determined
one_mark : (budget before : ℕ) (spent : Bool) (r u : PlanRecord) → expansions r.passes ≡ expansions u.passes
    → IsMarked budget before spent r → IsMarked budget before spent u → r.spent ≡ u.spent
one_mark budget before true r u same a b = a.0 ∙ ap (λ (count : ℕ). Some count) same ∙ sym b.0
one_mark budget before false r u same a b = a ∙ sym b

-- ---- what is in the way

one_blockage : (n : Network) (start goal : ℕ) (o p : Option Blockage) → IsBlockage n start goal o → IsBlockage n start goal p
    → o ≡ p
one_blockage n start goal None None a b = refl
one_blockage n start goal None (Some blocked.Start) a b = absurd ((a b.0).0 b.1)
one_blockage n start goal None (Some blocked.Goal) a b = absurd ((a b.0).1 b.2)
one_blockage n start goal (Some blocked.Start) None a b = absurd ((b a.0).0 a.1)
one_blockage n start goal (Some blocked.Start) (Some blocked.Start) a b = refl
one_blockage n start goal (Some blocked.Start) (Some blocked.Goal) a b = absurd (b.1 a.1)
one_blockage n start goal (Some blocked.Goal) None a b = absurd ((b a.0).1 a.2)
one_blockage n start goal (Some blocked.Goal) (Some blocked.Start) a b = absurd (a.1 b.1)
one_blockage n start goal (Some blocked.Goal) (Some blocked.Goal) a b = refl

-- what is in the way of a plan with this result is determined
one_cause : (n : Network) (start goal : ℕ) (result : PlanResult PathRecord) (o p : Option Blockage)
    → IsBlockageOf n start goal result o → IsBlockageOf n start goal result p → o ≡ p
one_cause n start goal (outcome.Path path) o p a b = a ∙ sym b
one_cause n start goal outcome.NoPath o p a b = one_blockage n start goal o p a b
one_cause n start goal outcome.Unknown o p a b = a ∙ sym b

-- ---- a plan

-- what stays the same over a plan: the start, how many states there are, and that the start has no back arc
record StaysPlaced (old new : Marks) : Type 0 where
  start : new.start ≡ old.start
  states : states_of new ≡ states_of old
  no_arc : back_of old old.start ≡ None → back_of new new.start ≡ None

passes_placed : {Action : Type 0} (means : Meaning Action) → AreDetermined means
    → (q : Inquiry) (ps : List (PassRecord Action)) (eps : ℕ) (old new : Marks) (spent : Bool)
    → ArePasses means q eps old ps new spent → StaysPlaced old new
passes_placed means law q [] eps old new spent made = absurd made
passes_placed means law q (p ∷ ps) eps old new spent (inl made) = record {
  start = law.start (query_at q eps) old new made.1.actions made.1.leads;
  states = law.states (query_at q eps) old new made.1.actions made.1.leads;
  no_arc = law.no_arc (query_at q eps) old new made.1.actions made.1.leads;
}
passes_placed means law q (p ∷ ps) eps old new spent (inr made) =
    let rest = passes_placed means law q ps (lowered q.ask.step eps) made.0 new spent made.3 in
    record {
      start = rest.start ∙ law.start (query_at q eps) old made.0 made.1.actions made.1.leads;
      states = rest.states ∙ law.states (query_at q eps) old made.0 made.1.actions made.1.leads;
      no_arc = λ none. rest.no_arc (law.no_arc (query_at q eps) old made.0 made.1.actions made.1.leads none);
    }

-- passes that are told expanded as much
pub expansions_traced : {Action : Type 0} (line : Action → TraceLine) (ps : List (PassRecord Action))
    → expansions (map (traced_pass line) ps) ≡ expansions ps
expansions_traced line [] = refl
expansions_traced line (p ∷ ps) = ap (λ (n : ℕ). p.expanded + n) (expansions_traced line ps)

as_many : {W : Type 0} {by : PlannerOn W} {w : W} {how : SearchJob} {outputs : Outputs} {start goal : ℕ}
    {before : Before} {carried : Carried} {r : PlanRecord}
    → (x : IsSearched by w how outputs start goal before carried r) → expansions r.passes ≡ expansions x.recorded
as_many {W} {by} x = ap expansions x.lines ∙ expansions_traced by.line x.recorded

-- what a plan expanded is within its budget and what the run had left
within_room : {W : Type 0} {by : PlannerOn W} {w : W} {how : SearchJob} {outputs : Outputs} {start goal : ℕ}
    {before : Before} {carried : Carried} {r : PlanRecord}
    → (x : IsSearched by w how outputs start goal before carried r)
    → AreWithin how.budget (expanded_before before) Unlimited x.recorded x.spent
within_room {W} {by} {w} {how} {outputs} {start} {goal} {before} {carried} {r} x = record {
  of_plan = omega (arith, x.within_budget, x.expanded, as_many x);
  of_run = omega (arith, x.within_run, x.counted, as_many x);
  used_up = λ is. with_late (rw (← as_many x) (MatchBool-at_true ((r.spent ≡ Some (expansions r.passes))
      × ((expansions r.passes ≡ how.budget) ⊎ (expanded_before before + expansions r.passes ≡ 2 ^ 30)))
      (r.spent ≡ None) is x.marked).1);
}
  where
    with_late : {A B C : Type 0} → A ⊎ B → A ⊎ (B ⊎ C)
    with_late (inl a) = inl a
    with_late (inr b) = inr (inl b)

-- a plan without a limit of time is not late
unlimited_in_time : Unlimited ≢ Late
unlimited_in_time late = let same : ◌≡◌ {A = Time} Unlimited Late = late in cc

-- two plans have one record, leave the same, and what they leave is carried on
pub record AreOneRecord (count : ℕ) (carried other : Carried) (r u : PlanRecord) : Type 0 where
  pub record_is : r ≡ u
  pub labels : carried.labels ≡ other.labels
  pub expanded : carried.expanded ≡ other.expanded
  pub states : states_of carried.labels ≡ count
  pub no_arc : back_of carried.labels carried.labels.start ≡ None

-- what is known of a planner whose plans are determined
pub record IsPlannerDetermined {Action : Type 0} (means : Meaning Action) : Type 0 where
  pub passes : AreDetermined means
  pub beginnings : AreBeginningsDetermined means
  pub plans : PassesAreOne means

module _ {W : Type 0} (on : Site W) (Alike : W → W → Type 0) (alike : AreAlike on Alike) (search : Search)
    (law : IsPlannerDetermined search.means) (back : Bool) (goes : GoesAlike on Alike back) (once : LeadsOnce on back)
    (initial : InitialLabelsAreOne) (one_result : OutcomesAreOne) (cut_one : CutRowsAreOne) (w v : W)
    (both_alike : Alike w v) where
  -- the planner as the program knows it at the site
  abbrev by : PlannerOn W
  by = planner_on (searched_on on back) search.means search.line

  one_record : (m : CellMap) (how : SearchJob) (outputs : Outputs) (start goal : ℕ) (log : List Entry)
      (before : Before) (carried other : Carried) (r u : PlanRecord)
      → on.cells.is_made (on.cells.over w m) → on.reporting.told (on.cells.over w m) ≡ on.reporting.told (on.cells.over v m)
      → AreCarried on Alike alike w v both_alike before → r.plan ≡ u.plan
      → Joins by.on (on.cells.over w m) start goal r.outcome → Joins by.on (on.cells.over v m) start goal u.outcome
      → IsBlockageOf (on.reporting.told (on.cells.over w m)) start goal r.outcome r.blockage
      → IsBlockageOf (on.reporting.told (on.cells.over v m)) start goal u.outcome u.blockage
      → IsSearched by (on.cells.over w m) how outputs start goal before carried r
      → IsSearched by (on.cells.over v m) how outputs start goal before other u
      → r.incumbent ≡ newest (with_plan log r) → u.incumbent ≡ newest (with_plan log u)
      → AreOneRecord (on.reporting.told (on.cells.over w m)).states carried other r u
  one_record m how outputs start goal log before carried other r u made same begins_alike number joins joins'
      cause cause' x y newest_is newest_is' =
      let here : W = on.cells.over w m in
      let there : W = on.cells.over v m in
      let a : Alike here there = alike.over w v m both_alike in
      let count : ℕ = (on.reporting.told here).states in
      let n : Network = by.on.network here in
      let one_network : by.on.network here ≡ by.on.network there = goes.network here there same in
      let from : ℕ = from_by by start goal in
      let to : ℕ = to_by by start goal in
      let ask : Ask = ask_of how outputs in
      let q : Inquiry = record { network = n; guide = x.guide; goal = to; workers = workers_of how; ask = ask } in
      let begun =
      one_begun on Alike alike w v both_alike initial by.means law.beginnings back goes m from before x.begun y.begun
      x.raised y.raised made same begins_alike x.begins y.begins in
      let guides : (s : ℕ) → s < count → x.guide s ≡ y.guide s =
      goes.guides here there to x.guide y.guide a same x.is_guide y.is_guide in
      let guided : AreAlikeGuides (states_of x.begun) x.guide y.guide =
      λ s inside. guides s (subst (λ (k : ℕ). s < k) begun.states inside) in
      let passes : ArePasses by.means (record { network = n; guide = y.guide; goal = to; workers = workers_of how; ask = ask }) how.first x.begun
      y.recorded other.labels y.spent = rw (one_network, begun.same) y.passes in
      let one =
      law.plans q y.guide how.budget (expanded_before before) how.first Unlimited Unlimited x.begun carried.labels
      other.labels x.recorded y.recorded x.spent y.spent begun.no_arc guided x.passes passes unlimited_in_time
      unlimited_in_time (within_room x) (within_room y) in
      let placed = passes_placed by.means law.passes q x.recorded how.first x.begun carried.labels x.spent x.passes in
      let no_arc : back_of carried.labels carried.labels.start ≡ None = placed.no_arc begun.no_arc in
      let states : states_of carried.labels ≡ count = placed.states ∙ begun.states in
      let at_end : AreAlikeGuides (states_of carried.labels) x.guide y.guide =
      λ s inside. guides s (subst (λ (k : ℕ). s < k) states inside) in
      let is_result : IsResultOf n y.guide to carried.labels y.found = rw (one_network, one.labels) y.is_result in
      let results : x.found ≡ y.found =
      one_result n x.guide y.guide to carried.labels x.found y.found no_arc at_end x.is_result is_result in
      let turned : IsTurned (Leads back (on.reporting.told there) start goal) x.found y.told.result =
      rw results y.told.turned in
      let paths : x.told.result ≡ y.told.result =
      one_turned (λ f l k. once here there start goal f l k same) x.found x.told.result
      y.told.result x.told.turned turned in
      let told : IsSameResult x.told.result u.outcome = rw paths y.told.same in
      let outcomes : r.outcome ≡ u.outcome =
      one_told on Alike alike back here there a same start goal x.told.result r.outcome u.outcome
      x.told.same told joins joins' in
      let blockage : r.blockage ≡ u.blockage =
      one_cause (on.reporting.told here) start goal u.outcome r.blockage u.blockage
      (subst (λ (o : PlanResult PathRecord). IsBlockageOf (on.reporting.told here) start goal o r.blockage) outcomes cause)
      (subst (λ (k : Network). IsBlockageOf k start goal u.outcome u.blockage) (sym same) cause') in
      let all : r.passes ≡ u.passes = x.lines ∙ ap (map (traced_pass by.line)) one.passes ∙ sym y.lines in
      let counts : expansions r.passes ≡ expansions u.passes = ap expansions all in
      let expanded : r.expanded ≡ u.expanded = x.expanded ∙ counts ∙ sym y.expanded in
      let marked : IsMarked how.budget (expanded_before before) x.spent u = rw one.both y.marked in
      let spent : r.spent ≡ u.spent = one_mark how.budget (expanded_before before) x.spent r u counts x.marked marked in
      let shown : IsThere (is_some outputs.labels)
      (IsShown outputs.form n y.guide from to r.plan carried.labels x.found) u.labels =
      subst (λ (k : Network). IsThere (is_some outputs.labels)
      (IsShown outputs.form k y.guide from to r.plan carried.labels x.found) u.labels) (sym one_network)
      (rw (number, one.labels, results) y.labels)
      in
      let all_states : states_of carried.labels ≡ n.states = states ∙ sym (goes.states here) in
      let labels : r.labels ≡ u.labels =
      one_there (is_some outputs.labels) (IsShown outputs.form n x.guide from to r.plan carried.labels x.found)
      (IsShown outputs.form n y.guide from to r.plan carried.labels x.found) r.labels u.labels
      (λ s t. one_section cut_one n x.guide y.guide from to r.plan carried.labels x.found all_states at_end
      outputs.form s t) x.labels shown
      in
      let raised : r.raised ≡ u.raised =
      x.raises ∙ ap (λ (l : List ℕ). if is_some outputs.trace then l else []) begun.raised ∙ sym y.raises in
      let after : newest (with_plan log r) ≡ newest (with_plan log u) =
      λ i. newest (with_paths log (number i) 0 (founds (all i))) in
      let incumbent : r.incumbent ≡ u.incumbent = newest_is ∙ after ∙ sym newest_is' in
      record {
        record_is = λ i. record {
          plan = number i;
          raised = raised i;
          passes = all i;
          expanded = expanded i;
          spent = spent i;
          outcome = outcomes i;
          blockage = blockage i;
          labels = labels i;
          incumbent = incumbent i;
        };
        labels = one.labels;
        expanded = x.counted ∙ ap (λ (k : ℕ). expanded_before before + k) counts ∙ sym y.counted;
        states = states;
        no_arc = no_arc;
      }

  -- ---- plans in turn

  module _ (one_map : OneMap) (batches : List (List Write)) (how : SearchJob) (outputs : Outputs)
      (starts : ℕ → ℕ) (goal : ℕ) where
    -- records of plans from one on are the first of any others from it on that are no fewer
    pub one_records : (rs us : List PlanRecord) (k : ℕ) (log : List Entry) (before : Before)
        → AreCarried on Alike alike w v both_alike before → length rs ≤ length us
        → AreRecords by w batches how outputs starts goal k log before rs
        → AreRecords by v batches how outputs starts goal k log before us
        → (rest : List PlanRecord) × (us ≡ rs ++ rest)
    one_records [] us k log before begins_alike no_fewer left right = (us, refl)
    one_records (r ∷ rs) [] k log before begins_alike no_fewer left right = absurd (omega arith)
    one_records (r ∷ rs) (u ∷ us) k log before begins_alike no_fewer left right =
        let carried : Carried = left.0 in
        let other : Carried = right.0 in
        let first : IsMapAfter (on.cells.map w) batches k other.map =
        subst (λ (m : CellMap). IsMapAfter m batches k other.map) (sym (alike.map w v both_alike)) right.1 in
        let maps : carried.map ≡ other.map =
        one_map (on.cells.map w) carried.map other.map batches k (alike.cell_map w carried.map left.2.is_world)
        (alike.cell_map v other.map right.2.is_world) left.1 first in
        let plan : IsPlanOf by (on.cells.over v carried.map) how outputs (starts k) goal k log before other u =
        subst (λ (m : CellMap). IsPlanOf by (on.cells.over v m) how outputs (starts k) goal k log before other u)
        (sym maps) right.2 in
        let same : on.reporting.told (on.cells.over w carried.map) ≡ on.reporting.told (on.cells.over v carried.map) =
        alike.graph _ _ (alike.over w v carried.map both_alike) left.2.is_world plan.is_world in
        let one =
        one_record carried.map how outputs (starts k) goal log before carried other r u left.2.is_world same
        begins_alike (left.2.number ∙ sym plan.number) left.2.promises.joins plan.promises.joins
        left.2.promises.blocked plan.promises.blocked left.2.searched
        plan.searched left.2.incumbent plan.incumbent in
        let both : carried ≡ other = λ i. record { map = maps i; labels = one.labels i; expanded = one.expanded i } in
        let later : AreCarried on Alike alike w v both_alike (Changed carried) =
        record { made = left.2.is_world; states = one.states; no_arc = one.no_arc; graph = same } in
        let further : AreRecords by v batches how outputs starts goal (k + 1) (with_plan log r) (Changed carried) us =
        subst (λ (x : PlanRecord).
        AreRecords by v batches how outputs starts goal (k + 1) (with_plan log x) (Changed carried) us) (sym one.record_is)
        (subst (λ (c : Carried). AreRecords by v batches how outputs starts goal (k + 1) (with_plan log u) (Changed c) us)
        (sym both) right.3)
        in
        let after_them =
        one_records rs us (k + 1) (with_plan log r) (Changed carried) later (omega arith) left.3 further in
        let same_record : u ≡ r = sym one.record_is in
        let same_rest : us ≡ rs ++ after_them.0 = after_them.1 in
        (after_them.0, λ i. same_record i ∷ same_rest i)

-- ---- all plans

-- lists of one length, of which the one is a prefix of the other
whole_front : (rs us rest : List PlanRecord) → us ≡ rs ++ rest → length us ≡ length rs → rs ≡ us
whole_front rs us rest parted as_many =
    let both : length us ≡ length rs + length rest =
    ap (λ (l : List PlanRecord). length l) parted ∙ length-append rs rest in
    let none : rest ≡ [] = nil_from_length rest (omega arith) in
    sym (parted ∙ ap (λ (l : List PlanRecord). rs ++ l) none ∙ append-nil rs)

-- each planner whose passes are determined is one of these
pub of_each : IsPlannerDetermined ara → IsPlannerDetermined adstar → (p : Planner) → is_determined p ≡ true
    → IsPlannerDetermined (search_of p).means
of_each by_ara by_adstar planner.Ara determined = by_ara
of_each by_ara by_adstar planner.AdStar determined = by_adstar
of_each by_ara by_adstar planner.Back determined = by_adstar
of_each by_ara by_adstar planner.Epase determined = absurd (false≢true determined)

pub few_are_first : {W : Type 0} (on : Site W) (Alike : W → W → Type 0) → AreAlike on Alike
    → ((p : Planner) → is_determined p ≡ true → IsPlannerDetermined (search_of p).means) → PathsTurnOnce
    → InitialLabelsAreOne → OutcomesAreOne → CutRowsAreOne → OneMap
    → FewAreFirst on Alike
few_are_first on Alike alike laws turned initial one_result cut_one one_map w v updates how outputs log rs us all broken
    also determined a left right =
    let starts : left.start ≡ right.start = alike.starts w v left.start right.start a left.start_is right.start_is in
    let goals : left.goal ≡ right.goal = alike.ends w v left.goal right.goal a left.goal_is right.goal_is in
    let back = may_move how.planner in
    let mine : ℕ → ℕ = start_after on.reporting w left.start updates.moves in
    let own : start_after on.reporting v right.start updates.moves ≡ mine =
    same_starts on.reporting v w right.start left.start updates.moves updates.moves
    (sym (alike.state w v a)) (sym starts) refl in
    let each : AreRecords (planner_for on how.planner) v updates.batches how outputs mine left.goal 0 log NoPlan us =
    subst (λ (s : ℕ → ℕ). AreRecords (planner_for on how.planner) v updates.batches how outputs s left.goal 0 log NoPlan us) own
    (subst (λ (g : ℕ). AreRecords (planner_for on how.planner) v updates.batches how outputs
    (start_after on.reporting v right.start updates.moves) g 0 log NoPlan us) (sym goals) right.each)
    in
    let few = left.few in
    let many = right.all_made refl in
    one_records on Alike alike (search_of how.planner) (laws how.planner determined) back
    (goes_alike on Alike alike back) (leads_once on Alike alike turned back) initial one_result cut_one w v a one_map
    updates.batches how outputs mine left.goal
    rs us 0 log NoPlan tt (omega arith) left.each each

pub records_are_one : {W : Type 0} (on : Site W) (Alike : W → W → Type 0) → FewAreFirst on Alike
    → RecordsAreOne on Alike
records_are_one on Alike first w v updates how outputs log rs us broken also determined alike left right =
    let parted = first w v updates how outputs log rs us true broken also determined alike left right in
    whole_front rs us parted.0 parted.1 (right.all_made refl ∙ sym (left.all_made refl))
