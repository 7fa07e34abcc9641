-- The report that is written is the one that the headline says, whatever a place is.
use Rattle.std.proofs.Common.{◌≡◌, ◌≢◌, ℕ, suc, Bool, true, false, List, [], ◌∷◌, ◌++◌, length, map, flat_map}
use Rattle.std.proofs.Common.{Option, Some, None, codes, decimal, bytes_eq, if◌then◌else◌, refl, sym, ap, ap₂}
use Rattle.std.proofs.Common.{subst, ◌∙◌, append_assoc, append-nil}
use Rattle.std.proofs.lemmas.Grind.{flat_map-append}
use Rattle.std.proofs.lemmas.List.{length-map}
use Rattle.std.proofs.lemmas.Slice.Eq.{bytes_eq-Decides}
use Rattle.sbpl_promises.specs.sbpl_cfg.declared.pose.Place.{Place}
use Rattle.sbpl_promises.specs.sbpl_fixed.Printed.{line_text, milli_text, point_text}
use Rattle.sbpl_promises.specs.sbpl_job.declared.job.Outputs.{Outputs}
use Rattle.sbpl_promises.specs.sbpl_plan.declared.found.Found.{Found}
use Rattle.sbpl_promises.specs.sbpl_plan.declared.found.Found.TheVariants as found
use Rattle.sbpl_promises.specs.sbpl_plan.declared.passes.PassRecord.{PassRecord}
use Rattle.sbpl_promises.specs.sbpl_plan.declared.result.PlanResult.{PlanResult}
use Rattle.sbpl_promises.specs.sbpl_plan.declared.result.PlanResult.TheVariants as outcome
use Rattle.sbpl_promises.specs.sbpl_report.declared.record.PathRecord.{PathRecord}
use Rattle.sbpl_promises.specs.sbpl_report.declared.record.PathStep.{PathStep}
use Rattle.sbpl_promises.specs.sbpl_report.declared.record.PlanRecord.{PlanRecord}
use Rattle.sbpl_promises.specs.sbpl_report.declared.record.ReportPose.{ReportPose}
use Rattle.sbpl_promises.specs.sbpl_report.declared.record.ReportPose.TheVariants as report_pose
use Rattle.sbpl_promises.specs.sbpl_report.declared.record.TraceLine.{TraceLine}
use Rattle.sbpl_promises.specs.sbpl_report.Report.{found_text, line_feed, outcome_text, pass_text, path_text, place_text}
use Rattle.sbpl_promises.specs.sbpl_report.Report.{section_text, spent_text, report_pose_text, step_text}
use Rattle.sbpl_promises.specs.Intents.{end_writes, plans_writes, section_writes}
use Rattle.sbpl_promises.specs.Intents.{incumbent_writes, labels_writes, trace_writes}
use Rattle.sbpl_promises.specs.Writing.{Write, output, text_under, to_named}
use Rattle.sbpl_headline.specs.Grid.{Square}
use Rattle.sbpl_headline.specs.Path.{Plan}
use Rattle.sbpl_headline.specs.Report as plain
use Rattle.sbpl_headline.specs.Report.{pose_words, report, result_text, square_words}
use Rattle.sbpl_headline.proofs.Plans.{square_at, told_found, told_pass, told_plan, told_plans}
use Rattle.sbpl_headline.proofs.Steps.{told_result, told_step, told_steps}
use Rattle.sbpl_headline.proofs.Asking.{NoDashes}

-- ---- lines

-- there is a word
abbrev pub AreSome : List (List ℕ) → Type 0
AreSome [] = ⊥
AreSome (w ∷ ws) = Unit {0}

-- a line goes on after its first word
line_more : (w : List ℕ) (ws : List (List ℕ)) → AreSome ws → line_text (w ∷ ws) ≡ w ++ 32 ∷ line_text ws
unfolding line_text
line_more w [] some = absurd some
line_more w (v ∷ ws) some = refl

-- the line of a pass, by what it found
pass_line : (inflation expanded : ℕ) (f : Found)
    → codes "pass " ++ (milli_text inflation
    ++ (codes " expanded " ++ (decimal expanded ++ (found_text f ++ line_feed))))
    ≡ line_text (codes "pass" ∷ point_text 3 inflation ∷ codes "expanded" ∷ decimal expanded ∷ told_found f)
unfolding line_text
pass_line inflation expanded (found.Path cost bound) = simp append_assoc
pass_line inflation expanded found.None = refl
pass_line inflation expanded found.Broken = refl

-- the line of a pass
pass_told : (p : PassRecord TraceLine) → pass_text p ≡ plain.pass_text (told_pass p)
unfolding pass_text
pass_told p = pass_line p.inflation p.expanded p.found

-- the lines of passes
passes_told : (ps : List (PassRecord TraceLine)) → flat_map pass_text ps ≡ flat_map plain.pass_text (map told_pass ps)
passes_told [] = refl
passes_told (p ∷ ps) = let first = pass_told p in let rest = passes_told ps in λ i. first i ++ rest i

-- the line of a plan that was spent
spent_told : (spent : Option ℕ) → spent_text spent ≡ plain.spent_text spent
unfolding line_text
spent_told None = refl
spent_told (Some n) = refl

-- the first line of a plan, before the others
plan_line : (k : ℕ) (rest : List ℕ)
    → codes "plan " ++ (decimal k ++ (line_feed ++ rest)) ≡ line_text (codes "plan" ∷ decimal k ∷ []) ++ rest
unfolding line_text
plan_line k rest = simp append_assoc

-- the first line of a path, before the others
path_line : (steps cost bound : ℕ) (rest : List ℕ)
    → codes "path " ++ (decimal steps ++ (codes " cost " ++ (decimal cost
    ++ (codes " bound " ++ (milli_text bound ++ (line_feed ++ rest))))))
    ≡ line_text (codes "path" ∷ decimal steps ∷ codes "cost" ∷ decimal cost ∷ codes "bound" ∷ point_text 3 bound ∷ [])
    ++ rest
unfolding line_text
path_line steps cost bound rest = simp append_assoc

-- ---- plans

-- a report pose's end of a line is that of the place for which it stands
abbrev pub IsReportPoseTold : {P : Type 0} → (ReportPose → P) → (P → List (List ℕ)) → ReportPose → Type 0
IsReportPoseTold at words s = report_pose_text s ≡ line_text (words (at s))

-- so it is of each step
abbrev pub AreReportPosesTold : {P : Type 0} → (ReportPose → P) → (P → List (List ℕ)) → List PathStep → Type 0
AreReportPosesTold at words [] = Unit {0}
AreReportPosesTold at words (s ∷ steps) = IsReportPoseTold at words s.report_pose × AreReportPosesTold at words steps

-- and of a path, which begins at this start
abbrev pub IsResultTold : {P : Type 0} → (ReportPose → P) → (P → List (List ℕ)) → (start : P) → PlanResult PathRecord → Type 0
IsResultTold at words start (outcome.Path path) =
    (at path.start ≡ start) × IsReportPoseTold at words path.start × AreReportPosesTold at words path.steps
IsResultTold at words start _ = Unit {0}

-- and of plans in turn, the first of which is plan k, each from its own start
abbrev pub AreRecordsTold : {P : Type 0} → (ReportPose → P) → (P → List (List ℕ)) → (starts : ℕ → P) → (k : ℕ)
    → List PlanRecord → Type 0
AreRecordsTold at words starts k [] = Unit {0}
AreRecordsTold at words starts k (r ∷ rs) =
    (r.plan ≡ k) × IsResultTold at words (starts k) r.outcome × AreRecordsTold at words starts (suc k) rs

-- the section of plan k in the report
abbrev pub plan_text : {P : Type 0} → (P → List (List ℕ)) → (k : ℕ) → Plan P → List ℕ
plan_text words k p =
    line_text (codes "plan" ∷ decimal k ∷ []) ++ (flat_map plain.pass_text p.passes
    ++ (plain.spent_text p.spent ++ result_text words p.start p.result))

-- the texts of writes in turn, one after the other
under_append : (name : List ℕ) (before after : List Write)
    → text_under name (before ++ after) ≡ text_under name before ++ text_under name after
under_append name before after =
    flat_map-append (λ (w : Write). if bytes_eq w.name name then w.text else []) before after

-- names that differ are told apart
apart : (a b : List ℕ) → a ≢ b → bytes_eq a b ≡ false
apart a b differ = go (bytes_eq a b) refl
  where
    go : (same : Bool) → bytes_eq a b ≡ same → bytes_eq a b ≡ false
    go true e = absurd (differ ((bytes_eq-Decides a b).0 e))
    go false e = e

-- nothing is written under the name of the standard output where a text goes elsewhere
none_under : (name : Option (List ℕ)) (text : List ℕ) → ((n : List ℕ) → name ≡ Some n → n ≢ codes "-")
    → text_under output (to_named name text) ≡ []
none_under None text elsewhere = refl
none_under (Some name) text elsewhere =
    subst (λ (same : Bool). (if same then text else []) ++ [] ≡ []) (sym (apart name output (elsewhere name refl))) refl

-- nothing before nothing is nothing
nothing : (a b : List ℕ) → a ≡ [] → b ≡ [] → a ++ b ≡ []
nothing a b p q = λ i. p i ++ q i

-- of the writes of a plan its section goes to the standard output
section_under : (o : Outputs) (r : PlanRecord) → NoDashes o → text_under output (section_writes o r) ≡ section_text r
section_under o r away =
    let labels : text_under output (labels_writes o r) ≡ [] = none_under o.labels _ away.labels in
    let trace : text_under output (trace_writes o r) ≡ [] = none_under o.trace _ away.trace in
    let newest : text_under output (incumbent_writes o r) ≡ [] = none_under o.incumbent _ away.incumbent in
    let last : text_under output (trace_writes o r ++ incumbent_writes o r) ≡ [] =
    under_append output (trace_writes o r) (incumbent_writes o r) ∙ nothing _ _ trace newest in
    let none : text_under output (labels_writes o r ++ (trace_writes o r ++ incumbent_writes o r)) ≡ [] =
    under_append output (labels_writes o r) (trace_writes o r ++ incumbent_writes o r) ∙ nothing _ _ labels last in
    ap (λ (texts : List ℕ). section_text r ++ texts) none ∙ append-nil (section_text r)

module _ {P : Type 0} (at : ReportPose → P) (words : P → List (List ℕ)) (some : (p : P) → AreSome (words p)) where
  -- the line of a step
  step_told : (s : PathStep) → IsReportPoseTold at words s.report_pose
      → step_text s ≡ line_text (codes "step" ∷ decimal s.id ∷ words (at s.report_pose))
  unfolding step_text line_text
  step_told s told =
      ap (λ (end : List ℕ). codes "step " ++ (decimal s.id ++ (codes " " ++ end))) told
      ∙ ap (λ (end : List ℕ). codes "step " ++ end)
      (sym (line_more (decimal s.id) (words (at s.report_pose)) (some (at s.report_pose))))

  -- the lines of steps
  steps_told : (steps : List PathStep) → AreReportPosesTold at words steps
      → flat_map step_text steps
      ≡ flat_map (λ s. line_text (codes "step" ∷ decimal s.id ∷ words s.place)) (told_steps at steps)
  steps_told [] told = refl
  steps_told (s ∷ steps) told =
      let first = step_told s told.0 in let rest = steps_told steps told.1 in λ i. first i ++ rest i

  -- the line of a path's start
  start_told : (s : ReportPose) → IsReportPoseTold at words s
      → codes "pose " ++ report_pose_text s ≡ line_text (codes "pose" ∷ words (at s))
  start_told s told =
      ap (λ (end : List ℕ). codes "pose " ++ end) told ∙ sym (line_more (codes "pose") (words (at s)) (some (at s)))

  -- the lines of a result
  pub result_told : (start : P) (o : PlanResult PathRecord) → IsResultTold at words start o
      → outcome_text o ≡ result_text words start (told_result at o)
  unfolding path_text
  result_told start (outcome.Path path) told =
      let count : length path.steps ≡ length (told_steps at path.steps) =
      sym (length-map path.steps (told_step at)) in
      let pose : codes "pose " ++ report_pose_text path.start ≡ line_text (codes "pose" ∷ words start) =
      start_told path.start told.1 ∙ ap (λ (p : P). line_text (codes "pose" ∷ words p)) told.0 in
      let steps = steps_told path.steps told.2 in
      let rest : codes "pose " ++ (report_pose_text path.start ++ flat_map step_text path.steps)
      ≡ line_text (codes "pose" ∷ words start)
      ++ flat_map (λ s. line_text (codes "step" ∷ decimal s.id ∷ words s.place))
      (told_steps at path.steps) =
      sym (append_assoc (codes "pose ") (report_pose_text path.start) (flat_map step_text path.steps))
      ∙ ap₂ ◌++◌ pose steps in
      let first = ap (λ (n : ℕ). line_text (codes "path" ∷ decimal n ∷ codes "cost" ∷ decimal path.cost
      ∷ codes "bound" ∷ point_text 3 path.bound ∷ [])) count in
      path_line (length path.steps) path.cost path.bound
      (codes "pose " ++ (report_pose_text path.start ++ flat_map step_text path.steps))
      ∙ ap₂ ◌++◌ first rest
  result_told start outcome.NoPath told = refl
  result_told start outcome.Unknown told = refl

  -- the section of a plan
  pub section_told : (k : ℕ) (start : P) (r : PlanRecord) → r.plan ≡ k → IsResultTold at words start r.outcome
      → section_text r ≡ plan_text words k (told_plan at start r)
  unfolding section_text
  section_told k start r number told =
      let passes = passes_told r.passes in
      let spent = spent_told r.spent in
      let result = result_told start r.outcome told in
      let first = ap (λ (n : ℕ). line_text (codes "plan" ∷ decimal n ∷ [])) number in
      plan_line r.plan (flat_map pass_text r.passes ++ (spent_text r.spent ++ outcome_text r.outcome))
      ∙ ap₂ ◌++◌ first (ap₂ ◌++◌ passes (ap₂ ◌++◌ spent result))

  -- a plan's section, and the report of those after it
  report_more : (k : ℕ) (p : Plan P) (ps : List (Plan P))
      → plan_text words k p ++ report words (suc k) ps ≡ report words k (p ∷ ps)
  report_more k p ps =
      let passes = flat_map plain.pass_text p.passes in
      let spent = plain.spent_text p.spent in
      let result = result_text words p.start p.result in
      let rest = report words (suc k) ps in
      append_assoc (line_text (codes "plan" ∷ decimal k ∷ [])) (passes ++ (spent ++ result)) rest
      ∙ ap (λ (texts : List ℕ). line_text (codes "plan" ∷ decimal k ∷ []) ++ texts)
      (append_assoc passes (spent ++ result) rest
      ∙ ap (λ (texts : List ℕ). passes ++ texts) (append_assoc spent result rest))

  -- what is written under the name of the standard output, of plans from plan k on, is their report
  pub report_from : (o : Outputs) → NoDashes o → (starts : ℕ → P) (k : ℕ) (records : List PlanRecord)
      → AreRecordsTold at words starts k records
      → text_under output (plans_writes o records true) ≡ report words k (told_plans at starts k records)
  report_from o away starts k [] told = refl
  report_from o away starts k (r ∷ rs) told =
      let writes = section_writes o r in
      let others = flat_map (section_writes o) rs in
      let first : text_under output writes ≡ plan_text words k (told_plan at (starts k) r) =
      section_under o r away ∙ section_told k (starts k) r told.0 told.1 in
      let rest = report_from o away starts (suc k) rs told.2 in
      ap (text_under output) (append_assoc writes others (end_writes true))
      ∙ under_append output writes (others ++ end_writes true)
      ∙ ap₂ ◌++◌ first rest
      ∙ report_more k (told_plan at (starts k) r) (told_plans at starts (suc k) rs)

  -- what is written under the name of the standard output is the report of the plans
  pub report_told : (o : Outputs) → NoDashes o → (starts : ℕ → P) (records : List PlanRecord)
      → AreRecordsTold at words starts 0 records
      → text_under (codes "-") (plans_writes o records true) ≡ report words 0 (told_plans at starts 0 records)
  report_told o away starts records told = report_from o away starts 0 records told

-- ---- places

-- a pose is printed in these words
pub pose_line : (at : ReportPose → Place) → ((p : Place) → at (report_pose.Pose p) ≡ p) → (p : Place)
    → IsReportPoseTold at pose_words (report_pose.Pose p)
unfolding place_text line_text
pose_line at poses p = ap (λ (place : Place). line_text (pose_words place)) (sym (poses p))

-- and a cell in these
pub square_line : (x y : ℕ) → IsReportPoseTold square_at square_words (report_pose.Cell x y)
unfolding line_text
square_line x y = refl

-- a pose has words
pub some_pose : (p : Place) → AreSome (pose_words p)
some_pose p = tt

-- and so has a cell
pub some_square : (c : Square) → AreSome (square_words c)
some_square c = tt
