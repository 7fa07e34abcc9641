-- What the words of `plan` and `nav` ask, in plain words.
use Rattle.std.proofs.Common.{◌≡◌, ◌≢◌, ◌∙◌, ◌*◌, ◌/◌, ◌%◌, ◌^◌, ◌&&◌, ℕ, ℤ, pos, negsuc, Bool, true, false, not}
use Rattle.std.proofs.Common.{List, [], ◌∷◌, ◌++◌, map, Option, Some, None, MatchOption, option_map, Result, Ok, Err}
use Rattle.std.proofs.Common.{refl, sym, ap, subst, arith, inl, inr, if◌then◌else◌, codes, nat_eq, nat_le}
use Rattle.std.specs.Prelude.{option_and_then}
use Rattle.std.specs.List.{All, AllByRecursion, flat_map, list_all}
use Rattle.std.specs.Str.{bytes_eq}
use Rattle.std.proofs.lemmas.Bool.{and_parts, cases_Bool, eq-eqb, eqb-true, not-true, true≢false}
use Rattle.std.proofs.lemmas.List.Elements.{All-head, All-tail}
use Rattle.std.proofs.lemmas.Option.{cond_some, none-some, same_Some}
use Rattle.sbpl_promises.specs.sbpl_fixed.Numbers.{nano_of, whole_of}
use Rattle.sbpl_promises.specs.sbpl_fixed.declared.fault.NumFault.{NumFault}
use Rattle.sbpl_promises.specs.sbpl_job.Forms.{Apart, ArePartsOf, Form, IsFit, Joined, PartsAreOfForms, Plain}
use Rattle.sbpl_promises.specs.sbpl_job.Forms.{form_words, given_of, name_of, plain_of}
use Rattle.sbpl_promises.specs.sbpl_job.Jobs.{Settings, budget_by, budget_in, differ, form_by, is_input, job_by, job_of, job_with}
use Rattle.sbpl_promises.specs.sbpl_job.Jobs.{grid_sources_by, may_move, milli_by, milli_in, nav_by, nav_in, output_by, outputs_by, outputs_in}
use Rattle.sbpl_promises.specs.sbpl_job.Jobs.{plan_by, plan_in, planner_by, radius_by, radius_in, search_in, grid_search_in}
use Rattle.sbpl_promises.specs.sbpl_job.Jobs.{pose_by, sources_by, square_by, states_by, workers_by}
use Rattle.sbpl_promises.specs.sbpl_job.Words.{WordParts, id_of, is_plain_word, is_setting, parts_of, takes}
use Rattle.sbpl_promises.specs.sbpl_job.Words as given
use Rattle.sbpl_promises.specs.sbpl_job.declared.job.Job.{Job}
use Rattle.sbpl_promises.specs.sbpl_job.declared.job.Job.TheVariants as job
use Rattle.sbpl_promises.specs.sbpl_job.declared.job.LabelForm.{LabelForm}
use Rattle.sbpl_promises.specs.sbpl_job.declared.job.NavJob.{NavJob}
use Rattle.sbpl_promises.specs.sbpl_job.declared.job.Outputs.{Outputs}
use Rattle.sbpl_promises.specs.sbpl_job.declared.job.PlanJob.{PlanJob}
use Rattle.sbpl_promises.specs.sbpl_job.declared.job.Planner.{Planner}
use Rattle.sbpl_promises.specs.sbpl_job.declared.job.SearchJob.{SearchJob}
use Rattle.sbpl_promises.specs.sbpl_job.declared.job.GridSources.{GridSources}
use Rattle.sbpl_promises.specs.sbpl_job.declared.job.Sources.{Sources}
use Rattle.sbpl_promises.specs.sbpl_job.declared.job.Square.{Square}
use Rattle.sbpl_promises.specs.sbpl_cfg.declared.pose.Pose.{Pose}
use Rattle.sbpl_promises.specs.sbpl_job.declared.words.Command.{Command}
use Rattle.sbpl_promises.specs.sbpl_job.declared.words.Command.TheVariants as command
use Rattle.sbpl_promises.specs.sbpl_job.declared.words.Setting.{Setting}
use Rattle.sbpl_promises.specs.sbpl_job.declared.words.Setting.TheVariants as setting
use Rattle.sbpl_headline.specs.Numbers.{IsNanos, IsNumber}
use Rattle.sbpl_headline.specs.Words.{Ask, Asked, IsPart, IsPlain, Part, value_of}
use Rattle.sbpl_headline.proofs.Numbering.{nano_says, whole_says}

-- a word, as its bytes
abbrev Word : Type 0
Word = List ℕ

-- ---- forms as parts

-- the name and the value that a form gives
abbrev named : Form → List (Word × Word)
named (Plain w) = []
named (Apart s v) = (name_of s, v) ∷ []
named (Joined s v) = (name_of s, v) ∷ []

-- a form as a part
abbrev part_of : Form → Part
part_of f = record { words = form_words f; plain = plain_of f; given = named f }

-- a word that passes the test is plain
plain_is : (w : Word) → is_plain_word w ≡ true → IsPlain w
plain_is [] h = true≢false (sym h)
plain_is (b ∷ bs) h = λ e. true≢false (sym (eq-eqb b 45 e) ∙ not-true (nat_eq b 45) h)

-- bytes of which none passes the test for '=' are no '='
no_equals : (bs : Word) → list_all (λ c. not (nat_eq c 61)) bs ≡ true → AllByRecursion (λ c. c ≢ 61) bs
no_equals [] h = tt
no_equals (b ∷ bs) h =
    let both = and_parts (not (nat_eq b 61)) (list_all (λ c. not (nat_eq c 61)) bs) h in
    (λ e. true≢false (sym (eq-eqb b 61 e) ∙ not-true (nat_eq b 61) both.0), no_equals bs both.1)

-- a setting's name has no '='
name_tested : (s : Setting) → list_all (λ c. not (nat_eq c 61)) (name_of s) ≡ true
name_tested setting.Changes = refl
name_tested setting.Radius = refl
name_tested setting.Planner = refl
name_tested setting.Workers = refl
name_tested setting.First = refl
name_tested setting.Step = refl
name_tested setting.Bound = refl
name_tested setting.Budget = refl
name_tested setting.States = refl
name_tested setting.Labels = refl
name_tested setting.LabelsAs = refl
name_tested setting.Trace = refl
name_tested setting.Incumbent = refl
name_tested setting.Start = refl
name_tested setting.Goal = refl

-- a form that is fit is a part
is_part : (c : Command) (f : Form) → IsFit c f → IsPart (part_of f)
is_part c (Plain w) fit = inl (w, plain_is w fit, refl)
is_part c (Apart s v) fit =
    inr (name_of s, v, refl, no_equals (name_of s) (name_tested s), plain_is v fit.1, refl, refl, inl refl)
is_part c (Joined s v) fit =
    inr (name_of s, v, refl, no_equals (name_of s) (name_tested s), plain_is v fit.1, refl, refl, inr refl)

-- and forms that are fit are parts one by one
are_parts : (fs : List Form) (c : Command) → All (IsFit c) fs → AllByRecursion IsPart (map part_of fs)
are_parts [] c fit = tt
are_parts (f ∷ fs) c fit =
    (is_part c f (All-head (IsFit c) f fs fit), are_parts fs c (All-tail (IsFit c) f fs fit))

-- the words of forms are those of their parts
words_same : (fs : List Form) → flat_map form_words fs ≡ flat_map (λ (p : Part). p.words) (map part_of fs)
words_same [] = refl
words_same (f ∷ fs) = ap (λ (l : List Word). form_words f ++ l) (words_same fs)

-- so are their plain words
plain_same : (fs : List Form) → flat_map plain_of fs ≡ flat_map (λ (p : Part). p.plain) (map part_of fs)
plain_same [] = refl
plain_same (f ∷ fs) = ap (λ (l : List Word). plain_of f ++ l) (plain_same fs)

-- and the value of each setting, which has its name with two dashes
value_same : (fs : List Form) (s : Setting)
    → given.value_of s (flat_map given_of fs) ≡ value_of (name_of s) (map part_of fs)
value_same [] s = refl
value_same (Plain w ∷ fs) s = value_same fs s
value_same (Apart t v ∷ fs) s =
    elim (cases_Bool (bytes_eq (id_of t) (id_of s))) [
      | inl e ↦ rw e refl
      | inr e ↦ rw e (value_same fs s)
    ]
value_same (Joined t v ∷ fs) s =
    elim (cases_Bool (bytes_eq (id_of t) (id_of s))) [
      | inl e ↦ rw e refl
      | inr e ↦ rw e (value_same fs s)
    ]

-- ---- numbers

-- a radius that is read is the number that its text writes
radius_read : (read : Result ℤ NumFault) (r : ℕ) → radius_in read ≡ Some r → read ≡ Ok (pos r)
radius_read (Ok (pos n)) r h =
    ap (λ (k : ℕ). Ok (pos k)) (cond_some (nat_le n (10 ^ 12)) n r h).1
radius_read (Ok (negsuc n)) r h = absurd (none-some r h)
radius_read (Err fault) r h = absurd (none-some r h)

-- what stands for a radius
abbrev RadiusIs : Option Word → ℕ → Type 0
RadiusIs o r = MatchOption o (r ≡ 0) (λ v. IsNanos v (pos r))

-- the radius of a job is what its setting stands for, and 0 where none is set
radius_says : (o : Option Word) (r : ℕ) → radius_by o ≡ Some r → RadiusIs o r
radius_says None r h = sym (same_Some 0 r h)
radius_says (Some v) r h = nano_says v (pos r) (radius_read (nano_of v) r h)

-- thousandths that are read are the number of billionths that their text writes
milli_read : (low high : ℕ) (read : Result ℤ NumFault) (b : ℕ) → milli_in low high read ≡ Some b
    → read ≡ Ok (pos (b * 10 ^ 6))
milli_read low high (Ok (pos n)) b h =
    let range = nat_le low (n / 10 ^ 6) && nat_le (n / 10 ^ 6) high in
    let it = cond_some (nat_eq (n % 10 ^ 6) 0 && range) (n / 10 ^ 6) b h in
    let exact : n % 10 ^ 6 ≡ 0 = eqb-true (n % 10 ^ 6) 0 (and_parts (nat_eq (n % 10 ^ 6) 0) range it.0).0 in
    let whole : n / 10 ^ 6 ≡ b = it.1 in
    let number : n ≡ b * 10 ^ 6 = omega arith in
    ap (λ (k : ℕ). Ok (pos k)) number
milli_read low high (Ok (negsuc n)) b h = absurd (none-some b h)
milli_read low high (Err fault) b h = absurd (none-some b h)

-- what stands for a bound
abbrev BoundIs : Option Word → ℕ → Type 0
BoundIs o b = MatchOption o (b ≡ 1000) (λ v. IsNanos v (pos (b * 10 ^ 6)))

-- the bound of a job is what its setting stands for, and 1000 thousandths where none is set
bound_says : (o : Option Word) (b : ℕ) → milli_by 1000 1000 100000 o ≡ Some b → BoundIs o b
bound_says None b h = sym (same_Some 1000 b h)
bound_says (Some v) b h = nano_says v (pos (b * 10 ^ 6)) (milli_read 1000 100000 (nano_of v) b h)

-- a budget that is read is the number that its text writes
budget_read : (read : Result ℤ NumFault) (n : ℕ) → budget_in read ≡ Some n → read ≡ Ok (pos n)
budget_read (Ok (pos k)) n h =
    ap (λ (m : ℕ). Ok (pos m)) (cond_some (nat_le 1 k && nat_le k (2 ^ 30)) k n h).1
budget_read (Ok (negsuc k)) n h = absurd (none-some n h)
budget_read (Err fault) n h = absurd (none-some n h)

-- what stands for a budget
abbrev BudgetIs : Option Word → ℕ → Type 0
BudgetIs o n = MatchOption o (n ≡ 2 ^ 30) (λ v. IsNumber v (pos n))

-- the budget of a job is what its setting stands for, and 2 ^ 30 where none is set
budget_says : (o : Option Word) (n : ℕ) → budget_by o ≡ Some n → BudgetIs o n
budget_says None n h = sym (same_Some (2 ^ 30) n h)
budget_says (Some v) n h = whole_says v (pos n) (budget_read (whole_of v) n h)

-- ---- searches

-- the bound and the budget of a search are those that are set
record IsSearchBy (set : Settings) (s : SearchJob) : Type 0 where
  bound : milli_by 1000 1000 100000 (set setting.Bound) ≡ Some s.bound
  budget : budget_by (set setting.Budget) ≡ Some s.budget

-- a search of these numbers
abbrev search_of : Planner → (workers first step bound budget : ℕ) → SearchJob
search_of p w f d b n = record { planner = p; workers = w; first = f; step = d; bound = b; budget = n }

-- a search has each of its numbers
searched : (p : Planner) (workers first step bound budget : Option ℕ) (s : SearchJob)
    → option_and_then (λ w. option_and_then (λ f. option_and_then (λ d. option_and_then (λ b. option_and_then (λ n.
    Some (search_of p w f d b n)) budget) bound) step) first) workers ≡ Some s
    → (bound ≡ Some s.bound) × (budget ≡ Some s.budget)
searched p None first step bound budget s h = absurd (none-some s h)
searched p (Some w) None step bound budget s h = absurd (none-some s h)
searched p (Some w) (Some f) None bound budget s h = absurd (none-some s h)
searched p (Some w) (Some f) (Some d) None budget s h = absurd (none-some s h)
searched p (Some w) (Some f) (Some d) (Some b) None s h = absurd (none-some s h)
searched p (Some w) (Some f) (Some d) (Some b) (Some n) s h =
    let same : search_of p w f d b n ≡ s = same_Some (search_of p w f d b n) s h in
    (ap (λ (x : SearchJob). Some x.bound) same, ap (λ (x : SearchJob). Some x.budget) same)

-- whatever its planner, a search has the bound and the budget that are set
search_set : (set : Settings) (o : Option Planner) (s : SearchJob)
    → option_and_then (λ p. option_and_then (λ w. option_and_then (λ f. option_and_then (λ d. option_and_then (λ b.
    option_and_then (λ n. Some (search_of p w f d b n))
    (budget_by (set setting.Budget)))
    (milli_by 1000 1000 100000 (set setting.Bound)))
    (milli_by 500 1 99000 (set setting.Step)))
    (milli_by 1000 1000 100000 (set setting.First)))
    (workers_by p (set setting.Workers))) o ≡ Some s → IsSearchBy set s
search_set set None s h = absurd (none-some s h)
search_set set (Some p) s h =
    let it =
    searched p (workers_by p (set setting.Workers)) (milli_by 1000 1000 100000 (set setting.First))
    (milli_by 500 1 99000 (set setting.Step)) (milli_by 1000 1000 100000 (set setting.Bound))
    (budget_by (set setting.Budget)) s h in
    record { bound = it.0; budget = it.1 }

-- so it is with the search that settings name
search_by : (set : Settings) (s : SearchJob) → search_in set ≡ Some s → IsSearchBy set s
search_by set s h = search_set set (planner_by (set setting.Planner)) s h

-- a search on a grid is one
grid_stays : (o : Option SearchJob) (s : SearchJob)
    → option_and_then (λ t. if may_move t.planner then None else Some t) o ≡ Some s → o ≡ Some s
grid_stays None s h = absurd (none-some s h)
grid_stays (Some t) s h = either (may_move t.planner) h
  where
    either : (b : Bool) → (if b then None else Some t) ≡ Some s → ◌≡◌ {A = Option SearchJob} (Some t) (Some s)
    either true e = absurd (none-some s e)
    either false e = e

-- ---- what is asked

-- what a job's numbers ask
abbrev pub asked_by : (changes start goal : Option Word) → (radius : ℕ) → SearchJob → Asked
asked_by changes start goal radius search = record {
  changes = changes;
  start = start;
  goal = goal;
  radius = radius;
  bound = search.bound;
  budget = search.budget;
}

-- words with these parts ask what their settings say
asks : (c : Command) (rest : List Word) (p : WordParts) (radius : ℕ) (search : SearchJob) → ArePartsOf c rest p
    → RadiusIs (given.value_of setting.Radius p.given) radius
    → search_in (λ s. given.value_of s p.given) ≡ Some search
    → Ask rest p.plain (asked_by (given.value_of setting.Changes p.given) (given.value_of setting.Start p.given)
    (given.value_of setting.Goal p.given) radius search)
asks c rest p radius search it near h =
    let parts = map part_of it.forms in
    let same : (s : Setting) → given.value_of s p.given ≡ value_of (name_of s) parts =
    λ s. ap (given.value_of s) it.given ∙ value_same it.forms s in
    let set = search_by (λ s. given.value_of s p.given) search h in
    record {
      parts = parts;
      are_parts = are_parts it.forms c it.fit;
      spelled = it.spelled ∙ words_same it.forms;
      plain_words = it.plain ∙ plain_same it.forms;
      changes = same setting.Changes;
      start = same setting.Start;
      goal = same setting.Goal;
      radius = subst (λ (o : Option Word). RadiusIs o radius) (same setting.Radius) near;
      bound =
          subst (λ (o : Option Word). BoundIs o search.bound) (same setting.Bound)
          (bound_says (given.value_of setting.Bound p.given) search.bound set.bound);
      budget =
          subst (λ (o : Option Word). BudgetIs o search.budget) (same setting.Budget)
          (budget_says (given.value_of setting.Budget p.given) search.budget set.budget);
    }

-- ---- outputs

-- no output has the name of the standard output
pub record NoDashes (o : Outputs) : Type 0 where
  pub labels : (name : Word) → o.labels ≡ Some name → name ≢ codes "-"
  pub trace : (name : Word) → o.trace ≡ Some name → name ≢ codes "-"
  pub incumbent : (name : Word) → o.incumbent ≡ Some name → name ≢ codes "-"

-- the outputs are those that are set
record AreSet (files : List Word) (changes : Option Word) (set : Settings) (o : Outputs) : Type 0 where
  labels : output_by files changes (set setting.Labels) ≡ Some o.labels
  trace : output_by files changes (set setting.Trace) ≡ Some o.trace
  incumbent : output_by files changes (set setting.Incumbent) ≡ Some o.incumbent

-- outputs that differ are these three
made_so : (l t i : Option Word) (f : LabelForm) (o : Outputs) → outputs_by l f t i ≡ Some o
    → (l ≡ o.labels) × (t ≡ o.trace) × (i ≡ o.incumbent)
made_so l t i f o h =
    let made : Outputs = record { labels = l; form = f; trace = t; incumbent = i } in
    let it = cond_some (differ l t && (differ l i && differ t i)) made o h in
    (ap (λ (x : Outputs). x.labels) it.1, ap (λ (x : Outputs). x.trace) it.1, ap (λ (x : Outputs). x.incumbent) it.1)

-- the outputs are the labels, the trace and the newest path that were found, whatever the form of the labels
outputs_made : (l : Option Word) (form : Option LabelForm) (trace incumbent : Option (Option Word)) (o : Outputs)
    → option_and_then (λ f. option_and_then (λ t. option_and_then (outputs_by l f t) incumbent) trace) form ≡ Some o
    → (l ≡ o.labels) × (trace ≡ Some o.trace) × (incumbent ≡ Some o.incumbent)
outputs_made l None trace incumbent o h = absurd (none-some o h)
outputs_made l (Some f) None incumbent o h = absurd (none-some o h)
outputs_made l (Some f) (Some t) None o h = absurd (none-some o h)
outputs_made l (Some f) (Some t) (Some i) o h =
    let it = made_so l t i f o h in
    (it.0, ap (λ (x : Option Word). Some x) it.1, ap (λ (x : Option Word). Some x) it.2)

-- so it is with the labels that were found too
outputs_set : (files : List Word) (changes : Option Word) (set : Settings) (labels : Option (Option Word)) (o : Outputs)
    → option_and_then (λ l. option_and_then (λ f. option_and_then (λ t. option_and_then (outputs_by l f t)
    (output_by files changes (set setting.Incumbent)))
    (output_by files changes (set setting.Trace)))
    (form_by l (set setting.LabelsAs))) labels ≡ Some o
    → (labels ≡ Some o.labels) × (output_by files changes (set setting.Trace) ≡ Some o.trace)
    × (output_by files changes (set setting.Incumbent) ≡ Some o.incumbent)
outputs_set files changes set None o h = absurd (none-some o h)
outputs_set files changes set (Some l) o h =
    let it =
    outputs_made l (form_by l (set setting.LabelsAs)) (output_by files changes (set setting.Trace))
    (output_by files changes (set setting.Incumbent)) o h in
    (ap (λ (x : Option Word). Some x) it.0, it.1, it.2)

-- the outputs that settings name are those that are set
are_set : (files : List Word) (changes : Option Word) (set : Settings) (o : Outputs)
    → outputs_in files changes set ≡ Some o → AreSet files changes set o
are_set files changes set o h =
    let it = outputs_set files changes set (output_by files changes (set setting.Labels)) o h in
    record { labels = it.0; trace = it.1; incumbent = it.2 }

-- an output that has a name has it from its setting
output_named : (files : List Word) (changes set : Option Word) (name : Word)
    → output_by files changes set ≡ Some (Some name) → set ≡ Some name
output_named files changes None name h = absurd (none-some name (same_Some None (Some name) h))
output_named files changes (Some x) name h = either (is_input files changes x) h
  where
    either : (b : Bool) → (if b then None else Some (Some x)) ≡ Some (Some name)
        → ◌≡◌ {A = Option Word} (Some x) (Some name)
    either true e = absurd (none-some (Some name) e)
    either false e = same_Some (Some x) (Some name) e

-- a value is a plain word where that of the first setting and those of the later ones are
value_at : (t s : Setting) (w v : Word) (more : Option Word) → is_plain_word w ≡ true
    → (more ≡ Some v → is_plain_word v ≡ true) → (if is_setting t s then Some w else more) ≡ Some v
    → is_plain_word v ≡ true
value_at t s w v more plain later h = either (is_setting t s) h
  where
    either : (b : Bool) → (if b then Some w else more) ≡ Some v → is_plain_word v ≡ true
    either true e = ap is_plain_word (sym (same_Some w v e)) ∙ plain
    either false e = later e

-- the value of a setting is a plain word where the forms are fit
value_plain : (fs : List Form) (c : Command) (s : Setting) (v : Word) → All (IsFit c) fs
    → given.value_of s (flat_map given_of fs) ≡ Some v → is_plain_word v ≡ true
value_plain [] c s v fit h = absurd (none-some v h)
value_plain (Plain w ∷ fs) c s v fit h = value_plain fs c s v (All-tail (IsFit c) (Plain w) fs fit) h
value_plain (Apart t w ∷ fs) c s v fit h =
    let here : IsFit c (Apart t w) = All-head (IsFit c) (Apart t w) fs fit in
    value_at t s w v (given.value_of s (flat_map given_of fs)) here.1
    (value_plain fs c s v (All-tail (IsFit c) (Apart t w) fs fit)) h
value_plain (Joined t w ∷ fs) c s v fit h =
    let here : IsFit c (Joined t w) = All-head (IsFit c) (Joined t w) fs fit in
    value_at t s w v (given.value_of s (flat_map given_of fs)) here.1
    (value_plain fs c s v (All-tail (IsFit c) (Joined t w) fs fit)) h

-- a plain word is no dash
no_dash : (w : Word) → is_plain_word w ≡ true → w ≢ codes "-"
no_dash w plain e = true≢false (sym plain ∙ ap is_plain_word e)

-- the outputs that settings name are none of them the standard output
no_dashes : (c : Command) (rest : List Word) (p : WordParts) (files : List Word) (changes : Option Word) (o : Outputs)
    → ArePartsOf c rest p → outputs_in files changes (λ s. given.value_of s p.given) ≡ Some o → NoDashes o
no_dashes c rest p files changes o it h =
    let set : Settings = λ s. given.value_of s p.given in
    let outputs = are_set files changes set o h in
    let apart : (s : Setting) (named : Option Word) → output_by files changes (set s) ≡ Some named
    → (name : Word) → named ≡ Some name → name ≢ codes "-" =
    λ s named found name e. no_dash name (value_plain it.forms c s name it.fit (ap (given.value_of s) (sym it.given)
    ∙ output_named files changes (set s) name (found ∙ ap (λ (x : Option Word). Some x) e))) in
    record {
      labels = apart setting.Labels o.labels outputs.labels;
      trace = apart setting.Trace o.trace outputs.trace;
      incumbent = apart setting.Incumbent o.incumbent outputs.incumbent;
    }

-- ---- parts that name a job

-- words that name a job have parts, which name it
parted : (c : Command) (o : Option WordParts) (j : Job) → option_and_then (job_by c) o ≡ Some j
    → (q : WordParts) × (o ≡ Some q) × (job_by c q ≡ Some j)
parted c None j h = absurd (none-some j h)
parted c (Some q) j h = (q, refl, h)

-- `plan` takes two plain words
two_words : (plain : List Word) (set : Settings) (j : Job) → job_with command.Plan plain set ≡ Some j
    → (env : Word) × (prims : Word) × (plain ≡ env ∷ prims ∷ []) × (plan_in env prims set ≡ Some j)
two_words [] set j h = absurd (none-some j h)
two_words (env ∷ []) set j h = absurd (none-some j h)
two_words (env ∷ prims ∷ []) set j h = (env, prims, refl, h)
two_words (env ∷ prims ∷ more ∷ rest) set j h = absurd (none-some j h)

-- `nav` takes one
one_word : (plain : List Word) (set : Settings) (j : Job) → job_with command.Nav plain set ≡ Some j
    → (env : Word) × (plain ≡ env ∷ []) × (nav_in env set ≡ Some j)
one_word [] set j h = absurd (none-some j h)
one_word (env ∷ []) set j h = (env, refl, h)
one_word (env ∷ more ∷ rest) set j h = absurd (none-some j h)

-- the job has these outputs and this search
plan_of : (from : Sources) (changes : Option Word) (outputs : Option Outputs) (search : Option SearchJob) (j : Job)
    → option_and_then (λ o. option_map (plan_by from changes o) search) outputs ≡ Some j
    → (o : Outputs) × (s : SearchJob) × (outputs ≡ Some o) × (search ≡ Some s) × (plan_by from changes o s ≡ j)
plan_of from changes None search j h = absurd (none-some j h)
plan_of from changes (Some o) None j h = absurd (none-some j h)
plan_of from changes (Some o) (Some s) j h = (o, s, refl, refl, same_Some (plan_by from changes o s) j h)

-- so it is on a grid
nav_of : (from : GridSources) (changes : Option Word) (outputs : Option Outputs) (search : Option SearchJob) (j : Job)
    → option_and_then (λ o. option_map (nav_by from changes o) search) outputs ≡ Some j
    → (o : Outputs) × (s : SearchJob) × (outputs ≡ Some o) × (search ≡ Some s) × (nav_by from changes o s ≡ j)
nav_of from changes None search j h = absurd (none-some j h)
nav_of from changes (Some o) None j h = absurd (none-some j h)
nav_of from changes (Some o) (Some s) j h = (o, s, refl, refl, same_Some (nav_by from changes o s) j h)

-- a plan on a lattice: its files, its limit of states, its radius, its changes, its search and its outputs
record IsPlanBy (env prims : Word) (set : Settings) (j : Job) : Type 0 where
  states : ℕ
  radius : ℕ
  radius_is : radius_by (set setting.Radius) ≡ Some radius
  start : Option Pose
  start_is : pose_by (set setting.Start) ≡ Some start
  goal : Option Pose
  goal_is : pose_by (set setting.Goal) ≡ Some goal
  outputs : Outputs
  outputs_are : outputs_in (env ∷ prims ∷ []) (set setting.Changes) set ≡ Some outputs
  search : SearchJob
  search_is : search_in set ≡ Some search
  same :
      plan_by (record { env = env; prims = prims; states = states; radius = radius; start = start; goal = goal })
      (set setting.Changes) outputs search ≡ j

-- a job `plan` whose limit and radius are known has these parts
plan_with : (env prims : Word) (set : Settings) (states radius : Option ℕ) (start goal : Option (Option Pose)) (j : Job)
    → radius_by (set setting.Radius) ≡ radius → pose_by (set setting.Start) ≡ start
    → pose_by (set setting.Goal) ≡ goal
    → option_and_then (λ from. option_and_then (λ o. option_map (plan_by from (set setting.Changes) o) (search_in set))
    (outputs_in (from.env ∷ (from.prims ∷ [])) (set setting.Changes) set))
    (sources_by env prims states radius start goal) ≡ Some j
    → IsPlanBy env prims set j
plan_with env prims set None radius start goal j e e' e'' h = absurd (none-some j h)
plan_with env prims set (Some n) None start goal j e e' e'' h = absurd (none-some j h)
plan_with env prims set (Some n) (Some r) None goal j e e' e'' h = absurd (none-some j h)
plan_with env prims set (Some n) (Some r) (Some s) None j e e' e'' h = absurd (none-some j h)
plan_with env prims set (Some n) (Some r) (Some s) (Some g) j e e' e'' h =
    let from : Sources = record { env = env; prims = prims; states = n; radius = r; start = s; goal = g } in
    let it =
    plan_of from (set setting.Changes) (outputs_in (env ∷ prims ∷ []) (set setting.Changes) set) (search_in set) j h in
    record {
      states = n;
      radius = r;
      radius_is = e;
      start = s;
      start_is = e';
      goal = g;
      goal_is = e'';
      outputs = it.0;
      outputs_are = it.2;
      search = it.1;
      search_is = it.3;
      same = it.4;
    }

-- a job `plan` has these parts
plan_is : (env prims : Word) (set : Settings) (j : Job) → plan_in env prims set ≡ Some j → IsPlanBy env prims set j
plan_is env prims set j h =
    plan_with env prims set (states_by (set setting.States)) (radius_by (set setting.Radius))
    (pose_by (set setting.Start)) (pose_by (set setting.Goal)) j refl refl refl h

-- a job `nav` has these sources, and the rest of it is what its settings say
nav_with : (env : Word) (set : Settings) (states : ℕ) (start goal : Option (Option Square)) (j : Job)
    → option_and_then (λ from. option_and_then (λ o. option_map (nav_by from (set setting.Changes) o) (grid_search_in set))
    (outputs_in (from.env ∷ []) (set setting.Changes) set)) (grid_sources_by env states start goal) ≡ Some j
    → (s : Option Square) × (g : Option Square) × (start ≡ Some s) × (goal ≡ Some g)
    × (option_and_then (λ o. option_map (nav_by (record { env = env; states = states; start = s; goal = g })
    (set setting.Changes) o) (grid_search_in set)) (outputs_in (env ∷ []) (set setting.Changes) set) ≡ Some j)
nav_with env set states None goal j h = absurd (none-some j h)
nav_with env set states (Some s) None j h = absurd (none-some j h)
nav_with env set states (Some s) (Some g) j h = (s, g, refl, refl, h)

-- it has a limit of states
nav_limit : (env : Word) (set : Settings) (states : Option ℕ) (j : Job)
    → option_and_then (λ from. option_and_then (λ o. option_map (nav_by from (set setting.Changes) o) (grid_search_in set))
    (outputs_in (from.env ∷ []) (set setting.Changes) set)) (option_and_then (λ n.
    grid_sources_by env n (square_by n (set setting.Start)) (square_by n (set setting.Goal))) states) ≡ Some j
    → (n : ℕ) × (option_and_then (λ from. option_and_then (λ o. option_map (nav_by from (set setting.Changes) o)
    (grid_search_in set)) (outputs_in (from.env ∷ []) (set setting.Changes) set))
    (grid_sources_by env n (square_by n (set setting.Start)) (square_by n (set setting.Goal))) ≡ Some j)
nav_limit env set None j h = absurd (none-some j h)
nav_limit env set (Some n) j h = (n, h)

-- ---- both commands

-- the words after `plan` ask what the job has in it, and no output is the standard output
pub plan_asked : PartsAreOfForms → (rest : List Word) (j : Job) → job_of (codes "plan" ∷ rest) ≡ Some j
    → (p : PlanJob) × (start : Option Word) × (goal : Option Word) × (j ≡ job.Plan p)
    × (pose_by start ≡ Some p.sources.start) × (pose_by goal ≡ Some p.sources.goal)
    × Ask rest (p.sources.env ∷ p.sources.prims ∷ []) (asked_by p.changes start goal p.sources.radius p.search)
    × NoDashes p.outputs
plan_asked law rest j h =
    let found = parted command.Plan (parts_of command.Plan rest) j h in
    let q = found.0 in
    let it : ArePartsOf command.Plan rest q = (law command.Plan rest q).0 found.1 in
    let set : Settings = λ s. given.value_of s q.given in
    let named = two_words q.plain set j found.2 in
    let env = named.0 in
    let prims = named.1 in
    let by = plan_is env prims set j named.3 in
    let p : PlanJob = record {
      sources =
          record {
            env = env;
            prims = prims;
            states = by.states;
            radius = by.radius;
            start = by.start;
            goal = by.goal;
          };
      changes = set setting.Changes;
      search = by.search;
      outputs = by.outputs;
    } in
    let asked = asked_by (set setting.Changes) (set setting.Start) (set setting.Goal) by.radius by.search in
    let ask : Ask rest q.plain asked =
    asks command.Plan rest q by.radius by.search it (radius_says (set setting.Radius) by.radius by.radius_is)
    by.search_is in (
      p,
      set setting.Start,
      set setting.Goal,
      sym by.same,
      by.start_is,
      by.goal_is,
      subst (λ (plain : List Word). Ask rest plain asked) named.2 ask,
      no_dashes command.Plan rest q (env ∷ prims ∷ []) (set setting.Changes) by.outputs it by.outputs_are,
    )

-- a setting that `nav` takes is no radius
no_radius_at : (t : Setting) (w : Word) (more : Option Word) → takes command.Nav t ≡ true → more ≡ None
    → (if is_setting t setting.Radius then Some w else more) ≡ None
no_radius_at t w more fit none =
    ap (λ b. if b then Some w else more) (not-true (is_setting t setting.Radius) fit) ∙ none

-- so no radius stands in its settings
no_radius : (fs : List Form) → All (IsFit command.Nav) fs
    → given.value_of setting.Radius (flat_map given_of fs) ≡ None
no_radius [] fit = refl
no_radius (Plain w ∷ fs) fit = no_radius fs (All-tail (IsFit command.Nav) (Plain w) fs fit)
no_radius (Apart t w ∷ fs) fit =
    let here : IsFit command.Nav (Apart t w) = All-head (IsFit command.Nav) (Apart t w) fs fit in
    no_radius_at t w (given.value_of setting.Radius (flat_map given_of fs)) here.0
    (no_radius fs (All-tail (IsFit command.Nav) (Apart t w) fs fit))
no_radius (Joined t w ∷ fs) fit =
    let here : IsFit command.Nav (Joined t w) = All-head (IsFit command.Nav) (Joined t w) fs fit in
    no_radius_at t w (given.value_of setting.Radius (flat_map given_of fs)) here.0
    (no_radius fs (All-tail (IsFit command.Nav) (Joined t w) fs fit))

-- the words after `nav` ask what the job has in it, with no radius, and no output is the standard output
pub nav_asked : PartsAreOfForms → (rest : List Word) (j : Job) → job_of (codes "nav" ∷ rest) ≡ Some j
    → (n : NavJob) × (start : Option Word) × (goal : Option Word) × (j ≡ job.Nav n)
    × (square_by n.sources.states start ≡ Some n.sources.start) × (square_by n.sources.states goal ≡ Some n.sources.goal)
    × Ask rest (n.sources.env ∷ []) (asked_by n.changes start goal 0 n.search) × NoDashes n.outputs
nav_asked law rest j h =
    let found = parted command.Nav (parts_of command.Nav rest) j h in
    let q = found.0 in
    let it : ArePartsOf command.Nav rest q = (law command.Nav rest q).0 found.1 in
    let set : Settings = λ s. given.value_of s q.given in
    let named = one_word q.plain set j found.2 in
    let env = named.0 in
    let limit = nav_limit env set (states_by (set setting.States)) j named.2 in
    let states = limit.0 in
    let ends =
    nav_with env set states (square_by states (set setting.Start)) (square_by states (set setting.Goal)) j limit.1 in
    let from : GridSources = record { env = env; states = states; start = ends.0; goal = ends.1 } in
    let by =
    nav_of from (set setting.Changes) (outputs_in (env ∷ []) (set setting.Changes) set) (grid_search_in set) j ends.4 in
    let outputs = by.0 in
    let search = by.1 in
    let n : NavJob =
    record { sources = from; changes = set setting.Changes; search = search; outputs = outputs } in
    let asked = asked_by (set setting.Changes) (set setting.Start) (set setting.Goal) 0 search in
    let none : set setting.Radius ≡ None = ap (given.value_of setting.Radius) it.given ∙ no_radius it.forms it.fit in
    let near : RadiusIs (set setting.Radius) 0 = subst (λ (o : Option Word). RadiusIs o 0) (sym none) refl in
    let ask : Ask rest q.plain asked =
    asks command.Nav rest q 0 search it near (grid_stays (search_in set) search by.3) in (
      n,
      set setting.Start,
      set setting.Goal,
      sym by.4,
      ends.2,
      ends.3,
      subst (λ (plain : List Word). Ask rest plain asked) named.1 ask,
      no_dashes command.Nav rest q (env ∷ []) (set setting.Changes) outputs it by.2,
    )
