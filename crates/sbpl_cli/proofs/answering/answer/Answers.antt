use Rattle.std.proofs.Common.{◌≡◌, ℕ, List, [], map, string_bytes, None, Option, Some, IsSome, true, false, rules, inl, inr, refl, sym, ◌∙◌, subst}
use Rattle.std.proofs.lemmas.Bool.{false≢true}
use Rattle.sbpl_jobs.specs.sbpl_promises.Explained.{Explains, IsTold, IsToldDone, IsToldOf, by_job, has_message, nothing, of_done}
use Rattle.sbpl_jobs.specs.sbpl_promises.Explained.{of_flaw, of_labels, of_refusal, of_words, of_write, out_of_memory, unwritten}
use Rattle.sbpl_jobs.specs.sbpl_job.declared.job.Job.TheVariants as job
use Rattle.sbpl_jobs.specs.sbpl_promises.Published.{Entry}
use Rattle.sbpl_jobs.specs.sbpl_promises.Run.{IsOrUnwritten, IsStatus, Job, job_named, refusal_status}
use Rattle.sbpl_jobs.specs.sbpl_promises.Writing.{DeskState, Told}
use Rattle.sbpl_jobs.specs.sbpl_report.Refusals.{input_name}
use Rattle.sbpl_jobs.specs.sbpl_report.declared.refusal.Input.{Input}
use Rattle.sbpl_jobs.specs.sbpl_report.declared.refusal.Refusal.{Refusal}
use Rattle.sbpl_jobs.specs.sbpl_report.declared.refusal.Refusal.TheVariants as refusal
use Rattle.sbpl_jobs.specs.sbpl_job.declared.help.Asked.{Asked}
use Rattle.sbpl_cli.proofs.answering.answer.Goals as goal

-- words that ask for something do not ask for nothing
not_asked : (asked : Option Asked) (x : Asked) → asked ≡ Some x → asked ≡ None → ⊥
not_asked asked x is none = let both : Some x ≡ None = sym is ∙ none in cc

none_asked : (asked : Option Asked) → asked ≡ None → IsSome asked → ⊥
none_asked None is some = false≢true some
none_asked (Some x) is some = not_asked (Some x) x refl is

-- 0, 7 and 9 are statuses
told_status : (status : ℕ) → IsOrUnwritten 0 status → IsStatus status
told_status status (inl is) = rw is refl
told_status status (inr (inl is)) = rw is refl
told_status status (inr (inr is)) = rw is refl

-- a status with a message is not one without
not_quiet : (named : Option Job) (n status : ℕ) → n ≡ status → has_message named n ≡ true → has_message named status ≡ false
    → ⊥
not_quiet named n status is has quiet =
    let none : has_message named n ≡ false = subst (λ (k : ℕ). has_message named k ≡ false) (sym is) quiet in
    false≢true (sym none ∙ has)

-- of a refusal whose status has no message nothing is told
refusal_quiet : (named : Option Job) (held : Told) (names : Input → List ℕ) (m : List ℕ) (status : ℕ) (r : Refusal)
    → refusal_status r ≡ status → Explains held names r m → has_message named status ≡ false → m ≡ []
refusal_quiet named held names m status (refusal.Length i) is none quiet = none
refusal_quiet named held names m status (refusal.Environment f) is on quiet = absurd (not_quiet named 3 status is refl quiet)
refusal_quiet named held names m status (refusal.Grid f) is on quiet = absurd (not_quiet named 3 status is refl quiet)
refusal_quiet named held names m status (refusal.OffMap end) is on quiet = absurd (not_quiet named 2 status is refl quiet)
refusal_quiet named held names m status (refusal.Primitives f) is on quiet = absurd (not_quiet named 4 status is refl quiet)
refusal_quiet named held names m status (refusal.TooWide i) is on quiet = absurd (not_quiet named 4 status is refl quiet)
refusal_quiet named held names m status (refusal.TooDear i) is on quiet = absurd (not_quiet named 4 status is refl quiet)
refusal_quiet named held names m status (refusal.Changes f) is on quiet = absurd (not_quiet named 5 status is refl quiet)
refusal_quiet named held names m status (refusal.Read i) is on quiet = absurd (not_quiet named 6 status is refl quiet)

-- a job that makes plans may tell something with status 0
done_quiet : (s u : DeskState) (old : List Entry) (j : Job) (status : ℕ) (m : List ℕ) → status ≡ 0 → IsToldDone s u old j m
    → has_message (Some j) status ≡ false → m ≡ []
done_quiet s u old (job.Plan j) status m is told quiet = absurd (not_quiet (Some (job.Plan j)) 0 status (sym is) refl quiet)
done_quiet s u old (job.Nav j) status m is told quiet = absurd (not_quiet (Some (job.Nav j)) 0 status (sym is) refl quiet)
done_quiet s u old (job.Check j) status m is told quiet = told
done_quiet s u old (job.NavCheck j) status m is told quiet = told
done_quiet s u old (job.Sweep j) status m is told quiet = told
done_quiet s u old (job.Demo j) status m is told quiet = told

-- so it is of a job, and of a run
job_quiet : {s u : DeskState} {old : List Entry} {j : Job} {status : ℕ} {m : List ℕ} → IsToldOf s u old j status m
    → has_message (Some j) status ≡ false → m ≡ []
job_quiet {s} {j = j} {status = status} {m = m} (of_refusal x explains) quiet =
    refusal_quiet (Some j) s.held (input_name j) m status x.refusal x.has_status explains quiet
job_quiet {s} {u} {old} {j} {status} {m} (of_done is told) quiet = done_quiet s u old j status m is told quiet
job_quiet {j = j} {status = status} (of_flaw is told) quiet = absurd (not_quiet (Some j) 1 status (sym is) refl quiet)
job_quiet {j = j} {status = status} (of_labels is told) quiet = absurd (not_quiet (Some j) 10 status (sym is) refl quiet)
job_quiet {j = j} {status = status} (of_write is told) quiet = absurd (not_quiet (Some j) 7 status (sym is) refl quiet)
job_quiet (nothing is none) quiet = none

quiet_by : {named : Option Job} {s u : DeskState} {old : List Entry} {status : ℕ} {m : List ℕ} → IsTold named s u old status m
    → has_message named status ≡ false → m ≡ []
quiet_by {status = status} (by_job (j, is, told)) quiet =
    job_quiet told (subst (λ (n : Option Job). has_message n status ≡ false) is quiet)
quiet_by {named = named} {status = status} (of_words none is plain) quiet = absurd (not_quiet named 2 status (sym is) refl quiet)
quiet_by {named = named} {status = status} (unwritten is told) quiet = absurd (not_quiet named 7 status (sym is) refl quiet)
quiet_by (out_of_memory is none) quiet = none

pub returns-in-Some-clause-answered : goal.returns-in-Some-clause-answered
returns-in-Some-clause-answered g c = record {
  asked = λ _. rw c.number.ensures.number c.tell.ensures.told;
  unwritten = λ _. rw c.number.ensures.number c.tell.ensures.write;
  run = λ none. absurd (not_asked _ _ c.in-Some.is (c.read_asked.ensures.asked ∙ none));
  headline = λ none. absurd (not_asked _ _ c.in-Some.is (c.read_asked.ensures.asked ∙ none));
  statuses = rw c.number.ensures.number (told_status _ c.tell.ensures.told);
  unpublished = λ _. refl;
  frame = rw c.in-Some.ensures.no_job c.tell.ensures.frame;
}

pub returns-in-Some-clause-same : goal.returns-in-Some-clause-same
returns-in-Some-clause-same g c = (refl, refl)

pub returns-in-Some-clause-quiet : goal.returns-in-Some-clause-quiet
returns-in-Some-clause-quiet g c = search rules

pub returns-in-None-clause-answered : goal.returns-in-None-clause-answered
returns-in-None-clause-answered g c =
    let s = g.D.Desk.state c.args.desk.now in
    let asks = none_asked _ (sym c.read_asked.ensures.asked ∙ c.in-None.is) in
    let kept = c.runs_keep_promises.ensures.law (job_named c.args.words.now) s _ _ _ _ c.run_words-ending.ensures.ends.ends in
    rw c.number-in-None.ensures.number (record {
      asked = λ some. absurd (asks some);
      unwritten = λ some. absurd (asks some);
      run = λ _. kept;
      headline = λ _. c.promises_show_the_headline.ensures.law (map string_bytes c.args.words.now) s _ _ _ _ kept;
      statuses = kept.statuses;
      unpublished = λ some. absurd (asks some);
      frame = c.run_words-ending.ensures.frame;
    })

pub returns-in-None-clause-same : goal.returns-in-None-clause-same
returns-in-None-clause-same g c = c.run_words-ending.ensures.same

pub returns-in-None-clause-quiet : goal.returns-in-None-clause-quiet
returns-in-None-clause-quiet g c = λ none.
    c.explain.ensures.quiet
    (quiet_by c.run_words-ending.ensures.ends.told (rw c.number-in-None.ensures.number at none))

pub run_words-ending-requires-clause-few : goal.run_words-ending-requires-clause-few
run_words-ending-requires-clause-few g c = search rules
