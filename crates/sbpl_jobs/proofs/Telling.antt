-- What is told of a job, from how it ends.
use Rattle.std.proofs.Common.{◌≡◌, ℕ, ◌==◌, if◌then◌else◌, List, [], Bool, true, false, Option, Some, None}
use Rattle.std.proofs.Common.{Result, Ok, Err, IfOk, inl, inr, refl, sym, ◌∙◌, ap, subst}
use Rattle.sbpl_checks.specs.sbpl_job.declared.job.Job.{Job}
use Rattle.sbpl_checks.specs.sbpl_lists.Messages.{IsMessageAt, IsPlainMessage}
use Rattle.sbpl_checks.specs.sbpl_job.declared.job.Outputs.{Outputs}
use Rattle.sbpl_checks.specs.sbpl_job.declared.job.SearchJob.{SearchJob}
use Rattle.sbpl_checks.specs.sbpl_report.declared.record.PlanRecord.{PlanRecord}
use Rattle.sbpl_checks.specs.sbpl_promises.Blocked.{blocked_lines}
use Rattle.sbpl_checks.specs.sbpl_promises.Causes.{ArePlanned, CausesStand, IsFailedOn, IsJobCause}
use Rattle.sbpl_checks.specs.sbpl_promises.Explained.{Explains, IsBlockExplained, IsFaultExplained, IsFlawExplained, IsLabelFaultExplained, IsTold, IsToldDone}
use Rattle.sbpl_checks.specs.sbpl_promises.Explained.{IsToldOf, nothing, of_done, of_flaw, of_labels, of_refusal, of_words, of_write}
use Rattle.sbpl_checks.specs.sbpl_promises.Explained.{out_of_memory}
use Rattle.sbpl_checks.specs.sbpl_promises.Explained.{program, unwritten, unwritten_text}
use Rattle.sbpl_checks.specs.sbpl_promises.Intents.{checked_status, checked_writes, plans_status, plans_writes, refusal_writes}
use Rattle.sbpl_checks.specs.sbpl_promises.Intents.{words_writes}
use Rattle.sbpl_checks.specs.sbpl_promises.Promises.{EndsJob, IsChecked, IsOrUnwritten, by_words}
use Rattle.sbpl_checks.specs.sbpl_promises.Published.{Entry}
use Rattle.sbpl_checks.specs.sbpl_promises.WorldFiles.{WorldFiles}
use Rattle.sbpl_checks.specs.sbpl_promises.Writing.{AreAppended, DeskState, EndsAs, IsOutput, ReadFailed, ReadsOnly, Write, WritesOnly}
use Rattle.sbpl_checks.specs.sbpl_promises.declared.section_stop.SectionStop.{SectionStop}
use Rattle.sbpl_checks.specs.sbpl_promises.declared.section_stop.SectionStop.TheVariants as section
use Rattle.sbpl_checks.specs.sbpl_cert.Faults.{place_of}
use Rattle.sbpl_checks.specs.sbpl_cert.declared.outcome.Outcome.{Outcome}
use Rattle.sbpl_checks.specs.sbpl_report.Refusals.{input_name, refusal_status}
use Rattle.sbpl_checks.specs.sbpl_report.Statuses.{number_of}
use Rattle.sbpl_checks.specs.sbpl_report.declared.refusal.Refusal.{Refusal}
use Rattle.sbpl_checks.specs.sbpl_report.declared.refusal.Refusal.TheVariants as refusal
use Rattle.sbpl_checks.specs.sbpl_report.declared.refusal.JobStop.{JobStop}
use Rattle.sbpl_checks.specs.sbpl_telling.Endings.{EndsTelling, as_wanted, cut, message_of, ran_out}
use Rattle.sbpl_checks.specs.sbpl_telling.declared.ending.Ending.{Ending}
use Rattle.sbpl_checks.specs.Checking.{IsStopTold}
use Rattle.sbpl_checks.specs.declared.label_file.LabelFile.{LabelFile}
use Rattle.sbpl_checks.proofs.Endings.{ends_as}
use Rattle.sbpl_checks.proofs.Writings.{made_both, none_made}
use Rattle.sbpl_jobs.specs.Endings.{IsJobEnding, IsRunEnding}
use Rattle.sbpl_jobs.proofs.Ends.{failed_later, refused}

-- the message, where the status is known
pub message_at : (e : Ending) (n : ℕ) → number_of e.status ≡ n
    → message_of e ≡ (if n == 7 then unwritten_text else e.why)
message_at e n is = ap (λ (k : ℕ). if k == 7 then unwritten_text else e.why) is

-- a job that is not refused, without a fault in labels, of which this is told where it is done
pub plain_told : (s u : DeskState) (old : List Entry) (j : Job) (why : List ℕ) (e : Ending)
    → e.why ≡ (if number_of e.status == 0 then why else [])
    → (number_of e.status ≡ 0 → message_of e ≡ why → IsToldDone s u old j (message_of e)) → IsOrUnwritten 0 (number_of e.status)
    → IsToldOf s u old j (number_of e.status) (message_of e)
plain_told s u old j why e told done (inl is) =
    of_done is (done is (message_at e 0 is ∙ told ∙ ap (λ (n : ℕ). if n == 0 then why else []) is))
plain_told s u old j why e told done (inr (inl is)) = of_write is (message_at e 7 is)
plain_told s u old j why e told done (inr (inr is)) =
    nothing is (message_at e 9 is ∙ told ∙ ap (λ (n : ℕ). if n == 0 then why else []) is)

-- the same, where nothing is told
none_told : (s u : DeskState) (old : List Entry) (j : Job) (e : Ending) → e.why ≡ []
    → (message_of e ≡ [] → IsToldDone s u old j (message_of e))
    → IsOrUnwritten 0 (number_of e.status) → IsToldOf s u old j (number_of e.status) (message_of e)
none_told s u old j e none done = plain_told s u old j [] e (none ∙ either [] (number_of e.status == 0)) (λ is says. done says)
  where
    either : (m : List ℕ) (b : Bool) → m ≡ (if b then m else m)
    either m true = refl
    either m false = refl

-- plans that were made, all or some, and what else is done whole
pub plans_end : {a b : DeskState} {writes : List Write} (all : Bool) (status : ℕ)
    → EndsAs a b writes (plans_status all) status → IsOrUnwritten 0 status
plans_end true status (inl (is, made)) = inl is
plans_end false status (inl (is, made)) = inr (inr is)
plans_end all status (inr (inl (is, at))) = inr (inl is)
plans_end all status (inr (inr (is, at))) = inr (inr is)

-- so such a job ends, of which no more is told than its status says
pub plain_ending : (s u : DeskState) (old new : List Entry) (j : Job) (status : ℕ) (e : Ending)
    → number_of e.status ≡ status → e.why ≡ [] → (message_of e ≡ [] → IsToldDone s u old j (message_of e))
    → IsOrUnwritten 0 status → EndsJob s u old new j status → IsJobEnding s u old new j e
plain_ending s u old new j status e is none done fine ends = record {
  ends = subst (λ (n : ℕ). EndsJob s u old new j n) (sym is) ends;
  told = none_told s u old j e none done (subst (λ (n : ℕ). IsOrUnwritten 0 n) (sym is) fine);
}

-- or of which this is told where it is done
pub planning_ending : (s u : DeskState) (old new : List Entry) (j : Job) (why : List ℕ) (e : Ending)
    → e.why ≡ (if number_of e.status == 0 then why else [])
    → (number_of e.status ≡ 0 → message_of e ≡ why → IsToldDone s u old j (message_of e))
    → IsOrUnwritten 0 (number_of e.status) → EndsJob s u old new j (number_of e.status) → IsJobEnding s u old new j e
planning_ending s u old new j why e told done fine ends =
    record { ends = ends; told = plain_told s u old j why e told done fine }

-- with status 0 all plans were made and written
all_written : {a b : DeskState} {writes : List Write} (all : Bool) (status : ℕ) → status ≡ 0
    → EndsAs a b writes (plans_status all) status → (all ≡ true) × AreAppended a b writes
all_written true status zero (inl (is, made)) = (refl, made)
all_written false status zero (inl (is, made)) = absurd (let both : 9 ≡ 0 = sym is ∙ zero in cc)
all_written all status zero (inr (inl (is, at))) = absurd (let both : 7 ≡ 0 = sym is ∙ zero in cc)
all_written all status zero (inr (inr (is, at))) = absurd (let both : 9 ≡ 0 = sym is ∙ zero in cc)

-- of plans of these files that were made and written, a line is told of each that has no path for a simple reason
pub explained : {W : Type 0} (s t u : DeskState) (log : List Entry) (f : WorldFiles W) (changes : Option (List ℕ))
    (search : SearchJob) (outputs : Outputs) (records : List PlanRecord) (all : Bool) (broken : _)
    (name m : List ℕ) (status : ℕ) → ReadsOnly s t
    → ArePlanned s.held f changes search outputs records all log broken → (all ≡ true → broken ≡ [])
    → EndsAs t u (plans_writes outputs records all) (plans_status all) status → status ≡ 0
    → m ≡ blocked_lines name records → IsBlockExplained s u log f changes search outputs name m
explained s t u log f changes search outputs records all broken name m status same planned none ends zero is =
    let whole = all_written all status zero ends in
    record {
      reported = record {
        records = records;
        planned =
            subst (λ (b : Bool). ArePlanned s.held f changes search outputs records b log []) whole.0
            (subst (λ l. ArePlanned s.held f changes search outputs records all log l) (none whole.0) planned);
        report =
            made_both s t u [] (plans_writes outputs records true) (none_made s t same.written)
            (subst (λ (b : Bool). AreAppended t u (plans_writes outputs records b)) whole.0 whole.1);
      };
      message = is;
    }

-- a job that publishes nothing ends so whatever was published
pub ending_of : (r : Result Ending JobStop) (s u : DeskState) (log : List Entry) (j k : Job) → k ≡ j
    → IfOk r (λ e. (l : List Entry) → IsJobEnding s u l l j e) → IfOk r (IsJobEnding s u log log k)
ending_of (Ok e) s u log j k is so = subst (λ (x : Job). IsJobEnding s u log log x e) (sym is) (so log)
ending_of (Err x) s u log j k is so = tt

-- a file of labels that was checked
pub check_told : {W : Type 0} (s u : DeskState) (old : List Entry) (f : WorldFiles W) (changes : Option (List ℕ)) (labels : List ℕ) (j : Job)
    (file : LabelFile) (goals : ℕ → ℕ) (os : List Outcome) (end : Option SectionStop) (e : Ending)
    (checked : IsChecked s.held f changes labels goals os end) → file.name.now ≡ labels
    → file.text.now ≡ checked.text → EndsAs s u (checked_writes goals 0 os end) (checked_status end) (number_of e.status)
    → IsStopTold file end e
    → (message_of e ≡ [] → IsToldDone s u old j (message_of e))
    → (IsPlainMessage labels (message_of e) → IsFlawExplained j (message_of e))
    → (IsFaultExplained s u f changes labels (message_of e) → IsLabelFaultExplained s u j (message_of e))
    → IsToldOf s u old j (number_of e.status) (message_of e)
check_told s u old f changes labels j file goals os None e checked name text ends told done flaw of =
    none_told s u old j e told done (plans_end true (number_of e.status) ends)
check_told s u old f changes labels j file goals os (Some (section.Flaw x)) e checked name text (inl (is, made)) told done flaw of =
    of_flaw is (flaw (subst (λ (m : List ℕ). IsPlainMessage labels m) (sym (message_at e 1 is))
    (subst (λ (n : List ℕ). IsPlainMessage n e.why) name (told.written is))))
check_told s u old f changes labels j file goals os (Some (section.Flaw x)) e checked name text (inr (inl (is, at))) told done flaw of =
    of_write is (message_at e 7 is)
check_told s u old f changes labels j file goals os (Some (section.Flaw x)) e checked name text (inr (inr (is, at))) told done flaw of =
    nothing is (message_at e 9 is ∙ told.unwritten (λ one. let both : 9 ≡ 1 = sym is ∙ one in cc))
check_told s u old f changes labels j file goals os (Some (section.Fault x)) e checked name text (inl (is, made)) told done flaw of =
    of_labels is (of (record {
      fault = x;
      judged = record { goals = goals; outcomes = os; checked = checked; lines = made };
      message =
          subst (λ (m : List ℕ). IsMessageAt labels checked.text (place_of x) m) (sym (message_at e 10 is))
          (subst (λ (n : List ℕ). IsMessageAt n checked.text (place_of x) e.why) name
          (subst (λ (t : List ℕ). IsMessageAt file.name.now t (place_of x) e.why) text (told.written is)));
    }))
check_told s u old f changes labels j file goals os (Some (section.Fault x)) e checked name text (inr (inl (is, at))) told done flaw of =
    of_write is (message_at e 7 is)
check_told s u old f changes labels j file goals os (Some (section.Fault x)) e checked name text (inr (inr (is, at))) told done flaw of =
    nothing is (message_at e 9 is ∙ told.unwritten (λ ten. let both : 9 ≡ 10 = sym is ∙ ten in cc))
check_told s u old f changes labels j file goals os (Some section.NoMemory) e checked name text (inl (is, made)) told done flaw of =
    nothing is (message_at e 9 is ∙ told)
check_told s u old f changes labels j file goals os (Some section.NoMemory) e checked name text (inr (inl (is, at))) told done flaw of =
    of_write is (message_at e 7 is)
check_told s u old f changes labels j file goals os (Some section.NoMemory) e checked name text (inr (inr (is, at))) told done flaw of =
    nothing is (message_at e 9 is ∙ told)

-- no refusal has the status of a failed write
refusal_message : (r : Refusal) (e : Ending) → number_of e.status ≡ refusal_status r → message_of e ≡ e.why
refusal_message (refusal.Environment f) e is = message_at e 3 is
refusal_message (refusal.Grid f) e is = message_at e 3 is
refusal_message (refusal.OffMap end) e is = message_at e 2 is
refusal_message (refusal.Primitives f) e is = message_at e 4 is
refusal_message (refusal.TooWide i) e is = message_at e 4 is
refusal_message (refusal.TooDear i) e is = message_at e 4 is
refusal_message (refusal.Changes f) e is = message_at e 5 is
refusal_message (refusal.Read i) e is = message_at e 6 is
refusal_message (refusal.Length i) e is = message_at e 8 is

-- a job that was refused, once the line that says so was written or was not
pub refused_so : CausesStand → (s t u : DeskState) (old new : List Entry) (j : Job) (r : Refusal) (why : List ℕ)
    (e : Ending) → new ≡ old → IsJobCause s.held (ReadFailed s t) j r → Explains s.held (input_name j) r why
    → ReadsOnly s t → EndsTelling t u (refusal_writes j r) (refusal_status r) why e → WritesOnly IsOutput t u
    → IsJobEnding s u old new j e
refused_so stand s t u old new j r why e stays cause explains same ends frame = record {
  ends = refused stand s t u old new j r (number_of e.status) stays cause same (ends_as ends) frame;
  told = told ends;
}
  where
    told : EndsTelling t u (refusal_writes j r) (refusal_status r) why e
        → IsToldOf s u old j (number_of e.status) (message_of e)
    told (as_wanted is made says) =
        let later : IsFailedOn (ReadFailed s t) (ReadFailed s u) r =
        λ six. failed_later s t u same.reads frame.reads in
        of_refusal (record {
          refusal = r;
          has_status = sym is;
          cause = stand.later s.held s t u j r later cause;
          line = made_both s t u [] (refusal_writes j r) (none_made s t same.written) made;
          others = λ name other. frame.others name other ∙ same.written name;
        }) (subst (λ (m : List ℕ). Explains s.held (input_name j) r m) (sym (refusal_message r e is ∙ says)) explains)
    told (cut is at none) = of_write is (message_at e 7 is)
    told (ran_out is at none) = nothing is (message_at e 9 is ∙ none)

-- words that name no job
pub words_so : (named : Option Job) (s u : DeskState) (old : List Entry) (why : List ℕ) (e : Ending) → named ≡ None
    → IsPlainMessage program why → EndsTelling s u words_writes 2 why e → IsRunEnding named s u old old e
words_so named s u old why e none plain ends = record { ends = by_words none (ends_as ends) refl; told = told ends }
  where
    told : EndsTelling s u words_writes 2 why e → IsTold named s u old (number_of e.status) (message_of e)
    told (as_wanted is made says) =
        of_words none is (subst (λ (m : List ℕ). IsPlainMessage program m) (sym (message_at e 2 is ∙ says)) plain)
    told (cut is at nothing_told) = unwritten is (message_at e 7 is)
    told (ran_out is at nothing_told) = out_of_memory is (message_at e 9 is ∙ nothing_told)
