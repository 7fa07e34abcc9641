-- How a job ends, from how its reading, its planning and its writing end.
use Rattle.std.proofs.Common.{◌≡◌, ℕ, ◌≤◌, List, Option, Some, ◌∙◌, subst, arith, inl, inr}
use Rattle.std.proofs.lemmas.Bool.{cases_lt}
use Rattle.sbpl_checks.specs.sbpl_desk.Desk.{NoneFalls, Rose}
use Rattle.sbpl_checks.specs.sbpl_job.declared.job.Job.{Job}
use Rattle.sbpl_checks.specs.sbpl_job.declared.job.Job.TheVariants as job
use Rattle.sbpl_checks.specs.sbpl_report.declared.refusal.Input.TheVariants as input
use Rattle.sbpl_checks.specs.sbpl_report.declared.refusal.Refusal.{Refusal}
use Rattle.sbpl_checks.specs.sbpl_report.declared.refusal.Refusal.TheVariants as refusal
use Rattle.sbpl_checks.specs.sbpl_report.declared.refusal.JobStop.{JobStop}
use Rattle.sbpl_checks.specs.sbpl_report.declared.refusal.JobStop.TheVariants as stop
use Rattle.sbpl_checks.specs.sbpl_promises.Causes.{CausesStand, CheckStopsFor, EarlyStopsFor, IsFailedOn, IsJobCause, IsLabelsCause}
use Rattle.sbpl_checks.specs.sbpl_promises.Causes.{IsTooLong, IsUnread, ReadsUpdates}
use Rattle.sbpl_checks.specs.sbpl_promises.WorldFiles.{WorldFiles}
use Rattle.sbpl_checks.specs.sbpl_promises.declared.updates.Updates.{Updates}
use Rattle.sbpl_checks.specs.sbpl_promises.Intents.{BeginsAfter, published_by, Intent, Refused}
use Rattle.sbpl_checks.specs.sbpl_promises.Intents.{intent_status, refusal_writes, writes_of}
use Rattle.sbpl_checks.specs.sbpl_report.Refusals.{refusal_status}
use Rattle.sbpl_checks.specs.sbpl_promises.Published.{Entry}
use Rattle.sbpl_checks.specs.sbpl_promises.Promises.{GivesIntent, EndsJob, IsWrittenFor, MayBeWritten}
use Rattle.sbpl_checks.specs.sbpl_promises.Writing.{DeskState, EndsAs, IsOutput, ReadFailed, ReadsOnly, StaysBut, WritesOnly}
use Rattle.sbpl_checks.proofs.Writings.{ends_since}
use Rattle.sbpl_checks.proofs.Reading.{failed_since}

-- what rose has risen later too
rose_later : (f g h : ℕ) → f ≤ g → g ≤ h → Rose f g → Rose f h
rose_later f g h low high (inl more) = inl (omega arith)
rose_later f g h low high (inr most) = elim (cases_lt f h) [ inl less ↦ inl less | inr same ↦ inr (omega arith) ]

-- a read that has failed has failed later too
pub failed_later : (s t u : DeskState) → NoneFalls s.read_faults t.read_faults → NoneFalls t.read_faults u.read_faults
    → (name : List ℕ) → ReadFailed s t name → ReadFailed s u name
failed_later s t u low high name failed = rose_later _ _ _ (low name) (high name) failed

-- ---- a stop is handed on

-- an early stop is one of a check
pub early_stop : {W : Type 0} (s t : DeskState) (f : WorldFiles W) (changes : Option (List ℕ)) (labels : List ℕ)
    (x : JobStop) → EarlyStopsFor s t f changes x → CheckStopsFor s t f changes labels x
early_stop s t f changes labels stop.NoMemory cause = tt
early_stop s t f changes labels (stop.Refused r m) cause = inl cause

-- a stop for the file of labels is one of a check, where a world and map updates were read before
pub labels_stop : {W : Type 0} (s t u : DeskState) (f : WorldFiles W) (changes : Option (List ℕ)) (labels : List ℕ)
    (w : W) (c : Updates) (x : JobStop) → f.stand_for s.held w → ReadsUpdates s.held changes (f.scope w) c → ReadsOnly s t
    → IsUnread t u labels input.Labels x → CheckStopsFor s u f changes labels x
labels_stop s t u f changes labels w c stop.NoMemory says changes_say same cause = tt
labels_stop s t u f changes labels w c (stop.Refused r m) says changes_say same cause = inr (by_refusal r cause)
  where
    by_refusal : (r : Refusal) → IsUnread t u labels input.Labels (stop.Refused r m)
        → IsLabelsCause s.held (ReadFailed s u) f changes labels r
    by_refusal (refusal.Read input.Labels) (is, failed, plain) =
        (w, c, says, changes_say, failed_since s t u same.reads labels failed)
    by_refusal (refusal.Read input.Environment) (is, failed, plain) = absurd (cc)
    by_refusal (refusal.Read input.Primitives) (is, failed, plain) = absurd (cc)
    by_refusal (refusal.Read input.Changes) (is, failed, plain) = absurd (cc)
    by_refusal (refusal.Length input.Labels) (is, long, none) =
        (w, c, says, changes_say, subst (λ (o : Option (List ℕ)). IsTooLong o) (same.held labels) long)
    by_refusal (refusal.Length input.Environment) (is, long, none) = absurd (cc)
    by_refusal (refusal.Length input.Primitives) (is, long, none) = absurd (cc)
    by_refusal (refusal.Length input.Changes) (is, long, none) = absurd (cc)
    by_refusal _ none = absurd none

-- ---- the end of a job

-- the job means to do this, and then its writes were made
pub ended : (s t u : DeskState) (old new : List Entry) (j : Job) (i : Intent) (status : ℕ) → BeginsAfter i old
    → new ≡ published_by i old → GivesIntent s.held (ReadFailed s u) j i → ReadsOnly s t
    → EndsAs t u (writes_of j i) (intent_status i) status → StaysBut (IsWrittenFor j i) t.written u.written
    → EndsJob s u old new j status
ended s t u old new j i status begins published gives same ends others = record {
  intent = i;
  gives = gives;
  ends = ends_since same.written same.writes ends;
  others = λ name other. others name other ∙ same.written name;
  begins = begins;
  published = published;
}

-- the job was refused, and then the line that says so was written
pub refused : CausesStand → (s t u : DeskState) (old new : List Entry) (j : Job) (r : Refusal) (status : ℕ) → new ≡ old
    → IsJobCause s.held (ReadFailed s t) j r → ReadsOnly s t → EndsAs t u (refusal_writes j r) (refusal_status r) status
    → WritesOnly IsOutput t u → EndsJob s u old new j status
refused stand s t u old new j r status stays cause same ends frame =
    let later : IsFailedOn (ReadFailed s t) (ReadFailed s u) r = λ six. failed_later s t u same.reads frame.reads in
    ended s t u old new j (Refused r) status tt stays (stand.later s.held s t u j r later cause) same ends frame.others

-- the standard output is a name that each job may write under
pub plain_is : (j : Job) (name : List ℕ) → IsOutput name → MayBeWritten (Some j) name
plain_is (job.Plan p) name is = inl is
plain_is (job.Nav j) name is = inl is
plain_is _ name is = is
