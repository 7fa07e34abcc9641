-- What the program promises of every list of words after its name, help and the version included.
use Rattle.std.specs.Prelude.{◌≡◌, ℕ, List, None, IsSome}
use Rattle.sbpl_headline.specs.Headline.{IsHeadline}
use Rattle.sbpl_jobs.specs.sbpl_desk.Desk.{Rose}
use Rattle.sbpl_jobs.specs.sbpl_job.Asked.{asked_for}
use Rattle.sbpl_jobs.specs.sbpl_job.Jobs.{job_of}
use Rattle.sbpl_jobs.specs.sbpl_promises.Promises.{IsOrUnwritten, IsStatus, MayBeWritten}
use Rattle.sbpl_jobs.specs.sbpl_promises.Published.{Entry}
use Rattle.sbpl_jobs.specs.sbpl_promises.RunPromises.{RunPromises}
use Rattle.sbpl_jobs.specs.sbpl_promises.Writing.{DeskState, WritesOnly, output}

-- where these are the words, the desk before and after, what was published before and after, and the status that is answered
pub record IsAnswered (words : List (List ℕ)) (before after : DeskState) (old new : List Entry) (status : ℕ) : Type 0 where
  -- Words that ask for help or the version are told it, unless that cannot be written or memory runs out.
  pub asked : IsSome (asked_for words) → IsOrUnwritten 0 status
  pub unwritten : IsSome (asked_for words) → status ≡ 7 → Rose (before.write_faults output) (after.write_faults output)
  -- All other words get what a run promises, of this status.
  pub run : asked_for words ≡ None → RunPromises (job_of words) before after old new status
  -- And the headline, of `plan` and `nav`, in definitions of its own.
  pub headline : asked_for words ≡ None → IsHeadline words before after status
  pub statuses : IsStatus status
  -- Where help or the version is told nothing is published.
  pub unpublished : IsSome (asked_for words) → new ≡ old
  -- Nothing that is held changes, nothing is written under names other than the job's, and no count falls.
  pub frame : WritesOnly (MayBeWritten (job_of words)) before after

-- where memory runs out before anything is done, every promise is kept
abbrev pub AreAnsweredAtOnce : Type 0
AreAnsweredAtOnce =
    (words : List (List ℕ)) (desk : DeskState) (published : List Entry) → IsAnswered words desk desk published published 9
