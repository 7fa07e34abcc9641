-- That runs keep the headline.
use Rattle.std.specs.Prelude.{ℕ, List}
use Rattle.sbpl_promises.specs.sbpl_desk.Desk.{DeskState}
use Rattle.sbpl_promises.specs.sbpl_job.Jobs.{job_of}
use Rattle.sbpl_promises.specs.Published.{Entry}
use Rattle.sbpl_promises.specs.RunPromises.{RunPromises}
use Rattle.sbpl_headline.specs.Headline.{IsHeadline}

-- what a run on these words promises shows the headline
abbrev pub PromisesShowHeadline : Type 0
PromisesShowHeadline = (words : List (List ℕ)) (before after : DeskState) (old new : List Entry) (status : ℕ) → RunPromises (job_of words) before after old new status → IsHeadline words before after status
