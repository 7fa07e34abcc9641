use native.Mathlib.Omega.{arith}
use Rattle.std.proofs.Common.{◌≡◌, refl, inr}
use Rattle.sbpl_jobs.specs.sbpl_job.Jobs.{job_of}
use Rattle.sbpl_jobs.specs.sbpl_promises.Promises.{by_memory}
use Rattle.sbpl_jobs.specs.sbpl_promises.RunPromises.{RunsKeepPromises}
use Rattle.sbpl_headline.specs.Law.{PromisesShowHeadline}
use Rattle.sbpl_cli.specs.Answered.{AreAnsweredAtOnce}
use Rattle.sbpl_cli.proofs.laws.runs_may_end_at_once.Goals as goal

-- a run that ends at once keeps every promise, and so the headline
at_once : RunsKeepPromises → PromisesShowHeadline → AreAnsweredAtOnce
at_once keeps shows words desk published =
    let kept = keeps (job_of words) desk desk published published 9 (by_memory refl (λ name. refl) refl) in
    record {
      asked = λ _. inr (inr refl);
      unwritten = λ _ seven. absurd (let both : 9 ≡ 7 = seven in cc);
      run = λ _. kept;
      headline = λ _. shows words desk desk published published 9 kept;
      statuses = refl;
      unpublished = λ _. refl;
      frame = record {
        held = λ name. refl;
        others = λ name no. refl;
        reads = λ name. omega arith;
        writes = λ name. omega arith;
        heard = refl;
        over = refl;
      };
    }

pub returns : goal.returns
returns c = record { law = at_once c.runs_keep_promises.ensures.law c.promises_show_the_headline.ensures.law }
