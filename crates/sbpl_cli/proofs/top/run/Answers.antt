use Rattle.std.proofs.Common.{[], refl, map, string_bytes}
use Rattle.sbpl_jobs.specs.sbpl_promises.Promises.{by_memory}
use Rattle.sbpl_jobs.specs.sbpl_promises.Run.{job_named}
use Rattle.sbpl_cli.proofs.top.run.Goals as goal

pub returns-in-Err-clause-promises : goal.returns-in-Err-clause-promises
returns-in-Err-clause-promises g c = (
  [],
  c.runs_keep_promises.ensures.law (job_named c.args.words.now) (g.D.Desk.state c.args.desk.now) _ [] [] _
      (by_memory c.number.ensures.number (λ name. refl) refl),
)

pub returns-in-Err-clause-headline : goal.returns-in-Err-clause-headline
returns-in-Err-clause-headline g c =
    c.promises_show_the_headline.ensures.law (map string_bytes c.args.words.now) (g.D.Desk.state c.args.desk.now) _ []
    [] _
    (c.runs_keep_promises.ensures.law (job_named c.args.words.now) (g.D.Desk.state c.args.desk.now) _ [] [] _
    (by_memory c.number.ensures.number (λ name. refl) refl))
