use Rattle.clap.specs.Simple.{app_of}
use Rattle.clap.specs.Values.{kind_of}
use Rattle.sbpl_job.specs.Words.{texts}
use Rattle.sbpl_job.proofs.Reading.{found_in, refused_in}
use Rattle.sbpl_job.proofs.line.find_parts.Goals as goal

pub returns-in-Ok : goal.returns-in-Ok
returns-in-Ok c = record {
  finds =
      found_in c.args.command (texts c.args.words.now) (app_of c.in_ok-line.line) c.in-Ok.matches
      c.in_ok-line.ensures.app c.requires.fit c.in-Ok.ensures.kinds c.in-Ok.ensures.matches;
}

pub returns-in-Err : goal.returns-in-Err
returns-in-Err c = record {
  finds =
      refused_in c.args.command (texts c.args.words.now) (app_of c.in_ok-line.line) (kind_of c.in-Err.error)
      c.fault_of.result c.in_ok-line.ensures.app c.requires.fit c.in-Err.ensures.kinds c.fault_of.ensures.memory;
}
