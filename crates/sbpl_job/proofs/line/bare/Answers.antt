use Rattle.std.proofs.Common.{true, ap}
use Rattle.clap.specs.Simple.{App}
use Rattle.sbpl_job.proofs.line.bare.Goals as goal

pub returns : goal.returns
returns c = record {
  app = rw (c.about-line.ensures, c.disable_help_flag.ensures, c.no_binary_name.ensures)
      (ap (λ (a : App). record a {
        top = record a.top { no_binary_name = true; disable_help_flag = true };
      }) c.new.ensures.app);
}
