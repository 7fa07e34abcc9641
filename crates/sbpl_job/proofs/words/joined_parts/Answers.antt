use Rattle.std.proofs.Common.{rules, ◌∙◌, sym, ap}
use Rattle.std.specs.Prelude.{option_map}
use Rattle.sbpl_job.specs.Words.{both_texts}
use Rattle.sbpl_job.proofs.Spacing.{unjoined}
use Rattle.sbpl_job.proofs.words.joined_parts.Goals as goal

pub returns-in_err-name : goal.returns-in_err-name
returns-in_err-name c = record {
  joined =
      ap (option_map both_texts) c.from_residual.ensures ∙ sym (unjoined c.args.command c.args.word.now (search rules));
}
