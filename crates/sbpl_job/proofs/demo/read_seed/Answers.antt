use Rattle.std.proofs.Common.{◌∙◌, ap, arith, sym}
use Rattle.std.specs.Result.{result_ok}
use Rattle.sbpl_job.proofs.Seeds.{long_is_none, plus_is_none, short_is_parsed}
use Rattle.sbpl_job.proofs.demo.read_seed.Goals as goal
use Rattle.sbpl_job.proofs.demo.read_seed.Goals.{then-text-gt-MOST_DIGITS-via-then-text-gt-MOST_DIGITS}
use Rattle.sbpl_job.proofs.demo.read_seed.Goals.{then-text-gt-MOST_DIGITS-via-else-text-gt-MOST_DIGITS+then-has_plus}

pub returns-then-text-gt-MOST_DIGITS-clause-seed : goal.returns-then-text-gt-MOST_DIGITS-clause-seed
returns-then-text-gt-MOST_DIGITS-clause-seed c = elim c.then-text-gt-MOST_DIGITS.branch [
  | then-text-gt-MOST_DIGITS-via-then-text-gt-MOST_DIGITS w ↦ long_is_none c.args.text.now (omega arith)
  | then-text-gt-MOST_DIGITS-via-else-text-gt-MOST_DIGITS+then-has_plus w ↦
      plus_is_none c.args.text.now (sym w.if-has_plus.ensures.plus)
]

pub returns-in-Ok-clause-seed : goal.returns-in-Ok-clause-seed
returns-in-Ok-clause-seed c =
    short_is_parsed c.args.text.now c.parse.result (omega arith) (sym c.if-has_plus.ensures.plus)
    c.parse.ensures.value.0 ∙ ap result_ok c.in-Ok.is

pub returns-in-Err-clause-seed : goal.returns-in-Err-clause-seed
returns-in-Err-clause-seed c =
    short_is_parsed c.args.text.now c.parse.result (omega arith) (sym c.if-has_plus.ensures.plus)
    c.parse.ensures.value.0 ∙ ap result_ok c.in-Err.is
