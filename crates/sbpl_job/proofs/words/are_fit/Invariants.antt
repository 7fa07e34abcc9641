use Rattle.std.proofs.Common.{◌≡◌, drop}
use Rattle.sbpl_job.specs.Words.{are_fit, texts}
use Rattle.sbpl_job.proofs.words.are_fit.Given as goal

abbrev pub invariant-loop-i : goal.invariant-loop-i
invariant-loop-i l = are_fit l.command (texts l.words) ≡ are_fit l.command (texts (drop l.i l.words))
