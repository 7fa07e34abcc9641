use Rattle.std.proofs.Common.{◌≡◌, ◌++◌, drop, map, string_bytes}
use Rattle.sbpl_job.specs.Words.{spaced, texts}
use Rattle.sbpl_job.proofs.words.spaced_words.Given as goal

abbrev pub invariant-loop-word : goal.invariant-loop-word
invariant-loop-word l =
    spaced l.command (map string_bytes l.words)
    ≡ texts l.spaced.items ++ spaced l.command (map string_bytes (drop l.word-index l.words))
