use Rattle.std.proofs.Common.{arith, rules, ◌≤◌, length}
use Rattle.std.specs.Prelude.{decimal}
use Rattle.std.proofs.lemmas.Fmt.{length-decimal-le, decimal_nonempty}
use Rattle.sbpl_cert.proofs.writing.number_before.Goals as goal

pub write_digits-requires : goal.write_digits-requires
write_digits-requires c = search (rules, length-decimal-le 20)

pub returns-clause-low : goal.returns-clause-low
returns-clause-low c = let le : length (decimal c.args.n) ≤ 20 = search (rules, length-decimal-le 20) in omega arith

pub returns-clause-high : goal.returns-clause-high
returns-clause-high c = omega (arith, decimal_nonempty c.args.n (omega arith))
