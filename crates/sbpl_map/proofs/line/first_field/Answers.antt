use Rattle.std.proofs.Common.{◌≡◌, ◌<◌, length, drop, ap, arith}
use Rattle.std.proofs.lemmas.List.{take_rest}
use Rattle.std.proofs.lemmas.Bool.Decides.{nat_tests}
use Rattle.sbpl_map.proofs.Lines.{no_field, field_before}
use Rattle.sbpl_map.proofs.line.first_field.Goals as goal

pub returns-then-is_empty : goal.returns-then-is_empty
returns-then-is_empty c =
    let none : length (drop c.parting_len.result c.args.line.now) ≡ 0 =
    (let at = rw take_rest at c.is_empty.ensures in grind (arith, nat_tests)) in
    record { first = no_field c.args.line.now (rw c.parting_len.ensures.count at none) }

pub returns : goal.returns
returns c =
    let some : 0 < length (drop c.parting_len.result c.args.line.now) =
    (let at = rw take_rest at c.is_empty.ensures in grind (arith, nat_tests)) in
    let start = ap (λ n. drop n c.args.line.now) c.parting_len.ensures.count in
    record {
      first =
          rw (
            take_rest c.args.line.now c.parting_len.result,
            take_rest (drop c.parting_len.result c.args.line.now) c.field_len-end.result,
          ) (field_before c.args.line.now _ c.field_len-end.result start
          (rw take_rest at c.field_len-end.ensures.count) some);
    }
