use Rattle.std.proofs.Common.{◌≡◌, ◌*◌, ◌%◌, ◌^◌, ◌≤◌, arith, pow_mono}
use Rattle.std.proofs.lemmas.Nat.{one_shl, pow_pos}
use Rattle.sbpl_lists.proofs.BitLaws.{ones_below}
use Rattle.sbpl_lists.proofs.bits.mask.Goals as goal

pub overflow_sub-result-3 : goal.overflow_sub-result-3
overflow_sub-result-3 c =
    let one : 1 * 2 ^ c.args.low % 18446744073709551616 ≡ 2 ^ c.args.low = one_shl c.args.low 64 (omega arith) in
    let more : 2 ^ c.args.low ≤ 2 ^ c.args.high = pow_mono (omega arith) in
    omega (arith, ones_below c.args.high c.requires.inside)

pub returns : goal.returns
returns c =
    let one : 1 * 2 ^ c.args.low % 18446744073709551616 ≡ 2 ^ c.args.low = one_shl c.args.low 64 (omega arith) in
    record { value = omega (arith, ones_below c.args.high c.requires.inside, pow_pos c.args.low) }
