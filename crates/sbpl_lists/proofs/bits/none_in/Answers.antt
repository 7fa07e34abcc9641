use Rattle.std.proofs.Common.{rules, ◌≡◌, nat_eq, true, eq-eqb, bit_and}
use Rattle.sbpl_lists.proofs.BitLaws.{none_under, some_under}
use Rattle.sbpl_lists.proofs.bits.none_in.Goals as goal

pub returns-clause-none : goal.returns-clause-none
returns-clause-none c none =
    none_under c.args.word c.mask.result c.args.low c.args.high c.mask.ensures.value (search rules)

pub returns-clause-some : goal.returns-clause-some
returns-clause-some c some =
    some_under c.args.word c.mask.result c.args.low c.args.high c.requires.some c.mask.ensures.value
    (λ clear. let yes : nat_eq (bit_and c.args.word c.mask.result) 0 ≡ true =
    eq-eqb (bit_and c.args.word c.mask.result) 0 clear in cc)
