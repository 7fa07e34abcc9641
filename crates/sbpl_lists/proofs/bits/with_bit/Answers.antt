use Rattle.std.proofs.Common.{ap, sym, ◌∙◌, nat_eq, w64}
use Rattle.std.proofs.lemmas.Nat.Bits.{bit_at_set_same, bit_at_set_other, bit_at_clear_same, bit_at_clear_other}
use Rattle.sbpl_lists.proofs.bits.with_bit.Goals as goal

pub returns-then-on-clause-here : goal.returns-then-on-clause-here
returns-then-on-clause-here c =
    ap (λ b. nat_eq b 1) (bit_at_set_same w64 c.args.word c.args.k c.requires.inside) ∙ sym c.if-on.true

pub returns-then-on-clause-others : goal.returns-then-on-clause-others
returns-then-on-clause-others c j inside apart = bit_at_set_other w64 c.args.word c.args.k c.requires.inside j apart

pub returns-else-on-clause-here : goal.returns-else-on-clause-here
returns-else-on-clause-here c =
    ap (λ b. nat_eq b 1) (bit_at_clear_same w64 c.args.word c.args.k c.requires.inside) ∙ sym c.if-on.false

pub returns-else-on-clause-others : goal.returns-else-on-clause-others
returns-else-on-clause-others c j inside apart =
    bit_at_clear_other w64 c.args.word c.args.k c.requires.inside j inside apart
