use Rattle.std.proofs.Common.{◌/◌, ◌<◌, ◌∙◌, ap, get_or, length, arith}
use Rattle.std.proofs.lemmas.Grind.{get_or_default_zero}
use Rattle.sbpl_lists.proofs.BitLaws.{found}
use Rattle.sbpl_lists.proofs.bits.Bits.none_between.Goals as goal

pub returns-then-not-none_in-clause-some : goal.returns-then-not-none_in-clause-some
returns-then-not-none_in-clause-some c _ =
    let words = c.self.inside.words.items in
    let len = ap (λ f. f.len) c.self.view_is in
    let place : c.loop-at.at / 64 < length words = omega arith in
    let word = c.index.ensures ∙ get_or_default_zero words (c.loop-at.at / 64) c.index.result.now place in
    let same = word ∙ ap (λ f. get_or f.words (c.loop-at.at / 64) 0) c.self.view_is in
    found c.args.self.now c.index.result.now c.args.from c.loop-at.at c.min.result c.args.to same
    c.loop-at.invariant.begun (omega arith)
    (omega (arith, c.min.ensures)) (omega (arith, c.min.ensures)) (c.none_in.ensures.some c.if-not-none_in.true)
