use Rattle.std.proofs.Common.{◌≡◌, ◌∙◌, arith, sym}
use Rattle.sbpl_demo.proofs.Steps.{file_written, head_written, motions_next}
use Rattle.sbpl_demo.proofs.Texts.{grown, primitives_head}
use Rattle.sbpl_demo.proofs.primitives.primitives.Goals as goal

pub loop-heading-init : goal.loop-heading-init
loop-heading-init c =
    head_written _ _ _ primitives_head c.new-text.ensures.items c.in_ok-extend_from_slice.ensures.items

pub loop-heading-preserved : goal.loop-heading-preserved
loop-heading-preserved c =
    grown _ _ _ (motions_next c.loop-heading.heading) c.loop-heading.invariant c.in_ok-put_heading.ensures.ok

pub returns : goal.returns
returns c =
    let all : c.loop-heading.heading ≡ 16 = omega arith in
    record { text = (rw all at c.loop-heading.invariant) ∙ sym file_written }
