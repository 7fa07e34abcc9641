use Rattle.std.proofs.Common.{◌≡◌, ◌+◌, ◌-◌, ◌*◌, min, get_or, arith}
use Rattle.sbpl_fixed.proofs.Digits.{digit_at, capped_more, capped_done}
use Rattle.sbpl_fixed.proofs.number.capped_number.Goals as goal
use Rattle.sbpl_fixed.proofs.number.capped_number.Goals.{then-longer-cap, else-longer-cap}

pub loop-digit-preserved : goal.loop-digit-preserved
loop-digit-preserved c =
    let digit = digit_at c.args.digits.now c.loop-digit.digit-index c.requires.digits (omega arith) in
    let next : c.if-longer-cap.value
    ≡ min c.args.cap (c.loop-digit.value * 10 + (get_or c.args.digits.now c.loop-digit.digit-index 0 - 48)) =
    elim c.if-longer-cap.branch [ then-longer-cap w ↦ omega arith | else-longer-cap w ↦ omega arith ] in
    record {
      bound = omega arith;
      number =
          capped_more c.args.cap c.loop-digit.value c.if-longer-cap.value c.loop-digit.digit-index c.args.digits.now _
          (omega arith) next c.loop-digit.invariant.number;
    }

pub returns : goal.returns
returns c = record {
  number =
      capped_done c.args.cap c.loop-digit.value c.loop-digit.digit-index c.args.digits.now _ (omega arith)
      c.loop-digit.invariant.bound c.loop-digit.invariant.number;
}
