use Rattle.std.proofs.Common.{pos, get_or}
use Rattle.std.proofs.lemmas.Option.{slice_get-get_or}
use Rattle.sbpl_cost.specs.declared.strip.Strip.{Strip}
use Rattle.sbpl_cost.proofs.Clearing.{below_strips, blocked_strips, empty_below, near_first, near_strip}
use Rattle.sbpl_cost.proofs.judging.are_on_map_and_clear.Goals.{else-strip-gt0-via-then-strip-gt0+else-not-is_clear}
use Rattle.sbpl_cost.proofs.judging.are_on_map_and_clear.Goals.{else-strip-gt0-via-else-strip-gt0}
use Rattle.sbpl_cost.proofs.judging.are_on_map_and_clear.Goals as goal

abbrev no_strip : Strip
no_strip = record { y = pos 0; from = pos 0; len = 0 }

pub is_clear-requires-clause-from : goal.is_clear-requires-clause-from
is_clear-requires-clause-from c =
    let at = slice_get-get_or c.args.strips.now c.loop-strip.strip-index no_strip c.loop-strip-test.true in
    (near_first (get_or c.args.strips.now c.loop-strip.strip-index no_strip) c.if-strip-gt0.true
    (near_strip c.args.strips.now c.loop-strip.strip-index
    (get_or c.args.strips.now c.loop-strip.strip-index no_strip) at c.requires.cells)).0

pub is_clear-requires-clause-y : goal.is_clear-requires-clause-y
is_clear-requires-clause-y c =
    let at = slice_get-get_or c.args.strips.now c.loop-strip.strip-index no_strip c.loop-strip-test.true in
    (near_first (get_or c.args.strips.now c.loop-strip.strip-index no_strip) c.if-strip-gt0.true
    (near_strip c.args.strips.now c.loop-strip.strip-index
    (get_or c.args.strips.now c.loop-strip.strip-index no_strip) at c.requires.cells)).1

pub returns-then-not-is_clear-clause-blocked : goal.returns-then-not-is_clear-clause-blocked
returns-then-not-is_clear-clause-blocked c = λ same.
    let at = slice_get-get_or c.args.strips.now c.loop-strip.strip-index no_strip c.loop-strip-test.true in
    blocked_strips c.args.map.now (pos c.args.x) (pos c.args.y) c.args.limit c.args.strips.now c.loop-strip.strip-index
    (get_or c.args.strips.now c.loop-strip.strip-index no_strip) at (c.if-not-is_clear.ensures.blocked same)

pub loop-strip-preserved : goal.loop-strip-preserved
loop-strip-preserved c =
    let at = slice_get-get_or c.args.strips.now c.loop-strip.strip-index no_strip c.loop-strip-test.true in
    let strip : Strip = get_or c.args.strips.now c.loop-strip.strip-index no_strip in
    elim c.else-strip-gt0.branch [
      | else-strip-gt0-via-then-strip-gt0+else-not-is_clear w ↦
          below_strips c.args.map.now (pos c.args.x) (pos c.args.y) c.args.limit c.args.strips.now
          c.loop-strip.strip-index strip at c.loop-strip.invariant (w.is_clear.ensures.below w.if-not-is_clear.false)
      | else-strip-gt0-via-else-strip-gt0 w ↦
          below_strips c.args.map.now (pos c.args.x) (pos c.args.y) c.args.limit c.args.strips.now
          c.loop-strip.strip-index strip at c.loop-strip.invariant
          (empty_below c.args.map.now (pos c.args.x) (pos c.args.y) c.args.limit strip w.if-strip-gt0.false)
    ]
