use Rattle.std.proofs.Common.{◌+◌, pos, get_or, sym, subst, take}
use Rattle.std.proofs.lemmas.List.{take_all}
use Rattle.std.proofs.lemmas.Option.{slice_get-get_or}
use Rattle.sbpl_cost.specs.declared.reach.Reach.{Reach}
use Rattle.sbpl_cost.specs.declared.strip.Strip.{Strip}
use Rattle.sbpl_cost.specs.Reaches.{IsReach, LieWithin}
use Rattle.sbpl_cost.specs.Strips.{cells_in}
use Rattle.sbpl_cost.proofs.Clearing.{near_strip}
use Rattle.sbpl_cost.proofs.Reaching.{empty_within, kept_within, within_more}
use Rattle.sbpl_cost.proofs.reach.reach_of.Goals.{then-strip-gt0, else-strip-gt0}
use Rattle.sbpl_cost.proofs.reach.reach_of.Goals as goal

abbrev no_strip : Strip
no_strip = record { y = pos 0; from = pos 0; len = 0 }

pub with-reach-requires-clause-near : goal.with-reach-requires-clause-near
with-reach-requires-clause-near c =
    let at = slice_get-get_or c.args.strips.now c.loop-strip.strip-index no_strip c.loop-strip-test.true in
    near_strip c.args.strips.now c.loop-strip.strip-index
    (get_or c.args.strips.now c.loop-strip.strip-index no_strip) at c.requires.near

pub loop-strip-preserved : goal.loop-strip-preserved
loop-strip-preserved c =
    let at = slice_get-get_or c.args.strips.now c.loop-strip.strip-index no_strip c.loop-strip-test.true in
    let strip : Strip = get_or c.args.strips.now c.loop-strip.strip-index no_strip in
    elim c.if-strip-gt0.branch [
      | then-strip-gt0 w ↦
          subst (λ (r : Reach).
          IsReach r × LieWithin r (cells_in (take (c.loop-strip.strip-index + 1) c.args.strips.now))) (sym w.reach-is) (
            w.with-reach.ensures.reach,
            within_more w.with-reach.result c.args.strips.now c.loop-strip.strip-index strip at
                (kept_within c.loop-strip.reach w.with-reach.result _ w.with-reach.ensures.far
                c.loop-strip.invariant.1) w.with-reach.ensures.within,
          )
      | else-strip-gt0 w ↦
          subst (λ (r : Reach).
          IsReach r × LieWithin r (cells_in (take (c.loop-strip.strip-index + 1) c.args.strips.now))) (sym w.reach-is) (
            c.loop-strip.invariant.0,
            within_more c.loop-strip.reach c.args.strips.now c.loop-strip.strip-index strip at c.loop-strip.invariant.1
                (empty_within strip c.loop-strip.reach w.if-strip-gt0.false),
          )
    ]

pub returns-clause-within : goal.returns-clause-within
returns-clause-within c =
    rw (take_all c.loop-strip.strip-index c.args.strips.now c.loop-strip-test.false) at c.loop-strip.invariant.1
