use Rattle.std.proofs.Common.{◌≡◌, append-nil, arith, refl}
use Rattle.sbpl_demo.proofs.Steps.{poses_next, poses_none}
use Rattle.sbpl_demo.proofs.Texts.{grown}
use Rattle.sbpl_demo.proofs.primitives.put_poses.Goals as goal

pub loop-j-init : goal.loop-j-init
loop-j-init c = rw (poses_none c.args.motion.now, append-nil c.args.out.now.items) refl

pub loop-j-preserved : goal.loop-j-preserved
loop-j-preserved c =
    grown _ _ _ (poses_next c.args.motion.now c.loop-j.j) c.loop-j.invariant c.in_ok-put_pose.ensures.ok

pub returns : goal.returns
returns c =
    let all : c.loop-j.j ≡ 10 = omega arith in
    record { ok = rw all at c.loop-j.invariant }
