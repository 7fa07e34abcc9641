use Rattle.std.proofs.lemmas.Result.{on_ok_weaker}
use Rattle.sbpl_cfg.proofs.PrintLaws.{after_three}
use Rattle.sbpl_cfg.proofs.print.put_ends.Goals as goal

pub returns : goal.returns
returns c =
    rw (← c.env.view_is) (record {
      ok =
          on_ok_weaker _ (after_three _ _ _ _ c.in_ok-put_pose.ensures.ok c.in_ok-put_pose-2.ensures.ok)
          c.push_line.ensures.appended;
    })
