use Rattle.std.proofs.Common.{ap, ◌∙◌}
use Rattle.sbpl_cost.specs.Strips.{cells_in}
use Rattle.sbpl_cost.proofs.Stripping.{strips_then}
use Rattle.sbpl_cost.proofs.strips.push_strip.Goals as goal

pub returns-in_ok-push : goal.returns-in_ok-push
returns-in_ok-push c =
    record { added = ap cells_in c.in_ok-push.ensures.items ∙ strips_then c.args.strips.now.items c.args.strip }
