use Rattle.std.proofs.Common.{w64}
use Rattle.std.proofs.lemmas.Int.{to_z-of_z}
use Rattle.std.proofs.lemmas.Result.{on_ok_weaker}
use Rattle.sbpl_nav2d.proofs.Unread.{unread_cost_the_same, maps_change_costs_alone}
use Rattle.sbpl_nav2d.proofs.nav.Nav.set.Goals as goal

pub returns-clause-unread : goal.returns-clause-unread
returns-clause-unread c =
    let there = rw (to_z-of_z w64 c.args.x c.ranges.x, to_z-of_z w64 c.args.y c.ranges.y) at c.set.ensures.changes in
    rw (← c.self.view_is)
    (on_ok_weaker c.set.result (unread_cost_the_same _ c.set.new.self c.args.x c.args.y c.args.c) there)

pub returns-clause-rest : goal.returns-clause-rest
returns-clause-rest c =
    rw (← c.self.view_is)
    (maps_change_costs_alone _ c.set.new.self
    (record { width = c.set.ensures.width; height = c.set.ensures.height }))
