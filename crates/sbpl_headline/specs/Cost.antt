-- The cost of a motion primitive by itself, in plain words.
use Rattle.std.specs.Prelude.{ℕ, ◌+◌, ◌*◌, ◌^◌, ◌-ℤ◌, drop, max, sum_by}
use Rattle.std.specs.Int.RustNames.{unsigned_abs}
use Rattle.std.specs.List.{zip}
use Rattle.sbpl_promises.specs.sbpl_cfg.Environment.{Environment}
use Rattle.sbpl_promises.specs.sbpl_cfg.declared.pose.Pose.{Pose}
use Rattle.sbpl_promises.specs.sbpl_cost.PrimitiveCost.{ceiling, heading_gap, root_above}
use Rattle.sbpl_promises.specs.sbpl_mprim.declared.prim.Primitive.{Primitive}

-- the distance of two poses in nanometres, rounded up
abbrev pub distance : Pose → Pose → ℕ
distance p q = root_above (unsigned_abs (p.x -ℤ q.x) * unsigned_abs (p.x -ℤ q.x) + unsigned_abs (p.y -ℤ q.y) * unsigned_abs (p.y -ℤ q.y))

-- the multiplier times the milliseconds of the way at the nominal speed, or of the turn by the shorter way round, whichever are more, each
-- rounded up
abbrev pub cost_of : Environment → Primitive → ℕ
cost_of e p = p.mult * max
    (ceiling (1000 * sum_by (λ pair. distance pair.0 pair.1) (zip p.poses (drop 1 p.poses))) (unsigned_abs e.speed))
    (ceiling (8000 * heading_gap e.headings p.from p.to * unsigned_abs e.turn45) (e.headings * 10 ^ 9))
