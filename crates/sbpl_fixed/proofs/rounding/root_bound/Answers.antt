use Rattle.std.proofs.Common.{◌-◌, ◌+◌, ◌/◌, arith}
use Rattle.sbpl_fixed.proofs.Roots.{short_power, shifted, power_enough}
use Rattle.sbpl_fixed.proofs.rounding.root_bound.Goals as goal

pub overflow_shl-result : goal.overflow_shl-result
overflow_shl-result c =
    let short = short_power (c.args.n - 1) c.ilog2.result c.ilog2.ensures.power_le (omega arith) in
    omega arith

pub returns-clause-some : goal.returns-clause-some
returns-clause-some c =
    let short = short_power (c.args.n - 1) c.ilog2.result c.ilog2.ensures.power_le (omega arith) in
    let is = shifted (c.ilog2.result / 2 + 1) (omega arith) in
    rw is.0 is.1

pub returns-clause-enough : goal.returns-clause-enough
returns-clause-enough c =
    let short = short_power (c.args.n - 1) c.ilog2.result c.ilog2.ensures.power_le (omega arith) in
    let is = shifted (c.ilog2.result / 2 + 1) (omega arith) in
    rw is.0 (power_enough c.args.n c.ilog2.result (omega arith) c.ilog2.ensures.next_power_gt)
