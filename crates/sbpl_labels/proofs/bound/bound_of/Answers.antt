use Rattle.std.proofs.Common.{◌*◌, ◌≡◌, arith}
use Rattle.std.specs.Int.{div_ceil}
use Rattle.sbpl_labels.proofs.Bounds.{bound_rounded_up}
use Rattle.sbpl_labels.proofs.bound.bound_of.Goals as goal

pub returns-clause-least : goal.returns-clause-least
returns-clause-least c =
    let quotient : c.div_ceil-thousandths.result ≡ div_ceil (1000 * c.args.cost) c.args.low =
    let cost = c.from.ensures in
    let low = c.from-2.ensures in
    let q = c.div_ceil-thousandths.ensures in
    cc in
    bound_rounded_up c.args.cost c.args.low c.div_ceil-thousandths.result c.max.result
    (omega arith) quotient c.max.ensures
