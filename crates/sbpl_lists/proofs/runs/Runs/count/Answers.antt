use Rattle.std.proofs.Common.{ap, arith, length}
use Rattle.sbpl_lists.proofs.ListLaws.{length-lists_between}
use Rattle.sbpl_lists.proofs.runs.Runs.count.Goals as goal

pub returns : goal.returns
returns g c =
    let count = length-lists_between c.self.inside.items.items c.self.inside.starts.items c.self.invariant.some in
    record { value = omega (arith, count, ap length c.self.view_is, c.len.ensures, c.self.inside.starts.ok.0) }
