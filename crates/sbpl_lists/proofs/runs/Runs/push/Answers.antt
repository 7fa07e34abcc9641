use Rattle.std.proofs.Common.{arith}
use Rattle.sbpl_lists.proofs.ListLaws.{pushed}
use Rattle.sbpl_lists.proofs.runs.Runs.push.Goals as goal

pub returns-clause-added : goal.returns-clause-added
returns-clause-added g c =
    pushed c.self.inside.items.items c.args.list.now c.extend_from_slice.new.self.items c.self.inside.starts.items
    c.reserve.new.self.items c.push_reserved.new.self.items c.len.result c.args.self.now
    c.self.invariant c.self.view_is c.in_ok-extend_from_slice.ensures.items c.reserve.ensures.items
    c.push_reserved.ensures.items (omega (arith, c.len.ensures, c.extend_from_slice.new.self.ok.0))
