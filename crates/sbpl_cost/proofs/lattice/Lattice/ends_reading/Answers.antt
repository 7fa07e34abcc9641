use Rattle.std.proofs.Common.{pos}
use Rattle.sbpl_cost.proofs.ArcsRead.{readable, adds_ends}
use Rattle.sbpl_cost.proofs.lattice.Lattice.ends_reading.Goals as goal

pub add_ends-requires-clause-reads : goal.add_ends-requires-clause-reads
add_ends-requires-clause-reads c = rw c.reads.ensures.reads (readable _ c.self.invariant.world)

pub returns-clause-ends : goal.returns-clause-ends
returns-clause-ends c =
    let added = rw c.reads.ensures.reads at c.in_ok-add_ends.ensures.added in
    rw (← c.self.view_is) (adds_ends _ c.self.invariant.world c.args.end (pos c.args.x) (pos c.args.y)
    c.args.into.now.items c.add_ends.new.into.items added)
