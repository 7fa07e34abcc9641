use Rattle.std.proofs.Common.{sym, ◌∙◌, arith, rules}
use Rattle.sbpl_sweep.proofs.ReadsListed.{have_reads, swept_in_order}
use Rattle.sbpl_sweep.proofs.sweeps.Sweeps.new.Goals as goal

pub read_table-requires-clause-ordered : goal.read_table-requires-clause-ordered
read_table-requires-clause-ordered c =
    swept_in_order c.args.prims.now c.args.radius c.in_ok-swept.swept c.in_ok-swept.ensures.table

pub invariant_of-result : goal.invariant_of-result
invariant_of-result c = record {
  same = c.in_ok-swept.ensures.table.count ∙ sym c.in_ok-centres.ensures.table.count;
  few = c.in_ok-centres.ensures.few;
  radius = c.requires.radius;
  few_reads = omega (
    arith,
    c.in_ok-reads.ensures.count,
    c.in_ok-swept.ensures.few,
    c.in_ok-swept.ensures.table.count,
    c.in_ok-centres.ensures.table.count,
    c.in_ok-centres.ensures.few,
  );
}

pub returns-clause-made : goal.returns-clause-made
returns-clause-made c =
    let good = c.cell-cell.ensures.kept in
    record {
      cell = search rules;
      radius_is = search rules;
      centres = c.in_ok-centres.ensures.table;
      swept = c.in_ok-swept.ensures.table;
      reads =
          have_reads c.args.prims.now c.args.radius c.in_ok-swept.swept c.in_ok-reads.reads.items good.each
          c.in_ok-swept.ensures.table c.in_ok-reads.ensures.reads;
    }
