use Rattle.std.proofs.Common.{arith, subst}
use Rattle.sbpl_cert.specs.Sparse.{IsSparseSection}
use Rattle.sbpl_cert.proofs.SparseRows.{rows_few, sparse_is_labelling}
use Rattle.sbpl_cert.proofs.sparse_set.SparseSetLabelTable.count.Goals as goal

pub overflow_cast-result : goal.overflow_cast-result
overflow_cast-result c =
    let few = rows_few c.self.inside.states c.self.inside.rows c.self.invariant.rows in
    rw c.as_slice.ensures.items (omega (arith, few, c.self.invariant.states))

pub returns-clause-labels : goal.returns-clause-labels
returns-clause-labels c = sparse_is_labelling c.args.self.now (subst IsSparseSection c.self.view_is c.self.invariant)
