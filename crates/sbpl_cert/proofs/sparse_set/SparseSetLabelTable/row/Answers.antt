use Rattle.std.proofs.Common.{◌≡◌, ap, sym, subst, ◌∙◌}
use Rattle.sbpl_cert.specs.Sparse.{IsSparseSection, SparseSection}
use Rattle.sbpl_cert.proofs.SparseRows.{g_read, v_read}
use Rattle.sbpl_cert.proofs.sparse_set.SparseSetLabelTable.row.Goals as goal

pub returns-clause-g : goal.returns-clause-g
returns-clause-g c =
    let same : c.as_slice.result.now ≡ c.args.self.now.rows =
    c.as_slice.ensures.items ∙ ap (λ (s : SparseSection). s.rows) c.self.view_is in
    rw same (sym (g_read c.args.self.now.rows (subst IsSparseSection c.self.view_is c.self.invariant).rows.upwards
    c.args.i c.requires.number))

pub returns-clause-v : goal.returns-clause-v
returns-clause-v c =
    let same : c.as_slice.result.now ≡ c.args.self.now.rows =
    c.as_slice.ensures.items ∙ ap (λ (s : SparseSection). s.rows) c.self.view_is in
    rw same (sym (v_read c.args.self.now.rows (subst IsSparseSection c.self.view_is c.self.invariant).rows.upwards
    c.args.i c.requires.number))
