use Rattle.std.proofs.Common.{◌≡◌, inl, inr, ap, sym, subst, ◌∙◌}
use Rattle.sbpl_cert.specs.Sparse.{IsSparseSection, SparseSection, g_in}
use Rattle.sbpl_cert.proofs.SparseRows.{g_read, row_or_none}
use Rattle.sbpl_cert.proofs.sparse_set.SparseSetLabelTable.g.Goals as goal

pub returns-in-Some-clause-value : goal.returns-in-Some-clause-value
returns-in-Some-clause-value c =
    let same : c.as_slice-rows.result.now ≡ c.args.self.now.rows =
    c.as_slice-rows.ensures.items ∙ ap (λ (s : SparseSection). s.rows) c.self.view_is in
    let up = (subst IsSparseSection c.self.view_is c.self.invariant).rows.upwards in
    let found = rw same at c.in-Some.ensures.found in
    rw same (sym (ap (g_in c.args.self.now.rows) (sym found.1) ∙ g_read c.args.self.now.rows up c.in-Some.i found.0))

pub returns-in-None-clause-value : goal.returns-in-None-clause-value
returns-in-None-clause-value c =
    let same : c.as_slice-rows.result.now ≡ c.args.self.now.rows =
    c.as_slice-rows.ensures.items ∙ ap (λ (s : SparseSection). s.rows) c.self.view_is in
    let none = rw same at c.in-None.ensures.none in
    elim (row_or_none c.args.self.now.rows c.args.s) [ inl w ↦ absurd (none w.0 w.1 w.2) | inr far ↦ sym far.0 ]
