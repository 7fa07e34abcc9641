use Rattle.std.proofs.Common.{rules}
use Rattle.std.proofs.lemmas.List.Sorted.{answers_always}
use Rattle.sbpl_cert.specs.declared.sparse_row.SparseRow.{SparseRow}
use Rattle.sbpl_cert.proofs.SparseRows.{found_by, none_by}
use Rattle.sbpl_cert.proofs.sparse_set.find.Goals as goal

-- the closure gives a row's state
pub returns : goal.returns
returns c =
    let facts = c.binary_search_by_key.ensures in
    let by_key =
    facts.position (λ (row : SparseRow). row.state) (answers_always _ _ _ (λ f a r g called. search rules)) in
    record {
      found = rw c.ok.ensures.value (found_by c.args.rows.now c.requires.upwards c.args.s _ facts.bound by_key);
      none = rw c.ok.ensures.value (none_by c.args.rows.now c.requires.upwards c.args.s _ facts.bound by_key);
    }
