use Rattle.std.proofs.Common.{◌≡◌, length, replicate}
use Rattle.std.proofs.lemmas.List.{length-replicate, get_or-replicate}
use Rattle.sbpl_labels.specs.Marks.{no_row}
use Rattle.sbpl_labels.proofs.Columns.{rows_size, same_rows}
use Rattle.sbpl_labels.proofs.rows.Rows.fill.Goals as goal

pub returns-clause-count : goal.returns-clause-count
returns-clause-count c =
    let size : length c.args.self.now ≡ length c.self.inside.g =
    rows_size _ _ _ c.self.view_is c.self.invariant in
    let is_g : c.fill.new.self ≡ replicate (length c.args.self.now) c.args.row.g = rw size c.fill.ensures.list in
    let is_v : c.fill-2.new.self ≡ replicate (length c.args.self.now) c.args.row.v =
    rw (size, ← c.self.invariant.0) c.fill-2.ensures.list in
    let is_back : c.fill-3.new.self ≡ replicate (length c.args.self.now) c.args.row.back =
    rw (size, ← c.self.invariant.1) c.fill-3.ensures.list in
    rw (is_g, is_v, is_back, same_rows (length c.args.self.now) c.args.row.g c.args.row.v c.args.row.back)
    (length-replicate (length c.args.self.now) c.args.row)

pub returns-clause-rows : goal.returns-clause-rows
returns-clause-rows c = λ s at.
    let size : length c.args.self.now ≡ length c.self.inside.g =
    rows_size _ _ _ c.self.view_is c.self.invariant in
    let is_g : c.fill.new.self ≡ replicate (length c.args.self.now) c.args.row.g = rw size c.fill.ensures.list in
    let is_v : c.fill-2.new.self ≡ replicate (length c.args.self.now) c.args.row.v =
    rw (size, ← c.self.invariant.0) c.fill-2.ensures.list in
    let is_back : c.fill-3.new.self ≡ replicate (length c.args.self.now) c.args.row.back =
    rw (size, ← c.self.invariant.1) c.fill-3.ensures.list in
    rw (is_g, is_v, is_back, same_rows (length c.args.self.now) c.args.row.g c.args.row.v c.args.row.back)
    (get_or-replicate (length c.args.self.now) s c.args.row no_row at)
