use Rattle.std.proofs.Common.{◌≡◌, replicate}
use Rattle.std.proofs.lemmas.List.{length-replicate, get_or-replicate}
use Rattle.sbpl_labels.specs.Marks.{no_row}
use Rattle.sbpl_labels.proofs.Columns.{same_rows}
use Rattle.sbpl_labels.proofs.rows.Rows.new.Goals as goal

pub returns-clause-count : goal.returns-clause-count
returns-clause-count c =
    let is_g : c.in_ok-g.g ≡ replicate c.args.count c.args.row.g = c.in_ok-g.ensures.list in
    let is_v : c.in_ok-v.v ≡ replicate c.args.count c.args.row.v = c.in_ok-v.ensures.list in
    let is_back : c.in_ok-back.back ≡ replicate c.args.count c.args.row.back = c.in_ok-back.ensures.list in
    rw (is_g, is_v, is_back, same_rows c.args.count c.args.row.g c.args.row.v c.args.row.back)
    (length-replicate c.args.count c.args.row)

pub returns-clause-rows : goal.returns-clause-rows
returns-clause-rows c = λ s at.
    let is_g : c.in_ok-g.g ≡ replicate c.args.count c.args.row.g = c.in_ok-g.ensures.list in
    let is_v : c.in_ok-v.v ≡ replicate c.args.count c.args.row.v = c.in_ok-v.ensures.list in
    let is_back : c.in_ok-back.back ≡ replicate c.args.count c.args.row.back = c.in_ok-back.ensures.list in
    rw (is_g, is_v, is_back, same_rows c.args.count c.args.row.g c.args.row.v c.args.row.back)
    (get_or-replicate c.args.count s c.args.row no_row at)
