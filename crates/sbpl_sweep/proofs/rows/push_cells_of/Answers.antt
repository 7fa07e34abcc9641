use Rattle.std.proofs.Common.{rules, w64, FitsSigned}
use Rattle.std.proofs.lemmas.Int.{to_z-of_z}
use Rattle.sbpl_sweep.proofs.DiscsTouched.{disc_added, own_row}
use Rattle.sbpl_sweep.proofs.rows.push_cells_of.Goals as goal

pub returns : goal.returns
returns c = record {
  cells = λ cell radius p disc.
      let own : FitsSigned w64 c.args.disc.now.row.own = search rules in
      let at = simp to_z-of_z at c.band_of.ensures.row in
      let row =
      own_row cell radius p c.args.disc.now c.band_of.result c.args.left c.args.right disc at c.band_of.ensures.first
      c.band_of.ensures.last c.requires.left c.requires.right in
      disc_added cell radius p c.args.disc.now disc c.band_of.result c.args.left c.args.right
      c.reach_of-above.result c.reach_of-below.result
      c.args.bands.now.items c.push.new.self.items c.push_rows.new.bands.items c.push_rows-2.new.bands.items row
      at c.in_ok-push.ensures.items
      c.reach_of-above.ensures.reach c.reach_of-below.ensures.reach (c.in_ok-push_rows.ensures.rows cell radius p disc)
      (c.in_ok-push_rows-2.ensures.rows cell radius p disc);
}
