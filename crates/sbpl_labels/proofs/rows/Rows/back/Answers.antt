use Rattle.std.proofs.Common.{arith, ap, sym, ◌∙◌, None}
use Rattle.std.proofs.lemmas.Option.{get_or_from_slice_get}
use Rattle.sbpl_labels.specs.declared.row.Row.{Row}
use Rattle.sbpl_labels.proofs.Columns.{rows_size, row_at_is}
use Rattle.sbpl_labels.proofs.rows.Rows.back.Goals as goal

pub get-requires : goal.get-requires
get-requires c = omega (
  arith,
  c.requires.state,
  rows_size _ _ _ c.self.view_is c.self.invariant,
  c.self.invariant.0,
  c.self.invariant.1,
)

pub returns : goal.returns
returns c = record {
  value =
      sym (get_or_from_slice_get c.self.inside.back c.args.s c.get.result None c.get.ensures.value)
      ∙ sym (ap (λ (r : Row). r.back) (row_at_is _ _ _ c.self.view_is c.self.invariant c.args.s));
}
