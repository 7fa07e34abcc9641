use Rattle.std.proofs.Common.{◌≡◌, ap, ◌∙◌, Some, arith}
use Rattle.sbpl_cost.specs.Lattices.{leaving}
use Rattle.sbpl_cost.proofs.Filling.{filled_more}
use Rattle.sbpl_cost.proofs.tables.leaving_table.Goals as goal

pub loop-t-preserved : goal.loop-t-preserved
loop-t-preserved c =
    filled_more (λ k places. places ≡ leaving c.args.prims.now.items k) c.loop-t.table c.push.new.self c.loop-t.t
    c.as_slice.result.now c.loop-t.invariant c.in_ok-push.ensures.added
    (c.as_slice.ensures.value ∙ c.in_ok-places.ensures.places)

pub returns : goal.returns
returns c = record {
  table = λ t h. let entry = c.loop-t.invariant.1 t (omega (arith, h, c.headings-t-end.ensures.headings)) in
      entry.1 ∙ ap (λ l. Some l) entry.2;
}
