use Rattle.std.proofs.Common.{◌<◌, length, set, get_or, false, inl, inr, arith, ap, sym, ◌∙◌}
use Rattle.std.proofs.lemmas.Bool.{cases_lt}
use Rattle.std.proofs.lemmas.List.{get_or_read, get_or_past}
use Rattle.sbpl_heur.proofs.walks.take.Goals as goal

pub returns-then-index-2-clause-takes : goal.returns-then-index-2-clause-takes
returns-then-index-2-clause-takes c =
    let same = c.loop-cell.invariant.0 in
    let inside : c.loop-cell.cell < length c.args.marks.now.items =
    omega (arith, c.loop-cell-test.true, c.len-cell-end.ensures) in
    record {
      inside = inside;
      marked =
          ap (λ l. get_or l c.loop-cell.cell false) (sym same)
          ∙ sym (get_or_read c.loop-cell.marks.items _ _ (omega (arith, inside, ap length same))
          c.index-in-loop-cell.ensures false) ∙ c.if-index-2.true;
      taken = ap (λ l. set l c.loop-cell.cell false) same;
    }

pub returns-clause-none : goal.returns-clause-none
returns-clause-none c a = elim (cases_lt a c.loop-cell.cell) [
  | inl below ↦ ap (λ l. get_or l a false) (sym c.loop-cell.invariant.0) ∙ c.loop-cell.invariant.1 a below
  | inr past ↦ get_or_past c.args.marks.now.items a false (omega (arith, c.loop-cell-test.false, c.len-cell-end.ensures))
]
