use Rattle.std.proofs.Common.{◌≡◌, true, false, ◌∙◌, sym, pos, ◌+ℤ◌, rules, w64, FitsSigned}
use Rattle.std.proofs.lemmas.Int.{ints, to_z-of_z}
use Rattle.sbpl_sweep.proofs.Listings.{next_after_last, next_at_start}
use Rattle.sbpl_sweep.proofs.gathering.next_column.Goals as goal

false_is_not_true : false ≡ true → ⊥
false_is_not_true h = cc

pub returns-then-is_after_start : goal.returns-then-is_after_start
returns-then-is_after_start c =
    let at = sym c.in-Some.ensures.value in
    let test = c.is_after_start.ensures.after.0 c.if-is_after_start.true in
    let bound =
    c.requires.goes_on.bounded c.in-Some.last.now.x c.in-Some.last.now.y (record { number = _; stands = at }) in
    let x : FitsSigned w64 c.in-Some.last.now.x = search rules in
    let next : FitsSigned w64 (c.in-Some.last.now.x +ℤ pos 1) = search (rules, ints) in
    simp to_z-of_z (record {
      next =
          next_after_last c.args.cells.now c.requires.ordered c.in-Some.last.now at c.args.band.now
          c.requires.goes_on test.0 test.1;
    })

pub returns-else-is_after_start : goal.returns-else-is_after_start
returns-else-is_after_start c =
    let at = sym c.in-Some.ensures.value in
    let first : FitsSigned w64 c.args.band.now.first = search rules in
    simp to_z-of_z (record {
      next =
          next_at_start c.args.cells.now c.requires.ordered c.in-Some.last.now at c.args.band.now c.requires.goes_on
          (λ both. false_is_not_true (sym c.if-is_after_start.false ∙ c.is_after_start.ensures.after.1 both));
    })
