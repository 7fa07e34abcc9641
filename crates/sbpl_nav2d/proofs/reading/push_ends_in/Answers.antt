use Rattle.std.proofs.Common.{◌≡◌, ◌+◌, ◌*◌, ◌%◌, true, sym, ◌∙◌, arith}
use Rattle.std.proofs.lemmas.Bool.{eqb-true}
use Rattle.std.proofs.lemmas.Int.{ints, to_z-of_z}
use Rattle.std.proofs.lemmas.Result.{on_ok_weaker}
use Rattle.sbpl_nav2d.specs.Directions.{is_diagonal}
use Rattle.sbpl_nav2d.proofs.Adding.{diagonal_added, none_or_step, side_or_side, straight_added}
use Rattle.sbpl_nav2d.proofs.Fitting.{fits}
use Rattle.sbpl_nav2d.proofs.reading.push_ends_in.Goals as goal

pub returns-then-not-is_diagonal-clause-added : goal.returns-then-not-is_diagonal-clause-added
returns-then-not-is_diagonal-clause-added c =
    let ends = rw c.direction-step.ensures.value at c.in_ok-push_pair.ensures.added in
    straight_added c.args.end c.args.nav.now c.args.k c.args.cell c.args.into.now.items c.push_pair.new.into.items
    (2 + 2 * (c.args.k % 2)) (sym c.if-not-is_diagonal.ensures.value) ends (omega arith)

pub returns-clause-added : goal.returns-clause-added
returns-clause-added c =
    let step = c.direction-step.ensures.step in
    let x = fits c.direction-step.result.x (omega (arith, ints, step.0.0)) (omega (arith, ints, step.0.1)) in
    let y = fits c.direction-step.result.y (omega (arith, ints, step.1.0)) (omega (arith, ints, step.1.1)) in
    let ends = rw c.direction-step.ensures.value at c.in_ok-push_pair.ensures.added in
    let fitted = simp to_z-of_z at c.push_pair-2.ensures.added in
    let sides = rw c.direction-step.ensures.value at fitted in
    let diagonal : is_diagonal c.args.k ≡ true = sym c.is_diagonal.ensures.value ∙ c.if-not-is_diagonal.false in
    let odd : c.args.k % 2 ≡ 1 = eqb-true (c.args.k % 2) 1 diagonal in
    on_ok_weaker c.push_pair-2.result (λ sides.
    diagonal_added c.args.end c.args.nav.now c.args.k c.args.cell c.args.into.now.items c.push_pair.new.into.items
    c.push_pair-2.new.into.items (2 + 2 * (c.args.k % 2)) c.requires.number diagonal ends sides (omega arith)) sides

pub push_pair-requires-clause-apart : goal.push_pair-requires-clause-apart
push_pair-requires-clause-apart c =
    none_or_step c.args.k c.direction-step.result c.requires.number c.direction-step.ensures.value

pub push_pair-requires-2-clause-apart : goal.push_pair-requires-2-clause-apart
push_pair-requires-2-clause-apart c =
    let step = c.direction-step.ensures.step in
    let x = fits c.direction-step.result.x (omega (arith, ints, step.0.0)) (omega (arith, ints, step.0.1)) in
    let y = fits c.direction-step.result.y (omega (arith, ints, step.1.0)) (omega (arith, ints, step.1.1)) in
    let diagonal : is_diagonal c.args.k ≡ true = sym c.is_diagonal.ensures.value ∙ c.if-not-is_diagonal.false in
    simp to_z-of_z
    (side_or_side c.args.k c.direction-step.result c.requires.number diagonal c.direction-step.ensures.value)
