use Rattle.std.proofs.Common.{◌<◌, length, replicate, set, arith, ap, ◌∙◌, false}
use Rattle.std.proofs.lemmas.List.{length-replicate}
use Rattle.sbpl_serial.specs.sbpl_graph.declared.TheConstants.{FAR}
use Rattle.sbpl_heur.specs.Boards.{Board, cell_count}
use Rattle.sbpl_heur.proofs.Settling.{settled}
use Rattle.sbpl_heur.proofs.Sinking.{fresh, bare, none_marked}
use Rattle.sbpl_heur.proofs.walks.Walks.new.Goals as goal

pub invariant_of-result : goal.invariant_of-result
invariant_of-result c =
    let count = c.count-count.ensures.value in
    fresh _ (ap (λ l. set l c.args.goal 0) (c.in_ok-distances.ensures.items_if_clones_equal (λ y h. h)
    ∙ ap (λ n. replicate n FAR) count)) c.count-count.ensures.kept
    (omega (arith, c.requires.goal, ap (λ (b : Board). cell_count b) c.in_ok-cells.ensures.board))
    (ap length (c.in_ok-waits.ensures.items_if_clones_equal (λ y h. h)) ∙ length-replicate c.count-count.result false ∙ count) (ap length (c.in_ok-doubts.ensures.items_if_clones_equal (λ y h. h)) ∙ length-replicate c.count-count.result false ∙ count)

pub returns-clause-least : goal.returns-clause-least
returns-clause-least c =
    let count = c.count-count.ensures.value in
    let distances = ap (λ l. set l c.args.goal 0) (c.in_ok-distances.ensures.items_if_clones_equal (λ y h. h)
    ∙ ap (λ n. replicate n FAR) count) in
    let goal_inside : c.args.goal < cell_count c.in_ok-cells.cells =
    omega (arith, c.requires.goal, ap (λ (b : Board). cell_count b) c.in_ok-cells.ensures.board) in
    settled _ (fresh _ distances c.count-count.ensures.kept goal_inside
    (ap length (c.in_ok-waits.ensures.items_if_clones_equal (λ y h. h)) ∙ length-replicate c.count-count.result false ∙ count) (ap length (c.in_ok-doubts.ensures.items_if_clones_equal (λ y h. h)) ∙ length-replicate c.count-count.result false ∙ count))
    (bare _ distances c.count-count.ensures.kept goal_inside (ap (λ (b : Board). b.hops) c.in_ok-cells.ensures.board))
    (none_marked _ _ (c.in_ok-waits.ensures.items_if_clones_equal (λ y h. h)))
