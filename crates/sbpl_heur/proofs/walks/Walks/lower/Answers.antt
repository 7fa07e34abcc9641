use Rattle.std.proofs.Common.{◌≡◌, ℕ, ◌+◌, ◌<◌, arith, ap, sym, ◌∙◌, get_or, set, refl, List, Bool}
use Rattle.std.proofs.lemmas.List.{get_or_read}
use Rattle.std.proofs.lemmas.Option.{none-some, same_Some}
use Rattle.sbpl_serial.specs.sbpl_graph.declared.TheConstants.{FAR}
use Rattle.sbpl_heur.specs.Boards.{cost_of}
use Rattle.sbpl_heur.specs.Followed.{Walking, stays, falls}
use Rattle.sbpl_heur.proofs.Boarding.{arc_start, arc_cost, start_arc, weighed, weighs}
use Rattle.sbpl_heur.proofs.Sinking.{walking_still}
use Rattle.sbpl_heur.proofs.walks.Walks.lower.Goals as goal

pub returns-in_default-clause-lowers : goal.returns-in_default-clause-lowers
returns-in_default-clause-lowers c =
    rw (← c.self.view_is) (stays refl (λ a weight arc. absurd (none-some a (c.in_default.ensures.value
    ∙ arc_start c.self.inside.cells c.self.invariant.board a c.args.cell c.args.k weight arc))))

pub invariant_of-self : goal.invariant_of-self
invariant_of-self c =
    let inside = c.self.inside in
    let here = rw (← c.self.view_is) at c.requires.cell in
    let cell_is =
    get_or_read inside.distances.items _ _ (omega (arith, here, c.self.invariant.distances)) c.index.ensures 0 in
    let start_is =
    get_or_read inside.distances.items _ _ (omega (arith, c.in-Some.ensures.inside, c.self.invariant.distances))
    c.index-2.ensures 0 in
    let low = c.self.invariant.at_most c.in-Some.start in
    let near : c.weight-weight.result < FAR =
    omega (arith, c.saturating_add-through.ensures, c.if-through-index.true, start_is, low) in
    let through : c.saturating_add-through.result ≡ c.weight-weight.result + get_or inside.distances.items c.args.cell 0 =
    omega (arith, c.saturating_add-through.ensures, c.if-through-index.true, start_is, low, cell_is) in
    let arc =
    start_arc inside.cells c.self.invariant.board c.in-Some.start c.args.cell c.args.k c.weight-weight.result here
    (sym c.in-Some.ensures.value)
    (weighed (cost_of inside.cells c.in-Some.start c.args.cell c.args.k) c.weight-weight.result
    c.weight-weight.ensures.weight near) in
    walking_still _ c.args.cell c.args.k c.in-Some.start c.weight-weight.result _ _ c.self.invariant arc through
    (omega (arith, c.if-through-index.true, start_is)) c.mark.ensures.marked

pub returns-then-through-index-clause-lowers : goal.returns-then-through-index-clause-lowers
returns-then-through-index-clause-lowers c =
    let inside = c.self.inside in
    let here = rw (← c.self.view_is) at c.requires.cell in
    let cell_is =
    get_or_read inside.distances.items _ _ (omega (arith, here, c.self.invariant.distances)) c.index.ensures 0 in
    let start_is =
    get_or_read inside.distances.items _ _ (omega (arith, c.in-Some.ensures.inside, c.self.invariant.distances))
    c.index-2.ensures 0 in
    let low = c.self.invariant.at_most c.in-Some.start in
    let near : c.weight-weight.result < FAR =
    omega (arith, c.saturating_add-through.ensures, c.if-through-index.true, start_is, low) in
    let through : c.saturating_add-through.result ≡ c.weight-weight.result + get_or inside.distances.items c.args.cell 0 =
    omega (arith, c.saturating_add-through.ensures, c.if-through-index.true, start_is, low, cell_is) in
    let arc =
    start_arc inside.cells c.self.invariant.board c.in-Some.start c.args.cell c.args.k c.weight-weight.result here
    (sym c.in-Some.ensures.value)
    (weighed (cost_of inside.cells c.in-Some.start c.args.cell c.args.k) c.weight-weight.result
    c.weight-weight.ensures.weight near) in
    let a = c.in-Some.start in
    let made : List ℕ → List Bool → Walking = λ distances waits. record {
      board = inside.cells;
      goal = inside.goal;
      distances = distances;
      waits = waits;
      doubts = inside.doubts.items;
    } in
    rw (← c.self.view_is) (falls a c.weight-weight.result arc
    (omega (arith, c.if-through-index.true, start_is, through))
    (ap (λ (v : ℕ). made (set inside.distances.items a v) c.mark.new.marks.items) through
    ∙ ap (made (set inside.distances.items a (c.weight-weight.result + get_or inside.distances.items c.args.cell 0)))
    c.mark.ensures.marked))

pub returns-else-through-index-clause-lowers : goal.returns-else-through-index-clause-lowers
returns-else-through-index-clause-lowers c =
    let inside = c.self.inside in
    let here = rw (← c.self.view_is) at c.requires.cell in
    let cell_is =
    get_or_read inside.distances.items _ _ (omega (arith, here, c.self.invariant.distances)) c.index.ensures 0 in
    let start_is =
    get_or_read inside.distances.items _ _ (omega (arith, c.in-Some.ensures.inside, c.self.invariant.distances))
    c.index-2.ensures 0 in
    rw (← c.self.view_is) (stays refl (λ a weight arc.
    let same : c.in-Some.start ≡ a =
    same_Some c.in-Some.start a (c.in-Some.ensures.value
    ∙ arc_start inside.cells c.self.invariant.board a c.args.cell c.args.k weight arc) in
    let start : get_or inside.distances.items c.in-Some.start 0 ≡ get_or inside.distances.items a 0 =
    ap (λ (x : ℕ). get_or inside.distances.items x 0) same in
    let cost : c.weight-weight.result ≡ weight =
    weighs (cost_of inside.cells c.in-Some.start c.args.cell c.args.k) c.weight-weight.result weight
    c.weight-weight.ensures.weight (ap (λ (x : ℕ). cost_of inside.cells x c.args.cell c.args.k) same
    ∙ arc_cost inside.cells c.self.invariant.board a c.args.cell c.args.k weight arc) in
    omega (arith, c.saturating_add-through.ensures, c.if-through-index.false, start_is, cell_is, start, cost)))
