use Rattle.std.proofs.Common.{arith, ap, sym, ◌∙◌, pos, ◌+ℤ◌}
use Rattle.sbpl_cost.specs.States.{state_in}
use Rattle.sbpl_cost.proofs.Views.{found_prim, number_below, state_below, head_is, head_inside}
use Rattle.sbpl_cost.proofs.lattice.LatticeGraph.head.Goals as goal

pub place_at-source-requires : goal.place_at-source-requires
place_at-source-requires c =
    let state = rw (← c.self.view_is) at c.requires.state in
    record { state = state_below _ c.args.s state }

pub leaving_at-i-requires-clause-number : goal.leaving_at-i-requires-clause-number
leaving_at-i-requires-clause-number c =
    let number = rw (← c.self.view_is) at c.requires.number in
    rw (← c.self.view_is)
    (number_below _ c.args.s c.args.k c.place_at-source.result.t (ap (λ q. q.t) c.place_at-source.ensures.value) number)

pub end_state-requires : goal.end_state-requires
end_state-requires c =
    let place = rw (← c.self.view_is) at c.leaving_at-i.ensures.place in
    let found =
    found_prim _ c.args.s c.args.k c.place_at-source.result.t c.leaving_at-i.result c.get.result.now
    c.self.invariant.world (ap (λ q. q.t) c.place_at-source.ensures.value) place c.get.ensures.prim in
    record { heading = omega (arith, found.good.to, c.self.invariant.world.headings) }

pub returns-clause-value : goal.returns-clause-value
returns-clause-value c =
    let place = rw (← c.self.view_is) at c.leaving_at-i.ensures.place in
    let found =
    found_prim _ c.args.s c.args.k c.place_at-source.result.t c.leaving_at-i.result c.get.result.now
    c.self.invariant.world (ap (λ q. q.t) c.place_at-source.ensures.value) place c.get.ensures.prim in
    rw (← c.self.view_is) (c.end_state.ensures.value
    ∙ ap (λ q. state_in c.self.inside.env (pos q.x +ℤ c.get.result.now.dx) (pos q.y +ℤ c.get.result.now.dy)
    c.get.result.now.to) c.place_at-source.ensures.value
    ∙ sym (head_is _ c.args.s c.args.k c.leaving_at-i.result c.get.result.now found))

pub returns-clause-inside : goal.returns-clause-inside
returns-clause-inside c =
    let place = rw (← c.self.view_is) at c.leaving_at-i.ensures.place in
    let found =
    found_prim _ c.args.s c.args.k c.place_at-source.result.t c.leaving_at-i.result c.get.result.now
    c.self.invariant.world (ap (λ q. q.t) c.place_at-source.ensures.value) place c.get.ensures.prim in
    let is =
    c.end_state.ensures.value
    ∙ ap (λ q. state_in c.self.inside.env (pos q.x +ℤ c.get.result.now.dx) (pos q.y +ℤ c.get.result.now.dy)
    c.get.result.now.to) c.place_at-source.ensures.value
    ∙ sym (head_is _ c.args.s c.args.k c.leaving_at-i.result c.get.result.now found) in
    let state = rw (← c.self.view_is) at c.requires.state in
    let number = rw (← c.self.view_is) at c.requires.number in
    rw (← c.self.view_is) (head_inside _ c.self.invariant.world c.args.s c.args.k state number c.end_state.result is)
