use Rattle.std.proofs.Common.{arith, ap, sym, ◌∙◌, pos, ◌+ℤ◌}
use Rattle.std.proofs.lemmas.Option.{slice_get_within}
use Rattle.sbpl_cost.specs.States.{state_in}
use Rattle.sbpl_terrain.specs.declared.arc_end.ArcEnd.TheVariants as end
use Rattle.sbpl_cost.proofs.Tails.{arc_as_tail}
use Rattle.sbpl_cost.proofs.TailViews.{number_read}
use Rattle.sbpl_cost.proofs.Views.{found_prim, number_below, state_below, head_is}
use Rattle.sbpl_cost.proofs.lattice.Lattice.as_tail.Goals as goal

pub place_at-source-requires : goal.place_at-source-requires
place_at-source-requires c =
    let state = rw (← c.self.view_is) at c.requires.state in
    record { state = state_below _ c.args.s state }

pub leaving_at-i-requires-clause-number : goal.leaving_at-i-requires-clause-number
leaving_at-i-requires-clause-number c =
    let number = rw (← c.self.view_is) at c.requires.number in
    rw (← c.self.view_is)
    (number_below _ c.args.s c.args.k c.place_at-source.result.t (ap (λ q. q.t) c.place_at-source.ensures.value) number)

pub end_state-requires : goal.end_state-requires
end_state-requires c =
    let place = rw (← c.self.view_is) at c.leaving_at-i.ensures.place in
    let found =
    found_prim _ c.args.s c.args.k c.place_at-source.result.t c.leaving_at-i.result c.get.result.now
    c.self.invariant.world (ap (λ q. q.t) c.place_at-source.ensures.value) place c.get.ensures.prim in
    record { heading = omega (arith, found.good.to, c.self.invariant.world.headings) }

pub index-requires : goal.index-requires
index-requires c =
    let there = c.self.invariant.tail_numbers c.leaving_at-i.result c.get.result.now c.get.ensures.prim in
    omega (arith, slice_get_within c.self.inside.tail_numbers.items c.leaving_at-i.result _ there)

pub returns-in_default-clause-head : goal.returns-in_default-clause-head
returns-in_default-clause-head c =
    let place = rw (← c.self.view_is) at c.leaving_at-i.ensures.place in
    let found =
    found_prim _ c.args.s c.args.k c.place_at-source.result.t c.leaving_at-i.result c.get.result.now
    c.self.invariant.world (ap (λ q. q.t) c.place_at-source.ensures.value) place c.get.ensures.prim in
    let is =
    c.end_state.ensures.value
    ∙ ap (λ q. state_in c.self.inside.env (pos q.x +ℤ c.get.result.now.dx) (pos q.y +ℤ c.get.result.now.dy)
    c.get.result.now.to) c.place_at-source.ensures.value
    ∙ sym (head_is _ c.args.s c.args.k c.leaving_at-i.result c.get.result.now found) in
    rw (← c.self.view_is) (sym is ∙ c.in_default.is)

pub returns-clause-head : goal.returns-clause-head
returns-clause-head c =
    let place = rw (← c.self.view_is) at c.leaving_at-i.ensures.place in
    let found =
    found_prim _ c.args.s c.args.k c.place_at-source.result.t c.leaving_at-i.result c.get.result.now
    c.self.invariant.world (ap (λ q. q.t) c.place_at-source.ensures.value) place c.get.ensures.prim in
    let is =
    c.end_state.ensures.value
    ∙ ap (λ q. state_in c.self.inside.env (pos q.x +ℤ c.get.result.now.dx) (pos q.y +ℤ c.get.result.now.dy)
    c.get.result.now.to) c.place_at-source.ensures.value
    ∙ sym (head_is _ c.args.s c.args.k c.leaving_at-i.result c.get.result.now found) in
    rw (← c.self.view_is) (sym is ∙ c.in-Some.is)

pub returns-clause-tail : goal.returns-clause-tail
returns-clause-tail c =
    let world = c.self.invariant.world in
    let place = rw (← c.self.view_is) at c.leaving_at-i.ensures.place in
    let found =
    found_prim _ c.args.s c.args.k c.place_at-source.result.t c.leaving_at-i.result c.get.result.now world
    (ap (λ q. q.t) c.place_at-source.ensures.value) place c.get.ensures.prim in
    let is =
    c.end_state.ensures.value
    ∙ ap (λ q. state_in c.self.inside.env (pos q.x +ℤ c.get.result.now.dx) (pos q.y +ℤ c.get.result.now.dy)
    c.get.result.now.to) c.place_at-source.ensures.value
    ∙ sym (head_is _ c.args.s c.args.k c.leaving_at-i.result c.get.result.now found) in
    let state = rw (← c.self.view_is) at c.requires.state in
    let inside = rw (← c.self.view_is) at c.requires.number in
    let number =
    number_read end.Head c.self.inside.prims.items c.self.inside.tail_numbers.items c.leaving_at-i.result
    c.index.result.now c.get.result.now c.self.invariant.tail_numbers c.get.ensures.prim c.index.ensures in
    let tail =
    arc_as_tail _ world c.args.s c.args.k c.in-Some.head c.leaving_at-i.result c.index.result.now c.get.result.now found
    (record { source = state; number = inside; head = sym is ∙ c.in-Some.is }) number in
    rw (← c.self.view_is) tail
