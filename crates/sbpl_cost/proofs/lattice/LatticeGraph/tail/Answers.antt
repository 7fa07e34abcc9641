use Rattle.std.proofs.Common.{arith, ap, refl}
use Rattle.std.proofs.lemmas.Option.{slice_get_within}
use Rattle.sbpl_terrain.specs.declared.arc_end.ArcEnd.TheVariants as end
use Rattle.sbpl_cost.proofs.Views.{state_below}
use Rattle.sbpl_cost.proofs.TailViews.{tail_below, tail_read, tail_inside, number_read}
use Rattle.sbpl_cost.proofs.lattice.LatticeGraph.tail.Goals as goal

pub place_at-target-requires : goal.place_at-target-requires
place_at-target-requires c =
    let state = rw (← c.self.view_is) at c.requires.state in
    record { state = state_below _ c.args.t state }

pub entering_at-i-requires-clause-number : goal.entering_at-i-requires-clause-number
entering_at-i-requires-clause-number c =
    let number = rw (← c.self.view_is) at c.requires.number in
    rw (← c.self.view_is)
    (tail_below _ c.args.t c.args.j c.place_at-target.result.t (ap (λ q. q.t) c.place_at-target.ensures.value) number)

pub start_state-requires : goal.start_state-requires
start_state-requires c = record {
  heading = omega (
    arith,
    (c.self.invariant.world.prims.each c.entering_at-i.result c.get.result.now c.get.ensures.prim).from,
    c.self.invariant.world.headings,
  );
}

pub returns-in_default-clause-value : goal.returns-in_default-clause-value
returns-in_default-clause-value c =
    let place = rw (← c.self.view_is) at c.entering_at-i.ensures.place in
    rw (← c.self.view_is) (tail_read _ c.args.t c.args.j c.entering_at-i.result c.place_at-target.result
    c.get.result.now c.place_at-target.ensures.value place c.get.ensures.prim _ refl _ c.in_default.ensures.value)

pub index-requires : goal.index-requires
index-requires c =
    let there = c.self.invariant.numbers c.entering_at-i.result c.get.result.now c.get.ensures.prim in
    omega (arith, slice_get_within c.self.inside.numbers.items c.entering_at-i.result _ there)

pub returns : goal.returns
returns c =
    let world = c.self.invariant.world in
    let place = rw (← c.self.view_is) at c.entering_at-i.ensures.place in
    let number =
    number_read end.Source c.self.inside.prims.items c.self.inside.numbers.items c.entering_at-i.result
    c.index.result.now c.get.result.now c.self.invariant.numbers c.get.ensures.prim c.index.ensures in
    let is =
    tail_read _ c.args.t c.args.j c.entering_at-i.result c.place_at-target.result c.get.result.now
    c.place_at-target.ensures.value place c.get.ensures.prim c.index.result.now number _ c.in-Some.ensures.value in
    let state = rw (← c.self.view_is) at c.requires.state in
    let inside = rw (← c.self.view_is) at c.requires.number in
    rw (← c.self.view_is) (record { value = is; inside = tail_inside _ world c.args.t c.args.j state inside _ is })
