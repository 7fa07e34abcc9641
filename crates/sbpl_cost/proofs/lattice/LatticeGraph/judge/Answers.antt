use Rattle.std.proofs.Common.{rules, refl, length, ap, sym, subst, ◌∙◌, ◌*◌, ◌+◌, ◌<◌, ◌^◌, ◌≡◌, Some}
use Rattle.sbpl_terrain.specs.sbpl_graph.Laws.{IsSound}
use Rattle.sbpl_cost.specs.Lattices.{network_of}
use Rattle.std.proofs.lemmas.Option.{same_Some, slice_get_read, slice_get_within}
use Rattle.sbpl_cost.specs.Reaches.{IsReach, LieWithin}
use Rattle.sbpl_cost.specs.Strips.{cells_in}
use Rattle.sbpl_cost.proofs.CostTables.{price_of}
use Rattle.sbpl_cost.proofs.Judged.{read_at, near_along, near_around, none_where_obstructed, some_where_passed}
use Rattle.sbpl_cost.proofs.LatticeLaws.{sound}
use Rattle.sbpl_cost.proofs.Views.{found_by, number_below, state_below}
use Rattle.sbpl_cost.proofs.lattice.LatticeGraph.judge.Goals as goal

pub place_at-source-requires : goal.place_at-source-requires
place_at-source-requires c =
    let state = rw (← c.self.view_is) at c.requires.state in
    record { state = state_below _ c.args.s state }

pub leaving_at-i-requires-clause-number : goal.leaving_at-i-requires-clause-number
leaving_at-i-requires-clause-number c =
    let number = rw (← c.self.view_is) at c.requires.number in
    rw (← c.self.view_is)
    (number_below _ c.args.s c.args.k c.place_at-source.result.t (ap (λ q. q.t) c.place_at-source.ensures.value) number)

pub at-along-requires : goal.at-along-requires
at-along-requires c =
    let place = rw (← c.self.view_is) at c.leaving_at-i.ensures.place in
    let found =
    found_by _ c.args.s c.args.k c.place_at-source.result.t c.leaving_at-i.result c.self.invariant.world
    (ap (λ q. q.t) c.place_at-source.ensures.value) place in
    let entry = c.self.invariant.along c.leaving_at-i.result found.0 found.1.by.stands in
    record { number = slice_get_within c.self.inside.along c.leaving_at-i.result entry.0 entry.1 }

pub at-around-requires : goal.at-around-requires
at-around-requires c =
    let place = rw (← c.self.view_is) at c.leaving_at-i.ensures.place in
    let found =
    found_by _ c.args.s c.args.k c.place_at-source.result.t c.leaving_at-i.result c.self.invariant.world
    (ap (λ q. q.t) c.place_at-source.ensures.value) place in
    let entry = c.self.invariant.around c.leaving_at-i.result found.0 found.1.by.stands in
    record { number = slice_get_within c.self.inside.around c.leaving_at-i.result entry.0 entry.1 }

pub index-reach-requires : goal.index-reach-requires
index-reach-requires c =
    let place = rw (← c.self.view_is) at c.leaving_at-i.ensures.place in
    let found =
    found_by _ c.args.s c.args.k c.place_at-source.result.t c.leaving_at-i.result c.self.invariant.world
    (ap (λ q. q.t) c.place_at-source.ensures.value) place in
    let entry =
    c.self.invariant.reaches c.leaving_at-i.result found.0 c.at-around.result.now found.1.by.stands
    c.at-around.ensures.list in
    let within = slice_get_within c.self.inside.reaches.items c.leaving_at-i.result entry.0 entry.1 in
    search rules

pub greatest_paid-requires : goal.greatest_paid-requires
greatest_paid-requires c =
    let world = c.self.invariant.world in
    let place = rw (← c.self.view_is) at c.leaving_at-i.ensures.place in
    let found =
    found_by _ c.args.s c.args.k c.place_at-source.result.t c.leaving_at-i.result world
    (ap (λ q. q.t) c.place_at-source.ensures.value) place in
    let are =
    read_at _ world c.self.inside.along c.self.inside.around c.leaving_at-i.result found.0 c.at-along.result.now
    c.at-around.result.now c.self.invariant.along c.self.invariant.around found.1.by.stands
    c.at-along.ensures.list c.at-around.ensures.list in
    let entry =
    c.self.invariant.reaches c.leaving_at-i.result found.0 c.at-around.result.now found.1.by.stands
    c.at-around.ensures.list in
    let within = slice_get_within c.self.inside.reaches.items c.leaving_at-i.result entry.0 entry.1 in
    let at =
    slice_get_read c.self.inside.reaches.items (length c.self.inside.reaches.items) c.leaving_at-i.result
    c.index-reach.result.now refl within c.index-reach.ensures in
    let same = same_Some entry.0 c.index-reach.result.now (sym entry.1 ∙ at) in
    record {
      reach = subst IsReach same entry.2;
      within = subst (λ r. LieWithin r (cells_in c.at-around.result.now)) same entry.3;
      walls = c.self.invariant.walls;
      along =
          near_along c.self.inside.env.cell c.self.inside.env.cell c.self.inside.env.headings found.0
          c.at-along.result.now world.env.cell are.good are.along;
      around =
          near_around c.self.inside.env.cell c.self.inside.env.cell c.self.inside.env.headings
          c.self.inside.sweeps.radius found.0 c.at-around.result.now world.env.cell are.good world.radius are.around;
    }

pub returns-in_default-clause-value : goal.returns-in_default-clause-value
returns-in_default-clause-value c =
    let world = c.self.invariant.world in
    let place = rw (← c.self.view_is) at c.leaving_at-i.ensures.place in
    let found =
    found_by _ c.args.s c.args.k c.place_at-source.result.t c.leaving_at-i.result world
    (ap (λ q. q.t) c.place_at-source.ensures.value) place in
    let are =
    read_at _ world c.self.inside.along c.self.inside.around c.leaving_at-i.result found.0 c.at-along.result.now
    c.at-around.result.now c.self.invariant.along c.self.invariant.around found.1.by.stands
    c.at-along.ensures.list c.at-around.ensures.list in
    rw (← c.self.view_is)
    (none_where_obstructed _ world c.args.s c.args.k c.leaving_at-i.result found.0 found.1 c.at-along.result.now
    c.at-around.result.now are c.place_at-source.result c.place_at-source.ensures.value c.in_default.ensures.blocked)

-- the answer is the graph's
is_cost : (c : goal.After-from)
    → Some (c.index.result.now * (c.from.result + 1)) ≡ (network_of c.args.self.now).cost c.args.s c.args.k
is_cost c =
    let world = c.self.invariant.world in
    let place = rw (← c.self.view_is) at c.leaving_at-i.ensures.place in
    let found =
    found_by _ c.args.s c.args.k c.place_at-source.result.t c.leaving_at-i.result world
    (ap (λ q. q.t) c.place_at-source.ensures.value) place in
    let are =
    read_at _ world c.self.inside.along c.self.inside.around c.leaving_at-i.result found.0 c.at-along.result.now
    c.at-around.result.now c.self.invariant.along c.self.invariant.around found.1.by.stands
    c.at-along.ensures.list c.at-around.ensures.list in
    let own =
    price_of c.self.inside.env c.self.inside.prims.items c.self.inside.costs.items c.leaving_at-i.result
    c.index.result.now found.0 c.self.invariant.costs found.1.by.stands c.index.ensures in
    rw (← c.self.view_is) (some_where_passed _ world c.args.s c.args.k c.leaving_at-i.result found.0 found.1
    c.at-along.result.now c.at-around.result.now are c.place_at-source.result c.in-Some.greatest
    c.index.result.now c.from.result
    c.place_at-source.ensures.value c.in-Some.ensures.greatest own c.from.ensures)

is_sound : (c : goal.After-from) → IsSound (network_of c.args.self.now)
is_sound c = rw (← c.self.view_is) (sound _ c.self.invariant.world)

pub overflow_mul-result : goal.overflow_mul-result
overflow_mul-result c =
    let small : c.index.result.now * (c.from.result + 1) < 2 ^ 32 =
    (is_sound c).cost_fits c.args.s c.args.k (c.index.result.now * (c.from.result + 1)) c.requires.state
    c.requires.number (sym (is_cost c)) in
    search rules

pub returns-clause-value : goal.returns-clause-value
returns-clause-value c = is_cost c

pub returns-clause-positive : goal.returns-clause-positive
returns-clause-positive c =
    (is_sound c).cost_at_least_one c.args.s c.args.k (c.index.result.now * (c.from.result + 1)) c.requires.state
    c.requires.number (sym (is_cost c))

pub returns-clause-small : goal.returns-clause-small
returns-clause-small c =
    (is_sound c).cost_fits c.args.s c.args.k (c.index.result.now * (c.from.result + 1)) c.requires.state
    c.requires.number (sym (is_cost c))

pub returns-clause-headed : goal.returns-clause-headed
returns-clause-headed c =
    (is_sound c).free_has_head c.args.s c.args.k (c.index.result.now * (c.from.result + 1)) c.requires.state
    c.requires.number (sym (is_cost c))
