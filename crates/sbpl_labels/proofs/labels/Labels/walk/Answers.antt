use Rattle.std.proofs.Common.{◌≡◌, ℕ, ◌<◌, ◌≤◌, Some, None, arith, sym, ap, ◌∙◌, refl, ⊎_elim}
use Rattle.sbpl_graph.specs.declared.TheConstants.{FAR}
use Rattle.sbpl_graph.specs.Exact.{GivesLabel}
use Rattle.sbpl_labels.specs.Marks.{g_of, v_of, back_of}
use Rattle.sbpl_labels.proofs.Walking.{arc_gives, room_for_one, walk_on, walk_falls, walk_ends}
use Rattle.sbpl_labels.proofs.labels.Labels.walk.Goals as goal
use Rattle.sbpl_labels.proofs.labels.Labels.walk.Goals.{In-Some, After-from-cost}

-- the arc that the walk goes on over
over : (g : _) (c : In-Some g) → g_of c.args.self.now c.loop-into.at ≤ v_of c.args.self.now c.loop-into.at
over g c = omega arith

by : (g : _) (c : In-Some g) → back_of c.args.self.now c.loop-into.at ≡ Some (c.in-Some.s, c.in-Some.k)
by g c = sym c.back.ensures.value ∙ c.in-Some.is

given : (g : _) (c : In-Some g)
    → (x : ℕ) × GivesLabel (g.G.Graph.network c.args.graph.now) (g_of c.args.self.now) (v_of c.args.self.now)
    c.in-Some.s c.in-Some.k c.loop-into.at x
given g c = arc_gives c.requires.exact c.loop-into.invariant.0 (over g c) (by g c)

pub judge-requires-clause-state : goal.judge-requires-clause-state
judge-requires-clause-state g c = (given g c).1.free.source

pub judge-requires-clause-number : goal.judge-requires-clause-number
judge-requires-clause-number g c = (given g c).1.free.number

pub unwrap-requires : goal.unwrap-requires
unwrap-requires g c =
    let arc = (given g (goal.at.unwrap-requires g c).In-Some).1.free.cost in
    rw (c.judge.ensures.value, arc) refl

-- the cost of that arc
price : (g : _) (c : After-from-cost g)
    → (g.G.Graph.network c.args.graph.now).cost c.in-Some.s c.in-Some.k ≡ Some c.from-cost.result
price g c = sym c.judge.ensures.value ∙ c.unwrap.ensures ∙ ap Some (sym c.from-cost.ensures)

some_cost : (g : _) (c : After-from-cost g) → 1 ≤ c.from-cost.result
some_cost g c = let positive = rw c.unwrap.ensures at c.judge.ensures.positive in omega arith

pub push_reserved-requires : goal.push_reserved-requires
push_reserved-requires g c =
    let at = goal.at.push_reserved-requires g c in
    let room =
    room_for_one c.requires.exact c.loop-into.invariant.0 (over g at.In-Some) (by g at.In-Some) c.from-cost.result
    (price g at.After-from-cost) (some_cost g at.After-from-cost) in
    omega (arith, c.loop-into.into.ok.0, c.loop-into.invariant.1)

pub loop-into-smaller : goal.loop-into-smaller
loop-into-smaller g c =
    let at = goal.at.loop-into-smaller g c in
    walk_falls c.requires.exact c.loop-into.invariant.0 (over g at.In-Some) (by g at.In-Some) c.from-cost.result
    (price g at.After-from-cost) (some_cost g at.After-from-cost)

pub loop-into-preserved : goal.loop-into-preserved
loop-into-preserved g c =
    let at = goal.at.loop-into-preserved g c in (
      rw c.push_reserved.ensures.items (walk_on c.requires.exact c.loop-into.invariant.0 (over g at.In-Some)
          (by g at.In-Some) c.from-cost.result (price g at.After-from-cost) (some_cost g at.After-from-cost)),
      c.push_reserved.ensures.capacity ∙ c.loop-into.invariant.1,
    )

pub returns-clause-walk : goal.returns-clause-walk
returns-clause-walk g c =
    let none : back_of c.args.self.now c.loop-into.at ≡ None = sym c.back.ensures.value ∙ c.in_default.is in
    let near : g_of c.args.self.now c.args.goal < FAR =
    ⊎_elim (λ far. absurd (c.if-g.false far)) (λ small. omega arith) c.g.ensures.label in
    rw c.reverse.ensures.items (walk_ends c.requires.exact c.loop-into.invariant.0 (omega arith) none near)
