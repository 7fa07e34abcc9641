use Rattle.std.proofs.Common.{rules, ◌≡◌, Some, None, arith, sym, ◌∙◌}
use Rattle.std.proofs.lemmas.Option.{same_Some}
use Rattle.sbpl_graph.specs.Laws.{IsTail}
use Rattle.sbpl_labels.specs.Marks.{v_of}
use Rattle.sbpl_labels.specs.Recomputed.{IsWay}
use Rattle.sbpl_labels.proofs.Choosing.{least_kept, least_found, way_over}
use Rattle.sbpl_labels.proofs.ways.lesser_way.Goals as goal

pub returns-in_default-judge : goal.returns-in_default-judge
returns-in_default-judge g c =
    let tail = sym c.tail.ensures.value ∙ c.in-Some.is in
    let none = sym c.judge.ensures.value ∙ c.in_default-judge.is in
    record {
      least =
          least_kept (g.G.Graph.network c.args.graph.now) (v_of c.args.labels.now) c.args.t c.args.j
          c.args.best c.requires.best
          (λ a l d way. let over = way_over _ _ _ c.args.j tail way in
          let is : ◌≡◌ (Some d) None = sym over.0 ∙ none in absurd (cc));
    }

pub returns-then-sum-limit : goal.returns-then-sum-limit
returns-then-sum-limit g c =
    let tail : IsTail (g.G.Graph.network c.args.graph.now) c.args.t c.args.j c.in-Some.s c.in-Some.k = record {
      target = omega (arith, c.requires.state, c.requires.states);
      number = c.requires.number;
      tail = sym c.tail.ensures.value ∙ c.in-Some.is;
    } in
    let arc = c.states-states.ensures.tails.tails_are_arcs c.args.t c.args.j c.in-Some.s c.in-Some.k tail in
    let way : IsWay (g.G.Graph.network c.args.graph.now) (v_of c.args.labels.now) c.args.t c.args.j c.in-Some.s
    c.in-Some.k c.in-Some-judge.cost = record {
      tail = tail;
      free = record {
        source = arc.source;
        number = arc.number;
        head = arc.head;
        cost = sym c.judge.ensures.value ∙ c.in-Some-judge.is;
      };
      near = search rules;
    } in
    record {
      least =
          least_found (g.G.Graph.network c.args.graph.now) (v_of c.args.labels.now) c.args.t c.args.j c.args.best
          c.in-Some.s c.in-Some.k c.in-Some-judge.cost _ c.requires.best way (search rules) (search rules);
    }

pub returns-then-v : goal.returns-then-v
returns-then-v g c =
    let tail = sym c.tail.ensures.value ∙ c.in-Some.is in
    record {
      least =
          least_kept (g.G.Graph.network c.args.graph.now) (v_of c.args.labels.now) c.args.t c.args.j
          c.args.best c.requires.best
          (λ a l d way. let over = way_over _ _ _ c.args.j tail way in
          absurd (omega (arith, over.1, way.near, c.v-v.ensures.value, c.if-v.true)));
    }

pub returns-then-limit-v : goal.returns-then-limit-v
returns-then-limit-v g c =
    let tail = sym c.tail.ensures.value ∙ c.in-Some.is in
    record {
      least =
          least_kept (g.G.Graph.network c.args.graph.now) (v_of c.args.labels.now) c.args.t c.args.j
          c.args.best c.requires.best
          (λ a l d way. let over = way_over _ _ _ c.args.j tail way in let floor = c.floor.ensures.floor d over.0 in
          let fits =
          c.states-states.ensures.sound.cost_fits c.in-Some.s c.in-Some.k d c.in-Some.ensures.inside.0
          c.in-Some.ensures.inside.1 over.0 in (
            omega (arith, over.1, floor, c.v-v.ensures.value, c.limit-limit.ensures.value, c.if-limit-v.true),
            omega (arith, over.1, fits, way.near, c.v-v.ensures.value, c.v-v.ensures.label),
          ));
    }

pub returns-else-sum-limit : goal.returns-else-sum-limit
returns-else-sum-limit g c =
    let tail = sym c.tail.ensures.value ∙ c.in-Some.is in
    let cost = sym c.judge.ensures.value ∙ c.in-Some-judge.is in
    record {
      least =
          least_kept (g.G.Graph.network c.args.graph.now) (v_of c.args.labels.now) c.args.t c.args.j
          c.args.best c.requires.best
          (λ a l d way. let over = way_over _ _ _ c.args.j tail way in
          let same : c.in-Some-judge.cost ≡ d = same_Some c.in-Some-judge.cost d (sym cost ∙ over.0) in
          let fits =
          c.states-states.ensures.sound.cost_fits c.in-Some.s c.in-Some.k d c.in-Some.ensures.inside.0
          c.in-Some.ensures.inside.1 over.0 in (
            omega (
              arith,
              over.1,
              same,
              c.v-v.ensures.value,
              c.limit-limit.ensures.value,
              c.if-sum-limit.false,
              c.from-2.ensures,
            ),
            omega (arith, over.1, fits, way.near, c.v-v.ensures.value, c.v-v.ensures.label),
          ));
    }
