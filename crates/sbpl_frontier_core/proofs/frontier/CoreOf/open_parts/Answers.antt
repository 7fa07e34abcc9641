use Rattle.std.proofs.Common.{◌≡◌, ◌≤◌, arith, refl, sym, ap, ◌∙◌}
use Rattle.sbpl_frontier_rules.specs.sbpl_labels.Marks.{states_of}
use Rattle.sbpl_frontier_rules.specs.sbpl_search.Query.{Query}
use Rattle.sbpl_frontier_rules.specs.sbpl_serial.Marked.{closed_at}
use Rattle.sbpl_frontier_rules.specs.sbpl_serial.Run.{none_closed}
use Rattle.sbpl_frontier_core.proofs.Cursors.{none_from}
use Rattle.sbpl_frontier_core.proofs.Parting.{parts_first}
use Rattle.sbpl_frontier_core.proofs.frontier.CoreOf.open_parts.Goals as goal

pub invariant_of-result : goal.invariant_of-result
invariant_of-result g c =
    let network = ap (λ (q : Query). q.network) c.requires.query in
    let guide = ap (λ (q : Query). q.guide) c.requires.query in
    let to = ap (λ (q : Query). q.goal) c.requires.query in
    let eps = ap (λ (q : Query). q.eps) c.requires.query in
    let space = c.space.inside in
    let none_opened = rw (← c.space.view_is) at c.in-Ok.ensures.none_opened in
    let begun = rw (← c.space.view_is) at c.in-Ok.ensures.queued in
    let unlisted = rw (← c.space.view_is) at c.in-Ok.ensures.none_expanded in
    let guides = rw (network, to) at c.requires.guide in
    let ready = rw (network, c.requires.labels, c.requires.budget) at c.requires.ready in
    let fan = rw network at c.fan.ensures.value in
    let none : none_closed ≡ closed_at space.opened = λ i s. sym (none_opened s) i in
    let past : g.N.Pass.query.network.fan c.args.goal ≤ c.fan.result = omega (arith, fan) in
    let inside = rw network at c.requires.goal in
    let queued = rw (eps, guide, none) at begun in (
      network,
      guide,
      guides,
      to,
      eps,
      parts_first
          (record {
            sound = rw network at c.states-states.ensures.sound;
            gaps = rw network at c.states-states.ensures.gaps;
            consistent =
                rw (network, guide, to) at (g.met.H.Guide.consistent c.args.guide.now
                (g.G.Graph.network c.args.graph.now) c.args.goal c.requires.guide);
            inflation = omega (arith, c.requires.eps_low, eps);
          })
          (record {
            labels = rw c.requires.labels at c.start-start.ensures.labels;
            ready = ready;
            counts = rw c.requires.budget at c.used-used.ensures.counts;
          })
          (record {
            labels = c.requires.labels;
            counts = c.requires.budget;
            marks = omega (arith, c.space.invariant.0, queued.states, ap states_of c.requires.labels);
            none_opened = none_opened;
            none_ready = none_from g.N.Pass.query.network c.args.goal c.fan.result past;
            none_out = c.new.ensures.items;
            next = refl;
          })
          c.open.ensures.empty (c.open.ensures.keeps ∙ c.requires.keeps) (omega (arith, inside, to)) inside queued
          unlisted c.space.invariant.2 c.space.invariant.3,
    )

pub begin-requires-clause-known : goal.begin-requires-clause-known
begin-requires-clause-known g c = λ s inside.
    g.met.H.Guide.covered c.args.guide.now (g.G.Graph.network c.args.graph.now) c.args.goal s c.requires.guide
    (omega (arith, inside, c.requires.ready.states))

pub returns-clause-first : goal.returns-clause-first
returns-clause-first g c =
    let network = ap (λ (q : Query). q.network) c.requires.query in
    let fan = rw network at c.fan.ensures.value in
    let past : g.N.Pass.query.network.fan c.args.goal ≤ c.fan.result = omega (arith, fan) in
    let begun = rw (← c.space.view_is) at c.in-Ok.ensures.queued in
    record {
      labels = c.requires.labels;
      counts = c.requires.budget;
      marks = omega (arith, c.space.invariant.0, begun.states, ap states_of c.requires.labels);
      none_opened = rw (← c.space.view_is) at c.in-Ok.ensures.none_opened;
      none_ready = none_from g.N.Pass.query.network c.args.goal c.fan.result past;
      none_out = c.new.ensures.items;
      next = refl;
    }
