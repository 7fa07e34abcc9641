use Rattle.std.proofs.Common.{true, false, arith, refl, subst}
use Rattle.sbpl_search.specs.sbpl_labels.Marks.{AreLabels}
use Rattle.sbpl_search.specs.Query.{query}
use Rattle.sbpl_serial.specs.Meant.{usable_by}
use Rattle.sbpl_serial.specs.Serial.{SerialState}
use Rattle.sbpl_serial.proofs.Resting.{rest_from_queue}
use Rattle.sbpl_serial.proofs.Finishing.{passed_at_next, passed_at_rest}
use Rattle.sbpl_serial.proofs.Forwards.{forward_pass}
use Rattle.sbpl_serial.proofs.Passing.{passing_none, passing_next, passing_more, passing_room, usable_more}
use Rattle.sbpl_serial.proofs.Policies.{goes_forward, ready_again}
use Rattle.sbpl_serial.proofs.serial.Serial.pass.Goals as goal

pub begin-requires : goal.begin-requires
begin-requires g c = record {
  known = λ s inside.
      let usable = usable_by g.P.Policy.REPAIRS _ _ _ c.requires.ready in
      g.met.H.Guide.covered c.args.guide.now _ _ s c.requires.guide (omega (arith, usable.states));
}

pub expansions-init : goal.expansions-init
expansions-init g c =
    let begin = c.begin.ensures in
    passing_none begin.labels begin.goal begin.untraced (usable_by g.P.Policy.REPAIRS _ _ _ c.requires.ready)
    begin.queued

pub raise-requires-clause-room : goal.raise-requires-clause-room
raise-requires-clause-room g c =
    let here = c.expansions.invariant in
    let next = passing_next c.in-Some.s refl here c.in-Some.ensures.next in
    omega (arith, passing_room here c.in-Some.ensures.labels next, here.same_states)

pub expansions-preserved-then-v-g : goal.expansions-preserved-then-v-g
expansions-preserved-then-v-g g c =
    let here = c.expansions.invariant in
    let next = passing_next c.in-Some.s refl here c.in-Some.ensures.next in
    let consistent = g.met.H.Guide.consistent c.args.guide.now _ _ c.requires.guide in
    let by = c.raise.ensures in
    passing_more c.in-Some.s c.states-states.ensures.sound consistent c.in-Some.ensures.labels here next
    (true, by.taken) (λ count was. usable_more (by.usable count was)) by.goal c.spend.ensures.counted by.queued

pub expand-requires-clause-room : goal.expand-requires-clause-room
expand-requires-clause-room g c =
    let here = c.expansions.invariant in
    let next = passing_next c.in-Some.s refl here c.in-Some.ensures.next in
    omega (arith, passing_room here c.in-Some.ensures.labels next, here.same_states)

pub expansions-preserved : goal.expansions-preserved
expansions-preserved g c =
    let here = c.expansions.invariant in
    let next = passing_next c.in-Some.s refl here c.in-Some.ensures.next in
    let consistent = g.met.H.Guide.consistent c.args.guide.now _ _ c.requires.guide in
    let by = c.expand.ensures in
    passing_more c.in-Some.s c.states-states.ensures.sound consistent c.in-Some.ensures.labels here next
    (false, by.taken) by.usable by.goal c.spend.ensures.counted by.queued

pub returns-clause-passed : goal.returns-clause-passed
returns-clause-passed g c =
    let here = c.expansions.invariant in
    let usable = usable_by g.P.Policy.REPAIRS _ _ _ c.requires.ready in
    let rest =
    rest_from_queue (query (g.G.Graph.network c.args.graph.now) (g.H.Guide.distance c.args.guide.now) c.args.eps
    c.args.self.now.goal) here.queued (rw here.same_goal at c.in_default.ensures.next) in
    passed_at_rest here c.in_default.ensures.labels c.states-states.ensures.sound
    (g.met.H.Guide.consistent c.args.guide.now _ _ c.requires.guide)
    (λ s inside. g.met.H.Guide.bounded c.args.guide.now _ _ s c.requires.guide inside)
    (rw here.same_goal at c.in_default.ensures.inside) usable.exact.from_start rest

pub returns-clause-forward : goal.returns-clause-forward
returns-clause-forward g c =
    let was = subst (λ (a : SerialState). AreLabels a.labels) c.self.view_is c.start-start.ensures.labels in
    let passed = returns-clause-passed g c in
    goes_forward passed g.P.Policy.REPAIRS c.requires.ready (λ none.
    forward_pass none was c.in_default.ensures.labels c.requires.eps_high
    (λ s inside. g.met.H.Guide.bounded c.args.guide.now _ _ s c.requires.guide inside) _ passed)

pub returns-clause-ready : goal.returns-clause-ready
returns-clause-ready g c =
    ready_again (returns-clause-passed g c) g.P.Policy.REPAIRS (returns-clause-forward g c)

pub returns-then-spent-clause-passed : goal.returns-then-spent-clause-passed
returns-then-spent-clause-passed g c =
    let here = c.expansions.invariant in
    let usable = usable_by g.P.Policy.REPAIRS _ _ _ c.requires.ready in
    let next = passing_next c.in-Some.s refl here c.in-Some.ensures.next in
    passed_at_next here c.in-Some.ensures.labels usable.exact.from_start c.in-Some.s next
    (c.if-spent.ensures.spent.0 refl)

pub returns-then-spent-clause-forward : goal.returns-then-spent-clause-forward
returns-then-spent-clause-forward g c =
    let was = subst (λ (a : SerialState). AreLabels a.labels) c.self.view_is c.start-start.ensures.labels in
    let passed = returns-then-spent-clause-passed g c in
    goes_forward passed g.P.Policy.REPAIRS c.requires.ready (λ none.
    forward_pass none was c.in-Some.ensures.labels c.requires.eps_high
    (λ s inside. g.met.H.Guide.bounded c.args.guide.now _ _ s c.requires.guide inside) _ passed)

pub returns-then-spent-clause-ready : goal.returns-then-spent-clause-ready
returns-then-spent-clause-ready g c =
    ready_again (returns-then-spent-clause-passed g c) g.P.Policy.REPAIRS (returns-then-spent-clause-forward g c)
