use Rattle.std.proofs.Common.{◌≡◌, ℕ, ◌<◌, Some, refl, sym, ap, ◌∙◌}
use Rattle.sbpl_adstar.specs.sbpl_search.Query.{Query, query}
use Rattle.sbpl_frontier.specs.sbpl_frontier_rules.Laws.{IsLawful, MayBegin}
use Rattle.sbpl_frontier.specs.sbpl_frontier_core.Passes.{IsPassFinished}
use Rattle.sbpl_frontier.specs.sbpl_frontier_core.Seats.{AreTakenBelow}
use Rattle.sbpl_epase.specs.Parts.{Seeker, labels_in}
use Rattle.sbpl_epase.proofs.Passing.{finished_passed}
use Rattle.sbpl_epase.proofs.planner.EpaseSearch.pass.Goals as goal

pub returns-in-Ok-clause-passed : goal.returns-in-Ok-clause-passed
returns-in-Ok-clause-passed g c =
    let q : Query =
    query (g.G.Graph.network c.args.graph.now) (g.H.Guide.distance c.args.guide.now) c.args.eps
    c.args.self.now.search.goal in
    let laws = c.events_keep.ensures in
    let lawful : IsLawful q = record {
      sound = c.states-states.ensures.sound;
      gaps = c.states-states.ensures.gaps;
      consistent = g.met.H.Guide.consistent c.args.guide.now _ _ c.requires.guide;
      inflation = c.requires.eps_low;
    } in
    let there : c.self.inside.labels ≡ Some c.unwrap-labels.result =
    sym c.take.ensures.value ∙ c.unwrap-labels.ensures in
    let inner : labels_in c.self.inside.labels ≡ c.unwrap-labels.result = ap labels_in there in
    let seen : c.args.self.now.search.labels ≡ labels_in c.self.inside.labels =
    sym (ap (λ (s : Seeker _). s.search.labels) c.self.view_is) in
    let own : c.args.self.now.search.labels ≡ c.unwrap-labels.result = seen ∙ inner in
    let same_goal : c.self.inside.goal ≡ c.args.self.now.search.goal =
    ap (λ (s : Seeker _). s.search.goal) c.self.view_is in
    let same_workers : c.self.inside.workers ≡ c.args.self.now.search.workers =
    ap (λ (s : Seeker _). s.search.workers) c.self.view_is in
    let seats : AreTakenBelow c.args.self.now.search.workers c.in-Ok.passed.journal.events =
    rw (← same_workers) c.in-Ok.ensures.seats in
    let taken : c.args.budget.now ≡ c.replace-taken.result = sym c.replace-taken.ensures.value in
    let begins : MayBegin q c.unwrap-labels.result c.replace-taken.result = record {
      labels = c.start-start.ensures.labels;
      ready = rw (← own, ← taken) c.requires.ready;
      counts = rw (← taken) c.used-before.ensures.counts;
    } in
    let finished : IsPassFinished q c.unwrap-labels.result c.replace-taken.result c.args.traced
    c.in-Ok.passed.parts.labels c.in-Ok.passed.parts.budget c.in-Ok.passed.journal c.in-Ok.passed.end =
    rw (sym same_goal) c.in-Ok.ensures.finished in
    let small : (s : ℕ) → s < q.network.states → q.guide s < 36028797018963968 =
    λ s inside. g.met.H.Guide.bounded c.args.guide.now _ _ s c.requires.guide inside in
    rw taken
    (finished_passed q c.unwrap-labels.result c.in-Ok.passed.parts.labels c.replace-taken.result
    c.in-Ok.passed.parts.budget c.args.traced c.in-Ok.passed.journal c.in-Ok.passed.end lawful begins finished
    laws.first laws.each laws.exact laws.settled laws.once laws.free laws.marked laws.start small _ _ own
    refl refl same_goal same_workers seats (ap (λ (s : Seeker _). s.search.raised) c.self.view_is) refl)

pub pass_by-requires-clause-makes : goal.pass_by-requires-clause-makes
pass_by-requires-clause-makes g c = rw (ap (λ (s : Seeker _). s.make) c.self.view_is) c.requires.serves

pub returns-in-Ok-clause-serves : goal.returns-in-Ok-clause-serves
returns-in-Ok-clause-serves g c = rw (ap (λ (s : Seeker _). s.make) c.self.view_is) c.requires.serves

pub returns-in-Err-clause-serves : goal.returns-in-Err-clause-serves
returns-in-Err-clause-serves g c = rw (ap (λ (s : Seeker _). s.make) c.self.view_is) c.requires.serves
