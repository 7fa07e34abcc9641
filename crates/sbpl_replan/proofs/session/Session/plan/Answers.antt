use Rattle.std.proofs.Common.{List, subst}
use Rattle.std.specs.Prelude.{IfOk, OnErr}
use Rattle.sbpl_plan.specs.Planned.{IsPlanned}
use Rattle.sbpl_plan.specs.sbpl_labels.Counts.{Counts, time_of}
use Rattle.sbpl_plan.specs.declared.passes.PassRecord.{PassRecord}
use Rattle.sbpl_plan.specs.Observed.{AreTold}
use Rattle.sbpl_plan.specs.OutOfMemory.{RunsOutOfMemory}
use Rattle.sbpl_replan.specs.Replanning.{IsReady, SessionState, StandsOutOfMemory, at_plan, inquiry, standing_of}
use Rattle.sbpl_replan.proofs.Changing.{on_err_so, ready_again, stands}
use Rattle.sbpl_replan.proofs.session.Session.plan.Goals as goal

pub returns-clause-planned : goal.returns-clause-planned
returns-clause-planned g c =
    let means = g.S.Search.meaning in
    let n = g.W.Graph.network in
    let distance = g.H.Guide.distance in
    let ask = c.args.ask.now in
    let result = c.plan-planned.result in
    let new = g.S.Search.state c.plan-planned.new.search in
    let counts = c.plan-planned.new.budget in
    let old : SessionState g.row.S-Action.Denot g.row.H.Denot g.row.W.Denot = record {
      world = c.self.inside.world;
      search = g.S.Search.state c.self.inside.search;
      guide = c.self.inside.guide;
      counts = c.self.inside.budget;
    } in
    subst (λ (s : SessionState g.row.S-Action.Denot g.row.H.Denot g.row.W.Denot). IfOk result (IsPlanned means
    (inquiry (n s.world) (distance s.guide) (standing_of s) ask) s.search new (at_plan (time_of c.args.limit) s.counts) counts)) c.self.view_is
    (subst (λ (before : Counts). IfOk result (IsPlanned means
    (inquiry (n old.world) (distance old.guide) (standing_of old) ask) old.search new before counts))
    c.next_plan.ensures.begun c.plan-planned.ensures.planned)

pub returns-clause-memory : goal.returns-clause-memory
returns-clause-memory g c =
    let means = g.S.Search.meaning in
    let n = g.W.Graph.network in
    let made = g.H.Heuristic.is_made_for in
    let distance = g.H.Guide.distance in
    let ask = c.args.ask.now in
    let result = c.plan-planned.result in
    let old : SessionState g.row.S-Action.Denot g.row.H.Denot g.row.W.Denot = record {
      world = c.self.inside.world;
      search = g.S.Search.state c.self.inside.search;
      guide = c.self.inside.guide;
      counts = c.self.inside.budget;
    } in
    let new : SessionState g.row.S-Action.Denot g.row.H.Denot g.row.W.Denot = record old {
      search = g.S.Search.state c.plan-planned.new.search;
      counts = c.plan-planned.new.budget;
    } in
    let Told : List (PassRecord g.row.S-Action.Denot) → Type 0 =
    (λ ps. AreTold g.O.Observer.told 0 ps c.args.observer.now c.plan-planned.new.observer) in
    subst (λ (s : SessionState g.row.S-Action.Denot g.row.H.Denot g.row.W.Denot). IsReady means n made s
    → OnErr result (StandsOutOfMemory means (inquiry (n s.world) (distance s.guide) (standing_of s) ask) (time_of c.args.limit)
    (IsReady means n made new) Told (standing_of s) (standing_of new))) c.self.view_is
    (λ ready. on_err_so result _ _
    (λ runs. stands means (inquiry (n old.world) (distance old.guide) (standing_of old) ask) (time_of c.args.limit)
    (IsReady means n made new) Told (standing_of old) (standing_of new) c.used-counts.ensures.counts
    (λ labels same fresh. ready_again means n made old new.search new.counts ready labels same fresh)
    (subst (λ (before : Counts). RunsOutOfMemory means
    (inquiry (n old.world) (distance old.guide) (standing_of old) ask) ask.first old.search new.search before new.counts
    Told) c.next_plan.ensures.begun runs))
    c.plan-planned.ensures.memory)
    c.requires.ready
