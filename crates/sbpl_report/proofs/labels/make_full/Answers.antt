use Rattle.std.proofs.Common.{◌≡◌, ℕ, Result, Ok, Err, IfOk, sym}
use Rattle.sbpl_job.specs.sbpl_fixed.declared.no_memory.NoMemory.{NoMemory}
use Rattle.sbpl_plan.specs.sbpl_graph.Certificate.{AreSupported}
use Rattle.sbpl_plan.specs.sbpl_graph.Laws.{IsSound}
use Rattle.sbpl_plan.specs.sbpl_graph.Network.{Network}
use Rattle.sbpl_plan.specs.sbpl_labels.Marks.{Marks, g_of, states_of, v_of}
use Rattle.sbpl_cert.specs.Sections.{FullSection}
use Rattle.sbpl_cert.specs.Claims.{claim_of}
use Rattle.sbpl_cert.specs.Sound.{ShowsBound}
use Rattle.sbpl_report.proofs.Showing.{answer_fits, arcs_fit, shown_in_full}
use Rattle.sbpl_report.proofs.labels.make_full.Goals as goal

pub section_of-requires-clause-outcome : goal.section_of-requires-clause-outcome
section_of-requires-clause-outcome g c =
    let e = c.args.ended.now in
    let is = c.requires.ended in
    rw c.outcome_without_arcs-outcome.ensures.outcome (answer_fits (g.G.Graph.network e.graph.now)
    c.states-states.ensures.sound (g.H.Guide.distance e.guide.now) e.goal e.labels.now is.states is.inside is.supported
    e.found.now is.result)

pub section_of-requires-clause-arcs : goal.section_of-requires-clause-arcs
section_of-requires-clause-arcs g c =
    let e = c.args.ended.now in
    let is = c.requires.ended in
    rw (c.outcome_without_arcs-outcome.ensures.outcome, c.in_ok-arcs.ensures.arcs)
    (arcs_fit (g.G.Graph.network e.graph.now) c.states-states.ensures.sound (g.H.Guide.distance e.guide.now) e.goal
    e.labels.now is.states is.inside is.supported e.found.now is.result)

-- the section shows its bound on the graph
bounds_on : (Guides : Network → ℕ → Type 0) (n : Network) (m : Marks) (goal : ℕ) (r : Result FullSection NoMemory)
    → n.states ≡ states_of m → IsSound n → Guides n goal → AreSupported n m.start (g_of m) (v_of m)
    → IfOk r (λ s. (o : Network) → o.states ≡ states_of m → IsSound o → Guides o goal
    → AreSupported o m.start (g_of m) (v_of m) → ShowsBound o m.start goal (claim_of s))
    → IfOk r (λ s. ShowsBound n m.start goal (claim_of s))
bounds_on Guides n m goal (Ok s) same sound guides supported shows = shows n same sound guides supported
bounds_on Guides n m goal (Err e) same sound guides supported shows = tt

pub returns : goal.returns
returns g c =
    let e = c.args.ended.now in
    let is = c.requires.ended in
    record {
      shown =
          shown_in_full (g.G.Graph.network e.graph.now) c.states-states.ensures.sound (g.H.Guide.distance e.guide.now)
          e.goal e.labels.now is.states is.inside is.supported e.plan e.found.now _ _ c.section_of.result is.result
          c.outcome_without_arcs-outcome.ensures.outcome c.in_ok-arcs.ensures.arcs c.section_of.ensures.plan
          c.section_of.ensures.outcome c.section_of.ensures.arcs c.section_of.ensures.labels
          (bounds_on (g.H.Guide.guides e.guide.now) _ _ _ _ (sym is.states) c.states-states.ensures.sound is.guides
          is.supported c.section_of.ensures.shows);
    }
