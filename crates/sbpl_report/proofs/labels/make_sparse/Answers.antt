use Rattle.std.proofs.Common.{ℕ, Result, Ok, Err, IfOk}
use Rattle.sbpl_job.specs.sbpl_fixed.declared.no_memory.NoMemory.{NoMemory}
use Rattle.sbpl_plan.specs.sbpl_graph.Certificate.{AreSupported}
use Rattle.sbpl_plan.specs.sbpl_graph.Network.{Network}
use Rattle.sbpl_plan.specs.sbpl_labels.Marks.{Marks, g_of, v_of}
use Rattle.sbpl_cert.specs.Sparse.{SparseSection, sparse_claim}
use Rattle.sbpl_cert.specs.Sound.{ShowsBound}
use Rattle.sbpl_report.proofs.Showing.{answer_fits, arcs_fit, shown_sparsely}
use Rattle.sbpl_report.proofs.labels.make_sparse.Goals as goal

pub sparse_section_of-requires-clause-outcome : goal.sparse_section_of-requires-clause-outcome
sparse_section_of-requires-clause-outcome g c =
    let e = c.args.ended.now in
    let is = c.requires.ended in
    rw c.outcome_without_arcs-outcome.ensures.outcome (answer_fits (g.G.Graph.network e.graph.now)
    c.states-states.ensures.sound (g.H.Guide.distance e.guide.now) e.goal e.labels.now is.states is.inside is.supported
    e.found.now is.result)

pub sparse_section_of-requires-clause-arcs : goal.sparse_section_of-requires-clause-arcs
sparse_section_of-requires-clause-arcs g c =
    let e = c.args.ended.now in
    let is = c.requires.ended in
    rw (c.outcome_without_arcs-outcome.ensures.outcome, c.in_ok-arcs.ensures.arcs)
    (arcs_fit (g.G.Graph.network e.graph.now) c.states-states.ensures.sound (g.H.Guide.distance e.guide.now) e.goal
    e.labels.now is.states is.inside is.supported e.found.now is.result)

-- the section shows its bound on the graph
bounds_on : (Guides : Network → ℕ → Type 0) (h : ℕ → ℕ) (n : Network) (m : Marks) (goal : ℕ)
    (r : Result SparseSection NoMemory) → Guides n goal → AreSupported n m.start (g_of m) (v_of m)
    → IfOk r
    (λ s. Guides n goal → AreSupported n m.start (g_of m) (v_of m) → ShowsBound n m.start goal (sparse_claim h s))
    → IfOk r (λ s. ShowsBound n m.start goal (sparse_claim h s))
bounds_on Guides h n m goal (Ok s) guides supported shows = shows guides supported
bounds_on Guides h n m goal (Err e) guides supported shows = tt

pub returns : goal.returns
returns g c =
    let e = c.args.ended.now in
    let is = c.requires.ended in
    record {
      shown =
          shown_sparsely (g.G.Graph.network e.graph.now) c.states-states.ensures.sound (g.H.Guide.distance e.guide.now)
          e.goal e.labels.now is.states is.inside is.supported e.plan e.found.now _ _ c.sparse_section_of.result is.result
          c.outcome_without_arcs-outcome.ensures.outcome c.in_ok-arcs.ensures.arcs c.sparse_section_of.ensures.plan
          c.sparse_section_of.ensures.states c.sparse_section_of.ensures.outcome c.sparse_section_of.ensures.arcs
          c.sparse_section_of.ensures.labels
          (bounds_on (g.H.Guide.guides e.guide.now) _ _ _ _ _ is.guides is.supported c.sparse_section_of.ensures.shows);
    }
