use Rattle.std.proofs.Common.{◌∙◌}
use Rattle.sbpl_frontier_core.proofs.Filling.{initial_held}
use Rattle.sbpl_frontier_core.proofs.space.Space.initial.Goals as goal

pub returns : goal.returns
returns c = record {
  over = λ m initial. initial_held c.note.new.self m c.args.states c.args.start
      (c.note.ensures.states ∙ c.in_ok-space.ensures.states) c.note.ensures.noted initial;
}
