use Rattle.std.proofs.Common.{◌≡◌}
use Rattle.sbpl_serial.specs.Marked.{closed_at}
use Rattle.sbpl_serial.specs.Queue.{AreQueued}
use Rattle.sbpl_serial.specs.Raised.{IsRaising}
use Rattle.sbpl_serial.proofs.serial.Serial.raise.Given as goal

abbrev pub invariant-loop-k : goal.invariant-loop-k
invariant-loop-k g l = record {
  raising : IsRaising (g.G.Graph.network l.graph) l.fn.self.labels l.self-inside.labels l.s l.k;
  queued : AreQueued l.eps (g.H.Guide.distance l.guide) (closed_at l.self-inside.closed) l.self-inside.labels
      l.self-inside.queue;
  same_goal : l.self-inside.goal ≡ l.initial.self-inside.goal;
  same_closed : l.self-inside.closed ≡ l.initial.self-inside.closed;
  same_steps : l.self-inside.steps ≡ l.initial.self-inside.steps;
}
