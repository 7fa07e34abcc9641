use Rattle.std.proofs.Common.{subst, sym, ◌<◌}
use Rattle.std.proofs.lemmas.Option.{IfSome_then}
use Rattle.sbpl_cost.specs.Lattices.{states_are}
use Rattle.sbpl_cost.proofs.lattice.Lattice.state_of.Goals as goal

pub returns-clause-state : goal.returns-clause-state
returns-clause-state c = rw (← c.self.view_is)
    (IfSome_then c.state_at.result c.state_at.ensures.state (λ s h. subst (λ n. s < n) (sym (states_are _)) h))
