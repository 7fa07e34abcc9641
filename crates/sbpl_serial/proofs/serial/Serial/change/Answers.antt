use Rattle.std.proofs.Common.{Bool, sym, ◌∙◌, subst}
use Rattle.sbpl_serial.specs.Meant.{MayBeginPass, usable_by}
use Rattle.sbpl_serial.proofs.Policies.{repaired_usable}
use Rattle.sbpl_serial.proofs.serial.Serial.change.Goals as goal

pub returns-then-not-REPAIRS-clause-ready : goal.returns-then-not-REPAIRS-clause-ready
returns-then-not-REPAIRS-clause-ready g c n count same before =
    subst (λ (repairs : Bool). MayBeginPass repairs (g.G.Graph.network c.args.graph.now) c.reset.new.self.labels count)
    (sym c.if-not-REPAIRS.true ∙ c.REPAIRS.ensures) (c.reset.ensures.ready _ count (sym c.requires.states))

pub returns-clause-ready : goal.returns-clause-ready
returns-clause-ready g c n count same before =
    let usable =
    rw (← c.self.view_is) at (usable_by g.P.Policy.REPAIRS n c.args.self.now.labels count before) in
    subst (λ (repairs : Bool). MayBeginPass repairs (g.G.Graph.network c.args.graph.now) c.change_labels.new.labels
    count) (sym c.if-not-REPAIRS.false ∙ c.REPAIRS.ensures)
    (repaired_usable same c.change_labels.ensures.repaired (c.change_labels.ensures.fits count) usable)
