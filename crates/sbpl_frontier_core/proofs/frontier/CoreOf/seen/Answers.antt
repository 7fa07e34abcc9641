use Rattle.sbpl_frontier_core.proofs.frontier.CoreOf.seen.Goals as goal

pub returns-clause-back : goal.returns-clause-back
returns-clause-back g c =
    let here = c.self.invariant.5 in
    let law =
    c.events_keep.ensures.back g.N.Pass.query g.N.Pass.opening g.N.Pass.counts _ _ _ here.lawful here.may_begin
    here.replay.begins here.replay.leads in
    rw (← c.self.view_is) law
