use Rattle.sbpl_epase.proofs.planner.EpaseSearch.aim.Goals as goal

pub returns-clause-serves : goal.returns-clause-serves
returns-clause-serves g c = rw c.aim.ensures.aimed (λ serves. serves)
