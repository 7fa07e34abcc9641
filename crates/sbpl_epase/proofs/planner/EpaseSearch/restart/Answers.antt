use Rattle.sbpl_epase.proofs.planner.EpaseSearch.restart.Goals as goal

pub returns-clause-serves : goal.returns-clause-serves
returns-clause-serves g c = rw c.restart.ensures.make (λ serves. serves)
