use Rattle.sbpl_epase.proofs.planner.EpaseSearch.change.Goals as goal

pub returns-clause-serves : goal.returns-clause-serves
returns-clause-serves g c = rw c.change.ensures.make (λ serves. serves)
