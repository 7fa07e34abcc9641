use Rattle.std.proofs.Common.{◌≡◌, ℕ, IsErrOf, Result, Ok, Err, refl, sym, ◌∙◌, inl, inr}
use Rattle.sbpl_jobs.specs.sbpl_desk.declared.desk.WriteStop.{WriteStop}
use Rattle.sbpl_jobs.specs.sbpl_desk.declared.desk.WriteStop.TheVariants.{Failed, NoMemory}
use Rattle.sbpl_jobs.specs.sbpl_promises.Run.{IsOrUnwritten}
use Rattle.sbpl_jobs.specs.sbpl_promises.Writing.{status_after}
use Rattle.sbpl_cli.proofs.answering.tell.Goals as goal

-- the status after a write
written_so : (status : ℕ) (r : Result (Unit {0}) WriteStop) → status ≡ status_after 0 r → IsOrUnwritten 0 status
written_so status (Ok x) is = inl is
written_so status (Err Failed) is = inr (inl is)
written_so status (Err NoMemory) is = inr (inr is)

-- it is 7 only where the write failed
unwritten : (status : ℕ) (r : Result (Unit {0}) WriteStop) → status ≡ status_after 0 r → status ≡ 7 → IsErrOf r Failed
unwritten status (Ok x) is seven = absurd (let both : 0 ≡ 7 = sym is ∙ seven in cc)
unwritten status (Err Failed) is seven = refl
unwritten status (Err NoMemory) is seven = absurd (let both : 9 ≡ 7 = sym is ∙ seven in cc)

pub returns-clause-told : goal.returns-clause-told
returns-clause-told g c = written_so _ c.write.result c.status_after.ensures.status

pub returns-clause-write : goal.returns-clause-write
returns-clause-write g c = λ seven. c.write.ensures.failed (unwritten _ c.write.result c.status_after.ensures.status seven)
