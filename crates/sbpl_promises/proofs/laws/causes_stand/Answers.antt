use Rattle.sbpl_promises.specs.Writing.{ReadFailed}
use Rattle.sbpl_promises.proofs.CausesOn.{job_cause_on}
use Rattle.sbpl_promises.proofs.laws.causes_stand.Goals as goal

pub returns : goal.returns
returns c = record {
  law = record {
    later = λ held s t u j r on cause. job_cause_on held (ReadFailed s t) (ReadFailed s u) j r on cause;
    unfailed =
        λ held s t j r none cause. job_cause_on held (ReadFailed s t) (λ name. ⊥) j r (λ six. absurd (none six)) cause;
  };
}
