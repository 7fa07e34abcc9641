use Rattle.std.proofs.Common.{arith}
use Rattle.std.proofs.lemmas.Map.Text.{text_keys}
use Rattle.sbpl_desk.proofs.Results.{on_err}
use Rattle.sbpl_desk.proofs.memory.append.Goals as goal

pub returns-in_err-extend_from_slice-clause-others :
    goal.returns-in_err-extend_from_slice-clause-others
returns-in_err-extend_from_slice-clause-others c = λ other different. grind (arith, text_keys)

pub returns-in_err-extend_from_slice-clause-memory :
    goal.returns-in_err-extend_from_slice-clause-memory
returns-in_err-extend_from_slice-clause-memory c =
    on_err c.from_residual.result (λ other. grind (arith, text_keys))

pub returns-in-Some-clause-others : goal.returns-in-Some-clause-others
returns-in-Some-clause-others c = λ other different. grind (arith, text_keys)

pub returns-clause-others : goal.returns-clause-others
returns-clause-others c = λ other different. grind (arith, text_keys)
