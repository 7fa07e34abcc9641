use Rattle.std.proofs.Common.{sym, ap, ◌∙◌}
use Rattle.sbpl_map.proofs.Texts.{Updates, moves_fault_given, moves_given, moves_of, moves_or_fault}
use Rattle.sbpl_map.proofs.Texts.{same_updates, same_batches, same_fault}
use Rattle.sbpl_map.proofs.text.texts_are_moves_or_faulty.Goals as goal

pub returns-clause-either : goal.returns-clause-either
returns-clause-either c = moves_or_fault

pub returns-clause-not_both : goal.returns-clause-not_both
returns-clause-not_both c states m headings text f h k =
    let both = sym (moves_given states m headings text h.0 h.1 h.2) ∙ moves_fault_given states m headings text f k in cc

pub returns-clause-one_value : goal.returns-clause-one_value
returns-clause-one_value c states m headings text batches others moves more h k =
    let one = moves_given states m headings text batches moves h in
    let other = moves_given states m headings text others more k in
    let same = same_updates (moves_of states m headings text) (batches, moves) (others, more) one other in
    (ap (λ (x : Updates). x.0) same, ap (λ (x : Updates). x.1) same)

pub returns-clause-one_fault : goal.returns-clause-one_fault
returns-clause-one_fault c states m headings text f g h k =
    let both = sym (moves_fault_given states m headings text f h) ∙ moves_fault_given states m headings text g k in cc

pub returns-clause-same_batches : goal.returns-clause-same_batches
returns-clause-same_batches c = same_batches

pub returns-clause-same_fault : goal.returns-clause-same_fault
returns-clause-same_fault c = same_fault
