use Rattle.std.proofs.Common.{sym, ◌∙◌}
use Rattle.sbpl_map.proofs.PrintedText.{changes_are_printed}
use Rattle.sbpl_map.proofs.Texts.{changes_given, changes_or_fault, fault_given}
use Rattle.sbpl_map.proofs.text.texts_are_changes_or_faulty.Goals as goal

pub returns-clause-either : goal.returns-clause-either
returns-clause-either c = changes_or_fault

pub returns-clause-not_both : goal.returns-clause-not_both
returns-clause-not_both c states m text f h k =
    let both = sym (changes_given states m text h.0 h.1) ∙ fault_given states m text f k in cc

pub returns-clause-one_value : goal.returns-clause-one_value
returns-clause-one_value c states m text batches others h k =
    let both = sym (changes_given states m text batches h) ∙ changes_given states m text others k in cc

pub returns-clause-one_fault : goal.returns-clause-one_fault
returns-clause-one_fault c states m text f g h k =
    let both = sym (fault_given states m text f h) ∙ fault_given states m text g k in cc

pub returns-clause-printed : goal.returns-clause-printed
returns-clause-printed c = changes_are_printed
