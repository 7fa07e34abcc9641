use Rattle.sbpl_job.proofs.PartedForms.{parts_are_of_forms, no_parts_without_forms}
use Rattle.sbpl_job.proofs.words.words_part_into_forms.Goals as goal

pub returns : goal.returns
returns c = record { parts = parts_are_of_forms; none = no_parts_without_forms }
