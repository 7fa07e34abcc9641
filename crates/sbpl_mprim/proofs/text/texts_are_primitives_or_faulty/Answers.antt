use Rattle.sbpl_mprim.proofs.FileLaws.{file_found, file_said}
use Rattle.sbpl_mprim.proofs.PrintedText.{text_is_printed, text_is_worded}
use Rattle.sbpl_mprim.proofs.TextLaws.{each_is_either, never_both, one_fault, one_value}
use Rattle.sbpl_mprim.proofs.text.texts_are_primitives_or_faulty.Goals as goal

pub returns : goal.returns
returns c = record {
  format = λ text ps sizes. (
    λ h. file_found ps.cell ps.headings text ps.items sizes.cell_is sizes.some sizes.few h,
    λ h. file_said ps text h,
  );
  either = each_is_either;
  not_both = never_both;
  one_value = one_value;
  one_fault = one_fault;
  printed = text_is_printed;
  worded = text_is_worded;
}
