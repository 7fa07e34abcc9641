use Rattle.sbpl_laws.proofs.ReaderLaws.{not_both_for, updates_once_for, one_fault_for, texts_clear}
use Rattle.sbpl_laws.proofs.laws.texts_are_clear.Goals as goal

pub returns : goal.returns
returns c = record {
  files =
      texts_clear c.texts_are_environments_or_faulty.ensures.one_value
      c.texts_are_environments_or_faulty.ensures.not_both c.texts_are_environments_or_faulty.ensures.one_fault
      c.texts_are_primitives_or_faulty.ensures.one_value c.texts_are_primitives_or_faulty.ensures.not_both
      c.texts_are_primitives_or_faulty.ensures.one_fault
      c.texts_are_grids_or_faulty.ensures.one_value c.texts_are_grids_or_faulty.ensures.not_both
      c.texts_are_grids_or_faulty.ensures.one_fault
      (updates_once_for c.texts_are_changes_or_faulty.ensures.one_value c.texts_are_moves_or_faulty.ensures.one_value)
      (not_both_for c.texts_are_changes_or_faulty.ensures.not_both c.texts_are_moves_or_faulty.ensures.not_both)
      (one_fault_for c.texts_are_changes_or_faulty.ensures.one_fault c.texts_are_moves_or_faulty.ensures.one_fault);
  sections = record {
    one = c.texts_are_sections_or_faulty.ensures.one_value;
    not_both = c.texts_are_sections_or_faulty.ensures.not_both;
    one_fault = c.texts_are_sections_or_faulty.ensures.one_fault;
    one_flaw = c.first_flaws_are_one.ensures.one;
    no_flaw = c.first_flaws_are_one.ensures.none;
  };
}
