use Rattle.sbpl_fixed.proofs.Meaning.{read_as_said, read_first_fault, said_or_faulty}
use Rattle.sbpl_fixed.proofs.Meaning.{said_or_faulty_alone, said_once, faulty_once}
use Rattle.sbpl_fixed.proofs.formats.reading_is_what_is_said.Goals as goal

pub returns : goal.returns
returns g c = record {
  law = record {
    said = read_as_said;
    faulty = read_first_fault;
    either = said_or_faulty;
    not_both = said_or_faulty_alone;
    one_value = said_once;
    one_fault = faulty_once;
  };
}
