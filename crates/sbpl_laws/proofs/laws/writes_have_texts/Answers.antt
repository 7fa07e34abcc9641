use Rattle.sbpl_laws.proofs.WriteTexts.{writes_are_counted, writes_have_texts}
use Rattle.sbpl_laws.proofs.laws.writes_have_texts.Goals as goal

pub returns : goal.returns
returns c = record { none_empty = writes_have_texts; count = writes_are_counted }
