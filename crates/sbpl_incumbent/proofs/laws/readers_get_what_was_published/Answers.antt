use Rattle.sbpl_incumbent.proofs.Keeping.{cell_newest, reader_sound}
use Rattle.sbpl_incumbent.proofs.laws.readers_get_what_was_published.Goals as goal

pub returns : goal.returns
returns c = record { board = cell_newest; reader = reader_sound }
