use Rattle.std.proofs.Common.{arith}
use Rattle.std.proofs.lemmas.Map.Text.{text_keys}
use Rattle.sbpl_desk.proofs.memory.MemoryDesk.hold.Goals as goal

pub returns-clause-others : goal.returns-clause-others
returns-clause-others c = λ other different. grind (arith, text_keys)
