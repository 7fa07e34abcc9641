use Rattle.sbpl_telling.proofs.Writings.{one_ends}
use Rattle.sbpl_telling.proofs.writing.write_text.Goals as goal

pub returns-clause-ends : goal.returns-clause-ends
returns-clause-ends g c =
    one_ends _ _ (record { name = c.args.name.now; text = c.args.text.now }) c.write.result c.write.ensures.bytes
    c.write.ensures.prefix c.write.ensures.failed c.write.ensures.memory c.write.ensures.frame.others
