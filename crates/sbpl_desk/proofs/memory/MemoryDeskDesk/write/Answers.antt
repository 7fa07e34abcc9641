use Rattle.std.proofs.Common.{◌++◌, take, drop, sym, ap, ◌∙◌}
use Rattle.std.proofs.lemmas.List.{take-append-drop}
use Rattle.sbpl_desk.specs.Memory.{memory_written}
use Rattle.sbpl_desk.proofs.memory.MemoryDeskDesk.write.Goals as goal

pub returns-in_ok-append-in-Some-clause-prefix : goal.returns-in_ok-append-in-Some-clause-prefix
returns-in_ok-append-in-Some-clause-prefix c =
    let after = c.in-Some.after in
    let bytes = c.args.bytes.now in
    let before = memory_written c.args.self.now c.args.name.now in
    λ _. record {
      prefix = take after bytes;
      rest = drop after bytes;
      whole = sym (take-append-drop after bytes);
      written = c.in_ok-append-in-Some.ensures.appended ∙ ap (λ prefix. before ++ prefix) c.prefix_of.ensures.prefix;
    }
