-- A text that grows keeps what stood there before.
use Rattle.std.proofs.Common.{ℕ, ◌≤◌, List, length, take, sym, ap, ◌∙◌, arith}
use Rattle.std.proofs.lemmas.List.{take-take, length-take}
use Rattle.sbpl_cert.specs.Printed.{BeginsWith}

pub kept : (a b c : List ℕ) → BeginsWith a b → BeginsWith b c → BeginsWith a c
kept a b c first second =
    let shorter : length a ≤ length b = omega (arith, ap length first, length-take (length a) b) in
    sym (take-take (length a) (length b) c shorter) ∙ ap (take (length a)) second ∙ first
