use Rattle.std.proofs.Common.{◌≡◌, ◌++◌, flat_map, drop}
use Rattle.sbpl_report.specs.Traces.{raise_text}
use Rattle.sbpl_report.proofs.trace.push_raised.Given as goal

-- what is written, and the lines that are left, are what stood before and all lines
abbrev pub invariant-loop-state : goal.invariant-loop-state
invariant-loop-state l =
    l.out.items ++ flat_map raise_text (drop l.state-index l.states) ≡ l.fn.out.items ++ flat_map raise_text l.states
