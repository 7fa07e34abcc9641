use Rattle.std.proofs.Common.{◌≡◌, ◌++◌, flat_map, drop}
use Rattle.sbpl_promises.specs.sbpl_report.Report.{pass_text}
use Rattle.sbpl_telling.proofs.plan_section.push_passes.Given as goal

-- what is written, and the lines that are left, are what stood before and all lines
abbrev pub invariant-loop-pass : goal.invariant-loop-pass
invariant-loop-pass l =
    l.out.items ++ flat_map pass_text (drop l.pass-index l.passes) ≡ l.fn.out.items ++ flat_map pass_text l.passes
