use Rattle.std.proofs.Common.{◌≡◌, ◌++◌, flat_map, drop}
use Rattle.sbpl_promises.specs.sbpl_report.Report.{step_text}
use Rattle.sbpl_telling.proofs.plan_section.push_steps.Given as goal

-- what is written, and the lines that are left, are what stood before and all lines
abbrev pub invariant-loop-step : goal.invariant-loop-step
invariant-loop-step l =
    l.out.items ++ flat_map step_text (drop l.step-index l.steps) ≡ l.fn.out.items ++ flat_map step_text l.steps
