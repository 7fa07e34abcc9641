-- What ARA* means as a planner.
use Rattle.std.specs.Prelude.{false}
use Rattle.sbpl_serial.specs.sbpl_search.Meaning.{Meaning}
use Rattle.sbpl_serial.specs.declared.step.Step.{Step}
use Rattle.sbpl_serial.specs.Meant.{serial}

-- after a change of the graph the labels are initial again; so a pass begins where no state is underconsistent, and takes each
-- state at most once
abbrev pub ara : Meaning Step
ara = serial false
