-- What Anytime D* means as a planner.
use Rattle.std.specs.Prelude.{true}
use Rattle.sbpl_ara.specs.sbpl_search.Meaning.{Meaning}
use Rattle.sbpl_ara.specs.sbpl_serial.declared.step.Step.{Step}
use Rattle.sbpl_ara.specs.sbpl_serial.Meant.{serial}

-- after a change of the graph the labels are repaired; so a pass begins from any usable labels, and takes each state at most three
-- times
abbrev pub adstar : Meaning Step
adstar = serial true
