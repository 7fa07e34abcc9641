-- The statuses of the program as numbers.
use Rattle.std.specs.Prelude.{ℕ}
use Rattle.sbpl_report.specs.declared.status.Status.{Status}
use Rattle.sbpl_report.specs.declared.status.Status.TheVariants as status

-- the number of a status
abbrev pub number_of : Status → ℕ
number_of status.Done = 0
number_of status.FlawFound = 1
number_of status.WordsRefused = 2
number_of status.EnvironmentRefused = 3
number_of status.PrimitivesRefused = 4
number_of status.ChangesRefused = 5
number_of status.NotRead = 6
number_of status.NotWritten = 7
number_of status.TooLong = 8
number_of status.NoMemory = 9
number_of status.LabelsRefused = 10
