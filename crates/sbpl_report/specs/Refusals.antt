-- The lines of refusals.
use Rattle.std.specs.Prelude.{ℕ, ◌+◌, List, [], ◌++◌, length, Option, Some, None, codes, decimal}
use Rattle.sbpl_cost.specs.sbpl_cfg.Faults as environments
use Rattle.sbpl_cost.specs.sbpl_mprim.Faults as primitives
use Rattle.sbpl_report.specs.declared.refusal.Input.{Input}
use Rattle.sbpl_report.specs.declared.refusal.Input.TheVariants as input
use Rattle.sbpl_report.specs.declared.refusal.Refusal.{Refusal}
use Rattle.sbpl_report.specs.declared.refusal.Refusal.TheVariants as refusal
use Rattle.sbpl_cost.specs.sbpl_map.Faults as changes
use Rattle.sbpl_cert.specs.Faults as faults
use Rattle.sbpl_cert.specs.declared.fault.LabelFault.{LabelFault}
use Rattle.sbpl_job.specs.declared.job.Job.{Job}
use Rattle.sbpl_job.specs.declared.job.Job.TheVariants as job
use Rattle.sbpl_report.specs.Report.{line_feed}

-- the name, if there is one, and nothing otherwise
abbrev pub name_or_nothing : Option (List ℕ) → List ℕ
name_or_nothing None = []
name_or_nothing (Some name) = name

-- the name of a file, where the files that a job reads have these names; empty where it reads none
abbrev pub file_name : (env : List ℕ) → (prims changes labels : Option (List ℕ)) → Input → List ℕ
file_name env prims changes labels input.Environment = env
file_name env prims changes labels input.Primitives = name_or_nothing prims
file_name env prims changes labels input.Changes = name_or_nothing changes
file_name env prims changes labels input.Labels = name_or_nothing labels

-- the name of a file that a job reads
abbrev pub input_name : Job → Input → List ℕ
input_name (job.Plan j) i = file_name j.sources.env (Some j.sources.prims) j.changes None i
input_name (job.Check j) i = file_name j.sources.env (Some j.sources.prims) j.changes (Some j.labels) i
input_name (job.Sweep from) i = file_name from.env (Some from.prims) None None i
input_name (job.Demo d) i = []
input_name (job.Nav j) i = file_name j.sources.env None j.changes None i
input_name (job.NavCheck j) i = file_name j.sources.env None j.changes (Some j.labels) i

-- the statuses of refusals
abbrev pub refusal_status : Refusal → ℕ
refusal_status (refusal.Environment _) = 3
refusal_status (refusal.Grid _) = 3
refusal_status (refusal.OffMap _) = 2
refusal_status (refusal.Changes _) = 5
refusal_status (refusal.Read _) = 6
refusal_status (refusal.Length _) = 8
refusal_status _ = 4

-- the line for words that name no job, or an end of the path that is off the map
abbrev pub words_text : List ℕ
words_text = codes "refused words\n"

-- the line of a fault in a file: the file's kind, the fault's number and name, and its place
unfoldable pub fault_text : List ℕ → ℕ → List ℕ → ℕ → List ℕ
fault_text kind number name place = codes "refused " ++ (kind ++ (codes " " ++ (decimal number ++ (codes " " ++ (name ++ (codes " " ++ (decimal place ++ line_feed)))))))

-- the line for a file that was not read
unfoldable pub unread_text : List ℕ → List ℕ → List ℕ
unread_text why name = codes "refused " ++ (why ++ (codes " " ++ (name ++ line_feed)))

-- the line of a refusal
abbrev pub refusal_text : Job → Refusal → List ℕ
refusal_text j (refusal.Environment f) = fault_text (codes "environment") (environments.number_of f) (environments.name_of f) (environments.place_of f)
refusal_text j (refusal.Grid f) = fault_text (codes "environment") (environments.number_of f) (environments.name_of f) (environments.place_of f)
refusal_text j (refusal.OffMap e) = words_text
refusal_text j (refusal.Primitives f) = fault_text (codes "primitives") (primitives.number_of f) (primitives.name_of f) (primitives.place_of f)
refusal_text j (refusal.TooWide i) = fault_text (codes "primitives") 14 (codes "TooWide") i
refusal_text j (refusal.TooDear i) = fault_text (codes "primitives") 15 (codes "TooDear") i
refusal_text j (refusal.Changes f) = fault_text (codes "changes") (changes.number_of f) (changes.name_of f) (changes.line_of f)
refusal_text j (refusal.Read i) = unread_text (codes "read") (input_name j i)
refusal_text j (refusal.Length i) = unread_text (codes "length") (input_name j i)

-- the line of a fault in a text of labels
abbrev pub label_fault_text : LabelFault → List ℕ
label_fault_text f = fault_text (codes "labels") (faults.number_of f) (faults.name_of f) (faults.place_of f)
