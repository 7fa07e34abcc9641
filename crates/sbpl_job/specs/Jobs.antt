-- The job that a list of words names.
use Rattle.std.specs.Prelude.{◌≡◌, ◌^◌, ◌<◌, ◌≤◌, true, false, not, ◌/◌, ◌%◌, ◌&&◌, ◌||◌, Bool, ℕ, ℤ, pos, negsuc, nat_eq, nat_le, nat_lt, int_le, ◌==◌, IfSome, List, [], ◌∷◌, length, map, String, string_bytes, Option, Some, None, option_map, option_and_then, Result, Ok, Err, codes, if◌then◌else◌}
use Rattle.std.specs.List.{list_any, slice_split}
use Rattle.std.specs.Option.{option_map_or}
use Rattle.std.specs.Result.{result_ok}
use Rattle.std.specs.Str.{bytes_eq}
use Rattle.sbpl_cfg.specs.sbpl_fixed.declared.fault.NumFault.{NumFault}
use Rattle.sbpl_cfg.specs.sbpl_fixed.Numbers.{nano_of, whole_of}
use Rattle.sbpl_cfg.specs.sbpl_fixed.Unsigned.{digits_of}
use Rattle.sbpl_cfg.specs.Environment.{IsPoseInRange}
use Rattle.sbpl_cfg.specs.declared.pose.Pose.{Pose}
use Rattle.sbpl_job.specs.declared.job.DemoJob.{DemoJob}
use Rattle.sbpl_job.specs.declared.job.GridSources.{GridSources}
use Rattle.sbpl_job.specs.declared.job.Square.{Square}
use Rattle.sbpl_job.specs.declared.job.Job.{Job}
use Rattle.sbpl_job.specs.declared.job.Job.TheVariants as job
use Rattle.sbpl_job.specs.declared.job.LabelForm.{LabelForm}
use Rattle.sbpl_job.specs.declared.job.LabelForm.TheVariants as form
use Rattle.sbpl_job.specs.declared.job.Outputs.{Outputs}
use Rattle.sbpl_job.specs.declared.job.Planner.{Planner}
use Rattle.sbpl_job.specs.declared.job.Planner.TheVariants as planner
use Rattle.sbpl_job.specs.declared.job.SearchJob.{SearchJob}
use Rattle.sbpl_job.specs.declared.job.Sources.{Sources}
use Rattle.sbpl_job.specs.declared.words.Command.{Command}
use Rattle.sbpl_job.specs.declared.words.Command.TheVariants as command
use Rattle.sbpl_job.specs.declared.words.Setting.TheVariants as setting
use Rattle.sbpl_job.specs.declared.words.Setting.{Setting}
use Rattle.sbpl_job.specs.Words.{WordParts, parts_of, value_of}

-- the values that are given to settings
abbrev pub Settings : Type 0
Settings = Setting → Option (List ℕ)

-- the command of this name
abbrev pub command_named : List ℕ → Option Command
command_named word =
    if bytes_eq word (codes "plan") then Some command.Plan
    else (if bytes_eq word (codes "check") then Some command.Check
    else (if bytes_eq word (codes "sweep") then Some command.Sweep
    else (if bytes_eq word (codes "demo") then Some command.Demo
    else (if bytes_eq word (codes "nav") then Some command.Nav
    else (if bytes_eq word (codes "navcheck") then Some command.NavCheck else None)))))

-- a limit of states, 1 to 2 ^ 28
abbrev pub states_in : Result ℤ NumFault → Option ℕ
states_in (Ok (pos n)) = if nat_le 1 n && nat_le n 268435456 then Some n else None
states_in (Ok (negsuc n)) = None
states_in (Err fault) = None

-- the limit of states that is set; 2 ^ 23 where none is set
abbrev pub states_by : Option (List ℕ) → Option ℕ
states_by None = Some 8388608
states_by (Some text) = states_in (whole_of text)

-- a number of nanometres, 0 to 10 ^ 12
abbrev pub radius_in : Result ℤ NumFault → Option ℕ
radius_in (Ok (pos n)) = if nat_le n (10 ^ 12) then Some n else None
radius_in (Ok (negsuc n)) = None
radius_in (Err fault) = None

-- the radius that is set by decimal metres; 0 where none is set
abbrev pub radius_by : Option (List ℕ) → Option ℕ
radius_by None = Some 0
radius_by (Some metres) = radius_in (nano_of metres)

-- the byte ','
abbrev pub is_comma : ℕ → Bool
is_comma b = b == 44

-- nanometres or nanoradians, in the range of a pose of the environment file
abbrev pub coordinate_in : Result ℤ NumFault → Option ℤ
coordinate_in (Ok z) = if int_le (negsuc 999999999999999999) z && int_le z (pos 1000000000000000000) then Some z else None
coordinate_in (Err fault) = None

-- the pose of three decimals, two of metres and one of radians
abbrev pub pose_in : List (List ℕ) → Option Pose
pose_in (x ∷ (y ∷ (theta ∷ []))) =
    option_and_then (λ a. option_and_then (λ b. option_map (λ c. record { x = a; y = b; theta = c })
    (coordinate_in (nano_of theta))) (coordinate_in (nano_of y))) (coordinate_in (nano_of x))
pose_in _ = None

-- the pose that is set by a word X,Y,T in place of the file's
abbrev pub pose_by : Option (List ℕ) → Option (Option Pose)
pose_by None = Some None
pose_by (Some word) = option_map Some (pose_in (slice_split is_comma word))

-- a column or a row, below the limit of states
abbrev pub index_in : (states : ℕ) → Result ℤ NumFault → Option ℕ
index_in states (Ok (pos n)) = if nat_lt n states then Some n else None
index_in states (Ok (negsuc n)) = None
index_in states (Err fault) = None

-- the square of two whole numbers
abbrev pub square_in : (states : ℕ) → List (List ℕ) → Option Square
square_in states (x ∷ (y ∷ [])) =
    option_and_then (λ a. option_map (λ b. record { x = a; y = b }) (index_in states (whole_of y))) (index_in states (whole_of x))
square_in states _ = None

-- the square that is set by a word X,Y in place of the file's
abbrev pub square_by : (states : ℕ) → Option (List ℕ) → Option (Option Square)
square_by states None = Some None
square_by states (Some word) = option_map Some (square_in states (slice_split is_comma word))

-- what the lattice of a command is made of, where there are a limit of states, a radius, a start and a goal
abbrev pub sources_by : (env prims : List ℕ) → (states radius : Option ℕ) → (start goal : Option (Option Pose)) → Option Sources
sources_by env prims states radius start goal =
    option_and_then (λ n. option_and_then (λ r. option_and_then (λ s. option_map (λ g.
    record { env = env; prims = prims; states = n; radius = r; start = s; goal = g }) goal) start) radius) states

abbrev pub sources_in : (env prims : List ℕ) → Settings → Option Sources
sources_in env prims set =
    sources_by env prims (states_by (set setting.States)) (radius_by (set setting.Radius)) (pose_by (set setting.Start))
    (pose_by (set setting.Goal))

-- what the grid of a command is made of, where there are a start and a goal
abbrev pub grid_sources_by : (env : List ℕ) → (states : ℕ) → (start goal : Option (Option Square)) → Option GridSources
grid_sources_by env states start goal =
    option_and_then (λ s. option_map (λ g. record { env = env; states = states; start = s; goal = g }) goal) start

abbrev pub grid_sources_in : (env : List ℕ) → Settings → Option GridSources
grid_sources_in env set =
    option_and_then (λ n. grid_sources_by env n (square_by n (set setting.Start)) (square_by n (set setting.Goal)))
    (states_by (set setting.States))

-- the thousandths that a number of billionths is exactly, in their range
abbrev pub milli_from : (low high nano : ℕ) → Option ℕ
milli_from low high nano = if nat_eq (nano % 10 ^ 6) 0 && (nat_le low (nano / 10 ^ 6) && nat_le (nano / 10 ^ 6) high) then Some (nano / 10 ^ 6) else None

abbrev pub milli_in : (low high : ℕ) → Result ℤ NumFault → Option ℕ
milli_in low high (Ok (pos n)) = milli_from low high n
milli_in low high (Ok (negsuc n)) = None
milli_in low high (Err fault) = None

-- the thousandths that are set by a decimal, or a default
abbrev pub milli_by : (default low high : ℕ) → Option (List ℕ) → Option ℕ
milli_by default low high None = Some default
milli_by default low high (Some text) = milli_in low high (nano_of text)

-- a number of expansions, 1 to 2 ^ 30
abbrev pub budget_in : Result ℤ NumFault → Option ℕ
budget_in (Ok (pos n)) = if nat_le 1 n && nat_le n (2 ^ 30) then Some n else None
budget_in (Ok (negsuc n)) = None
budget_in (Err fault) = None

-- the budget that is set; 2 ^ 30 where none is set
abbrev pub budget_by : Option (List ℕ) → Option ℕ
budget_by None = Some (2 ^ 30)
budget_by (Some text) = budget_in (whole_of text)

-- the planner of this name
abbrev pub planner_named : List ℕ → Option Planner
planner_named name =
    if bytes_eq name (codes "ara") then Some planner.Ara
    else (if bytes_eq name (codes "ad") then Some planner.AdStar
    else (if bytes_eq name (codes "back") then Some planner.Back
    else (if bytes_eq name (codes "epase") then Some planner.Epase else None)))

-- the planner that is set; Anytime D* where none is set
abbrev pub planner_by : Option (List ℕ) → Option Planner
planner_by None = Some planner.AdStar
planner_by (Some name) = planner_named name

-- the most workers that a job can ask for
abbrev pub most_workers : ℕ
most_workers = 64

-- a number of workers, 1 to the most
abbrev pub workers_in : Result ℤ NumFault → Option ℕ
workers_in (Ok (pos n)) = if nat_le 1 n && nat_le n most_workers then Some n else None
workers_in (Ok (negsuc n)) = None
workers_in (Err fault) = None

-- workers evaluate the edges of a planner: of ePA*SE alone
abbrev pub has_workers : Planner → Bool
has_workers planner.Epase = true
has_workers _ = false

-- lines of the change file can say where the robot is: under this planner it may move
abbrev pub may_move : Planner → Bool
may_move planner.Back = true
may_move _ = false

-- the number of workers that is set, for a planner that has workers; 1 where none is set
abbrev pub workers_by : Planner → Option (List ℕ) → Option ℕ
workers_by p None = Some 1
workers_by p (Some text) = if has_workers p then workers_in (whole_of text) else None

-- how a path is to be searched, by settings
abbrev pub search_in : Settings → Option SearchJob
search_in set =
    option_and_then (λ p. option_and_then (λ workers. option_and_then (λ first. option_and_then (λ step. option_and_then (λ bound. option_and_then (λ budget.
    Some (record { planner = p; workers = workers; first = first; step = step; bound = bound; budget = budget }))
    (budget_by (set setting.Budget)))
    (milli_by 1000 1000 100000 (set setting.Bound)))
    (milli_by 500 1 99000 (set setting.Step)))
    (milli_by 1000 1000 100000 (set setting.First)))
    (workers_by p (set setting.Workers)))
    (planner_by (set setting.Planner))

-- how a path on a grid is to be searched, by settings: by a planner under which the robot stays
abbrev pub grid_search_in : Settings → Option SearchJob
grid_search_in set = option_and_then (λ search. if may_move search.planner then None else Some search) (search_in set)

-- a name is that of a file that is read: one of these, or the changes where there are some
abbrev pub is_input : (files : List (List ℕ)) (changes : Option (List ℕ)) → List ℕ → Bool
is_input files changes name = list_any (bytes_eq name) files || option_map_or (bytes_eq name) changes false

-- the name of an output, if one is set: it is no file that is read
abbrev pub output_by : (files : List (List ℕ)) (changes : Option (List ℕ)) → Option (List ℕ) → Option (Option (List ℕ))
output_by files changes None = Some None
output_by files changes (Some name) = if is_input files changes name then None else Some (Some name)

-- the form of labels of this version
abbrev pub form_named : List ℕ → Option LabelForm
form_named version = if bytes_eq version (codes "1") then Some form.Full else (if bytes_eq version (codes "2") then Some form.Sparse else None)

-- the form of labels that is set, which only goes with labels that are written; sparse where none is set
abbrev pub form_by : (labels version : Option (List ℕ)) → Option LabelForm
form_by labels None = Some form.Sparse
form_by None (Some version) = None
form_by (Some labels) (Some version) = form_named version

-- two names differ, where both are set
abbrev pub differ : (first second : Option (List ℕ)) → Bool
differ (Some first) (Some second) = not (bytes_eq first second)
differ _ _ = true

-- three outputs, which differ where they are set
abbrev pub outputs_by : (labels : Option (List ℕ)) → LabelForm → (trace incumbent : Option (List ℕ)) → Option Outputs
outputs_by labels f trace incumbent =
    if differ labels trace && (differ labels incumbent && differ trace incumbent) then Some (record { labels = labels; form = f; trace = trace; incumbent = incumbent }) else None

-- where a plan that reads these files and these changes writes its labels, its trace and the newest path, and in which form the
-- labels are
abbrev pub outputs_in : (files : List (List ℕ)) (changes : Option (List ℕ)) → Settings → Option Outputs
outputs_in files changes set =
    option_and_then (λ labels. option_and_then (λ f. option_and_then (λ trace. option_and_then (outputs_by labels f trace)
    (output_by files changes (set setting.Incumbent)))
    (output_by files changes (set setting.Trace)))
    (form_by labels (set setting.LabelsAs)))
    (output_by files changes (set setting.Labels))

-- the job `plan` of these parts
abbrev pub plan_by : Sources → Option (List ℕ) → Outputs → SearchJob → Job
plan_by from changes outputs search = job.Plan (record { sources = from; changes = changes; search = search; outputs = outputs })

-- the job `plan` on these sources, with these changes
abbrev pub plan_on : Sources → Option (List ℕ) → Settings → Option Job
plan_on from changes set =
    option_and_then (λ outputs. option_map (plan_by from changes outputs) (search_in set))
    (outputs_in (from.env ∷ (from.prims ∷ [])) changes set)

abbrev pub plan_in : (env prims : List ℕ) → Settings → Option Job
plan_in env prims set =
    option_and_then (λ from. plan_on from (set setting.Changes) set) (sources_in env prims set)

-- whether labels are those of the planner `back`: where it is set, and not where none is; no other can be set
abbrev pub back_by : Option (List ℕ) → Option Bool
back_by None = Some false
back_by (Some name) = if bytes_eq name (codes "back") then Some true else None

-- the job `check`
abbrev pub check_in : (env prims labels : List ℕ) → Settings → Option Job
check_in env prims labels set =
    option_and_then (λ back. option_map (λ from. job.Check (record { sources = from; changes = set setting.Changes; labels = labels; back = back })) (sources_in env prims set))
    (back_by (set setting.Planner))

-- the job `sweep`
abbrev pub sweep_in : (env prims : List ℕ) → Settings → Option Job
sweep_in env prims set = option_map job.Sweep (sources_in env prims set)

-- a seed: one to twenty digits, below 2 ^ 64
abbrev pub seed_in : List ℕ → Option ℕ
seed_in text = if nat_le (length text) 20 then result_ok (digits_of (2 ^ 64) text) else None

-- a width or a height, 8 to 512
abbrev pub extent_in : Result ℤ NumFault → Option ℕ
extent_in (Ok (pos n)) = if nat_le 8 n && nat_le n 512 then Some n else None
extent_in (Ok (negsuc n)) = None
extent_in (Err fault) = None

-- the job `demo`
abbrev pub demo_in : (seed width height : List ℕ) → Option Job
demo_in seed width height =
    option_and_then (λ s. option_and_then (λ w. option_map (λ h. job.Demo (record { seed = s; width = w; height = h })) (extent_in (whole_of height))) (extent_in (whole_of width)))
    (seed_in seed)

-- the job `nav` of these parts
abbrev pub nav_by : GridSources → Option (List ℕ) → Outputs → SearchJob → Job
nav_by from changes outputs search = job.Nav (record { sources = from; changes = changes; search = search; outputs = outputs })

-- the job `nav` on these sources, with these changes
abbrev pub nav_on : GridSources → Option (List ℕ) → Settings → Option Job
nav_on from changes set =
    option_and_then (λ outputs. option_map (nav_by from changes outputs) (grid_search_in set))
    (outputs_in (from.env ∷ []) changes set)

abbrev pub nav_in : (env : List ℕ) → Settings → Option Job
nav_in env set = option_and_then (λ from. nav_on from (set setting.Changes) set) (grid_sources_in env set)

-- the job `navcheck`
abbrev pub nav_check_in : (env labels : List ℕ) → Settings → Option Job
nav_check_in env labels set =
    option_map (λ from. job.NavCheck (record { sources = from; changes = set setting.Changes; labels = labels })) (grid_sources_in env set)

-- the job of a command with these plain words and settings
abbrev pub job_with : Command → List (List ℕ) → Settings → Option Job
job_with command.Plan (env ∷ (prims ∷ [])) set = plan_in env prims set
job_with command.Check (env ∷ (prims ∷ (labels ∷ []))) set = check_in env prims labels set
job_with command.Sweep (env ∷ (prims ∷ [])) set = sweep_in env prims set
job_with command.Demo (seed ∷ (width ∷ (height ∷ []))) set = demo_in seed width height
job_with command.Nav (env ∷ []) set = nav_in env set
job_with command.NavCheck (env ∷ (labels ∷ [])) set = nav_check_in env labels set
job_with _ _ _ = None

abbrev pub job_by : Command → WordParts → Option Job
job_by c p = job_with c p.plain (λ s. value_of s p.given)

-- the job that the words name
abbrev pub job_of : List (List ℕ) → Option Job
job_of [] = None
job_of (word ∷ words) = option_and_then (λ c. option_and_then (job_by c) (parts_of c words)) (command_named word)

-- the job that the program's words name
abbrev pub job_named : {Z : Type 0} → List (String Z) → Option Job
job_named words = job_of (map string_bytes words)

-- lines of the change file can say where the robot is: under the planner of this job it may move
abbrev pub moves_in : Job → Bool
moves_in (job.Plan plan) = may_move plan.search.planner
moves_in (job.Check check) = check.back
moves_in _ = false

-- the workers, the inflations, the bound and the budget lie in their ranges, and a planner without workers has the number 1
pub record IsSearchJob (s : SearchJob) : Type 0 where
  pub workers_low : 1 ≤ s.workers
  pub workers_high : s.workers ≤ most_workers
  pub no_workers : has_workers s.planner ≡ false → s.workers ≡ 1
  pub first_low : 1000 ≤ s.first
  pub first_high : s.first ≤ 100000
  pub step_low : 1 ≤ s.step
  pub step_high : s.step ≤ 99000
  pub bound_low : 1000 ≤ s.bound
  pub bound_high : s.bound ≤ 100000
  pub budget_low : 1 ≤ s.budget
  pub budget_high : s.budget ≤ 2 ^ 30

-- the seed, the width and the height lie in their ranges
pub record IsDemoJob (d : DemoJob) : Type 0 where
  pub seed_high : d.seed < 2 ^ 64
  pub width_low : 8 ≤ d.width
  pub width_high : d.width ≤ 512
  pub height_low : 8 ≤ d.height
  pub height_high : d.height ≤ 512

-- the limit of states, the radius, the start and the goal lie in their ranges
pub record AreSources (s : Sources) : Type 0 where
  pub states_low : 1 ≤ s.states
  pub states_high : s.states ≤ 268435456
  pub radius : s.radius ≤ 10 ^ 12
  pub start : IfSome s.start IsPoseInRange
  pub goal : IfSome s.goal IsPoseInRange

-- the limit of states lies in its range
pub record AreGridSources (s : GridSources) : Type 0 where
  pub states_low : 1 ≤ s.states
  pub states_high : s.states ≤ 268435456

-- the numbers of a job lie in their ranges, and on a grid the robot stays
abbrev pub IsJob : Job → Type 0
IsJob (job.Plan plan) = AreSources plan.sources × IsSearchJob plan.search
IsJob (job.Check check) = AreSources check.sources
IsJob (job.Sweep sources) = AreSources sources
IsJob (job.Demo demo) = IsDemoJob demo
IsJob (job.Nav nav) = AreGridSources nav.sources × IsSearchJob nav.search × (may_move nav.search.planner ≡ false)
IsJob (job.NavCheck check) = AreGridSources check.sources
