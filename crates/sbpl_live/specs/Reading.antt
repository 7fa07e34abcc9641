-- What is read of a line, step by step.
use Rattle.std.specs.Prelude.{◌==◌, ◌&&◌, ◌||◌, ℕ, ℤ, Bool, true, false, nat_lt, bytes_eq, List, [], ◌∷◌, length, Option, Some, None, option_map, Result, Ok, Err, codes, if◌then◌else◌}
use Rattle.sbpl_map.specs.Fields.{fields}
use Rattle.sbpl_map.specs.Reading.{Three, lacks_form, numbers, three}
use Rattle.sbpl_map.specs.declared.line_fault.LineFault.{LineFault}
use Rattle.sbpl_map.specs.declared.line_fault.LineFault.TheVariants as fault
use Rattle.sbpl_job.specs.sbpl_fixed.declared.fault.NumFault.{NumFault}
use Rattle.sbpl_live.specs.Lines.{Scope}
use Rattle.sbpl_live.specs.Settings.{given, number_in, value_in, word_of}
use Rattle.sbpl_live.specs.declared.setting.PlanSetting.{PlanSetting}
use Rattle.sbpl_live.specs.declared.setting.PlanSetting.TheVariants.{First, Step, Bound, Budget, Seconds}
use Rattle.sbpl_live.specs.declared.spoken.Wants.{Wants}
use Rattle.sbpl_live.specs.declared.spoken.Spoken.{Spoken}
use Rattle.sbpl_live.specs.declared.spoken.Spoken.TheVariants.{Nothing, Cell, Start, Goal, Plan}

-- ---- the settings of a plan

abbrev pub is_setting : List ℕ → Bool
is_setting word =
    bytes_eq word (codes "first") || (bytes_eq word (codes "step") || (bytes_eq word (codes "bound")
    || (bytes_eq word (codes "budget") || bytes_eq word (codes "seconds"))))

abbrev pub is_none : {X : Type 0} → Option X → Bool
is_none None = true
is_none (Some x) = false

abbrev pub are_pairs : List (List ℕ) → Bool
are_pairs [] = true
are_pairs (w ∷ []) = false
are_pairs (w ∷ v ∷ more) = is_setting w && (is_none (given w more) && are_pairs more)

-- the number that pairs give to a setting, as it is read
abbrev pub number_given : PlanSetting → List (List ℕ) → Option (Result ℤ NumFault)
number_given s pairs = option_map (number_in s) (given (word_of s) pairs)

abbrev pub lacks : Option (Result ℤ NumFault) → Bool
lacks None = false
lacks (Some n) = lacks_form n

-- the value that is given, if one is; none where it is outside its range
abbrev pub read_by : (Result ℤ NumFault → Option ℕ) → Option (Result ℤ NumFault) → Option (Option ℕ)
read_by read None = Some None
read_by read (Some n) = option_map Some (read n)

abbrev pub wants_in : (first step bound budget seconds : Option (Option ℕ)) → Result Wants LineFault
wants_in None s b u t = Err fault.Range
wants_in (Some f) None b u t = Err fault.Range
wants_in (Some f) (Some s) None u t = Err fault.Range
wants_in (Some f) (Some s) (Some b) None t = Err fault.Range
wants_in (Some f) (Some s) (Some b) (Some u) None = Err fault.Range
wants_in (Some f) (Some s) (Some b) (Some u) (Some t) =
    Ok (record { first = f; step = s; bound = b; budget = u; seconds = t })

abbrev pub any_lacks : (first step bound budget seconds : Option (Result ℤ NumFault)) → Bool
any_lacks f s b u t = lacks f || (lacks s || (lacks b || (lacks u || lacks t)))

abbrev pub wants_by : (first step bound budget seconds : Option (Result ℤ NumFault)) → Result Wants LineFault
wants_by f s b u t =
    if any_lacks f s b u t then Err fault.Number
    else wants_in (read_by (value_in First) f) (read_by (value_in Step) s) (read_by (value_in Bound) b)
    (read_by (value_in Budget) u) (read_by (value_in Seconds) t)

abbrev pub wants_given : List (List ℕ) → Result Wants LineFault
wants_given pairs =
    wants_by (number_given First pairs) (number_given Step pairs) (number_given Bound pairs) (number_given Budget pairs)
    (number_given Seconds pairs)

abbrev pub plan_of : Result Wants LineFault → Result Spoken LineFault
plan_of (Ok w) = Ok (Plan w)
plan_of (Err f) = Err f

abbrev pub plan_said : List (List ℕ) → Result Spoken LineFault
plan_said pairs = if are_pairs pairs then plan_of (wants_given pairs) else Err fault.Word

-- ---- lines of three fields

abbrev pub cell_said : Result Three LineFault → Result Spoken LineFault
cell_said (Ok n) = Ok (Cell (record { x = n.0; y = n.1; cost = n.2 }))
cell_said (Err f) = Err f

abbrev pub start_said : Result Three LineFault → Result Spoken LineFault
start_said (Ok n) = Ok (Start (record { x = n.0; y = n.1; t = n.2 }))
start_said (Err f) = Err f

abbrev pub goal_said : Result Three LineFault → Result Spoken LineFault
goal_said (Ok n) = Ok (Goal (record { x = n.0; y = n.1; t = n.2 }))
goal_said (Err f) = Err f

-- ---- lines

abbrev pub is_note : List ℕ → Bool
is_note [] = false
is_note (b ∷ bs) = b == 35

unfoldable pub heard_in : Scope → List (List ℕ) → Result Spoken LineFault
heard_in s [] = Ok Nothing
heard_in s (word ∷ more) =
    if is_note word then Ok Nothing
    else (if bytes_eq word (codes "cell") then cell_said (numbers s.states s.cells 256 (three more))
    else (if bytes_eq word (codes "start") then start_said (numbers s.states s.cells s.headings (three more))
    else (if bytes_eq word (codes "goal") then goal_said (numbers s.states s.cells s.headings (three more))
    else (if bytes_eq word (codes "plan") then plan_said more else Err fault.Word))))

abbrev pub heard : Scope → List ℕ → Result Spoken LineFault
heard s line = if nat_lt 4096 (length line) then Err fault.Word else heard_in s (fields line)
