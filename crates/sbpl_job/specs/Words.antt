-- How the words after a command's name divide into plain words and settings with their values.
use Rattle.std.specs.Prelude.{◌≡◌, ℕ, Bool, true, false, not, nat_eq, ◌&&◌, ◌||◌, List, [], ◌∷◌, ◌++◌, map, Option, Some, None, is_some, option_map, option_and_then, Result, Ok, Err, codes, if◌then◌else◌}
use Rattle.std.specs.Str.{bytes_eq}
use denote.Ref.{Bor}
use Rattle.std.specs.List.{after_first, before_first, list_any}
use Rattle.std.specs.Option.{option_map_or}
use Rattle.sbpl_job.specs.declared.job.JobFault.{JobFault}
use Rattle.sbpl_job.specs.declared.job.JobFault.TheVariants.{Words, NoMemory}
use Rattle.sbpl_job.specs.declared.words.Command.{Command}
use Rattle.sbpl_job.specs.declared.words.Command.TheVariants as command
use Rattle.sbpl_job.specs.declared.words.Setting.{Setting}
use Rattle.sbpl_job.specs.declared.words.Setting.TheVariants as setting

-- the texts that references lead to
abbrev pub text_of : Bor (List ℕ) → List ℕ
text_of word = word.now

abbrev pub texts : List (Bor (List ℕ)) → List (List ℕ)
texts = map text_of

abbrev pub both_texts : Bor (List ℕ) × Bor (List ℕ) → List ℕ × List ℕ
both_texts words = (words.0.now, words.1.now)

-- a setting and its value
pub record Given : Type 0 where
  pub setting : Setting
  pub value : List ℕ

-- plain words, and settings with their values, each in its order
pub record WordParts : Type 0 where
  pub plain : List (List ℕ)
  pub given : List Given

abbrev pub no_parts : WordParts
no_parts = record { plain = []; given = [] }

abbrev pub with_plain : List ℕ → WordParts → WordParts
with_plain word p = record p { plain = word ∷ p.plain }

abbrev pub with_given : Setting → List ℕ → WordParts → WordParts
with_given s value p = record p { given = record { setting = s; value = value } ∷ p.given }

-- a word is plain: not empty, and it does not begin with a dash
abbrev pub is_plain_word : List ℕ → Bool
is_plain_word [] = false
is_plain_word (b ∷ bs) = not (nat_eq b 45)

-- what a setting is called, without the dashes
abbrev pub id_of : Setting → List ℕ
id_of setting.Changes = codes "changes"
id_of setting.Radius = codes "radius"
id_of setting.Planner = codes "planner"
id_of setting.Workers = codes "workers"
id_of setting.First = codes "first"
id_of setting.Step = codes "step"
id_of setting.Bound = codes "bound"
id_of setting.Budget = codes "budget"
id_of setting.States = codes "states"
id_of setting.Labels = codes "labels"
id_of setting.LabelsAs = codes "labels-as"
id_of setting.Trace = codes "trace"
id_of setting.Incumbent = codes "incumbent"
id_of setting.Start = codes "start"
id_of setting.Goal = codes "goal"

-- two settings are the same where their names are
abbrev pub is_setting : Setting → Setting → Bool
is_setting a b = bytes_eq (id_of a) (id_of b)

-- the setting of this name
abbrev pub setting_named : List ℕ → Option Setting
setting_named word =
    if bytes_eq word (codes "--changes") then Some setting.Changes
    else (if bytes_eq word (codes "--radius") then Some setting.Radius
    else (if bytes_eq word (codes "--planner") then Some setting.Planner
    else (if bytes_eq word (codes "--workers") then Some setting.Workers
    else (if bytes_eq word (codes "--first") then Some setting.First
    else (if bytes_eq word (codes "--step") then Some setting.Step
    else (if bytes_eq word (codes "--bound") then Some setting.Bound
    else (if bytes_eq word (codes "--budget") then Some setting.Budget
    else (if bytes_eq word (codes "--states") then Some setting.States
    else (if bytes_eq word (codes "--labels") then Some setting.Labels
    else (if bytes_eq word (codes "--labels-as") then Some setting.LabelsAs
    else (if bytes_eq word (codes "--trace") then Some setting.Trace
    else (if bytes_eq word (codes "--incumbent") then Some setting.Incumbent
    else (if bytes_eq word (codes "--start") then Some setting.Start
    else (if bytes_eq word (codes "--goal") then Some setting.Goal else None))))))))))))))

-- a setting is where to start, or where to go
abbrev pub is_end : Setting → Bool
is_end s = is_setting s setting.Start || is_setting s setting.Goal

-- a command takes a setting
abbrev pub takes : Command → Setting → Bool
takes command.Plan s = true
takes command.Check s =
    is_end s || is_setting s setting.Changes || is_setting s setting.Radius || is_setting s setting.Planner
    || is_setting s setting.States
takes command.Sweep s = is_setting s setting.Radius || is_setting s setting.States
takes command.Demo s = false
takes command.Nav s = not (is_setting s setting.Radius)
takes command.NavCheck s = is_end s || is_setting s setting.Changes || is_setting s setting.States

-- the setting of this name, where the command takes it
abbrev pub setting_of : Command → List ℕ → Option Setting
setting_of c word = option_and_then (λ s. if takes c s then Some s else None) (setting_named word)

-- the byte '='
abbrev pub is_equals : ℕ → Bool
is_equals b = nat_eq b 61

-- a setting's name and its value in one word, separated by the first '='
abbrev pub is_joined : Command → List ℕ → Bool
is_joined c word = is_some (setting_of c (before_first is_equals word)) && is_plain_word (after_first is_equals word)

abbrev pub joined_word : Command → List ℕ → Option (List ℕ × List ℕ)
joined_word c word = if is_joined c word then Some (before_first is_equals word, after_first is_equals word) else None

-- words in the spaced form, in which the value of a setting is the word after its name
abbrev pub spaced_word : Command → List ℕ → List (List ℕ)
spaced_word c word = option_map_or (λ parts. parts.0 ∷ (parts.1 ∷ [])) (joined_word c word) (word ∷ [])

abbrev pub spaced : Command → List (List ℕ) → List (List ℕ)
spaced c [] = []
spaced c (word ∷ words) = spaced_word c word ++ spaced c words

-- a word of the spaced form: plain, or the name of a setting that the command takes
abbrev pub is_known : Command → List ℕ → Bool
is_known c word = is_plain_word word || is_some (setting_of c word)

-- How spaced words divide, where a setting may await its value: a plain word is that value, or stands by itself; a setting's
-- name awaits its value in the next word.
abbrev pub parts_after : Command → Option Setting → List (List ℕ) → Option WordParts
parts_after c None [] = Some no_parts
parts_after c (Some s) [] = None
parts_after c (Some s) (word ∷ words) = if is_plain_word word then option_map (with_given s word) (parts_after c None words) else None
parts_after c None (word ∷ words) =
    if is_plain_word word then option_map (with_plain word) (parts_after c None words)
    else option_and_then (λ s. parts_after c (Some s) words) (setting_of c word)

-- a setting's name does not stand again after it
abbrev pub stands_once : Command → List ℕ → List (List ℕ) → Bool
stands_once c word words = not (option_map_or (λ _. list_any (bytes_eq word) words) (setting_of c word) false)

-- no setting stands twice
abbrev pub once : Command → List (List ℕ) → Bool
once c [] = true
once c (word ∷ words) = stands_once c word words && once c words

-- each word is plain, or the name of a setting that stands once
abbrev pub are_fit : Command → List (List ℕ) → Bool
are_fit c [] = true
are_fit c (word ∷ words) = (is_known c word && stands_once c word words) && are_fit c words

-- the parts of spaced words, in which no setting stands twice; and those of words
abbrev pub parts_in : Command → List (List ℕ) → Option WordParts
parts_in c words = if once c words then parts_after c None words else None

abbrev pub parts_of : Command → List (List ℕ) → Option WordParts
parts_of c words = parts_in c (spaced c words)

-- the value of a setting, if it is given
abbrev pub value_of : Setting → List Given → Option (List ℕ)
value_of s [] = None
value_of s (g ∷ gs) = if is_setting g.setting s then Some g.value else value_of s gs

-- an answer is what the words name; or it says that they name nothing; or memory ran out
abbrev pub Names : {X : Type 0} → Option X → Result X JobFault → Type 0
Names named (Ok x) = named ≡ Some x
Names named (Err Words) = named ≡ None
Names named (Err NoMemory) = Unit {0}
