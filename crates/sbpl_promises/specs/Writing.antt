-- Texts that are written under names, in turn, and how the writing of them ends.
use Rattle.std.specs.Prelude.{◌≡◌, ◌⊎◌, ℕ, List, [], ◌∷◌, ◌++◌, flat_map, if◌then◌else◌, Option, Some, None, Result, Ok, Err, codes}
use Rattle.std.specs.Str.{bytes_eq}
use Rattle.sbpl_desk.specs.Desk.{Appends}
pub use Rattle.sbpl_desk.specs.Desk.{DeskState, Names, ReadFailed, ReadsOnly, Stays, StaysBut, Told, WriteFailed, WritesOnly}
use Rattle.sbpl_desk.specs.declared.desk.WriteStop.{WriteStop}
use Rattle.sbpl_desk.specs.declared.desk.WriteStop.TheVariants.{Failed, NoMemory}
use Rattle.sbpl_report.specs.sbpl_job.declared.job.Outputs.{Outputs}

-- one text that is written under a name
pub record Write : Type 0 where
  pub name : List ℕ
  pub text : List ℕ

-- the name of the standard output
abbrev pub output : List ℕ
output = codes "-"

-- a text that is written to the standard output
abbrev pub to_output : List ℕ → Write
to_output text = record { name = output; text = text }

-- what these writes append under a name
abbrev pub text_under : List ℕ → List Write → List ℕ
text_under name writes = flat_map (λ w. if bytes_eq w.name name then w.text else []) writes

-- a text that is written under a name, if there is one
abbrev pub to_named : Option (List ℕ) → List ℕ → List Write
to_named None text = []
to_named (Some name) text = record { name = name; text = text } ∷ []

-- the name is that of the standard output
abbrev pub IsOutput : Names
IsOutput name = name ≡ output

-- this is the name, if there is one
abbrev pub IsNamed : Option (List ℕ) → Names
IsNamed o name = o ≡ Some name

-- the name is that of the standard output, or of another output of a plan
abbrev pub IsOutputOf : Outputs → Names
IsOutputOf o name = IsOutput name ⊎ (IsNamed o.labels name ⊎ (IsNamed o.trace name ⊎ IsNamed o.incumbent name))

-- these writes were made: under each name, told bytes grew by their texts
pub record AreAppended (before after : DeskState) (writes : List Write) : Type 0 where
  pub grown : (name : List ℕ) → Appends (before.written name) (after.written name) (text_under name writes)

-- a write failed: those before it were made, and a prefix of its text is written
pub record IsCutAt (before after : DeskState) (writes : List Write) : Type 0 where
  pub first : List Write
  pub cut : Write
  pub rest : List Write
  pub whole : writes ≡ first ++ cut ∷ rest
  pub prefix : List ℕ
  pub suffix : List ℕ
  pub parted : cut.text ≡ prefix ++ suffix
  pub rose : WriteFailed before after cut.name
  pub made : AreAppended before after (first ++ record { name = cut.name; text = prefix } ∷ [])

-- memory ran out: the first few writes were made
pub record RunsOutAt (before after : DeskState) (writes : List Write) : Type 0 where
  pub first : List Write
  pub rest : List Write
  pub whole : writes ≡ first ++ rest
  pub made : AreAppended before after first

-- how the making of these writes ends
abbrev pub EndsIn : {T : Type 0} → (before after : DeskState) → List Write → Result T WriteStop → Type 0
EndsIn before after writes (Ok _) = AreAppended before after writes
EndsIn before after writes (Err Failed) = IsCutAt before after writes
EndsIn before after writes (Err NoMemory) = RunsOutAt before after writes

-- the status after the making of writes, where another one is wanted
abbrev pub status_after : {T : Type 0} → ℕ → Result T WriteStop → ℕ
status_after wanted (Ok _) = wanted
status_after wanted (Err Failed) = 7
status_after wanted (Err NoMemory) = 9

-- how a run ends that is to make these writes and to answer a status
abbrev pub EndsAs : (before after : DeskState) → List Write → ℕ → ℕ → Type 0
EndsAs before after writes wanted status =
    ((status ≡ wanted) × AreAppended before after writes)
    ⊎ (((status ≡ 7) × IsCutAt before after writes)
    ⊎ ((status ≡ 9) × RunsOutAt before after writes))
