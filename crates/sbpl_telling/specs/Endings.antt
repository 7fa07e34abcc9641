-- How a run ended: its status, and what people are told.
use Rattle.std.specs.Prelude.{◌≡◌, ℕ, ◌==◌, if◌then◌else◌, List, []}
use Rattle.sbpl_promises.specs.Explained.{unwritten_text}
use Rattle.sbpl_promises.specs.Writing.{AreAppended, DeskState, IsCutAt, RunsOutAt, Write}
use Rattle.sbpl_promises.specs.sbpl_report.Statuses.{number_of}
use Rattle.sbpl_telling.specs.declared.ending.Ending.{Ending}

-- what is told: that a write failed, or why the job was not done
abbrev pub message_of : Ending → List ℕ
message_of e = if number_of e.status == 7 then unwritten_text else e.why

-- how a run ends that is to make these writes, to answer a status and to tell why: it does; or a write failed, or memory ran out, and then
-- nothing more is told
pub data EndsTelling (before after : DeskState) (writes : List Write) (wanted : ℕ) (why : List ℕ) (e : Ending) : Type 0 where
  as_wanted : number_of e.status ≡ wanted → AreAppended before after writes → e.why ≡ why
      → EndsTelling before after writes wanted why e
  cut : number_of e.status ≡ 7 → IsCutAt before after writes → e.why ≡ [] → EndsTelling before after writes wanted why e
  ran_out : number_of e.status ≡ 9 → RunsOutAt before after writes → e.why ≡ [] → EndsTelling before after writes wanted why e
