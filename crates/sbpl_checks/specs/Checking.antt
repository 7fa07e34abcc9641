-- How the checking of labels goes on from one section to the next.
use Rattle.std.specs.Prelude.{◌≡◌, ◌≢◌, ℕ, List, [], ◌∷◌, Option, Some, Err}
use Rattle.sbpl_worlds.specs.sbpl_desk.declared.desk.WriteStop.{WriteStop}
use Rattle.sbpl_worlds.specs.sbpl_map.MapAfter.{IsMapAfter}
use Rattle.sbpl_worlds.specs.sbpl_promises.Sites.{Site}
use Rattle.sbpl_worlds.specs.sbpl_fixed.Formats.{Left}
use Rattle.sbpl_checks.specs.declared.label_file.LabelFile.{LabelFile}
use Rattle.sbpl_telling.specs.declared.ending.Ending.{Ending}
use Rattle.sbpl_worlds.specs.sbpl_cert.Faults.{place_of}
use Rattle.sbpl_worlds.specs.sbpl_cert.declared.fault.LabelFault.{LabelFault}
use Rattle.sbpl_worlds.specs.sbpl_cert.declared.outcome.Outcome.{Outcome}
use Rattle.sbpl_worlds.specs.sbpl_lists.Messages.{IsMessageAt, IsPlainMessage}
use Rattle.sbpl_worlds.specs.sbpl_promises.Checked.{AreChecked, Case, Ground, IsEndOfText, IsGroundAfter, IsSectionStop, IsShownHolding, from_in, to_in}
use Rattle.sbpl_worlds.specs.sbpl_promises.Intents.{checked_status, checked_writes, stop_status, stop_writes}
use Rattle.sbpl_worlds.specs.sbpl_promises.declared.section_stop.SectionStop.{SectionStop}
use Rattle.sbpl_worlds.specs.sbpl_promises.declared.section_stop.SectionStop.TheVariants as section
use Rattle.sbpl_worlds.specs.sbpl_report.Statuses.{number_of}
use Rattle.sbpl_worlds.specs.sbpl_report.Verdicts.{holds_text}
use Rattle.sbpl_worlds.specs.sbpl_promises.Writing.{AreAppended, DeskState, EndsAs, EndsIn, status_after, to_output}

-- the section of a plan holds on a graph, and a line says so
pub record HoldsAndPrints (n : Ground) (start goal plan : ℕ) (left rest : Left) (before after : DeskState) : Type 0 where
  pub outcome : Outcome
  pub holds : IsShownHolding n start goal plan left outcome rest
  pub line : AreAppended before after (to_output (holds_text plan outcome) ∷ [])

-- what is told of a fault in a file of labels: its place, where the line of the report was written; and nothing otherwise
pub record IsFaultTold (file : LabelFile) (f : LabelFault) (e : Ending) : Type 0 where
  pub written : number_of e.status ≡ 10 → IsMessageAt file.name.now file.text.now (place_of f) e.why
  pub unwritten : number_of e.status ≢ 10 → e.why ≡ []

-- what is told of a flaw in the sections of such a file: a message on the file, where the line of the report was written; and nothing otherwise
pub record IsFlawTold (file : LabelFile) (e : Ending) : Type 0 where
  pub written : number_of e.status ≡ 1 → IsPlainMessage file.name.now e.why
  pub unwritten : number_of e.status ≢ 1 → e.why ≡ []

-- of how the checking of the sections of such a file ends: a flaw or a fault, and nothing else
abbrev pub IsStopTold : LabelFile → Option SectionStop → Ending → Type 0
IsStopTold file (Some (section.Flaw f)) e = IsFlawTold file e
IsStopTold file (Some (section.Fault f)) e = IsFaultTold file f e
IsStopTold file _ e = e.why ≡ []

-- the section of a plan does not hold on a graph, or memory ran out, and what is written and told of that; or it holds, and the line that
-- says so was not written
pub data EndsAtSection (n : Ground) (start goal plan : ℕ) (left : Left) (file : LabelFile) (before after : DeskState) (e : Ending) : Type 0 where
  stopped : (s : SectionStop) → IsSectionStop n start goal plan left s → EndsAs before after (stop_writes goal plan s) (stop_status s) (number_of e.status) → IsStopTold file (Some s) e
      → EndsAtSection n start goal plan left file before after e
  unwritten : (o : Outcome) (rest : Left) (stop : WriteStop) → IsShownHolding n start goal plan left o rest → EndsIn {T = Unit {0}} before after (to_output (holds_text plan o) ∷ []) (Err stop)
      → number_of e.status ≡ status_after {T = Unit {0}} 9 (Err stop) → e.why ≡ []
      → EndsAtSection n start goal plan left file before after e

-- after the last section no token is left, or one is, and what is written and told of that
pub record EndsText (left : Left) (file : LabelFile) (before after : DeskState) (e : Ending) : Type 0 where
  pub end : Option SectionStop
  pub is_end : IsEndOfText left end
  pub ends : (goals : ℕ → ℕ) (plan : ℕ) → EndsAs before after (checked_writes goals plan [] end) (checked_status end) (number_of e.status)
  pub told : IsStopTold file end e

-- how the checking of this number of sections more of a file of labels, the first that of a plan, ends
pub record EndsSections {W : Type 0} {on : Site W} (c : Case on) (plan more : ℕ) (left : Left) (file : LabelFile) (before after : DeskState) (e : Ending) : Type 0 where
  pub outcomes : List Outcome
  pub end : Option SectionStop
  pub checked : AreChecked IsShownHolding c plan more left outcomes end
  pub ends : EndsAs before after (checked_writes (to_in c) plan outcomes end) (checked_status end) (number_of e.status)
  pub told : IsStopTold file end e

-- plan k of a case is planned in this world, between these states
pub record IsPlanIn {W : Type 0} {on : Site W} (c : Case on) (k : ℕ) (w : W) (start goal : ℕ) : Type 0 where
  pub after : IsMapAfter (on.cells.map c.world) c.batches k (on.cells.map w)
  pub same : w ≡ on.cells.over c.world (on.cells.map w)
  pub is_world : on.cells.is_made w
  pub start_is : c.starts k ≡ start
  pub goal_is : c.goal ≡ goal

-- the section of plan k of a case holds, and a line says so
pub record HoldsInCase {W : Type 0} {on : Site W} (c : Case on) (k : ℕ) (left rest : Left) (before after : DeskState) : Type 0 where
  pub ground : Ground
  pub is_ground : IsGroundAfter c k ground
  pub prints : HoldsAndPrints ground (from_in c k) (to_in c k) k left rest before after
