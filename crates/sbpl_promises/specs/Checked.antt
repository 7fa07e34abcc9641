-- How the sections of a label text are checked, one for each plan.
use Rattle.std.specs.Prelude.{◌≡◌, ◌≢◌, ℕ, zero, suc, ◌+◌, List, [], ◌∷◌, Option, Some, None}
use Rattle.sbpl_report.specs.sbpl_graph.Network.{Network}
use Rattle.sbpl_report.specs.sbpl_fixed.Formats.{Left}
use Rattle.sbpl_report.specs.sbpl_fixed.Tokens.{Piece}
use Rattle.sbpl_report.specs.sbpl_cert.declared.fault.LabelFault.{LabelFault}
use Rattle.sbpl_report.specs.sbpl_cert.declared.fault.LabelFault.TheVariants as fault
use Rattle.sbpl_report.specs.sbpl_cert.declared.flaw.Flaw.{Flaw}
use Rattle.sbpl_report.specs.sbpl_cert.declared.outcome.Outcome.{Outcome}
use Rattle.sbpl_report.specs.sbpl_cert.Flaws.{HasNoFlaw, IsFirstFlaw}
use Rattle.sbpl_report.specs.sbpl_cert.declared.section.Section.{Section}
use Rattle.sbpl_report.specs.sbpl_cert.Sound.{IsSo, ShowsAll}
use Rattle.sbpl_report.specs.sbpl_cert.Text.{AreTokensOf, HasFault}
use Rattle.sbpl_report.specs.sbpl_cert.Versions.{IsOf, arcs_of, claim_by, outcome_of}
use Rattle.sbpl_report.specs.sbpl_map.CellMap.{CellMap}
use Rattle.sbpl_report.specs.sbpl_map.MapAfter.{IsMapAfter}
use Rattle.sbpl_report.specs.sbpl_map.declared.write.Write.{Write}
use Rattle.sbpl_promises.specs.Sites.{Site, from_on, start_after, to_on}
use Rattle.sbpl_promises.specs.declared.updates.Updates.{Updates}
use Rattle.sbpl_promises.specs.declared.section_stop.SectionStop.{SectionStop}
use Rattle.sbpl_promises.specs.declared.section_stop.SectionStop.TheVariants as stop

-- a graph, and what a guide says at its states
pub record Ground : Type 0 where
  pub network : Network
  pub guide : ℕ → ℕ

abbrev pub ground : Network → (ℕ → ℕ) → Ground
ground n guide = record { network = n; guide = guide }

-- the tokens that are left begin with the section of a plan, which has no flaw on a graph and says this outcome, and then
-- others are left
pub record IsHolding (n : Ground) (start goal plan : ℕ) (left : Left) (outcome : Outcome) (rest : Left) : Type 0 where
  pub section : Section
  pub of : IsOf plan n.network.states section
  pub tokens : AreTokensOf left.tokens section rest.tokens
  pub same_end : rest.end ≡ left.end
  pub says : outcome_of section ≡ outcome
  pub no_flaw : HasNoFlaw n.network start goal (claim_by n.guide section)

-- and what it says is shown, and is so
pub record IsShownHolding (n : Ground) (start goal plan : ℕ) (left : Left) (outcome : Outcome) (rest : Left) : Type 0 where
  pub holds : IsHolding n start goal plan left outcome rest
  pub shows : ShowsAll n.network start goal (claim_by n.guide holds.section)
  pub so : IsSo n.network start goal (arcs_of holds.section) outcome

-- the tokens that are left begin with the section of a plan, whose first flaw on a graph is this
pub record IsFlawed (n : Ground) (start goal plan : ℕ) (left : Left) (flaw : Flaw) : Type 0 where
  pub section : Section
  pub rest : List Piece
  pub of : IsOf plan n.network.states section
  pub tokens : AreTokensOf left.tokens section rest
  pub first : IsFirstFlaw n.network start goal (claim_by n.guide section) flaw

-- why the section of a plan, with which these tokens should begin, is not read
abbrev pub IsReadStop : (plan states : ℕ) → Left → SectionStop → Type 0
IsReadStop plan states left (stop.Flaw f) = ⊥
IsReadStop plan states left (stop.Fault f) = (f ≢ fault.NoMemory) × HasFault plan states left f
IsReadStop plan states left stop.NoMemory = Unit {0}

-- why the section of a plan, with which these tokens should begin, does not hold on a graph: it has a first flaw, or the
-- tokens have a first fault
abbrev pub IsSectionStop : Ground → (start goal plan : ℕ) → Left → SectionStop → Type 0
IsSectionStop n start goal plan left (stop.Flaw f) = IsFlawed n start goal plan left f
IsSectionStop n start goal plan left (stop.Fault f) = (f ≢ fault.NoMemory) × HasFault plan n.network.states left f
IsSectionStop n start goal plan left stop.NoMemory = Unit {0}

-- a token is left after the last section, where none may be, and this is the fault
abbrev pub IsTrailingAt : List Piece → LabelFault → Type 0
IsTrailingAt [] f = ⊥
IsTrailingAt (t ∷ ts) f = f ≡ fault.Trailing t.place

-- why the checking ends after the last section, but not well
abbrev pub IsTrailing : List Piece → SectionStop → Type 0
IsTrailing ts (stop.Flaw f) = ⊥
IsTrailing ts (stop.Fault f) = IsTrailingAt ts f
IsTrailing ts stop.NoMemory = Unit {0}

-- how the checking ends after the last section: well, where no token is left
abbrev pub IsEndOfText : Left → Option SectionStop → Type 0
IsEndOfText left None = left.tokens ≡ []
IsEndOfText left (Some s) = IsTrailing left.tokens s

-- what stays the same while the sections of a text are checked, whose labels were searched on a site: the world and the batches, the
-- start of each plan and the goal
pub record Case {W : Type 0} (on : Site W) : Type 0 where
  pub world : W
  pub batches : List (List Write)
  pub starts : ℕ → ℕ
  pub goal : ℕ

-- the case of a world and map updates, between these states
abbrev pub case_of : {W : Type 0} → (on : Site W) → W → Updates → (start goal : ℕ) → Case on
case_of on w updates start goal = record { world = w; batches = updates.batches; starts = start_after on.reporting w start updates.moves; goal = goal }

-- the state from which the search of plan k goes, and the one to which
abbrev pub from_in : {W : Type 0} → {on : Site W} → Case on → ℕ → ℕ
from_in {W} {on} c k = from_on on (c.starts k) c.goal

abbrev pub to_in : {W : Type 0} → {on : Site W} → Case on → ℕ → ℕ
to_in {W} {on} c k = to_on on (c.starts k) c.goal

-- the graph over which plan k is searched, on the map after the first k batches, and what guides it
pub record IsGroundAfter {W : Type 0} {on : Site W} (c : Case on) (k : ℕ) (n : Ground) : Type 0 where
  pub map : CellMap
  pub after : IsMapAfter (on.cells.map c.world) c.batches k map
  pub is_world : on.cells.is_made (on.cells.over c.world map)
  pub network : n.network ≡ on.network (on.cells.over c.world map)
  pub guide : on.says (on.cells.over c.world map) (to_in c k) n.guide

-- what is said of a section that holds: its graph, its plan, the tokens from it on, its outcome, and the tokens after it
abbrev pub Holding : Type 1
Holding = Ground → (start goal plan : ℕ) → Left → Outcome → Left → Type 0

-- the section of a plan does not hold on its graph, or memory ran out
abbrev pub IsStoppedIn : {W : Type 0} → {on : Site W} → Case on → (plan : ℕ) → Left → SectionStop → Type 0
IsStoppedIn c plan left stop.NoMemory = Unit {0}
IsStoppedIn c plan left s = (n : Ground) × IsGroundAfter c plan n × IsSectionStop n (from_in c plan) (to_in c plan) plan left s

-- The tokens that are left stand for this number of sections more, the first that of a plan, each for the graph on the map after as
-- many batches: those with these outcomes hold, and then it ends so. It ends well where all hold and no token is left. That
-- memory ran out says nothing of what was to come.
abbrev pub AreChecked : {W : Type 0} → {on : Site W} → Holding → Case on → (plan more : ℕ) → Left → List Outcome → Option SectionStop → Type 0
AreChecked Holds c plan zero left [] end = IsEndOfText left end
AreChecked Holds c plan (suc more) left [] (Some s) = IsStoppedIn c plan left s
AreChecked Holds c plan (suc more) left (o ∷ os) end =
    (n : Ground) × IsGroundAfter c plan n
    × (rest : Left) × Holds n (from_in c plan) (to_in c plan) plan left o rest × AreChecked Holds c (plan + 1) more rest os end
AreChecked Holds c plan _ left _ _ = ⊥
