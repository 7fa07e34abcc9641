-- What the labels that a plan writes say and show.
use Rattle.std.specs.Prelude.{◌≡◌, ℕ, ◌<◌, Bool, true, false, List, [], Option, Some, None}
use Rattle.sbpl_plan.specs.sbpl_graph.Certificate.{AreSupported}
use Rattle.sbpl_plan.specs.sbpl_graph.Network.{Network}
use Rattle.sbpl_plan.specs.sbpl_labels.Marks.{Marks, g_of, states_of, v_of}
use Rattle.sbpl_plan.specs.Outcomes.{IsResultOf}
use Rattle.sbpl_plan.specs.declared.result.FoundPath.{FoundPath}
use Rattle.sbpl_plan.specs.declared.result.PlanResult.{PlanResult}
use Rattle.sbpl_plan.specs.declared.result.PlanResult.TheVariants as result
use Rattle.sbpl_cert.specs.declared.outcome.Outcome.{Outcome}
use Rattle.sbpl_cert.specs.declared.outcome.Outcome.TheVariants as outcome
use Rattle.sbpl_cert.specs.Claims.{claim_of}
use Rattle.sbpl_cert.specs.Made.{IsOfCutLabels, IsOfLabels}
use Rattle.sbpl_cert.specs.Sections.{FullSection}
use Rattle.sbpl_cert.specs.Sparse.{SparseSection, sparse_claim}
use Rattle.sbpl_cert.specs.declared.section.Section.{Section}
use Rattle.sbpl_cert.specs.declared.section.Section.TheVariants.{Full, Sparse}
use Rattle.sbpl_cert.specs.Sound.{ShowsAll}
use Rattle.sbpl_cert.specs.Printed as labels
use Rattle.sbpl_job.specs.declared.job.LabelForm.{LabelForm}
use Rattle.sbpl_job.specs.declared.job.LabelForm.TheVariants as form

-- A plan to this goal has ended with these labels and this result.
-- states, inside, guides: there is a label for each state of the graph, the goal is one of these, and the guide leads to it
-- result, supported: the labels give the result, and hold on the graph
pub record HasEnded (n : Network) (Guides : Network → ℕ → Type 0) (guide : ℕ → ℕ) (goal : ℕ) (final : Marks) (found : PlanResult FoundPath) : Type 0 where
  pub states : states_of final ≡ n.states
  pub inside : goal < n.states
  pub guides : Guides n goal
  pub result : IsResultOf n guide goal final found
  pub supported : AreSupported n final.start (g_of final) (v_of final)

-- a result as a section says it: without the arcs of a path
abbrev pub outcome_without_arcs : PlanResult FoundPath → Outcome
outcome_without_arcs (result.Path found) = outcome.Path found.cost found.bound
outcome_without_arcs result.NoPath = outcome.NoPath
outcome_without_arcs result.Unknown = outcome.Unknown

-- the arcs of the path that a result is, or none
abbrev pub arcs_of : PlanResult FoundPath → List ℕ
arcs_of (result.Path found) = found.arcs
arcs_of _ = []

-- As the written labels show, with a row for each state: the section has the plan's number, the final labels with the guide's
-- values, the low that they give, and the result; and it shows its bound and its result on the graph.
pub record IsShownInFull (n : Network) (guide : ℕ → ℕ) (start goal : ℕ) (plan : ℕ) (final : Marks) (found : PlanResult FoundPath) (s : FullSection) : Type 0 where
  pub number : s.plan ≡ plan
  pub labels : IsOfLabels final guide goal s
  pub outcome : s.outcome ≡ outcome_without_arcs found
  pub arcs : s.arcs ≡ arcs_of found
  pub shows : ShowsAll n start goal (claim_of s)

-- The same where states are left out: the section has the labels that are cut to the low, and it shows its bound and its result
-- with the guide.
pub record IsShownSparsely (n : Network) (guide : ℕ → ℕ) (start goal : ℕ) (plan : ℕ) (final : Marks) (found : PlanResult FoundPath) (s : SparseSection) : Type 0 where
  pub number : s.plan ≡ plan
  pub states : s.states ≡ states_of final
  pub labels : IsOfCutLabels n final guide goal s
  pub outcome : s.outcome ≡ outcome_without_arcs found
  pub arcs : s.arcs ≡ arcs_of found
  pub shows : ShowsAll n start goal (sparse_claim guide s)

-- this is the section that a plan writes in a form
abbrev pub IsShown : LabelForm → Network → (guide : ℕ → ℕ) → (start goal : ℕ) → (plan : ℕ) → Marks → PlanResult FoundPath → Section → Type 0
IsShown form.Full n guide start goal plan final found (Full s) = IsShownInFull n guide start goal plan final found s
IsShown form.Sparse n guide start goal plan final found (Sparse s) = IsShownSparsely n guide start goal plan final found s
IsShown _ n guide start goal plan final found _ = ⊥

-- something with this property is there where it is asked for, and otherwise nothing is
abbrev pub IsThere : {X : Type 0} → Bool → (X → Type 0) → Option X → Type 0
IsThere true P (Some x) = P x
IsThere false P None = Unit {0}
IsThere _ P _ = ⊥

-- the text of the labels of a plan
abbrev pub labels_text : Option Section → List ℕ
labels_text None = []
labels_text (Some s) = labels.section_text s
