-- What a worker is told.
use Rattle.std.specs.Prelude.{◌≡◌, ℕ, ◌+◌, List, [], ◌∷◌, ◌++◌, ⊤}
use Rattle.sbpl_postings.specs.sbpl_labels.Counts.{Counts}
use Rattle.sbpl_postings.specs.sbpl_labels.Marks.{Marks}
use Rattle.sbpl_postings.specs.sbpl_search.Query.{Query}
use Rattle.sbpl_postings.specs.sbpl_frontier_rules.declared.event.Event.{Event}
use Rattle.sbpl_postings.specs.sbpl_frontier_rules.declared.event.Event.TheVariants.{Taken}
use Rattle.sbpl_postings.specs.sbpl_frontier_rules.Events.{IsOutOfBudget, IsRest}
use Rattle.sbpl_postings.specs.sbpl_frontier_rules.Frontier.{Frontier}
use Rattle.sbpl_postings.specs.sbpl_frontier_core.declared.name.Pass.{Ghosts as PassGhosts}
use Rattle.sbpl_postings.specs.sbpl_frontier_core.Answers.{IsWaiting}
use Rattle.sbpl_postings.specs.sbpl_frontier_core.Book.{IsReplay}
use Rattle.sbpl_frontier.specs.declared.turn.Turn.{Turn}
use Rattle.sbpl_frontier.specs.declared.turn.Turn.TheVariants.{Job, NotYet, Over, Spent}
use Rattle.sbpl_frontier.specs.Come.{HaveCome}
use Rattle.sbpl_frontier.specs.Tally.{Tally}

-- these events lead from the beginning of the pass to a frontier of this kind
abbrev pub LeadsTo : Query → Marks → Counts → List Event → (Frontier → Type 0) → Type 0
LeadsTo q opening counts events IsSo = (f : Frontier) × IsReplay q opening counts events f × IsSo f

module _ {N : Type 0} {P : PassGhosts N} {U : Type 0} {M : Type 0} where
  -- a job adds one to what the seat took, and its claim is on its ticket, of the same state and arc; otherwise nothing changes
  abbrev pub Gives : (old : Tally) → Turn N U M P → (new : Tally) → Type 0
  Gives old (Job t claim) new = (claim ≡ record { ticket = t.number; state = t.state; arc = t.arc }) × (new ≡ record old { takes = old.takes + 1 })
  Gives old _ new = new ≡ old

  -- a job is the last event of the journal: its arc was handed out under its ticket, to the worker in this seat
  abbrev pub IsToldLast : (seat : ℕ) → Turn N U M P → List Event → Type 0
  IsToldLast seat (Job t claim) events = (before : List Event) × (events ≡ before ++ Taken t.number seat t.state t.arc ∷ [])
  IsToldLast seat _ events = ⊤

  -- the journal of every other answer has all judgements that the worker in this seat posted, in its order, whole and once
  abbrev pub ShowsOwn : (seat : Tally) → Turn N U M P → Type 0
  ShowsOwn seat (Job t claim) = ⊤
  ShowsOwn seat (NotYet seen) = HaveCome seen (seat ∷ [])
  ShowsOwn seat (Over seen) = HaveCome seen (seat ∷ [])
  ShowsOwn seat (Spent seen) = HaveCome seen (seat ∷ [])

  -- every other answer shows its cause: the journal leads to a frontier at which the core gives this answer
  abbrev pub Shows : Query → Marks → Counts → Turn N U M P → Type 0
  Shows q opening counts (Job t claim) = ⊤
  Shows q opening counts (NotYet seen) = LeadsTo q opening counts seen (IsWaiting q)
  Shows q opening counts (Over seen) = LeadsTo q opening counts seen (IsRest q)
  Shows q opening counts (Spent seen) = LeadsTo q opening counts seen (IsOutOfBudget q)
