-- What a call of a core gives.
use Rattle.std.specs.Prelude.{◌≡◌, ℕ, ◌^◌, ◌<◌, ◌↔◌, [], ◌∷◌, ◌++◌, Option, Some, None}
use Rattle.sbpl_frontier_rules.specs.sbpl_search.Query.{Query}
use Rattle.sbpl_frontier_rules.specs.declared.event.Event.TheVariants.{Taken}
use Rattle.sbpl_frontier_rules.specs.Events.{IsOutOfBudget, IsRest, IsTaking}
use Rattle.sbpl_frontier_core.specs.declared.name.Pass.{Ghosts}
use Rattle.sbpl_frontier_core.specs.declared.next.Next.{Next}
use Rattle.sbpl_frontier_core.specs.declared.next.Next.TheVariants.{Job, NotYet, Over, Spent}
use Rattle.sbpl_frontier_core.specs.declared.ticket.Ticket.{Ticket}
use Rattle.sbpl_frontier_core.specs.Answers.{IsWaiting, OpensTo}
use Rattle.sbpl_frontier_core.specs.Book.{Book}

-- the arc that became ready first is handed out under the next ticket number, and the journal has it at its end
pub record IsHandedOut (seat : ℕ) (old : Book) (number state arc : ℕ) (new : Book) : Type 0 where
  pub first : old.frontier.ready ≡ (state, arc) ∷ new.frontier.ready
  pub taking : IsTaking old.frontier (record { ticket = number; state = state; arc = arc }) new.frontier
  pub journal : new.journal ≡ old.journal ++ Taken number seat state arc ∷ []
  pub few : number < 2 ^ 42

module _ {N : Type 0} {P : Ghosts N} where
  -- a ticket where an arc is ready, and none otherwise
  abbrev pub IsTaken : (seat : ℕ) → (old : Book) → Option (Ticket N P) → (new : Book) → Type 0
  IsTaken seat old None new = (new ≡ old) × (old.frontier.ready ≡ [])
  IsTaken seat old (Some t) new = IsHandedOut seat old t.number t.state t.arc new

  -- a job where an arc is ready, and with every other answer nothing changes
  abbrev pub IsGiven : (seat : ℕ) → (old : Book) → Next N P → (new : Book) → Type 0
  IsGiven seat old (Job t) new = IsHandedOut seat old t.number t.state t.arc new
  IsGiven seat old NotYet new = new ≡ old
  IsGiven seat old Over new = new ≡ old
  IsGiven seat old Spent new = new ≡ old

  -- which answer it is
  abbrev pub IsNotYet : Next N P → Type 0
  IsNotYet NotYet = Unit {0}
  IsNotYet _ = ⊥

  abbrev pub IsOverAnswer : Next N P → Type 0
  IsOverAnswer Over = Unit {0}
  IsOverAnswer _ = ⊥

  abbrev pub IsSpentAnswer : Next N P → Type 0
  IsSpentAnswer Spent = Unit {0}
  IsSpentAnswer _ = ⊥

  -- The call first opens states, which leads to a middle book. It answers NotYet exactly where no arc is then ready, one is out, and
  -- the budget is spent or none of the 64 least open states is independent; Over exactly at rest; Spent exactly where no arc is
  -- ready or out, the budget is spent, and an open key is below the goal's.
  pub record Answers (q : Query) (seat : ℕ) (old : Book) (answer : Next N P) (new : Book) : Type 0 where
    pub mid : Book
    pub opens : OpensTo q old mid
    pub gives : IsGiven seat mid answer new
    pub not_yet : IsNotYet answer ↔ IsWaiting q mid.frontier
    pub over : IsOverAnswer answer ↔ IsRest q mid.frontier
    pub spent : IsSpentAnswer answer ↔ IsOutOfBudget q mid.frontier
