-- What each event asks of a frontier and does to it, and the replay of a list of events.
use Rattle.std.specs.Prelude.{◌≡◌, ℕ, ◌+◌, ◌<◌, true, false, Option, List, [], ◌∷◌, ◌++◌, slice_set, length}
use Rattle.std.specs.List.{Contains}
use Rattle.sbpl_serial.specs.sbpl_graph.Network.{Network}
use Rattle.sbpl_serial.specs.sbpl_labels.Counts.{Counts, GrowBy, HasLeft, IsSpent}
use Rattle.sbpl_serial.specs.sbpl_labels.Marks.{Marks, ChangesRow, states_of, g_of, back_of}
use Rattle.sbpl_serial.specs.sbpl_open.KeyOrder.{IsBelow}
use Rattle.sbpl_serial.specs.sbpl_search.Query.{Query}
use Rattle.sbpl_serial.specs.Relaxed.{IsRelaxed}
use Rattle.sbpl_serial.specs.Run.{IsAtRest, IsOver, goal_key_at, key_at}
use Rattle.sbpl_frontier_rules.specs.declared.event.Event.{Event}
use Rattle.sbpl_frontier_rules.specs.declared.event.Event.TheVariants.{Opened, Taken, Posted}
use Rattle.sbpl_frontier_rules.specs.declared.leg.Leg.{Leg}
use Rattle.sbpl_frontier_rules.specs.Frontier.{Frontier, arcs_of, is_opened, without}
use Rattle.sbpl_frontier_rules.specs.Independent.{IsIndependent, IsOpenIn}

-- s may be opened: it is overconsistent and was not opened in this pass, its key is below the goal's, the budget is not spent, and
-- it is independent
pub record MayOpen (q : Query) (f : Frontier) (s : ℕ) : Type 0 where
  pub inside : s < states_of f.labels
  pub fresh : is_opened f s ≡ false
  pub over : IsOver f.labels s
  pub below_goal : IsBelow (key_at q.eps q.guide f.labels s) (goal_key_at q f.labels)
  pub left : HasLeft f.counts
  pub independent : IsIndependent q f s

-- s is opened: its v becomes its g, its arcs that have a head become ready after those that are, and one expansion is counted
pub record IsOpening (q : Query) (old : Frontier) (s : ℕ) (new : Frontier) : Type 0 where
  pub may : MayOpen q old s
  pub settled : ChangesRow old.labels new.labels s (record { g = g_of old.labels s; v = g_of old.labels s; back = back_of old.labels s })
  pub opened : new.opened ≡ slice_set old.opened s true
  pub ready : new.ready ≡ old.ready ++ arcs_of q.network s
  pub counted : GrowBy 1 old.counts new.counts
  pub out : new.out ≡ old.out
  pub next : new.next ≡ old.next

-- a ready arc is handed out under the next ticket number
pub record IsTaking (old : Frontier) (leg : Leg) (new : Frontier) : Type 0 where
  pub before : List (ℕ × ℕ)
  pub after : List (ℕ × ℕ)
  pub was_ready : old.ready ≡ before ++ (leg.state, leg.arc) ∷ after
  pub ready : new.ready ≡ before ++ after
  pub ticket : leg.ticket ≡ old.next
  pub out : new.out ≡ old.out ++ leg ∷ []
  pub next : new.next ≡ old.next + 1
  pub labels : new.labels ≡ old.labels
  pub opened : new.opened ≡ old.opened
  pub counts : new.counts ≡ old.counts

-- the judgement of an arc that is out comes back: where it is free and the way over it is cheaper, the label of its head is lowered;
-- the head is then not the start, whose g is 0
pub record IsPosting (n : Network) (old : Frontier) (leg : Leg) (cost : Option ℕ) (new : Frontier) : Type 0 where
  pub was_out : Contains old.out leg
  pub judged : cost ≡ n.cost leg.state leg.arc
  pub head : Option ℕ
  pub relaxed : IsRelaxed n old.labels new.labels leg.state leg.arc head
  pub out : new.out ≡ without leg.ticket old.out
  pub ready : new.ready ≡ old.ready
  pub next : new.next ≡ old.next
  pub opened : new.opened ≡ old.opened
  pub counts : new.counts ≡ old.counts

-- an event leads from the old frontier to the new one
abbrev pub IsEvent : Query → Frontier → Event → Frontier → Type 0
IsEvent q old (Opened s) new = IsOpening q old s new
IsEvent q old (Taken ticket seat s k) new = IsTaking old (record { ticket = ticket; state = s; arc = k }) new
IsEvent q old (Posted ticket cost) new = (leg : Leg) × (leg.ticket ≡ ticket) × IsPosting q.network old leg cost new

-- events one after another
abbrev pub AreEvents : Query → List Event → Frontier → Frontier → Type 0
AreEvents q [] old new = new ≡ old
AreEvents q (e ∷ rest) old new = (mid : Frontier) × IsEvent q old e mid × AreEvents q rest mid new

-- a frontier at the beginning of a pass: these are the labels and the counts, no state is opened, and no arc is ready or out
pub record IsFirst (m : Marks) (before : Counts) (f : Frontier) : Type 0 where
  pub labels : f.labels ≡ m
  pub counts : f.counts ≡ before
  pub marks : length f.opened ≡ states_of m
  pub none_opened : (s : ℕ) → is_opened f s ≡ false
  pub none_ready : f.ready ≡ []
  pub none_out : f.out ≡ []
  pub next : f.next ≡ 0

-- no arc is ready, and no ticket is out
pub record IsIdle (f : Frontier) : Type 0 where
  pub none_ready : f.ready ≡ []
  pub none_out : f.out ≡ []

-- and no open key is below the goal's
pub record IsRest (q : Query) (f : Frontier) : Type 0 where
  pub idle : IsIdle f
  pub rest : IsAtRest q (is_opened f) f.labels

-- or one is, and the budget is spent
pub record IsOutOfBudget (q : Query) (f : Frontier) : Type 0 where
  pub idle : IsIdle f
  pub spent : IsSpent f.counts
  pub state : ℕ
  pub is_open : IsOpenIn f state
  pub below_goal : IsBelow (key_at q.eps q.guide f.labels state) (goal_key_at q f.labels)
