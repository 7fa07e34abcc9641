-- When a core waits, and which state it opens.
use Rattle.std.specs.Prelude.{◌≡◌, ◌≢◌, ℕ, ◌<◌, ◌≤◌, ◌⊎◌, List, [], ◌∷◌, ◌++◌, length}
use Rattle.std.specs.List.{All, AllPairs, Contains}
use Rattle.sbpl_frontier_rules.specs.sbpl_labels.Counts.{IsSpent}
use Rattle.sbpl_frontier_rules.specs.sbpl_open.KeyOrder.{ComesBefore, IsBelow}
use Rattle.sbpl_frontier_rules.specs.sbpl_search.Query.{Query}
use Rattle.sbpl_frontier_rules.specs.sbpl_serial.Run.{goal_key_at, key_at}
use Rattle.sbpl_frontier_rules.specs.declared.event.Event.TheVariants.{Opened}
use Rattle.sbpl_frontier_rules.specs.Events.{IsOpening}
use Rattle.sbpl_frontier_rules.specs.Frontier.{Frontier}
use Rattle.sbpl_frontier_rules.specs.Independent.{IsIndependent, IsOpenIn}
use Rattle.sbpl_frontier_core.specs.Book.{Book}

-- open state s comes before open state u
abbrev pub IsBefore : Query → Frontier → (s u : ℕ) → Type 0
IsBefore q f s u = ComesBefore (key_at q.eps q.guide f.labels s) s (key_at q.eps q.guide f.labels u) u

-- s is open, and its key is below the goal's
pub record IsOpenBelow (q : Query) (f : Frontier) (s : ℕ) : Type 0 where
  pub is_open : IsOpenIn f s
  pub below : IsBelow (key_at q.eps q.guide f.labels s) (goal_key_at q f.labels)

-- these are the open states below the goal, each once, or this many of them that come before all others
pub record AreFirst (q : Query) (f : Frontier) (most : ℕ) (states : List ℕ) : Type 0 where
  pub are_open : All (IsOpenBelow q f) states
  pub apart : AllPairs (λ s u. s ≢ u) states
  pub few : length states ≤ most
  pub rest : (u : ℕ) → IsOpenBelow q f u → Contains states u ⊎ ((length states ≡ most) × All (λ s. IsBefore q f s u) states)

-- none of the 64 least open states below the goal's key is independent
pub record IsStuck (q : Query) (f : Frontier) : Type 0 where
  pub states : List ℕ
  pub first : AreFirst q f 64 states
  pub held : All (λ s. IsIndependent q f s → ⊥) states

-- no arc is ready and one is out, and the budget is spent or none of the 64 least open states is independent
pub record IsWaiting (q : Query) (f : Frontier) : Type 0 where
  pub none_ready : f.ready ≡ []
  pub some_out : 0 < length f.out
  pub held : IsSpent f.counts ⊎ IsStuck q f

-- fewer than 64 open states come before s, and none of them is independent
pub record IsFirstChoice (q : Query) (f : Frontier) (s : ℕ) : Type 0 where
  pub earlier : List ℕ
  pub few : length earlier < 64
  pub all : (u : ℕ) → IsOpenIn f u → IsBefore q f u s → Contains earlier u
  pub held : All (λ u. IsIndependent q f u → ⊥) earlier

-- s is opened while no arc is ready, the first independent one, and the journal has it at its end
pub record IsNextOpening (q : Query) (old : Book) (s : ℕ) (new : Book) : Type 0 where
  pub none_ready : old.frontier.ready ≡ []
  pub first : IsFirstChoice q old.frontier s
  pub opening : IsOpening q old.frontier s new.frontier
  pub journal : new.journal ≡ old.journal ++ Opened s ∷ []

-- these states are opened one after another
abbrev pub AreOpenings : Query → List ℕ → Book → Book → Type 0
AreOpenings q [] old new = new ≡ old
AreOpenings q (s ∷ rest) old new = (mid : Book) × IsNextOpening q old s mid × AreOpenings q rest mid new

-- some states are opened one after another, or none
abbrev pub OpensTo : Query → Book → Book → Type 0
OpensTo q old new = (states : List ℕ) × AreOpenings q states old new
