-- Raising: states whose v is below their g lose it in turn, until there are none.
use Rattle.std.specs.Prelude.{◌≡◌, ◌≢◌, ℕ, ◌<◌, ◌≤◌, ◌⊎◌, Some, List, [], ◌∷◌, ◌++◌}
use Rattle.std.specs.List.{All, AllPairs, Contains}
use Rattle.std.specs.List.Sorted.{IsStrictlyIncreasing}
use Rattle.sbpl_ara.specs.sbpl_graph.Exact.{AreExact}
use Rattle.sbpl_ara.specs.sbpl_graph.Kept.{NoneUnder}
use Rattle.sbpl_ara.specs.sbpl_graph.Network.{Network}
use Rattle.sbpl_ara.specs.sbpl_labels.Marks.{Marks, states_of, g_of, v_of, back_of}
use Rattle.sbpl_ara.specs.sbpl_search.Ready.{AreReady, AreUsable, IsStartFresh}
use Rattle.sbpl_ara.specs.sbpl_serial.Run.{IsOver, IsUnder, RaisesState}

-- these are the underconsistent states, by number upwards
pub record AreUnder (m : Marks) (states : List ℕ) : Type 0 where
  pub under : All (IsUnder m) states
  pub all : (s : ℕ) → s < states_of m → IsUnder m s → Contains states s
  pub upwards : IsStrictlyIncreasing states

-- where the back arcs of t and of u are arcs of s, that of t comes first
abbrev pub HangsBefore : Marks → (s t u : ℕ) → Type 0
HangsBefore m s t u = (j k : ℕ) → back_of m t ≡ Some (s, j) → back_of m u ≡ Some (s, k) → j < k

-- these are the states that become underconsistent where s is raised; their back arcs were arcs of s, and they come by the numbers of
-- these arcs upwards
pub record BecomeUnder (old new : Marks) (s : ℕ) (states : List ℕ) : Type 0 where
  pub under : All (IsUnder new) states
  pub before : All (λ t. g_of old t ≤ v_of old t) states
  pub all : (t : ℕ) → t < states_of new → IsUnder new t → g_of old t ≤ v_of old t → Contains states t
  pub hung : All (λ t. (k : ℕ) × (back_of old t ≡ Some (s, k))) states
  pub upwards : AllPairs (HangsBefore old s) states

-- s, which waits first, is raised: its v becomes infinite, and each state but the start whose back arc begins at it is recomputed; the
-- states that become underconsistent by it wait after all that do
pub record RaisesFirst (n : Network) (old : Marks) (waiting : List ℕ) (s : ℕ) (new : Marks) (left : List ℕ) : Type 0 where
  pub rest : List ℕ
  pub more : List ℕ
  pub first : waiting ≡ s ∷ rest
  pub raises : RaisesState n old new s
  pub become : BecomeUnder old new s more
  pub after : left ≡ rest ++ more

-- these states are raised in turn, while some wait at first and others in the end
abbrev pub AreRaised : Network → Marks → (waiting raised : List ℕ) → Marks → (left : List ℕ) → Type 0
AreRaised n old waiting [] new left = (left ≡ waiting) × (new ≡ old)
AreRaised n old waiting (s ∷ rest) new left =
    (mid : Marks) × (later : List ℕ) × RaisesFirst n old waiting s mid later × AreRaised n mid later rest new left

-- these states are raised in turn, none of them twice: at first the underconsistent ones wait, and in the end none; then no state is
-- underconsistent, and the labels are exact
pub record IsRaisedBy (n : Network) (old : Marks) (raised : List ℕ) (new : Marks) : Type 0 where
  pub waiting : List ℕ
  pub first : AreUnder old waiting
  pub in_turn : AreRaised n old waiting raised new []
  pub once : AllPairs (λ s t. s ≢ t) raised
  pub none_under : NoneUnder (states_of new) (g_of new) (v_of new)
  pub exact : AreExact n new.start (g_of new) (v_of new) (back_of new)

-- These states are raised in turn until none is underconsistent. Then the labels are as ready for a search as they were usable, at
-- each count of expansions; only raised states became overconsistent; the start and the number of states stay.
pub record RaisesAll (n : Network) (old : Marks) (raised : List ℕ) (new : Marks) : Type 0 where
  pub by_raising : IsRaisedBy n old raised new
  pub ready : (count : ℕ) → AreUsable n old count → AreReady n new count
  pub over : (s : ℕ) → IsOver new s → IsOver old s ⊎ Contains raised s
  pub inside : All (λ s. s < states_of old) raised
  pub fresh : IsStartFresh old → IsStartFresh new
  pub start : new.start ≡ old.start
  pub states : states_of new ≡ states_of old

-- the list of the last call, and its room
pub record Raising : Type 0 where
  pub raised : List ℕ
  pub room : ℕ
