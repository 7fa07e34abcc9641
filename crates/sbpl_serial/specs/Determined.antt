-- A serial run is determined by its query and the labels that it begins with.
use Rattle.std.specs.Prelude.{◌≡◌, ℕ, ◌<◌, ◌≤◌, Bool, List, ◌++◌, length}
use Rattle.sbpl_search.specs.sbpl_labels.Marks.{AreInitial, Marks, states_of}
use Rattle.sbpl_serial.specs.declared.step.Step.{Step}
use Rattle.sbpl_search.specs.Query.{Query}
use Rattle.sbpl_search.specs.Determined.{DeterminesPasses}
use Rattle.sbpl_serial.specs.Run.{IsSerialRun, IsNext, IsAtRest, none_closed, closed_after}

-- two runs of a query, from the same labels and the same closed states
pub record AreRuns (q : Query) (closed : ℕ → Bool) (old : Marks) (xs ys : List Step) (a b : Marks) : Type 0 where
  pub first : IsSerialRun q closed xs old a
  pub second : IsSerialRun q closed ys old b

-- the steps of the second run are those of the first and then a run that goes on from where the first one ends
pub record GoesOn (q : Query) (closed : ℕ → Bool) (xs ys : List Step) (a b : Marks) : Type 0 where
  pub rest : List Step
  pub prefix : ys ≡ xs ++ rest
  pub further : IsSerialRun q (closed_after closed xs) rest a b

-- of two runs the longer goes on from the shorter
abbrev pub RunsGoOn : Type 0
RunsGoOn = (q : Query) (closed : ℕ → Bool) (old : Marks) (xs ys : List Step) (a b : Marks) → AreRuns q closed old xs ys a b
    → length xs ≤ length ys → GoesOn q closed xs ys a b

-- two runs of the same number of steps have the same steps and end with the same labels
abbrev pub EqualRunsAgree : Type 0
EqualRunsAgree = (q : Query) (closed : ℕ → Bool) (old : Marks) (xs ys : List Step) (a b : Marks) → AreRuns q closed old xs ys a b
    → length xs ≡ length ys → (xs ≡ ys) × (a ≡ b)

-- no run is longer than one that rests
abbrev pub RestEndsRuns : Type 0
RestEndsRuns = (q : Query) (closed : ℕ → Bool) (old : Marks) (xs ys : List Step) (a b : Marks) → AreRuns q closed old xs ys a b
    → IsAtRest q (closed_after closed xs) a → length ys ≤ length xs

-- a run asks its guide at states alone: with another guide that agrees there it is a run too
abbrev pub GuideAtStates : Type 0
GuideAtStates = (q : Query) (h : ℕ → ℕ) (closed : ℕ → Bool) (steps : List Step) (old new : Marks)
    → ((s : ℕ) → s < states_of old → h s ≡ q.guide s) → IsSerialRun q closed steps old new → IsSerialRun (record q { guide = h }) closed steps old new

-- initial labels of one number of states and one start are the same
abbrev pub InitialLabelsAreOne : Type 0
InitialLabelsAreOne = (a b : Marks) (count first : ℕ) → AreInitial a count first → AreInitial b count first → a ≡ b

-- a serial run is determined, however long it is; the guide matters at states alone
abbrev pub SerialIsDetermined : Type 0
SerialIsDetermined = DeterminesPasses (λ q steps old new. IsSerialRun q none_closed steps old new) (λ q steps m. IsAtRest q (closed_after none_closed steps) m)
    (λ q steps m. (s : ℕ) × IsNext q (closed_after none_closed steps) m s) length
