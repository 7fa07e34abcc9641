-- When the passes of a planner, and the labels from which its plans begin, are determined.
use Rattle.std.specs.Prelude.{◌≡◌, ℕ, ◌<◌, ◌≤◌, ◌↔◌, Bool, true, None, List}
use Rattle.std.specs.List.{Contains}
use Rattle.sbpl_labels.specs.sbpl_graph.Network.{Network}
use Rattle.sbpl_labels.specs.Marks.{Marks, states_of, back_of}
use Rattle.sbpl_search.specs.Meaning.{Meaning}
use Rattle.sbpl_search.specs.Query.{Query}

-- two guides say the same of each of this many states
abbrev pub AreAlikeGuides : ℕ → (h h' : ℕ → ℕ) → Type 0
AreAlikeGuides states h h' = (s : ℕ) → s < states → h s ≡ h' s

-- Two passes of a query from the same labels that expand the same number of states did the same and end with the same
-- labels; none expands more than one that rests; after no pass there is both rest and something left to expand. A pass keeps
-- the start, the number of states, and that the start has no back arc. The guide matters at states alone.
pub record DeterminesPasses {Action : Type 0} (leads : Query → List Action → Marks → Marks → Type 0) (rests goes_on : Query → List Action → Marks → Type 0) (expansions : List Action → ℕ) : Type 0 where
  pub one : (q : Query) (old a b : Marks) (xs ys : List Action) → leads q xs old a → leads q ys old b → expansions xs ≡ expansions ys → (xs ≡ ys) × (a ≡ b)
  pub longest : (q : Query) (old a b : Marks) (xs ys : List Action) → leads q xs old a → leads q ys old b → rests q xs a → expansions ys ≤ expansions xs
  pub not_both : (q : Query) (actions : List Action) (m : Marks) → rests q actions m → goes_on q actions m → ⊥
  pub start : (q : Query) (old new : Marks) (actions : List Action) → leads q actions old new → new.start ≡ old.start
  pub states : (q : Query) (old new : Marks) (actions : List Action) → leads q actions old new → states_of new ≡ states_of old
  pub no_arc : (q : Query) (old new : Marks) (actions : List Action) → leads q actions old new → back_of old old.start ≡ None → back_of new new.start ≡ None
  pub guided : (q : Query) (h : ℕ → ℕ) (old new : Marks) (actions : List Action) → AreAlikeGuides (states_of old) q.guide h → leads q actions old new → leads (record q { guide = h }) actions old new
  pub guided_rests : (q : Query) (h : ℕ → ℕ) (m : Marks) (actions : List Action) → AreAlikeGuides (states_of m) q.guide h → rests q actions m → rests (record q { guide = h }) actions m
  pub guided_goes_on : (q : Query) (h : ℕ → ℕ) (m : Marks) (actions : List Action) → AreAlikeGuides (states_of m) q.guide h → goes_on q actions m → goes_on (record q { guide = h }) actions m

-- so the passes of a planner are determined
abbrev pub AreDetermined : {Action : Type 0} → Meaning Action → Type 0
AreDetermined means = DeterminesPasses means.leads means.rests means.goes_on means.expansions

-- The labels from which the next plan begins, and the states that are raised for it, are determined by the labels that the plan
-- before left and, where labels are repaired, by which states were touched. The labels have one row for each state, and the start
-- still has no back arc.
pub record DeterminesBeginnings (repairs : Bool) (begun : Network → List ℕ → Marks → Marks → List ℕ → Type 0) : Type 0 where
  pub one : (n : Network) (touched others : List ℕ) (old a b : Marks) (xs ys : List ℕ) → (repairs ≡ true → (t : ℕ) → Contains touched t ↔ Contains others t) → begun n touched old a xs → begun n others old b ys → (a ≡ b) × (xs ≡ ys)
  pub states : (n : Network) (touched : List ℕ) (old new : Marks) (raised : List ℕ) → states_of old ≡ n.states → begun n touched old new raised → states_of new ≡ n.states
  pub no_arc : (n : Network) (touched : List ℕ) (old new : Marks) (raised : List ℕ) → back_of old old.start ≡ None → begun n touched old new raised → back_of new new.start ≡ None

-- so a planner's beginnings are determined
abbrev pub AreBeginningsDetermined : {Action : Type 0} → Meaning Action → Type 0
AreBeginningsDetermined means = DeterminesBeginnings means.repairs means.begun
