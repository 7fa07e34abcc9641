-- A serial run: a list of steps replayed on labels.
use Rattle.std.specs.Prelude.{◌≡◌, ◌≢◌, ℕ, ◌+◌, ◌<◌, ◌≤◌, ◌⊎◌, Bool, false, not, ◌&&◌, ◌||◌, nat_eq, Option, Some, List, [], ◌∷◌, MatchBool}
use Rattle.sbpl_search.specs.sbpl_graph.declared.TheConstants.{FAR}
use Rattle.sbpl_search.specs.sbpl_graph.Network.{Network, IsFreeArc}
use Rattle.sbpl_search.specs.sbpl_labels.Marks.{Marks, states_of, g_of, v_of, back_of}
use Rattle.sbpl_search.specs.Query.{Query}
use Rattle.sbpl_serial.specs.declared.step.Step.{Step}
use Rattle.sbpl_open.specs.KeyOrder.{IsBelow, ComesBefore}
use Rattle.sbpl_serial.specs.Keys.{key_of, goal_key}
use Rattle.sbpl_search.specs.sbpl_labels.Recomputed.{IsRecomputed}

-- overconsistent: g < v, and underconsistent: v < g
abbrev pub IsOver : Marks → ℕ → Type 0
IsOver m s = g_of m s < v_of m s

abbrev pub IsUnder : Marks → ℕ → Type 0
IsUnder m s = v_of m s < g_of m s

-- open are the underconsistent states, and the overconsistent ones that are not closed
pub record IsOpen (closed : ℕ → Bool) (m : Marks) (s : ℕ) : Type 0 where
  pub inside : s < states_of m
  pub inconsistent : IsUnder m s ⊎ (IsOver m s × (closed s ≡ false))

-- the key of a state under the guide h and the inflation eps
abbrev pub key_at : (eps : ℕ) → (h : ℕ → ℕ) → Marks → ℕ → ℕ × ℕ
key_at eps h m s = key_of eps (g_of m s) (v_of m s) (h s)

-- the key of the goal
abbrev pub goal_key_at : Query → Marks → ℕ × ℕ
goal_key_at q m = goal_key (g_of m q.goal)

-- the open state that is next: its key is below the goal's, and it comes before every other open state
pub record IsNext (q : Query) (closed : ℕ → Bool) (m : Marks) (s : ℕ) : Type 0 where
  pub is_open : IsOpen closed m s
  pub below_goal : IsBelow (key_at q.eps q.guide m s) (goal_key_at q m)
  pub first : (u : ℕ) → IsOpen closed m u → u ≢ s → ComesBefore (key_at q.eps q.guide m s) s (key_at q.eps q.guide m u) u

-- no open key is below the goal's
pub record IsAtRest (q : Query) (closed : ℕ → Bool) (m : Marks) : Type 0 where
  pub none_below : (s : ℕ) → IsOpen closed m s → IsBelow (key_at q.eps q.guide m s) (goal_key_at q m) → ⊥

-- arc k of s is free, leads to t and gives it the label g, and no arc of s before it gives as little
pub record IsFirstArc (n : Network) (s v t g k c : ℕ) : Type 0 where
  pub free : IsFreeArc n s k t c
  pub gives : g ≡ v + c
  pub first : (j d : ℕ) → j < k → IsFreeArc n s j t d → g < v + d

-- g' is the lesser of g and the ways to t over the free arcs of s; where that is lower, back' is the first arc that gives it
pub record GetsLesser (n : Network) (s v t g : ℕ) (back : Option (ℕ × ℕ)) (g' : ℕ) (back' : Option (ℕ × ℕ)) : Type 0 where
  pub at_most : g' ≤ g
  pub least : (k c : ℕ) → IsFreeArc n s k t c → g' ≤ v + c
  pub same : g' ≡ g → back' ≡ back
  pub lower : g' < g → (k : ℕ) × (c : ℕ) × IsFirstArc n s v t g' k c × (back' ≡ Some (s, k))

-- the step of an overconsistent s: its v becomes its g, and each head but the start gets the lesser label
pub record LowersHeads (n : Network) (old new : Marks) (s : ℕ) : Type 0 where
  pub same_start : new.start ≡ old.start
  pub same_states : states_of new ≡ states_of old
  pub over : IsOver old s
  pub settled : v_of new s ≡ g_of old s
  pub other_v : (u : ℕ) → u ≢ s → v_of new u ≡ v_of old u
  pub heads : (t : ℕ) → t ≢ old.start → GetsLesser n s (g_of old s) t (g_of old t) (back_of old t) (g_of new t) (back_of new t)
  pub start_g : g_of new old.start ≡ g_of old old.start
  pub start_back : back_of new old.start ≡ back_of old old.start

-- the step of an underconsistent s: its v becomes infinite, and each state but the start whose back arc begins at s is recomputed
pub record RaisesState (n : Network) (old new : Marks) (s : ℕ) : Type 0 where
  pub same_start : new.start ≡ old.start
  pub same_states : states_of new ≡ states_of old
  pub under : IsUnder old s
  pub raised : v_of new s ≡ FAR
  pub other_v : (u : ℕ) → u ≢ s → v_of new u ≡ v_of old u
  pub heads : (t k : ℕ) → t ≢ old.start → back_of old t ≡ Some (s, k) → IsRecomputed n (v_of new) t (g_of new t) (back_of new t)
  pub other_g : (t : ℕ) → (t ≢ old.start → (k : ℕ) → back_of old t ≢ Some (s, k)) → g_of new t ≡ g_of old t
  pub other_back : (t : ℕ) → (t ≢ old.start → (k : ℕ) → back_of old t ≢ Some (s, k)) → back_of new t ≡ back_of old t

abbrev pub IsExpansion : Network → Marks → Step → Marks → Type 0
IsExpansion n old step new = MatchBool step.raised (RaisesState n old new step.state) (LowersHeads n old new step.state)

-- at first no state is closed
abbrev pub none_closed : ℕ → Bool
none_closed _ = false

-- the step of an overconsistent state closes it
abbrev pub closed_with : Step → (ℕ → Bool) → ℕ → Bool
closed_with step closed u = (not step.raised && nat_eq step.state u) || closed u

-- the states closed after these steps
abbrev pub closed_after : (ℕ → Bool) → List Step → ℕ → Bool
closed_after closed [] = closed
closed_after closed (step ∷ rest) = closed_after (closed_with step closed) rest

-- these steps, each of the state that is then next, lead from the old labels to the new ones
abbrev pub IsSerialRun : Query → (ℕ → Bool) → List Step → Marks → Marks → Type 0
IsSerialRun q closed [] old new = new ≡ old
IsSerialRun q closed (step ∷ rest) old new =
    (w : Marks) × IsNext q closed old step.state × IsExpansion q.network old step w × IsSerialRun q (closed_with step closed) rest w new
