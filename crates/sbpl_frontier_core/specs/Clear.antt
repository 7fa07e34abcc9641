-- How a state is found that may be opened: states are taken out of the queue in order, until one is clear, and put back.
use Rattle.std.specs.Prelude.{◌≡◌, ◌≢◌, ℕ, ◌-◌, ◌*◌, ◌<◌, ◌≤◌, ◌⊎◌, Option, Some, None, List, length}
use Rattle.std.specs.List.{All, AllPairs}
use Rattle.sbpl_frontier_rules.specs.sbpl_graph.Network.{Network}
use Rattle.sbpl_frontier_rules.specs.sbpl_labels.Marks.{Marks, g_of}
use Rattle.sbpl_frontier_rules.specs.sbpl_open.declared.entry.Entry.{Entry}
use Rattle.sbpl_frontier_rules.specs.sbpl_open.Entries.{key_of}
use Rattle.sbpl_frontier_rules.specs.sbpl_open.KeyOrder.{ComesBefore, IsBelow}
use Rattle.sbpl_frontier_rules.specs.sbpl_open.OpenList.{OpenList, IsLeast, key_at, states_of}
use Rattle.sbpl_frontier_rules.specs.declared.leg.Leg.{Leg}

-- s is clear of p: g of s is not above that of p, or above it by no more than the inflation times the gap from p to s
abbrev pub IsClear : Network → (eps : ℕ) → Marks → (s p : ℕ) → Type 0
IsClear n eps m s p = (g_of m s ≤ g_of m p) ⊎ (1000 * (g_of m s - g_of m p) ≤ eps * n.gap p s)

-- s is clear of the source of each arc that is out, and of each of these states
pub record IsClearOfAll (n : Network) (eps : ℕ) (m : Marks) (out : List Leg) (others : List Entry) (s : ℕ) : Type 0 where
  pub of_legs : All (λ leg. IsClear n eps m s leg.state) out
  pub of_others : All (λ entry. IsClear n eps m s entry.state) others

-- s, which has this key, is clear of the source of each arc that is out, and of each state of the queue that comes before it
pub record IsClearIn (n : Network) (eps : ℕ) (m : Marks) (out : List Leg) (f : OpenList) (s : ℕ) (key : ℕ × ℕ) : Type 0 where
  pub of_legs : All (λ leg. IsClear n eps m s leg.state) out
  pub of_earlier : (p : ℕ) (other : ℕ × ℕ) → key_at f p ≡ Some other → ComesBefore other p key s → IsClear n eps m s p

-- two queues hold the same states with the same keys
pub record HaveSameKeys (f g : OpenList) : Type 0 where
  pub states : states_of g ≡ states_of f
  pub each : (s : ℕ) → key_at g s ≡ key_at f s

-- these entries of a queue were put aside, and all others are left
pub record AreAside (f : OpenList) (aside : List Entry) (rest : OpenList) : Type 0 where
  pub states : states_of rest ≡ states_of f
  pub there : All (λ entry. key_at f entry.state ≡ Some (key_of entry)) aside
  pub others : (s : ℕ) → All (λ entry. entry.state ≢ s) aside → key_at rest s ≡ key_at f s

-- these are the first of a queue, all of them below the goal, and none of them is clear
pub record ArePopped (n : Network) (eps : ℕ) (m : Marks) (out : List Leg) (goal : ℕ × ℕ) (f : OpenList) (popped : List Entry) (rest : OpenList) : Type 0 where
  pub aside : AreAside f popped rest
  pub gone : All (λ entry. key_at rest entry.state ≡ None) popped
  pub below : All (λ entry. IsBelow (key_of entry) goal) popped
  pub before : All (λ entry. (s : ℕ) (key : ℕ × ℕ) → key_at rest s ≡ Some key → ComesBefore (key_of entry) entry.state key s) popped
  pub apart : AllPairs (λ a b. a.state ≢ b.state) popped
  pub held : All (λ entry. IsClearIn n eps m out f entry.state (key_of entry) → ⊥) popped
  pub few : length popped ≤ 64

-- what is first after them is below the goal and clear; or nothing is below the goal, or 64 were taken
pub record IsClearNext (n : Network) (eps : ℕ) (m : Marks) (out : List Leg) (goal : ℕ × ℕ) (f : OpenList) (popped : List Entry) (rest : OpenList) (s : ℕ) : Type 0 where
  pub key : ℕ × ℕ
  pub least : IsLeast rest s key
  pub below : IsBelow key goal
  pub clear : IsClearIn n eps m out f s key
  pub few : length popped < 64

abbrev pub NoneBelow : OpenList → (goal : ℕ × ℕ) → Type 0
NoneBelow f goal = (s : ℕ) (key : ℕ × ℕ) → key_at f s ≡ Some key → IsBelow key goal → ⊥

abbrev pub PopsTo : Network → (eps : ℕ) → Marks → List Leg → (goal : ℕ × ℕ) → OpenList → List Entry → OpenList → Option ℕ → Type 0
PopsTo n eps m out goal f popped rest None = NoneBelow rest goal ⊎ (length popped ≡ 64)
PopsTo n eps m out goal f popped rest (Some s) = IsClearNext n eps m out goal f popped rest s

-- the states that were taken out on the way, and what came of it
pub record IsSearched (n : Network) (eps : ℕ) (m : Marks) (out : List Leg) (goal : ℕ × ℕ) (f : OpenList) (found : Option ℕ) : Type 0 where
  pub popped : List Entry
  pub rest : OpenList
  pub are : ArePopped n eps m out goal f popped rest
  pub leads : PopsTo n eps m out goal f popped rest found
