-- Paths, and what is promised of a plan, in plain words, whatever a step is.
use Rattle.std.specs.Prelude.{◌≡◌, ◌≢◌, ◌==◌, false, ℕ, ◌+◌, ◌*◌, ◌≤◌, List, [], ◌∷◌, Option, None, sum_by}
use Rattle.std.specs.List.{AllByRecursion, list_any}

-- a step as it is printed: the id of its primitive, or the number of its direction, and where it ends
pub record Step (P : Type 0) : Type 0 where
  pub id : ℕ
  pub place : P

-- these steps, each of which moves from where the one before it ended, are a path from place s to the goal, and cost c together
abbrev pub IsPath : {P : Type 0} → (P → Step P → ℕ → Type 0) → P → List (Step P) → P → ℕ → Type 0
IsPath Moves s [] goal c = (s ≡ goal) × (c ≡ 0)
IsPath Moves s (step ∷ steps) goal c = (a : ℕ) × (b : ℕ) × Moves s step a × IsPath Moves step.place steps goal b × (c ≡ a + b)

-- a path with its cost and its bound in thousandths; that there is none; or neither is known
pub data Result (P : Type 0) : Type 0 where
  Path : (cost bound : ℕ) → List (Step P) → Result P
  NoPath : Result P
  Unknown : Result P

-- of a pass: its inflation in thousandths, how many states it expanded, and the words of what it found, which stand in its line
pub record Pass : Type 0 where
  pub inflation : ℕ
  pub expanded : ℕ
  pub found : List (List ℕ)
  pub in_line : AllByRecursion (λ word. list_any (λ byte. byte == 10) word ≡ false) found

-- of a plan: its passes, its count of expansions where it is marked as spent, its start, and its result
pub record Plan (P : Type 0) : Type 0 where
  pub passes : List Pass
  pub spent : Option ℕ
  pub start : P
  pub result : Result P

abbrev pub expansions : {P : Type 0} → Plan P → ℕ
expansions p = sum_by (λ q. q.expanded) p.passes

-- The path goes from the start to the goal at this cost, which is at most the bound, in thousandths, times that of every other path; or
-- there is no path. Where the plan is not marked as spent, the result is known, and the bound is at most the one that was asked.
abbrev pub Keeps : {P : Type 0} → (P → Step P → ℕ → Type 0) → (start goal : P) → (asked : ℕ) → (spent : Option ℕ) → Result P → Type 0
Keeps {P} Moves start goal asked spent (Path cost bound steps) =
    IsPath Moves start steps goal cost × (spent ≡ None → bound ≤ asked)
    × ((others : List (Step P)) (c : ℕ) → IsPath Moves start others goal c → 1000 * cost ≤ bound * c)
Keeps {P} Moves start goal asked spent NoPath = (others : List (Step P)) (c : ℕ) → IsPath Moves start others goal c → ⊥
Keeps {P} Moves start goal asked spent Unknown = spent ≢ None
