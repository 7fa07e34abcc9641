-- The environment that is drawn is one that a file may give.
use Rattle.std.proofs.Common.{◌≡◌, ℕ, zero, suc, ◌+◌, ◌-◌, ◌*◌, ◌/◌, ◌%◌, ◌<◌, ◌≤◌, pos, List, [], ◌∷◌, ◌++◌, length}
use Rattle.std.proofs.Common.{set, refl, ap, inl, inr, arith}
use Rattle.std.specs.Prelude.{nat_lt}
use Rattle.std.specs.List.{AllByRecursion}
use Rattle.std.proofs.lemmas.Int.{ints}
use Rattle.std.proofs.lemmas.Bool.{cases_Bool}
use Rattle.std.proofs.lemmas.List.{length-append, length-set}
use Rattle.std.proofs.lemmas.Nat.{mul-lt}
use Rattle.sbpl_cost.specs.sbpl_cfg.Environment.{IsEnvironment, IsOnAxis, IsPoseInRange, state_count}
use Rattle.sbpl_cost.specs.sbpl_cfg.Place.{cell_of}
use Rattle.sbpl_cost.specs.sbpl_cfg.Text.{IsGrid}
use Rattle.sbpl_demo.specs.Generator.{draw}
use Rattle.sbpl_demo.specs.Environment.{center, center_pose, cost_of, costs, costs_drawn, environment}

center_cell : (x : ℕ) → cell_of (pos 25000000) (center x) ≡ pos x
center_cell x = let e : (25000000 * x + 12500000) / 25000000 ≡ x = omega arith in ap (λ n. pos n) e

on_axis : (count x : ℕ) → x < count → IsOnAxis (pos 25000000) count (center x)
on_axis count x h = rw (center_cell x) (omega (arith, ints), omega (arith, ints))

in_range : (x y : ℕ) → x < 512 → y < 512 → IsPoseInRange (center_pose x y)
in_range x y h k = record {
  x = (omega (arith, ints), omega (arith, ints));
  y = (omega (arith, ints), omega (arith, ints));
  theta = (omega (arith, ints), omega (arith, ints));
}

pub is_environment : (width height : ℕ) → 8 ≤ width → width ≤ 512 → 8 ≤ height → height ≤ 512
    → IsEnvironment (environment width height)
is_environment width height a b c d =
    let cells : width * height < 513 * 513 = mul-lt width height 513 513 (omega arith) (omega arith) in
    record {
      width = (omega arith, omega arith);
      height = (omega arith, omega arith);
      obsthresh = omega arith;
      inscribed = omega arith;
      circumscribed = (omega (arith, ints), omega (arith, ints));
      cell = (omega (arith, ints), omega (arith, ints));
      speed = (omega (arith, ints), omega (arith, ints));
      turn45 = (omega (arith, ints), omega (arith, ints));
      start_in_range = in_range 1 1 (omega arith) (omega arith);
      end_in_range = in_range (width - 2) (height - 2) (omega arith) (omega arith);
      headings = (omega arith, omega arith);
      states = omega (arith, cells);
      start_on_map = record { x = on_axis width 1 (omega arith); y = on_axis height 1 (omega arith) };
      end_on_map =
          record { x = on_axis width (width - 2) (omega arith); y = on_axis height (height - 2) (omega arith) };
    }

-- and it has few states
pub few_states : (width height : ℕ) → width ≤ 512 → height ≤ 512 → state_count (environment width height) ≤ 8388608
few_states width height b d =
    let cells : width * height < 513 * 513 = mul-lt width height 513 513 (omega arith) (omega arith) in
    omega (arith, cells)

-- ---- the costs

abbrev AreCosts : List ℕ → Type 0
AreCosts cells = AllByRecursion (λ c. c ≤ 255) cells

cost_small : (drawn : ℕ) → cost_of drawn ≤ 255
unfolding cost_of
cost_small drawn = elim (cases_Bool (nat_lt (drawn % 100) 15)) [
  | inl e ↦ rw e (omega arith)
  | inr e ↦ elim (cases_Bool (nat_lt (drawn % 100) 30)) [
    | inl k ↦ rw (e, k) (omega arith)
    | inr k ↦ rw (e, k) (omega arith)
  ]
]

costs_push : (cells : List ℕ) (c : ℕ) → AreCosts cells → c ≤ 255 → AreCosts (cells ++ c ∷ [])
costs_push [] c h k = (k, tt)
costs_push (x ∷ xs) c h k = (h.0, costs_push xs c h.1 k)

drawn_are_costs : (n x : ℕ) → AreCosts (costs_drawn n x)
unfolding costs_drawn
drawn_are_costs zero x = tt
drawn_are_costs (suc n) x =
    costs_push (costs_drawn n x) (cost_of (draw n x)) (drawn_are_costs n x) (cost_small (draw n x))

drawn_count : (n x : ℕ) → length (costs_drawn n x) ≡ n
unfolding costs_drawn
drawn_count zero x = refl
drawn_count (suc n) x = omega (arith, length-append (costs_drawn n x) (cost_of (draw n x) ∷ []), drawn_count n x)

cleared : (cells : List ℕ) (i : ℕ) → AreCosts cells → AreCosts (set cells i 0)
cleared [] i h = tt
cleared (x ∷ xs) zero h = (omega arith, h.1)
cleared (x ∷ xs) (suc i) h = (h.0, cleared xs i h.1)

pub is_grid : (width height x : ℕ) → IsGrid (environment width height) (costs width height x)
is_grid width height x = record {
  size = rw (length-set, length-set) (drawn_count (width * height) x);
  costs = cleared _ _ (cleared _ _ (drawn_are_costs (width * height) x));
}
