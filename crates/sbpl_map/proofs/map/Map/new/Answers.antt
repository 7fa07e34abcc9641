use Rattle.std.proofs.Common.{arith, ◌*◌, ◌≤◌, ℕ}
use Rattle.sbpl_map.proofs.map.Map.new.Goals as goal

-- the cells of a map are no more than its states
cells_le_states : (w h n : ℕ) → 1 ≤ n → w * h * n ≤ 268435456 → w * h ≤ 268435456
cells_le_states w h n e le = grind arith

pub plain-requires-clause-ranges : goal.plain-requires-clause-ranges
plain-requires-clause-ranges c = record {
  width = c.env.invariant.width;
  height = c.env.invariant.height;
  few_cells = cells_le_states _ _ c.env.inside.headings (omega arith) c.env.invariant.states;
}
