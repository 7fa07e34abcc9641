-- States by their cells.
use Rattle.std.proofs.Common.{◌≡◌, ℕ, ◌+◌, ◌*◌, ◌/◌, ◌<◌, ◌≤◌, ap, ◌∙◌, arith}
use Rattle.std.proofs.lemmas.Nat.{mul-add-lt, div_below}
use Rattle.sbpl_cost.specs.States.{state_count}
use Rattle.sbpl_cost.specs.World.{World}
use Rattle.sbpl_cost.specs.Lattices.{network_of, states_are}

-- a cell with a heading is a state
pub state_below : (w : World) (cell headings heading : ℕ) → headings ≡ w.env.headings
    → cell < w.env.width * w.env.height → heading < headings → cell * headings + heading < (network_of w).states
state_below w cell headings heading same inside turn =
    let low = mul-add-lt cell headings heading (w.env.width * w.env.height) inside turn in
    let count : headings * (w.env.width * w.env.height) ≡ state_count w.env =
    ap (λ n. n * (w.env.width * w.env.height)) same ∙ (omega arith) in
    omega (arith, low, count, states_are w)

-- the cell of a state
pub cell_below : (w : World) (goal headings : ℕ) → headings ≡ w.env.headings → 1 ≤ headings
    → goal < (network_of w).states → goal / headings < w.env.width * w.env.height
cell_below w goal headings same some inside =
    let count : w.env.width * w.env.height * headings ≡ state_count w.env =
    ap (λ n. w.env.width * w.env.height * n) same in
    div_below goal headings (w.env.width * w.env.height) some (omega (arith, inside, states_are w, count))
