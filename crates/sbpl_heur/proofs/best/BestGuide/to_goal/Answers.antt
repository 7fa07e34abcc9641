use Rattle.std.proofs.Common.{◌≡◌, ℕ, ◌*◌, ◌/◌, ◌%◌, ◌<◌, ◌≤◌, length, arith}
use Rattle.std.proofs.lemmas.List.{get_or_read}
use Rattle.std.proofs.lemmas.Nat.{div_below}
use Rattle.sbpl_heur.proofs.best.BestGuide.to_goal.Goals as goal

-- the cell and the heading of a state are within their tables
within : (s cells turns : ℕ) → s < cells * turns → (s / turns < cells) × (s % turns < turns)
within s cells turns inside = let some : 1 ≤ turns = grind arith in (div_below s turns cells some inside, omega arith)

pub returns : goal.returns
returns c =
    let b = c.self.inside in
    let table = c.self.invariant.table in
    let known : c.args.s < length b.cells.items * length b.turns.items = rw (← c.self.view_is) at c.requires.state in
    let count : c.len-headings.result ≡ length b.turns.items = omega (arith, c.len-headings.ensures, b.turns.ok.0) in
    let inside = within c.args.s (length b.cells.items) (length b.turns.items) known in
    let cell = get_or_read b.cells.items _ _ (rw count inside.0) c.index-cell.ensures 0 in
    let turn = get_or_read b.turns.items _ _ (rw count inside.1) c.index.ensures 0 in
    record {
      value = rw (← c.self.view_is) (cc (cell, turn, count, c.max.ensures));
      small = omega (
        arith,
        c.max.ensures,
        cell,
        turn,
        table.cells (c.args.s / c.len-headings.result),
        table.turns (c.args.s % c.len-headings.result),
      );
    }
