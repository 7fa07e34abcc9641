use Rattle.std.proofs.Common.{arith, rules, ◌<◌, ◌+◌, ◌*◌, ◌^◌}
use Rattle.sbpl_heur.proofs.StateCells.{state_below}
use Rattle.sbpl_heur.proofs.cap.gap_from.Goals as goal

pub gap-requires-clause-from : goal.gap-requires-clause-from
gap-requires-clause-from c =
    state_below c.args.lattice.now c.args.cell c.args.headings c.args.heading c.requires.headings
    c.requires.cell c.requires.heading

pub overflow_mul-cell : goal.overflow_mul-cell
overflow_mul-cell c =
    let low =
    state_below c.args.lattice.now c.args.cell c.args.headings c.args.heading c.requires.headings
    c.requires.cell c.requires.heading in
    let fits : c.args.cell * c.args.headings < 2 ^ 32 = omega (arith, low, c.requires.sound.few_states) in
    search rules

pub overflow_add-cell : goal.overflow_add-cell
overflow_add-cell c =
    let low =
    state_below c.args.lattice.now c.args.cell c.args.headings c.args.heading c.requires.headings
    c.requires.cell c.requires.heading in
    let fits : c.args.cell * c.args.headings + c.args.heading < 2 ^ 32 =
    omega (arith, low, c.requires.sound.few_states) in
    search rules
