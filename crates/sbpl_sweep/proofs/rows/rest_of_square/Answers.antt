use Rattle.std.proofs.Common.{◌+◌, ◌*◌, arith}
use Rattle.sbpl_sweep.proofs.Steps.{root_lt}
use Rattle.sbpl_sweep.proofs.rows.rest_of_square.Goals as goal

pub overflow_mul-side : goal.overflow_mul-side
overflow_mul-side c =
    let near = root_lt (c.args.gap + c.args.side * c.args.n) c.args.radius c.requires.row in
    omega arith
