use Rattle.std.proofs.Common.{arith, ap}
use Rattle.std.proofs.lemmas.Int.{ints}
use Rattle.sbpl_heur.proofs.cells.Cells.is_inner.Goals as goal

pub returns : goal.returns
returns c = record {
  inner = λ yes.
      let x = c.is_clear.ensures.clear.0 c.if-not-is_clear.false in
      let y = c.is_clear-2.ensures.clear.0 yes in
      let width = ap (λ z. z.env.width) c.self.view_is in
      let height = ap (λ z. z.env.height) c.self.view_is in
      let wide = ap (λ z. z.env.width) c.self-inside.view_is in
      let high = ap (λ z. z.env.height) c.self-inside.view_is in
      record {
        column = λ j h at.
            let far = c.requires.reach.column j h at in
            (omega (arith, ints, far.0, x.0), omega (arith, ints, far.1, x.1, width, wide));
        row = λ j h at.
            let far = c.requires.reach.row j h at in
            (omega (arith, ints, far.0, y.0), omega (arith, ints, far.1, y.1, height, high));
      };
}
