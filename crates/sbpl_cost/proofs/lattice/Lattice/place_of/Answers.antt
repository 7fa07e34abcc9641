use Rattle.std.proofs.Common.{arith}
use Rattle.sbpl_cost.specs.Lattices.{states_are}
use Rattle.sbpl_cost.proofs.lattice.Lattice.place_of.Goals as goal

pub place_at-requires : goal.place_at-requires
place_at-requires c =
    let state = rw (← c.self.view_is) at c.requires.state in
    record {
      state = omega (
        arith,
        state,
        states_are (record {
          env = c.self.inside.env;
          prims = c.self.inside.prims;
          sweeps = c.self.inside.sweeps;
          map = c.self.inside.map;
        }),
      );
    }
