use Rattle.std.proofs.Common.{arith, ap, length}
use Rattle.sbpl_pages.proofs.Paging.{elements_length}
use Rattle.sbpl_pages.proofs.paged.Paged.len.Goals as goal

pub returns : goal.returns
returns g c = record {
  value = omega (
    arith,
    ap length c.self.view_is,
    elements_length c.self.inside.table.items c.self.inside.frames.items c.self.inside.initial 0 c.self.inside.len,
  );
}
