use Rattle.std.proofs.Common.{ap, refl}
use Rattle.atomic_table.specs.Table.{keeps}
use Rattle.sbpl_claims.specs.Steps.{settled}
use Rattle.sbpl_claims.proofs.Keeping.{settled_next}
use Rattle.sbpl_claims.proofs.steps.settle_claim.Goals as goal

pub load-requires : goal.load-requires
load-requires c = (
  c.requires.table,
  c.requires.word,
  λ s kept long at small.
      let next =
      settled_next s.views c.args.keeper.now.id c.args.keeper.now.me.0 (ap (λ me. me.0) c.requires.joined) kept at in
      (settled c.args.keeper.now.me.0, keeps, tt, next.1, (next.0, refl)),
)
