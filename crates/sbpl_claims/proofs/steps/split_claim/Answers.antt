use Rattle.std.proofs.Common.{ap}
use Rattle.sbpl_claims.proofs.Keeping.{made_next}
use Rattle.sbpl_claims.proofs.steps.split_claim.Goals as goal

pub split_seat-requires : goal.split_seat-requires
split_seat-requires g c = (
  c.requires.table,
  c.requires.word,
  λ s kept at. made_next s.views c.args.keeper.now.id c.args.keeper.now.me.0 g.J.Making.state g.J.Making.arc
      (ap (λ me. me.0) c.requires.whole) kept at,
)
