use Rattle.std.proofs.Common.{ap}
use Rattle.sbpl_claims.proofs.Keeping.{joined_next}
use Rattle.sbpl_claims.proofs.steps.join_claim.Goals as goal

pub join_seat-requires : goal.join_seat-requires
join_seat-requires c = (
  c.requires.table,
  c.requires.claim_table,
  ap (λ me. me.1) c.requires.one,
  c.requires.word,
  λ s kept at other there. joined_next s.views c.args.keeper.now.id c.args.keeper.now.me.0 c.args.claim.id
      c.args.claim.me.0 (ap (λ me. me.0) c.requires.whole) (ap (λ me. me.0) c.requires.one) kept at other there,
)
