use Rattle.std.proofs.Common.{nat_eq, not, rules}
use Rattle.std.proofs.lemmas.Fn.{filter_same}
use Rattle.sbpl_frontier_rules.specs.declared.leg.Leg.{Leg}
use Rattle.sbpl_frontier_core.proofs.posting.take_back.Goals as goal

pub returns-clause-out : goal.returns-clause-out
returns-clause-out c =
    filter_same _ (λ (leg : Leg). not (nat_eq leg.ticket c.args.ticket)) _ (λ x b f' k. search rules) _ _
    c.retain.ensures.filtered
