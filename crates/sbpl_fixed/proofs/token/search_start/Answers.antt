use Rattle.std.proofs.Common.{sym, ◌∙◌}
use Rattle.std.proofs.lemmas.List.{take_rest}
use Rattle.sbpl_fixed.proofs.Tokens.{amid_token}
use Rattle.sbpl_fixed.proofs.token.search_start.Goals as goal

pub returns-else-is_fresh-clause-first : goal.returns-else-is_fresh-clause-first
returns-else-is_fresh-clause-first c =
    amid_token c.args.text.now c.args.at c.filled_front.result (sym c.is_fresh.ensures.fresh ∙ c.if-is_fresh.false)
    (rw take_rest at c.filled_front.ensures.count)
