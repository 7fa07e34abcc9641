use Rattle.sbpl_heur.proofs.Hopping.{lowers_at}
use Rattle.sbpl_heur.proofs.hops.include.Goals as goal

pub returns-clause-includes : goal.returns-clause-includes
returns-clause-includes c =
    lowers_at c.args.hops.now.items c.as_slice.result.now c.args.hop c.in-Some.j c.index_mut-known.result.now
    c.min-known.result c.as_slice.ensures.value c.in-Some.ensures.pair
    c.index_mut-known.ensures.value c.min-known.ensures
