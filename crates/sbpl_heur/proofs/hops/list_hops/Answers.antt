use Rattle.std.proofs.Common.{arith, ap, sym, ◌∙◌, length}
use Rattle.std.proofs.lemmas.Bool.{false≢true}
use Rattle.sbpl_heur.proofs.Hopping.{moved, stayed, one_more, all_hops}
use Rattle.sbpl_heur.proofs.hops.list_hops.Goals as goal
use Rattle.sbpl_heur.proofs.hops.list_hops.Goals.{then-moves, else-moves}

pub loop-i-preserved : goal.loop-i-preserved
loop-i-preserved c =
    let e = c.args.lattice.now.env in
    let prims = c.args.lattice.now.prims.items in
    elim c.if-moves.branch [
      | then-moves w ↦ rw w.hops-is (
        moved e prims c.loop-i.i c.hop_of-hop.result c.loop-i.hops.items w.include.new.hops.items
            c.hop_of-hop.ensures.hop (c.moves.ensures.moves.0 w.if-moves.true) c.loop-i.invariant.0
            w.include.ensures.includes,
        omega (
          arith,
          one_more c.loop-i.hops.items w.include.new.hops.items c.hop_of-hop.result w.include.ensures.includes,
          c.loop-i.invariant.1,
        ),
        w.include.ensures.room ∙ c.loop-i.invariant.2,
      )
      | else-moves w ↦ rw w.hops-is (
        stayed e prims c.loop-i.i c.hop_of-hop.result c.loop-i.hops.items c.hop_of-hop.ensures.hop
            (λ moves. false≢true (sym w.if-moves.false ∙ c.moves.ensures.moves.1 moves)) c.loop-i.invariant.0,
        omega (arith, c.loop-i.invariant.1),
        c.loop-i.invariant.2,
      )
    ]

pub returns-clause-hops : goal.returns-clause-hops
returns-clause-hops c =
    all_hops c.args.lattice.now.env c.args.lattice.now.prims.items c.loop-i.hops.items c.loop-i.i
    (omega (arith, c.loop-i-test.false, c.len-i-end.ensures.count, ap (λ p. length p.items) c.prims.ensures.prims))
    c.loop-i.invariant.0
