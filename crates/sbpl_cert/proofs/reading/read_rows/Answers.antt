use Rattle.std.proofs.lemmas.Result.{err_from_is_err_and}
use Rattle.sbpl_cert.proofs.Rounds.{fault, over, round}
use Rattle.sbpl_cert.proofs.reading.read_rows.Goals as goal

pub loop-preserved : goal.loop-preserved
loop-preserved c =
    round _ c.args.count c.loop.counter _ _ _ c.loop-test.true c.loop.invariant c.in_ok-read_next_row.ensures.read

pub returns-in_err-read_next_row : goal.returns-in_err-read_next_row
returns-in_err-read_next_row c =
    let p = err_from_is_err_and c.from_residual.result c.from_residual.ensures.1 in
    record {
      read =
          rw (p.1, p.2) (fault _ c.args.count c.loop.counter _ _ _ c.loop-test.true c.loop.invariant
          c.in_err-read_next_row.ensures.read);
    }

pub returns : goal.returns
returns c = record { read = over _ c.args.count c.loop.counter _ c.loop-test.false c.loop.invariant }
