use Rattle.std.proofs.Common.{◌≡◌, ◌<◌, ◌≤◌, ◌+◌, List, length, ◌∙◌, ap, subst, arith}
use Rattle.sbpl_checks.specs.sbpl_mprim.Primitives.{Primitives}
use Rattle.sbpl_checks.specs.sbpl_report.Listing.{listing_at}
use Rattle.sbpl_checks.specs.sbpl_promises.Writing.{Write, to_output}
use Rattle.sbpl_jobs.proofs.Makings.{Makes, makes_no_more, makes_one, makes_rest, none_from, one_from, writes_from}
use Rattle.sbpl_jobs.proofs.sweep_job.write_listings.Goals as goal
use Rattle.sbpl_checks.proofs.Frames.{writes_on}

pub returns-in-Err-clause-ends : goal.returns-in-Err-clause-ends
returns-in-Err-clause-ends g c =
    let w = c.args.lattice.now in
    let count : c.len-count.result ≡ length w.prims.items =
    c.len-count.ensures.count ∙ ap (λ (ps : Primitives). length ps.items) c.prims.ensures.prims in
    let here : c.loop-i.i < length w.prims.items = (let test = c.loop-i-test.true in omega arith) in
    let so =
    subst (λ (l : List Write). Makes (g.D.Desk.state c.args.desk.now) (g.D.Desk.state c.loop-i.desk) (writes_from w 0)
    l) (one_from w c.loop-i.i here) c.loop-i.invariant.makes in
    makes_no_more (Unit {0}) (Unit {0}) _ c.in-Err.stop so c.in-Err.ensures.ends

pub loop-i-preserved : goal.loop-i-preserved
loop-i-preserved g c =
    let w = c.args.lattice.now in
    let count : c.len-count.result ≡ length w.prims.items =
    c.len-count.ensures.count ∙ ap (λ (ps : Primitives). length ps.items) c.prims.ensures.prims in
    let here : c.loop-i.i < length w.prims.items = (let test = c.loop-i-test.true in omega arith) in
    let so =
    subst (λ (l : List Write). Makes (g.D.Desk.state c.args.desk.now) (g.D.Desk.state c.loop-i.desk) (writes_from w 0)
    l) (one_from w c.loop-i.i here) c.loop-i.invariant.makes in
    record {
      makes =
          makes_one (Unit {0}) _ _ _ (writes_from w 0) (writes_from w (c.loop-i.i + 1))
          (to_output (listing_at w c.loop-i.i)) c.in_default.field-0 so c.in_default.ensures.ends
          c.write_listing.ensures.frame.writes;
      frame = writes_on _ _ _ _ c.loop-i.invariant.frame c.write_listing.ensures.frame;
    }

pub returns-clause-ends : goal.returns-clause-ends
returns-clause-ends g c =
    let w = c.args.lattice.now in
    let count : c.len-count.result ≡ length w.prims.items =
    c.len-count.ensures.count ∙ ap (λ (ps : Primitives). length ps.items) c.prims.ensures.prims in
    let past : length w.prims.items ≤ c.loop-i.i = (let test = c.loop-i-test.false in omega arith) in
    let so =
    subst (λ (l : List Write). Makes (g.D.Desk.state c.args.desk.now) (g.D.Desk.state c.loop-i.desk) (writes_from w 0)
    l) (none_from w c.loop-i.i past) c.loop-i.invariant.makes in
    makes_rest (Unit {0}) _ _ so c.write_last.ensures.ends
