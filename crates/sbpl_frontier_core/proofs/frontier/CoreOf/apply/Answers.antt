use Rattle.std.proofs.Common.{arith, length, ap}
use Rattle.sbpl_frontier_rules.specs.sbpl_serial.Marked.{closed_at}
use Rattle.sbpl_frontier_rules.proofs.Fitting.{fit_more}
use Rattle.sbpl_frontier_core.proofs.Parting.{head_lowered, parts_kept, parts_posted, posting_of}
use Rattle.sbpl_frontier_core.proofs.Placing.{relaxed_unplaced}
use Rattle.sbpl_frontier_core.proofs.Replaying.{fewer_without, opened_out}
use Rattle.sbpl_frontier_core.proofs.frontier.CoreOf.apply.Goals as goal

pub lower_head-head-requires-clause-state : goal.lower_head-head-requires-clause-state
lower_head-head-requires-clause-state g c =
    let here = c.self.invariant.5 in
    let kept = parts_kept c.events_keep.ensures.first c.events_keep.ensures.each here in
    let out = rw (← c.self.view_is) at c.requires.out in
    let at =
    opened_out (record { ticket = c.args.judged.number; state = c.args.judged.state; arc = c.args.judged.arc }) kept
    out in
    omega (arith, at.source, here.states)

pub lower_head-head-requires-clause-number : goal.lower_head-head-requires-clause-number
lower_head-head-requires-clause-number g c =
    let kept = parts_kept c.events_keep.ensures.first c.events_keep.ensures.each c.self.invariant.5 in
    let out = rw (← c.self.view_is) at c.requires.out in
    rw c.self.invariant.0 (opened_out
    (record { ticket = c.args.judged.number; state = c.args.judged.state; arc = c.args.judged.arc }) kept out).number

pub lower_head-head-requires-clause-near : goal.lower_head-head-requires-clause-near
lower_head-head-requires-clause-near g c =
    let kept = parts_kept c.events_keep.ensures.first c.events_keep.ensures.each c.self.invariant.5 in
    let out = rw (← c.self.view_is) at c.requires.out in
    kept.bounded.near c.args.judged.state (opened_out
    (record { ticket = c.args.judged.number; state = c.args.judged.state; arc = c.args.judged.arc }) kept out).opened

pub lower_head-head-requires-clause-fits : goal.lower_head-head-requires-clause-fits
lower_head-head-requires-clause-fits g c =
    let kept = parts_kept c.events_keep.ensures.first c.events_keep.ensures.each c.self.invariant.5 in
    rw c.self.invariant.5.states (fit_more _ kept.fits kept.counts.within_run)

pub requeue-requires-clause-unplaced : goal.requeue-requires-clause-unplaced
requeue-requires-clause-unplaced g c =
    let inside = c.self.inside in
    let here = c.self.invariant in
    rw (here.1, here.4)
    (relaxed_unplaced g.N.Pass.query.eps g.N.Pass.query.guide (g.G.Graph.network inside.graph.now)
    (closed_at inside.opened) inside.labels c.lower_head-head.new.labels inside.queue c.args.judged.state
    c.args.judged.arc c.lower_head-head.result here.5.queued c.lower_head-head.ensures.relaxed)

pub invariant_of-self : goal.invariant_of-self
invariant_of-self g c =
    let inside = c.self.inside in
    let here = c.self.invariant in
    let out = rw (← c.self.view_is) at c.requires.out in
    let relaxed = rw here.0 at c.lower_head-head.ensures.relaxed in
    let queued = rw (here.1, here.4) at c.requeue.ensures.queued in
    let posting =
    posting_of g.N.Pass.query.network inside.labels c.lower_head-head.new.labels inside.opened inside.state inside.from
    inside.out.items c.take_back.new.out.items inside.next inside.budget
    (record { ticket = c.args.judged.number; state = c.args.judged.state; arc = c.args.judged.arc }) c.args.judged.cost
    c.lower_head-head.result out c.args.judged.judged relaxed c.take_back.ensures.out in (
      here.0,
      here.1,
      here.2,
      here.3,
      here.4,
      parts_posted (record { ticket = c.args.judged.number; state = c.args.judged.state; arc = c.args.judged.arc })
          c.args.judged.cost here.5 posting
          (head_lowered g.N.Pass.query.network inside.labels c.lower_head-head.new.labels c.args.judged.state
          c.args.judged.arc c.lower_head-head.result relaxed) c.push.ensures.events c.push.ensures.keeps
          c.push.ensures.spare queued,
    )

pub returns-clause-posted : goal.returns-clause-posted
returns-clause-posted g c =
    let inside = c.self.inside in
    let here = c.self.invariant in
    let out = rw (← c.self.view_is) at c.requires.out in
    let relaxed = rw here.0 at c.lower_head-head.ensures.relaxed in
    rw (← c.self.view_is)
    (posting_of g.N.Pass.query.network inside.labels c.lower_head-head.new.labels inside.opened inside.state inside.from
    inside.out.items c.take_back.new.out.items inside.next inside.budget (record {
      ticket = c.args.judged.number;
      state = c.args.judged.state;
      arc = c.args.judged.arc;
    }) c.args.judged.cost c.lower_head-head.result out c.args.judged.judged relaxed c.take_back.ensures.out)

pub returns-clause-fewer : goal.returns-clause-fewer
returns-clause-fewer g c =
    let inside = c.self.inside in
    let out = rw (← c.self.view_is) at c.requires.out in
    rw (← c.self.view_is) (omega (
      arith,
      ap length c.take_back.ensures.out,
      fewer_without inside.out.items
          (record { ticket = c.args.judged.number; state = c.args.judged.state; arc = c.args.judged.arc }) out,
    ))
