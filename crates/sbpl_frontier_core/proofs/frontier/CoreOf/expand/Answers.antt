use Rattle.std.proofs.Common.{arith, refl, ◌∙◌}
use Rattle.sbpl_frontier_core.proofs.Parting.{opening_of, parts_opened, parts_reserved}
use Rattle.sbpl_frontier_core.proofs.Placing.{opened_unplaced}
use Rattle.sbpl_frontier_core.proofs.frontier.CoreOf.expand.Goals as goal

pub requeue-requires-clause-unplaced : goal.requeue-requires-clause-unplaced
requeue-requires-clause-unplaced g c =
    let inside = c.self.inside in
    let here = c.self.invariant in
    let may = rw (← c.self.view_is) at c.requires.may in
    rw (here.1, here.4)
    (opened_unplaced g.N.Pass.query.eps g.N.Pass.query.guide inside.opened c.insert.new.self inside.labels
    c.settle.new.self inside.queue c.args.s _ here.5.queued may.inside c.settle.ensures.settled c.insert.ensures.closed)

pub invariant_of-self-2 : goal.invariant_of-self-2
invariant_of-self-2 g c =
    let inside = c.self.inside in
    let here = c.self.invariant in
    let none_ready = rw (← c.self.view_is) at c.requires.none_ready in
    let may = rw (← c.self.view_is) at c.requires.may in
    let noted = rw c.reserve.ensures.events at c.push.ensures.events in
    let queued = rw (here.1, here.4) at c.requeue.ensures.queued in
    let step =
    opening_of g.N.Pass.query inside.labels c.settle.new.self inside.opened c.insert.new.self inside.state inside.from
    inside.out.items inside.next inside.budget c.spend.new.self c.args.s none_ready may c.settle.ensures.settled
    c.insert.ensures.closed c.spend.ensures.counted in (
      here.0,
      here.1,
      here.2,
      here.3,
      here.4,
      parts_opened c.args.s here.5 none_ready step refl noted (c.push.ensures.keeps ∙ c.reserve.ensures.keeps)
          (omega (arith, c.in_ok-reserve.ensures.room, c.push.ensures.spare)) queued
          (rw c.reserve-2.ensures.items at c.push_reserved.ensures.items),
    )

pub returns-clause-opened : goal.returns-clause-opened
returns-clause-opened g c =
    let inside = c.self.inside in
    let none_ready = rw (← c.self.view_is) at c.requires.none_ready in
    let may = rw (← c.self.view_is) at c.requires.may in
    let first = rw (← c.self.view_is) at c.requires.first in
    let noted = rw c.reserve.ensures.events at c.push.ensures.events in
    let step =
    opening_of g.N.Pass.query inside.labels c.settle.new.self inside.opened c.insert.new.self inside.state inside.from
    inside.out.items inside.next inside.budget c.spend.new.self c.args.s none_ready may c.settle.ensures.settled
    c.insert.ensures.closed c.spend.ensures.counted in
    rw (← c.self.view_is) (record { none_ready = none_ready; first = first; opening = step; journal = noted })

pub invariant_of-self : goal.invariant_of-self
invariant_of-self g c =
    let here = c.self.invariant in (
      here.0,
      here.1,
      here.2,
      here.3,
      here.4,
      parts_reserved here.5 c.reserve.ensures.events c.reserve.ensures.keeps c.reserve.ensures.spare,
    )

pub invariant_of-self-in_err-reserve-2 : goal.invariant_of-self-in_err-reserve-2
invariant_of-self-in_err-reserve-2 g c =
    let here = c.self.invariant in (
      here.0,
      here.1,
      here.2,
      here.3,
      here.4,
      rw c.reserve-2.ensures.items
          (parts_reserved here.5 c.reserve.ensures.events c.reserve.ensures.keeps c.reserve.ensures.spare),
    )
