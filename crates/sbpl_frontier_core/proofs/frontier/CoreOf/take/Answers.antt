use Rattle.std.proofs.Common.{arith, ◌∙◌}
use Rattle.sbpl_frontier_core.proofs.Parting.{fewer_tickets, parts_reserved, parts_taken, taking}
use Rattle.sbpl_frontier_core.proofs.frontier.CoreOf.take.Goals as goal

pub invariant_of-self-2 : goal.invariant_of-self-2
invariant_of-self-2 g c =
    let inside = c.self.inside in
    let here = c.self.invariant in
    let head = rw here.0 at c.in-Some.ensures.first in
    let pushed = rw c.reserve-2.ensures.items at c.push_reserved.ensures.items in
    let noted = rw c.reserve.ensures.events at c.push.ensures.events in
    let step =
    taking g.N.Pass.query.network inside.labels inside.opened inside.state inside.from inside.out.items
    c.push_reserved.new.self.items inside.next inside.budget c.in-Some.arc head pushed in (
      here.0,
      here.1,
      here.2,
      here.3,
      here.4,
      parts_taken c.args.seat (record { ticket = inside.next; state = inside.state; arc = c.in-Some.arc })
          here.5 step noted
          (c.push.ensures.keeps ∙ c.reserve.ensures.keeps)
          (omega (arith, c.in_ok-reserve.ensures.room, c.push.ensures.spare)),
    )

pub returns-clause-taken : goal.returns-clause-taken
returns-clause-taken g c =
    let inside = c.self.inside in
    let here = c.self.invariant in
    let head = rw here.0 at c.in-Some.ensures.first in
    let pushed = rw c.reserve-2.ensures.items at c.push_reserved.ensures.items in
    let noted = rw c.reserve.ensures.events at c.push.ensures.events in
    let step =
    taking g.N.Pass.query.network inside.labels inside.opened inside.state inside.from inside.out.items
    c.push_reserved.new.self.items inside.next inside.budget c.in-Some.arc head pushed in
    rw (← c.self.view_is)
    (record {
      first = head.first;
      taking = step;
      journal = noted;
      few = fewer_tickets here.5 c.used-used.ensures.counts head.first;
    })

pub invariant_of-self : goal.invariant_of-self
invariant_of-self g c =
    let here = c.self.invariant in (
      here.0,
      here.1,
      here.2,
      here.3,
      here.4,
      parts_reserved here.5 c.reserve.ensures.events c.reserve.ensures.keeps c.reserve.ensures.spare,
    )

pub invariant_of-self-in_err-reserve-2 : goal.invariant_of-self-in_err-reserve-2
invariant_of-self-in_err-reserve-2 g c =
    let here = c.self.invariant in (
      here.0,
      here.1,
      here.2,
      here.3,
      here.4,
      rw c.reserve-2.ensures.items
          (parts_reserved here.5 c.reserve.ensures.events c.reserve.ensures.keeps c.reserve.ensures.spare),
    )
