use Rattle.sbpl_epase.proofs.worker.take_turns.Goals as goal

pub returns-in-Over-clause-saw : goal.returns-in-Over-clause-saw
returns-in-Over-clause-saw g c =
    let shows = rw c.in-Over.is at c.in_ok-ticket.ensures.shows in
    let own = rw c.in-Over.is at c.in_ok-ticket.ensures.own in
    let same = rw c.in-Over.is at c.in_ok-ticket.ensures.gives in
    ∣ record { seen = c.in-Over._seen; leads = shows; own = rw same own } ∣₁

pub returns-in-Spent-clause-saw : goal.returns-in-Spent-clause-saw
returns-in-Spent-clause-saw g c =
    let shows = rw c.in-Spent.is at c.in_ok-ticket.ensures.shows in
    let own = rw c.in-Spent.is at c.in_ok-ticket.ensures.own in
    let same = rw c.in-Spent.is at c.in_ok-ticket.ensures.gives in
    ∣ record { seen = c.in-Spent._seen; leads = shows; own = rw same own } ∣₁
