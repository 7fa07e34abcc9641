use Rattle.std.proofs.Common.{◌≡◌, ap, sym, refl, ◌∙◌}
use Rattle.sbpl_frontier.specs.Tied.{Sight}
use Rattle.sbpl_frontier.proofs.Finishing.{own_come}
use Rattle.sbpl_frontier.proofs.Tying.{opens_tied, taken_tied}
use Rattle.sbpl_frontier.proofs.locked.Locked.next.Goals as goal

pub invariant_of-self : goal.invariant_of-self
invariant_of-self g c =
    (c.self.invariant.0, opens_tied g.N.Pass.query _ _ _ _ _ c.in_err-ticket.ensures.opened c.self.invariant.1)

pub invariant_of-self-in-Job : goal.invariant_of-self-in-Job
invariant_of-self-in-Job g c =
    let answers = rw c.in-Job.is at c.in_ok-ticket.ensures.answers in
    let mid = opens_tied g.N.Pass.query _ answers.mid _ _ _ answers.opens c.self.invariant.1 in
    let out =
    rw (c.make-claim.ensures.claim, c.state.ensures.value, c.arc.ensures.value) at c.make-claim.ensures.out in (
      c.self.invariant.0,
      rw c.add.ensures.total (taken_tied c.self.inside.keeper c.make-claim.new.self
          answers.gives c.seat.invariant.2 out c.make-claim.ensures.next mid),
    )

pub invariant_of-self-in-NotYet : goal.invariant_of-self-in-NotYet
invariant_of-self-in-NotYet g c =
    let answers = rw c.in-NotYet.is at c.in_ok-ticket.ensures.answers in (
      c.self.invariant.0,
      rw answers.gives (opens_tied g.N.Pass.query _ answers.mid _ _ _ answers.opens c.self.invariant.1),
    )

pub invariant_of-self-in-Over : goal.invariant_of-self-in-Over
invariant_of-self-in-Over g c =
    let answers = rw c.in-Over.is at c.in_ok-ticket.ensures.answers in (
      c.self.invariant.0,
      rw answers.gives (opens_tied g.N.Pass.query _ answers.mid _ _ _ answers.opens c.self.invariant.1),
    )

pub invariant_of-self-in-Spent : goal.invariant_of-self-in-Spent
invariant_of-self-in-Spent g c =
    let answers = rw c.in-Spent.is at c.in_ok-ticket.ensures.answers in (
      c.self.invariant.0,
      rw answers.gives (opens_tied g.N.Pass.query _ answers.mid _ _ _ answers.opens c.self.invariant.1),
    )

pub returns-in-Job-clause-gives : goal.returns-in-Job-clause-gives
returns-in-Job-clause-gives g c =
    let answers = rw c.in-Job.is at c.in_ok-ticket.ensures.answers in
    let mid = opens_tied g.N.Pass.query _ answers.mid _ _ _ answers.opens c.self.invariant.1 in
    let ticket : c.self.inside.keeper.next ≡ c.in-Job.ticket.number = mid.next ∙ sym answers.gives.taking.ticket in (
      rw (c.make-claim.ensures.claim, c.state.ensures.value, c.arc.ensures.value, ticket) refl,
      rw (← c.seat.view_is, c.add.ensures.amount) refl,
    )

pub returns-in-Job-clause-told : goal.returns-in-Job-clause-told
returns-in-Job-clause-told g c =
    let answers = rw c.in-Job.is at c.in_ok-ticket.ensures.answers in
    (answers.mid.journal, rw (← c.seat.view_is) answers.gives.journal)

pub returns-in-NotYet-clause-own : goal.returns-in-NotYet-clause-own
returns-in-NotYet-clause-own g c =
    let line = ap (λ (s : Sight). s.line) c.self.view_is in
    let answers = rw c.in-NotYet.is at c.in_ok-ticket.ensures.answers in
    let mid = opens_tied g.N.Pass.query _ answers.mid _ _ _ answers.opens c.self.invariant.1 in
    rw (c.seen.ensures.value, answers.gives) (own_come answers.mid _ _ _ c.args.seat.now mid (rw line c.requires.come))

pub returns-in-Over-clause-own : goal.returns-in-Over-clause-own
returns-in-Over-clause-own g c =
    let line = ap (λ (s : Sight). s.line) c.self.view_is in
    let answers = rw c.in-Over.is at c.in_ok-ticket.ensures.answers in
    let mid = opens_tied g.N.Pass.query _ answers.mid _ _ _ answers.opens c.self.invariant.1 in
    rw (c.seen-in-Over.ensures.value, answers.gives)
    (own_come answers.mid _ _ _ c.args.seat.now mid (rw line c.requires.come))

pub returns-in-Spent-clause-own : goal.returns-in-Spent-clause-own
returns-in-Spent-clause-own g c =
    let line = ap (λ (s : Sight). s.line) c.self.view_is in
    let answers = rw c.in-Spent.is at c.in_ok-ticket.ensures.answers in
    let mid = opens_tied g.N.Pass.query _ answers.mid _ _ _ answers.opens c.self.invariant.1 in
    rw (c.seen-in-Spent.ensures.value, answers.gives)
    (own_come answers.mid _ _ _ c.args.seat.now mid (rw line c.requires.come))
