use Rattle.std.proofs.Common.{◌≡◌, ℕ, List, [], ◌∷◌, ◌++◌, length, arith, ap, ◌∙◌}
use Rattle.std.proofs.lemmas.List.Elements.{All-push, Contains-push}
use Rattle.sbpl_frontier_rules.specs.declared.event.Event.TheVariants.{Posted, Taken}
use Rattle.sbpl_frontier_rules.specs.declared.leg.Leg.{Leg}
use Rattle.sbpl_frontier_rules.specs.Frontier.{without}
use Rattle.sbpl_frontier_core.specs.Seats.{IsTakenBelow}
use Rattle.sbpl_frontier_core.proofs.Answering.{none_without, opens_keep}
use Rattle.sbpl_frontier_core.proofs.Seating.{longer_none, longer_then, opens_longer, opens_taken}
use Rattle.sbpl_frontier_core.proofs.serial.go_on.Goals as goal

pub apply-requires : goal.apply-requires
apply-requires g c =
    let answers = rw c.in-Ok-Job.field-0-is at c.in-Ok-Job.ensures.answers in
    record {
      out =
          rw (c.judge.ensures.number, c.judge.ensures.state, c.judge.ensures.arc, answers.gives.taking.out)
          (Contains-push answers.mid.frontier.out (record {
            ticket = c.in-Ok-Job.ticket.number;
            state = c.in-Ok-Job.ticket.state;
            arc = c.in-Ok-Job.ticket.arc;
          }));
    }

pub arcs-smaller : goal.arcs-smaller
arcs-smaller g c =
    let answers = rw c.in-Ok-Job.field-0-is at c.in-Ok-Job.ensures.answers in
    let same = opens_keep g.N.Pass.query c.arcs.core answers.mid answers.opens in
    omega (
      arith,
      same.1,
      answers.gives.taking.ticket,
      answers.gives.taking.next,
      answers.gives.few,
      c.apply.ensures.posted.next,
    )

pub arcs-preserved : goal.arcs-preserved
arcs-preserved g c =
    let answers = rw c.in-Ok-Job.field-0-is at c.in-Ok-Job.ensures.answers in
    let same = opens_keep g.N.Pass.query c.arcs.core answers.mid answers.opens in
    let leg : Leg =
    record { ticket = c.in-Ok-Job.ticket.number; state = c.in-Ok-Job.ticket.state; arc = c.in-Ok-Job.ticket.arc } in
    let one : c.next.new.self.frontier.out ≡ leg ∷ [] =
    answers.gives.taking.out ∙ ap (λ (out : List Leg). out ++ leg ∷ []) (same.0 ∙ c.arcs.invariant.0) in
    let t = c.in-Ok-Job.ticket in (
      c.apply.ensures.posted.out
          ∙ ap (λ (ticket : ℕ). without ticket c.next.new.self.frontier.out) c.judge.ensures.number
          ∙ ap (without leg.ticket) one ∙ none_without leg,
      λ seats some first.
          let opened =
          opens_taken g.N.Pass.query seats c.arcs.core answers.mid answers.opens
          (c.arcs.invariant.1 seats some first) in
          let event = Taken t.number 0 t.state t.arc in
          let taken = All-push (IsTakenBelow seats) answers.mid.journal event opened some in
          rw (c.apply.ensures.journal, answers.gives.journal)
          (All-push (IsTakenBelow seats) (answers.mid.journal ++ event ∷ [])
          (Posted c.judge.result.number c.judge.result.cost) taken tt),
      longer_then c.arcs.invariant.2
          (longer_then (opens_longer g.N.Pass.query c.arcs.core answers.mid answers.opens)
          (longer_then (record { more = Taken t.number 0 t.state t.arc ∷ []; is = answers.gives.journal })
          (record { more = Posted c.judge.result.number c.judge.result.cost ∷ []; is = c.apply.ensures.journal }))),
    )

pub unreachable-requires : goal.unreachable-requires
unreachable-requires g c =
    let answers = rw c.in-Ok-NotYet.field-0-is at c.in-Ok-NotYet.ensures.answers in
    let same = opens_keep g.N.Pass.query c.arcs.core answers.mid answers.opens in
    let waits = answers.not_yet.0 tt in
    omega (arith, waits.some_out, ap length (same.0 ∙ c.arcs.invariant.0))

pub returns-in-Ok-Over-clause-seats : goal.returns-in-Ok-Over-clause-seats
returns-in-Ok-Over-clause-seats g c seats some first =
    let answers = rw c.in-Ok-Over.field-0-is at c.in-Ok-Over.ensures.answers in
    rw answers.gives
    (opens_taken g.N.Pass.query seats c.arcs.core answers.mid answers.opens (c.arcs.invariant.1 seats some first))

pub returns-in-Ok-Spent-clause-seats : goal.returns-in-Ok-Spent-clause-seats
returns-in-Ok-Spent-clause-seats g c seats some first =
    let answers = rw c.in-Ok-Spent.field-0-is at c.in-Ok-Spent.ensures.answers in
    rw answers.gives
    (opens_taken g.N.Pass.query seats c.arcs.core answers.mid answers.opens (c.arcs.invariant.1 seats some first))

pub arcs-init : goal.arcs-init
arcs-init g c = (c.requires.out, λ seats some first. first, longer_none c.args.core.journal)

pub returns-in-Ok-Over-clause-longer : goal.returns-in-Ok-Over-clause-longer
returns-in-Ok-Over-clause-longer g c =
    let answers = rw c.in-Ok-Over.field-0-is at c.in-Ok-Over.ensures.answers in
    rw answers.gives
    (longer_then c.arcs.invariant.2 (opens_longer g.N.Pass.query c.arcs.core answers.mid answers.opens))

pub returns-in-Ok-Spent-clause-longer : goal.returns-in-Ok-Spent-clause-longer
returns-in-Ok-Spent-clause-longer g c =
    let answers = rw c.in-Ok-Spent.field-0-is at c.in-Ok-Spent.ensures.answers in
    rw answers.gives
    (longer_then c.arcs.invariant.2 (opens_longer g.N.Pass.query c.arcs.core answers.mid answers.opens))
