use Rattle.std.proofs.lemmas.List.Elements.{Contains-push}
use Rattle.tests_maps.proofs.rows.next_arc.Goals as goal

pub apply-requires : goal.apply-requires
apply-requires g c =
    let answers = rw c.in-Ok-Job.field-0-is at c.in-Ok-Job.ensures.answers in
    record {
      out =
          rw (c.judge.ensures.number, c.judge.ensures.state, c.judge.ensures.arc, answers.gives.taking.out)
          (Contains-push answers.mid.frontier.out (record {
            ticket = c.in-Ok-Job.ticket.number;
            state = c.in-Ok-Job.ticket.state;
            arc = c.in-Ok-Job.ticket.arc;
          }));
    }
