-- Serial passes are determined.
use Rattle.std.proofs.Common.{sym}
use Rattle.sbpl_serial.specs.Determined.{SerialIsDetermined}
use Rattle.sbpl_serial.specs.Run.{none_closed, closed_after}
use Rattle.sbpl_serial.proofs.Guiding.{guide_at_states, guided_next, guided_rest, run_placed}
use Rattle.sbpl_serial.proofs.Leading.{equal_runs_agree, rest_ends_runs}

pub serial_is_determined : SerialIsDetermined
serial_is_determined = record {
  one = λ q old a b xs ys first second same.
      equal_runs_agree q none_closed old xs ys a b (record { first = first; second = second }) same;
  longest = λ q old a b xs ys first second rest.
      rest_ends_runs q none_closed old xs ys a b (record { first = first; second = second }) rest;
  not_both = λ q actions m rest (s, next). rest.none_below s next.is_open next.below_goal;
  start = λ q old new actions run. (run_placed q none_closed actions old new run).start;
  states = λ q old new actions run. (run_placed q none_closed actions old new run).states;
  no_arc = λ q old new actions run. (run_placed q none_closed actions old new run).no_arc;
  guided = λ q h old new actions alike run.
      guide_at_states q h none_closed actions old new (λ s inside. sym (alike s inside)) run;
  guided_rests = λ q h m actions alike rest.
      guided_rest q h (closed_after none_closed actions) m (λ s inside. sym (alike s inside)) rest;
  guided_goes_on = λ q h m actions alike (s, next).
      (s, guided_next q h (closed_after none_closed actions) m (λ u inside. sym (alike u inside)) s next);
}
