use Rattle.sbpl_live.proofs.LineLaws.{fault_alike, no_fault_of_saying, one_fault, one_saying, says_alike, says_or_faulty}
use Rattle.sbpl_live.proofs.law.lines_say_or_are_faulty.Goals as goal

pub returns : goal.returns
returns c = record {
  either = says_or_faulty;
  not_both = no_fault_of_saying;
  one_saying = one_saying;
  one_fault = one_fault;
  same_saying = says_alike;
  same_fault = fault_alike;
}
