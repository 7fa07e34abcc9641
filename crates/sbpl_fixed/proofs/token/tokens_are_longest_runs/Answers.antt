use Rattle.std.proofs.Common.{true}
use Rattle.sbpl_fixed.proofs.Following.{tokens_go_on}
use Rattle.sbpl_fixed.proofs.Runs.{each_is_run, run_is_one, tokens_above}
use Rattle.sbpl_fixed.proofs.token.tokens_are_longest_runs.Goals as goal

pub returns-clause-each : goal.returns-clause-each
returns-clause-each c text = each_is_run true 0 text

pub returns-clause-all : goal.returns-clause-all
returns-clause-all c text t r = run_is_one text t r

pub returns-clause-order : goal.returns-clause-order
returns-clause-order c text = tokens_above true 0 text

pub returns-clause-on : goal.returns-clause-on
returns-clause-on c = tokens_go_on
