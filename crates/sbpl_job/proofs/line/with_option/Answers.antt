use Rattle.std.proofs.Common.{◌≡◌, false, Some, ap, subst}
use Rattle.std.proofs.lemmas.Result.{IfOk-weaker}
use Rattle.clap.specs.Walk.{Rule, rule_of}
use Rattle.clap.specs.Simple.{app_of}
use Rattle.sbpl_job.specs.Lines.{IsLine, option_rule}
use Rattle.sbpl_job.proofs.line.with_option.Goals as goal

pub returns : goal.returns
returns c =
    let local : c.help.result.global ≡ false =
    rw (c.help.ensures, c.value_name.ensures, c.long.ensures) c.new.ensures.optional.1 in
    let ruled : rule_of c.help.result ≡ option_rule c.args.id.now =
    rw (c.help.ensures, c.value_name.ensures, c.long.ensures)
    (ap (λ (r : Rule). record r { long = Some c.args.id.now; value_names = 1 }) c.new.ensures.rule) in
    record {
      app = λ a is.
          let entry : app_of c.in_ok-line.field-0 ≡ a = subst (λ line. IsLine line a) c.in_ok-line.was is in
          IfOk-weaker c.arg.result _ _ (λ l adds. rw (← ruled, ← entry) (adds.shape local)) c.arg.ensures;
    }
