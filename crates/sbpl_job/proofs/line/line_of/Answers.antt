use Rattle.std.proofs.Common.{◌∙◌, List, ℕ, ap₂, fold, subst}
use Rattle.clap.specs.Simple.{with_rule}
use Rattle.clap.specs.Walk.{Rule}
use Rattle.sbpl_job.specs.Lines.{IsLine, bare}
use Rattle.sbpl_job.proofs.Lining.{line_is}
use Rattle.sbpl_job.proofs.line.line_of.Goals as goal

pub returns : goal.returns
returns c =
    let is =
    ap₂ (λ (word : List ℕ) (rules : List Rule). fold with_rule (bare word) rules)
    c.word_of-word.ensures.word c.arguments_of.ensures.arguments ∙ line_is c.args.command in
    record {
      app = subst (IsLine c.with_arguments.result) is (c.with_arguments.ensures.app _ c.bare-line.ensures.app);
    }
