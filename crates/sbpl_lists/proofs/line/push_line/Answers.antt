use Rattle.std.proofs.lemmas.Result.{on_ok_weaker}
use Rattle.sbpl_lists.proofs.Lines.{line_of_none, line_written}
use Rattle.sbpl_lists.proofs.line.push_line.Goals as goal

pub returns-in_default : goal.returns-in_default
returns-in_default g c = record {
  appended =
      on_ok_weaker _ (line_of_none g.W.Word.text _ c.args.words.now c.in_default.ensures.cases)
      c.push_bytes.ensures.appended;
}

pub returns : goal.returns
returns g c = record {
  appended =
      on_ok_weaker _ (line_written g.W.Word.text _ c.in-Some.ensures.cases.0 c.in_ok-push.ensures.appended
      c.in_ok-push_words.ensures.appended) c.push_bytes-2.ensures.appended;
}
