use Rattle.std.proofs.lemmas.Result.{on_ok_weaker}
use Rattle.sbpl_cert.proofs.Lines.{path_grows}
use Rattle.sbpl_cert.proofs.writing.push_path.Goals as goal

pub returns : goal.returns
returns c = record {
  ok =
      on_ok_weaker _ (path_grows c.args.cost c.args.bound c.args.arcs.now _ c.in_ok-push_all.ensures.appended
      c.in_ok-push_words.ensures.appended) c.push_bytes.ensures.appended;
}
