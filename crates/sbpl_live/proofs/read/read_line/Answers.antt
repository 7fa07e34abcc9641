use Rattle.sbpl_live.specs.Lines.{scope_of}
use Rattle.sbpl_live.proofs.LineLaws.{Verdict, fault_of, heard_verdict, said_of}
use Rattle.sbpl_live.proofs.Ranges.{ranges_of}
use Rattle.sbpl_live.proofs.read.read_line.Goals as goal

pub returns : goal.returns
returns c =
    let s = scope_of c.args.states c.args.map.now c.args.headings in
    let line = c.args.line.now in
    let true_of : Verdict s line c.heard.result = rw c.heard.ensures.said (heard_verdict s line) in
    let said = said_of s line c.heard.result true_of in
    record { said = said; faulty = fault_of s line c.heard.result true_of; ranges = ranges_of s line c.heard.result said }
