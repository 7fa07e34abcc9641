use Rattle.std.proofs.Common.{◌≡◌, ◌++◌, map, drop}
use Rattle.sbpl_report.specs.Traces.{traced_pass}
use Rattle.sbpl_report.proofs.trace.traced_passes.Given as goal

-- the lines so far, and those of the passes that are left, are all
abbrev pub invariant-loop-pass : goal.invariant-loop-pass
invariant-loop-pass g l =
    l.traced.items ++ map (traced_pass g.N.Traced.line) (drop l.pass-index l.passes)
    ≡ map (traced_pass g.N.Traced.line) l.passes
