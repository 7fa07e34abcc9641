use Rattle.std.proofs.Common.{take, ◌++◌}
use Rattle.std.proofs.KnownBytes.{Appends-trans}
use Rattle.sbpl_desk.proofs.Prefixes.{more_done}
use Rattle.sbpl_desk.proofs.real.write_whole.Goals as goal

pub loop-rest-preserved : goal.loop-rest-preserved
loop-rest-preserved g c =
    let (done, split, appended) = c.loop-rest.invariant in
    let left = c.loop-rest.rest.now in
    let count = c.in-Ok.count in
    (done ++ take count left, more_done _ done left count split, Appends-trans _ _ _ _ _ appended c.in-Ok.ensures.bytes)
