use Rattle.std.proofs.Common.{◌+◌, ◌*◌, ◌-◌, ◌%◌, Result, Ok, Err, refl, arith}
use Rattle.std.specs.Result.{OnErr}
use Rattle.sbpl_nav2d.specs.Adding.{ReadsBelow}
use Rattle.sbpl_nav2d.specs.Grids.{network_of}
use Rattle.sbpl_nav2d.proofs.Adding.{no_direction, next_direction, extends_by, extends_on}
use Rattle.sbpl_nav2d.proofs.reading.push_ends.Goals as goal

on_err : {T E P : Type 0} (r : Result T E) → P → OnErr r P
on_err (Ok x) p = tt
on_err (Err e) p = p

pub loop-k-init : goal.loop-k-init
loop-k-init c = no_direction c.args.end c.args.nav.now c.args.cell c.args.into.now.items c.args.into.now.items 0 refl

pub returns-in_err-push_ends_in-clause-front : goal.returns-in_err-push_ends_in-clause-front
returns-in_err-push_ends_in-clause-front c =
    let before = extends_by c.args.end (network_of c.args.nav.now)
    (ReadsBelow c.args.nav.now c.loop-k.k c.args.cell) c.args.into.now.items c.loop-k.into.items _ c.loop-k.invariant in
    on_err c.from_residual.result
    (extends_on c.args.into.now.items c.loop-k.into.items c.push_ends_in.new.into.items before
    c.in_err-push_ends_in.ensures.front)

pub loop-k-preserved : goal.loop-k-preserved
loop-k-preserved c =
    next_direction c.args.end c.args.nav.now c.args.cell c.loop-k.k c.args.into.now.items c.loop-k.into.items
    c.push_ends_in.new.into.items (3 * c.loop-k.k - c.loop-k.k % 2) (2 + 2 * (c.loop-k.k % 2)) _
    c.loop-k.invariant c.in_ok-push_ends_in.ensures.added (omega arith)
