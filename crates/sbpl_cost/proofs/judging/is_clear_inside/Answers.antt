use Rattle.std.proofs.Common.{◌≡◌, ◌<◌, ◌≤◌, ◌+◌, pos, ◌+ℤ◌, arith, w64}
use Rattle.std.proofs.lemmas.Int.{ints, to_z-of_z}
use Rattle.sbpl_cost.proofs.Clearing.{clear_below, ends_inside, wall_blocks}
use Rattle.sbpl_cost.proofs.Reaching.{fits}
use Rattle.sbpl_cost.proofs.judging.is_clear_inside.Goals as goal

-- the row and the first column of the strip on the map
row_is : (c : goal.After-struct_known-1) → pos c.args.y +ℤ c.args.strip.y ≡ pos c.moved.result
row_is c = rw (to_z-of_z w64 c.args.strip.y (fits c.args.strip.y c.requires.near.1)) at c.moved.ensures.there

from_is : (c : goal.After-struct_known-1) → pos c.args.x +ℤ c.args.strip.from ≡ pos c.moved-2.result
from_is c = rw (to_z-of_z w64 c.args.strip.from (fits c.args.strip.from c.requires.near.0)) at c.moved-2.ensures.there

high : (c : goal.After-struct_known-1) → c.moved.result < c.args.map.now.height
high c = omega (arith, ints, row_is c, c.requires.first.high)

right : (c : goal.After-struct_known-1) → c.moved-2.result + c.args.strip.len ≤ c.args.map.now.width
right c = omega (arith, ints, from_is c, c.requires.last)

pub none_between-requires : goal.none_between-requires
none_between-requires c =
    rw c.width.ensures.value (record {
      inside =
          ends_inside c.args.map.now c.args.limit c.args.walls.now c.width.ensures.kept c.requires.walls c.moved.result
          c.moved-2.result c.args.strip.len c.requires.some (high c) (right c);
    })

pub returns-clause-below : goal.returns-clause-below
returns-clause-below c = λ clear.
    clear_below c.args.map.now c.args.limit c.width.ensures.kept c.args.x c.args.y c.args.strip c.args.walls.now
    c.requires.walls c.moved.result c.moved-2.result (row_is c.before) (from_is c.before)
    (high c.before) (right c.before) (rw (← c.width.ensures.value) (c.none_between.ensures.none clear))

pub returns-clause-blocked : goal.returns-clause-blocked
returns-clause-blocked c = λ wall.
    let some = rw c.width.ensures.value at c.none_between.ensures.some wall in
    wall_blocks c.args.map.now c.args.limit c.width.ensures.kept c.args.x c.args.y c.args.strip c.args.walls.now
    c.requires.walls c.moved.result c.moved-2.result (row_is c.before) (from_is c.before)
    (high c.before) (right c.before) some.0 some.1 some.2 some.3
