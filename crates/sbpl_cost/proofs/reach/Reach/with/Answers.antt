use Rattle.std.proofs.Common.{◌≡◌, ◌≤◌, pos, ◌-◌, ◌+ℤ◌, SFits, w64, arith, nat_abs}
use Rattle.std.proofs.lemmas.Int.{ints, to_z-of_z}
use Rattle.sbpl_cost.proofs.Reaching.{fits, near_distance, near_from, near_last, near_row, strip_within, up_to}
use Rattle.sbpl_cost.proofs.reach.Reach.with.Goals as goal

-- the offset of the last cell from the first fits
count_fits : (c : goal.After-struct_told-1) → SFits w64 c.from.result
count_fits c =
    let from = near_from c.args.strip c.requires.some c.requires.near in
    let last = near_last c.args.strip c.requires.some c.requires.near in
    record { sfits = omega (arith, ints, c.from.ensures, from.0, last.1) }

pub overflow_add-last : goal.overflow_add-last
overflow_add-last c =
    let from = near_from c.args.strip c.requires.some c.requires.near in
    let last = near_last c.args.strip c.requires.some c.requires.near in
    rw (
      to_z-of_z w64 c.args.strip.from (fits c.args.strip.from from),
      to_z-of_z w64 c.from.result (count_fits c),
      c.from.ensures,
    ) (fits (c.args.strip.from +ℤ pos (c.args.strip.len - 1)) last)

-- the distances of the first cell, of the last one and of the row, and that the reach has them
first_far : (c : goal.After-max-2) → nat_abs c.args.strip.from ≤ c.max.result
first_far c =
    let from = near_from c.args.strip c.requires.some c.requires.near in
    let is = rw (to_z-of_z w64 c.args.strip.from (fits c.args.strip.from from)) at c.unsigned_abs.ensures.value in
    omega (arith, c.max.ensures, c.max-columns.ensures, is)

sum_is : (c : goal.After-max-2) → c.unsigned_abs-2.result ≡ nat_abs (c.args.strip.from +ℤ pos (c.args.strip.len - 1))
sum_is c =
    let from = near_from c.args.strip c.requires.some c.requires.near in
    let last = near_last c.args.strip c.requires.some c.requires.near in
    let count : SFits w64 c.from.result = record { sfits = omega (arith, ints, c.from.ensures, from.0, last.1) } in
    rw (
      to_z-of_z w64 c.args.strip.from (fits c.args.strip.from from),
      to_z-of_z w64 c.from.result count,
      c.from.ensures,
      to_z-of_z w64 (c.args.strip.from +ℤ pos (c.args.strip.len - 1)) (fits _ last),
    ) at c.unsigned_abs-2.ensures.value

last_far : (c : goal.After-max-2) → nat_abs (c.args.strip.from +ℤ pos (c.args.strip.len - 1)) ≤ c.max.result
last_far c = omega (arith, c.max.ensures, c.max-columns.ensures, sum_is c)

row_is : (c : goal.After-max-2) → c.unsigned_abs-3.result ≡ nat_abs c.args.strip.y
row_is c =
    let row = near_row c.args.strip c.requires.some c.requires.near in
    rw (to_z-of_z w64 c.args.strip.y (fits c.args.strip.y row)) at c.unsigned_abs-3.ensures.value

pub returns-clause-reach : goal.returns-clause-reach
returns-clause-reach c =
    let from = near_from c.args.strip c.requires.some c.requires.near in
    let is = rw (to_z-of_z w64 c.args.strip.from (fits c.args.strip.from from)) at c.unsigned_abs.ensures.value in
    let first = near_distance c.args.strip.from from in
    let last =
    near_distance (c.args.strip.from +ℤ pos (c.args.strip.len - 1))
    (near_last c.args.strip c.requires.some c.requires.near) in
    let row = near_distance c.args.strip.y (near_row c.args.strip c.requires.some c.requires.near) in (
      omega (arith, c.requires.reach.0, c.max.ensures, c.max-columns.ensures, is, sum_is c, first, last),
      omega (arith, c.requires.reach.1, c.max-2.ensures, row_is c, row),
    )

pub returns-clause-within : goal.returns-clause-within
returns-clause-within c =
    strip_within c.args.strip (record { columns = c.max.result; rows = c.max-2.result })
    (up_to _ c.max.result (first_far c)) (up_to _ c.max.result (last_far c))
    (up_to c.args.strip.y c.max-2.result (omega (arith, c.max-2.ensures, row_is c)))
