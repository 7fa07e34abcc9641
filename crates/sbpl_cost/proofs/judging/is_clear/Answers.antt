use Rattle.std.proofs.Common.{◌+◌, ◌<◌, ◌≤◌, inl, inr, ⊎_elim, arith, SFits, w64}
use Rattle.std.proofs.lemmas.Int.{ints, to_z-of_z}
use Rattle.sbpl_cost.proofs.Clearing.{clear_below, ends_inside, off_first, off_last, off_row, wall_blocks}
use Rattle.sbpl_cost.proofs.judging.is_clear.Goals.{then-row-height-via-then-row-height}
use Rattle.sbpl_cost.proofs.judging.is_clear.Goals.{then-row-height-via-else-row-height+then-from-len}
use Rattle.sbpl_cost.proofs.judging.is_clear.Goals as goal

pub returns-in_default-clause-blocked : goal.returns-in_default-clause-blocked
returns-in_default-clause-blocked c = λ _.
    let fits : SFits w64 c.args.strip.y = record { sfits = omega (arith, ints, c.requires.y.0, c.requires.y.1) } in
    let off = rw (to_z-of_z w64 c.args.strip.y fits) at c.in_default.ensures.off in
    let kept = c.height.ensures.kept in
    off_row c.args.map.now c.args.limit kept c.args.x c.args.y c.args.strip c.requires.some
    (⊎_elim (λ low. inl low) (λ far. inr (omega (arith, ints, far, kept.height.1))) off)

pub returns-in_default-shifted-clause-blocked : goal.returns-in_default-shifted-clause-blocked
returns-in_default-shifted-clause-blocked c = λ _.
    let fits : SFits w64 c.args.strip.from =
    record { sfits = omega (arith, ints, c.requires.from.0, c.requires.from.1) } in
    let off = rw (to_z-of_z w64 c.args.strip.from fits) at c.in_default-shifted.ensures.off in
    let kept = c.height.ensures.kept in
    off_first c.args.map.now c.args.limit kept c.args.x c.args.y c.args.strip c.requires.some
    (⊎_elim (λ low. inl low) (λ far. inr (omega (arith, ints, far, kept.width.1))) off)

pub returns-then-row-height-clause-blocked : goal.returns-then-row-height-clause-blocked
returns-then-row-height-clause-blocked c = λ _.
    let fits_y : SFits w64 c.args.strip.y = record { sfits = omega (arith, ints, c.requires.y.0, c.requires.y.1) } in
    let fits_x : SFits w64 c.args.strip.from =
    record { sfits = omega (arith, ints, c.requires.from.0, c.requires.from.1) } in
    let row = rw (to_z-of_z w64 c.args.strip.y fits_y) at c.in-Some.ensures.there in
    let from = rw (to_z-of_z w64 c.args.strip.from fits_x) at c.in-Some-shifted.ensures.there in
    let kept = c.height.ensures.kept in
    elim c.then-row-height.branch [
      | then-row-height-via-then-row-height w ↦
          off_row c.args.map.now c.args.limit kept c.args.x c.args.y c.args.strip c.requires.some
          (inr (omega (arith, ints, row, w.if-row-height.true, c.height.ensures.value)))
      | then-row-height-via-else-row-height+then-from-len w ↦
          off_last c.args.map.now c.args.limit kept c.args.x c.args.y c.args.strip c.requires.some
          c.in-Some-shifted.from from (omega (arith, w.if-from-len.true, c.width.ensures.value))
    ]

pub none_between-requires : goal.none_between-requires
none_between-requires c =
    let high : c.in-Some.row < c.args.map.now.height = omega (arith, c.if-row-height.false, c.height.ensures.value) in
    let right : c.in-Some-shifted.from + c.args.strip.len ≤ c.args.map.now.width =
    omega (arith, c.if-from-len.false, c.width.ensures.value) in
    rw c.width.ensures.value (record {
      inside =
          ends_inside c.args.map.now c.args.limit c.args.walls.now c.height.ensures.kept c.requires.walls c.in-Some.row
          c.in-Some-shifted.from c.args.strip.len c.requires.some high right;
    })

pub returns-clause-below : goal.returns-clause-below
returns-clause-below c = λ clear.
    let fits_y : SFits w64 c.args.strip.y = record { sfits = omega (arith, ints, c.requires.y.0, c.requires.y.1) } in
    let fits_x : SFits w64 c.args.strip.from =
    record { sfits = omega (arith, ints, c.requires.from.0, c.requires.from.1) } in
    let row = rw (to_z-of_z w64 c.args.strip.y fits_y) at c.in-Some.ensures.there in
    let from = rw (to_z-of_z w64 c.args.strip.from fits_x) at c.in-Some-shifted.ensures.there in
    clear_below c.args.map.now c.args.limit c.height.ensures.kept c.args.x c.args.y c.args.strip c.args.walls.now
    c.requires.walls c.in-Some.row c.in-Some-shifted.from row from
    (omega (arith, c.if-row-height.false, c.height.ensures.value))
    (omega (arith, c.if-from-len.false, c.width.ensures.value))
    (rw (← c.width.ensures.value) (c.none_between.ensures.none clear))

pub returns-clause-blocked : goal.returns-clause-blocked
returns-clause-blocked c = λ wall.
    let fits_y : SFits w64 c.args.strip.y = record { sfits = omega (arith, ints, c.requires.y.0, c.requires.y.1) } in
    let fits_x : SFits w64 c.args.strip.from =
    record { sfits = omega (arith, ints, c.requires.from.0, c.requires.from.1) } in
    let row = rw (to_z-of_z w64 c.args.strip.y fits_y) at c.in-Some.ensures.there in
    let from = rw (to_z-of_z w64 c.args.strip.from fits_x) at c.in-Some-shifted.ensures.there in
    let some = rw c.width.ensures.value at c.none_between.ensures.some wall in
    wall_blocks c.args.map.now c.args.limit c.height.ensures.kept c.args.x c.args.y c.args.strip c.args.walls.now
    c.requires.walls c.in-Some.row c.in-Some-shifted.from row from
    (omega (arith, c.if-row-height.false, c.height.ensures.value))
    (omega (arith, c.if-from-len.false, c.width.ensures.value)) some.0 some.1 some.2 some.3
