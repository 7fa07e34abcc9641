use Rattle.std.proofs.Common.{◌≡◌, ◌*◌, ◌<◌, ◌≤◌, ◌-ℤ◌, pos, inl, inr, arith, ap, sym, ◌∙◌, rules, slice_index, get_or}
use Rattle.std.proofs.Math.Nat.{mul-le-mul}
use Rattle.std.proofs.lemmas.Bool.{cases_lt}
use Rattle.std.proofs.lemmas.Option.{same_Some, slice_get-get_or, get_or_from_slice_get}
use Rattle.sbpl_heur.specs.declared.hop.Hop.{Hop}
use Rattle.sbpl_heur.specs.Boards.{cell_in}
use Rattle.sbpl_heur.proofs.cells.first_farther.Goals as goal

abbrev none : Hop
none = record { dx = pos 0; dy = pos 0; cost = 0 }

pub inner_before-start-requires-clause-column : goal.inner_before-start-requires-clause-column
inner_before-start-requires-clause-column c =
    c.requires.inner.column c.loop-j.j _ (slice_get-get_or c.args.hops.now c.loop-j.j none c.loop-j-test.true)

pub inner_before-start-requires-clause-row : goal.inner_before-start-requires-clause-row
inner_before-start-requires-clause-row c =
    c.requires.inner.row c.loop-j.j _ (slice_get-get_or c.args.hops.now c.loop-j.j none c.loop-j-test.true)

pub overflow_mul-hop : goal.overflow_mul-hop
overflow_mul-hop c =
    let light = c.requires.light c.loop-j.j _ (slice_get-get_or c.args.hops.now c.loop-j.j none c.loop-j-test.true) in
    let most : (get_or c.args.hops.now c.loop-j.j none).cost * c.args.times ≤ 16777215 * 256 =
    mul-le-mul light.1 c.requires.times in
    let fits : (get_or c.args.hops.now c.loop-j.j none).cost * c.args.times < 4294967296 = omega (arith, most) in
    search rules

pub loop-j-preserved : goal.loop-j-preserved
loop-j-preserved c = λ i a h late before at start. elim (cases_lt i c.loop-j.j) [
  | inl earlier ↦ c.loop-j.invariant i a h late earlier at start
  | inr here ↦
      let hops = c.args.hops.now in
      let same : c.loop-j.j ≡ i = omega (arith, here, before) in
      let hop : get_or hops c.loop-j.j none ≡ h =
      ap (λ n. get_or hops n none) same ∙ get_or_from_slice_get hops i h none at in
      let there : c.inner_before-start.result ≡ a =
      same_Some c.inner_before-start.result a (sym c.inner_before-start.ensures.value
      ∙ ap (λ (z : Hop). cell_in c.args.env.now (pos c.args.spot.x -ℤ z.dx) (pos c.args.spot.y -ℤ z.dy)) hop ∙ start) in
      let cost : (get_or hops c.loop-j.j none).cost * c.args.times ≡ h.cost * c.args.times =
      ap (λ (z : Hop). z.cost * c.args.times) hop in
      let distance : get_or c.args.distances.now c.inner_before-start.result 0 ≡ slice_index c.args.distances.now a =
      ap (λ n. get_or c.args.distances.now n 0) there in
      omega (arith, c.if-from-distance.false, c.from.ensures, cost, distance)
]

pub returns-clause-skipped : goal.returns-clause-skipped
returns-clause-skipped c = λ j a h late before at start.
    c.loop-j.invariant j a h late (omega (arith, before, c.loop-j-test.false)) at start
