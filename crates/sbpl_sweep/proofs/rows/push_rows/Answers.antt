use Rattle.std.proofs.Common.{◌≡◌, ◌+◌, ◌*◌, ◌∙◌, ap, subst, arith, rules, w64, FitsSigned}
use Rattle.std.proofs.Math.Nat.{mul-le-mul_right}
use Rattle.std.proofs.lemmas.Int.{to_z-of_z}
use Rattle.sbpl_sweep.specs.Sweep.{distance_to_cell}
use Rattle.sbpl_sweep.specs.Reach.{squared_step}
use Rattle.sbpl_sweep.specs.Bands.{gap_beside, AddsRows}
use Rattle.sbpl_sweep.proofs.RowsTouched.{rows_none, rows_more, narrowed_more, row_distance}
use Rattle.sbpl_sweep.proofs.rows.push_rows.Goals as goal

pub loop-n-init : goal.loop-n-init
loop-n-init c = record {
  narrowed = record {
    left_inside = c.requires.left_inside;
    right_inside = c.requires.right_inside;
    before = λ k h. let far = c.requires.left.beyond k h in omega (arith, far);
    after = λ k h. let far = c.requires.right.beyond k h in omega (arith, far);
  };
  added = λ cell radius p disc. rows_none cell radius p c.args.upward c.args.disc.now.row.own c.args.bands.now.items;
}

pub shrunk-left-requires-clause-beyond : goal.shrunk-left-requires-clause-beyond
shrunk-left-requires-clause-beyond c = λ n h.
    let rest =
    subst (λ g. c.rest_of_square-most.result + squared_step g c.args.disc.now.side c.loop-n.n
    ≡ c.args.disc.now.radius * c.args.disc.now.radius)
    c.gap_beside-gap.ensures.value c.rest_of_square-most.ensures.value in
    let far = c.loop-n.invariant.narrowed.before n h in
    omega (arith, rest, far)

pub shrunk-right-requires-clause-beyond : goal.shrunk-right-requires-clause-beyond
shrunk-right-requires-clause-beyond c = λ n h.
    let rest =
    subst (λ g. c.rest_of_square-most.result + squared_step g c.args.disc.now.side c.loop-n.n
    ≡ c.args.disc.now.radius * c.args.disc.now.radius)
    c.gap_beside-gap.ensures.value c.rest_of_square-most.ensures.value in
    let far = c.loop-n.invariant.narrowed.after n h in
    omega (arith, rest, far)

pub band_of-requires-clause-left : goal.band_of-requires-clause-left
band_of-requires-clause-left c =
    let times = mul-le-mul_right {m = 1} {n = c.args.disc.now.side} c.shrunk-left.result c.requires.bounds.side.0 in
    omega (arith, times, c.shrunk-left.ensures.inside)

pub band_of-requires-clause-right : goal.band_of-requires-clause-right
band_of-requires-clause-right c =
    let times = mul-le-mul_right {m = 1} {n = c.args.disc.now.side} c.shrunk-right.result c.requires.bounds.side.0 in
    omega (arith, times, c.shrunk-right.ensures.inside)

pub loop-n-preserved : goal.loop-n-preserved
loop-n-preserved c =
    let rest =
    subst (λ g. c.rest_of_square-most.result + squared_step g c.args.disc.now.side c.loop-n.n
    ≡ c.args.disc.now.radius * c.args.disc.now.radius)
    c.gap_beside-gap.ensures.value c.rest_of_square-most.ensures.value in
    record {
      narrowed =
          narrowed_more c.args.disc.now (gap_beside c.args.upward c.args.disc.now.row) c.loop-n.n
          c.rest_of_square-most.result c.shrunk-left.result c.shrunk-right.result rest
          c.shrunk-left.ensures.reach c.shrunk-right.ensures.reach c.shrunk-left.ensures.inside
          c.shrunk-right.ensures.inside;
      added = λ cell radius p disc.
          let own : FitsSigned w64 c.args.disc.now.row.own = search rules in
          let y : FitsSigned w64 c.row_beside-y.result = search rules in
          let at = simp to_z-of_z at c.band_of.ensures.row ∙ simp to_z-of_z at c.row_beside-y.ensures.value in
          let away = gap_beside c.args.upward c.args.disc.now.row + c.args.disc.now.side * c.loop-n.n in
          rows_more cell radius p c.args.disc.now c.band_of.result c.rest_of_square-most.result c.shrunk-left.result
          c.shrunk-right.result away c.args.upward c.loop-n.n
          c.args.bands.now.items c.loop-n.bands.items c.push.new.self.items
          (record {
            disc = disc;
            before = c.shrunk-left.ensures.reach;
            after = c.shrunk-right.ensures.reach;
            distance =
                ap (λ z. distance_to_cell cell p.y z) at
                ∙ row_distance cell radius p c.args.disc.now disc c.args.upward c.loop-n.n;
            rest = rest;
            first = c.band_of.ensures.first;
            last = c.band_of.ensures.last;
          })
          c.rest_of_square-most.ensures.some at c.in_ok-push.ensures.items
          (c.loop-n.invariant.added cell radius p disc);
    }

pub returns : goal.returns
returns c =
    let end : c.loop-n.n ≡ c.args.rows = omega (arith, c.loop-n.auto.n-end) in
    record {
      rows = λ cell radius p disc. subst (λ n. AddsRows cell radius p c.args.upward c.args.disc.now.row.own n
          c.args.bands.now.items c.loop-n.bands.items) end (c.loop-n.invariant.added cell radius p disc);
    }
