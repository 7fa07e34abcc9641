use Rattle.std.proofs.Common.{◌≡◌, ◌+◌, ◌∷◌, [], length, slice_index, arith, refl}
use Rattle.std.proofs.lemmas.Bool.{false≢true}
use Rattle.std.proofs.lemmas.List.{length-append}
use Rattle.sbpl_ara.specs.sbpl_serial.Run.{IsUnder}
use Rattle.sbpl_adstar.proofs.Listing.{found_in, listing_all, listing_more, listing_passed, listing_upwards, rises, room_for, within_row}
use Rattle.sbpl_adstar.proofs.raiser.list_under.Goals as goal
use Rattle.sbpl_adstar.proofs.raiser.list_under.Goals.{then-is_under, else-is_under}

pub push_reserved-requires : goal.push_reserved-requires
push_reserved-requires c =
    let i = c.loop-s.s-index in
    let states = c.args.states.now in
    let here = c.loop-s.invariant.0 in
    let under : IsUnder c.args.labels.now (slice_index states i) = (c.if-is_under.ensures).under.0 refl in
    let few =
    room_for (i + 1) (listing_more i here (rises states c.requires.upwards i c.loop-s-test.true) under)
    (within_row states _ c.requires.inside (i + 1) (omega (arith, c.loop-s-test.true))) in
    omega (
      arith,
      few,
      c.loop-s.list.ok.0,
      c.loop-s.invariant.1,
      c.requires.room,
      length-append c.loop-s.list.items (slice_index states i ∷ []),
    )

pub loop-s-preserved : goal.loop-s-preserved
loop-s-preserved c =
    let i = c.loop-s.s-index in
    let here = c.loop-s.invariant.0 in
    elim c.if-is_under.branch [
      | then-is_under w ↦
          let under : IsUnder c.args.labels.now (slice_index c.args.states.now i) = (w.if-is_under.ensures).under.0 refl in
          rw (w.list-is, w.push_reserved.ensures.items, w.push_reserved.ensures.capacity)
          (listing_more i here (rises c.args.states.now c.requires.upwards i c.loop-s-test.true) under, c.loop-s.invariant.1)
      | else-is_under w ↦
          rw w.list-is (
            listing_passed i here (λ under. false≢true ((w.if-is_under.ensures).under.1 under)),
            c.loop-s.invariant.1,
          )
    ]

pub returns-clause-listed : goal.returns-clause-listed
returns-clause-listed c =
    let states = c.args.states.now in
    let all : c.loop-s.s-index ≡ length states = omega (arith, c.loop-s-test.false, c.loop-s.auto.s-index-end) in
    listing_all (length states) (rw all at c.loop-s.invariant.0)
    (within_row states _ c.requires.inside (length states) (omega arith))
    (λ s within under. found_in states s (c.requires.under s within under))

pub returns-clause-upwards : goal.returns-clause-upwards
returns-clause-upwards c = listing_upwards c.loop-s.s-index c.loop-s.invariant.0
