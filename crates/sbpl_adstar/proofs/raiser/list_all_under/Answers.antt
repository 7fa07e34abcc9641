use Rattle.std.proofs.Common.{◌≡◌, ◌+◌, ◌∷◌, [], arith, refl}
use Rattle.std.proofs.lemmas.Bool.{false≢true}
use Rattle.std.proofs.lemmas.List.{length-append}
use Rattle.sbpl_ara.specs.sbpl_labels.Marks.{states_of}
use Rattle.sbpl_ara.specs.sbpl_serial.Run.{IsUnder}
use Rattle.sbpl_adstar.proofs.Listing.{listing_all, listing_more, listing_passed, listing_upwards, room_for}
use Rattle.sbpl_adstar.proofs.raiser.list_all_under.Goals as goal
use Rattle.sbpl_adstar.proofs.raiser.list_all_under.Goals.{then-is_under, else-is_under}

pub push_reserved-requires : goal.push_reserved-requires
push_reserved-requires c =
    let s = c.loop-s.s in
    let under : IsUnder c.args.labels.now s = (c.if-is_under.ensures).under.0 refl in
    let few =
    room_for (s + 1) (listing_more s c.loop-s.invariant.0 (λ j before. before) under)
    (λ j before. omega (arith, before, c.loop-s-test.true, c.requires.count)) in
    omega (
      arith,
      few,
      c.loop-s.list.ok.0,
      c.loop-s.invariant.1,
      c.requires.room,
      length-append c.loop-s.list.items (s ∷ []),
    )

pub loop-s-preserved : goal.loop-s-preserved
loop-s-preserved c =
    let s = c.loop-s.s in
    let here = c.loop-s.invariant.0 in
    elim c.if-is_under.branch [
      | then-is_under w ↦
          let under : IsUnder c.args.labels.now s = (w.if-is_under.ensures).under.0 refl in
          rw (w.list-is, w.push_reserved.ensures.items, w.push_reserved.ensures.capacity)
          (listing_more s here (λ j before. before) under, c.loop-s.invariant.1)
      | else-is_under w ↦
          rw w.list-is (
            listing_passed s here (λ under. false≢true ((w.if-is_under.ensures).under.1 under)),
            c.loop-s.invariant.1,
          )
    ]

pub returns-clause-listed : goal.returns-clause-listed
returns-clause-listed c =
    let all : states_of c.args.labels.now ≡ c.loop-s.s =
    omega (arith, c.loop-s-test.false, c.loop-s.auto.s-end, c.requires.count) in
    listing_all c.loop-s.s c.loop-s.invariant.0 (λ j before. omega (arith, all, before))
    (λ s within under. (s, omega (arith, within, all), refl))

pub returns-clause-upwards : goal.returns-clause-upwards
returns-clause-upwards c = listing_upwards c.loop-s.s c.loop-s.invariant.0
