use Rattle.std.proofs.Common.{◌≡◌, length, Err, refl, sym, ap, ◌∙◌, arith}
use Rattle.std.proofs.lemmas.Result.{err_from_is_err_and}
use Rattle.std.proofs.lemmas.Bool.Decides.{nat_tests}
use Rattle.sbpl_map.specs.Reading.{drafted, nothing_read, parted}
use Rattle.sbpl_map.proofs.Going.{goes_on, stops, ends, grows}
use Rattle.sbpl_map.proofs.Kept.{answered, as_long}
use Rattle.sbpl_map.proofs.read.read_lines.Goals as goal

pub loop-rest-init : goal.loop-rest-init
loop-rest-init c = (nothing_read, c.in_ok-draft.ensures.empty, refl, omega arith, omega arith)

pub returns-in_err-judged : goal.returns-in_err-judged
returns-in_err-judged c =
    let i = c.loop-rest.invariant in
    let was =
    stops c.args.states c.args.map.now c.args.headings c.loop-rest.number c.loop-rest.rest.now
    c.first_line.result.0.now c.first_line.result.1.now i.0 c.in_err-judged.field-0.0 _
    i.2 c.first_line.ensures.lines (sym c.judged.ensures.said ∙ c.in_err-judged.was) in
    let p = err_from_is_err_and c.from_residual-in_err-judged.result c.from_residual-in_err-judged.ensures.1 in
    record { read = answered _ _ (p.1 ∙ ap (λ e. Err e) p.2 ∙ sym (ap parted was)) }

pub add-requires : goal.add-requires
add-requires c =
    let i = c.loop-rest.invariant in
    let long = as_long c.loop-rest.draft i.0 i.1 in
    record { few = omega (arith, c.requires.short, long, i.3, i.4, c.first_line.ensures.shorter) }

pub overflow_add-number : goal.overflow_add-number
overflow_add-number c = omega (arith, c.requires.short, c.loop-rest.invariant.3)

pub loop-rest-preserved : goal.loop-rest-preserved
loop-rest-preserved c =
    let i = c.loop-rest.invariant in
    let new = drafted i.0 c.loop-rest.number c.in_ok-judged.field-0 in (
      new,
      c.in_ok-add.ensures.added i.0 i.1,
      goes_on c.args.states c.args.map.now c.args.headings c.loop-rest.number c.loop-rest.rest.now
          c.first_line.result.0.now c.first_line.result.1.now i.0 new c.in_ok-judged.field-0 _
          i.2 c.first_line.ensures.lines (sym c.judged.ensures.said ∙ c.in_ok-judged.was) refl,
      omega (arith, i.3, c.first_line.ensures.shorter),
      omega (arith, i.4, grows i.0 new c.loop-rest.number c.in_ok-judged.field-0 refl),
    )

pub returns : goal.returns
returns c =
    let i = c.loop-rest.invariant in
    let none : length c.loop-rest.rest.now ≡ 0 = (let at = c.is_empty.ensures in grind (arith, nat_tests)) in
    let was = ends c.args.states c.args.map.now c.args.headings c.loop-rest.number c.loop-rest.rest.now i.0 _ i.2 none in
    record { read = answered _ _ (c.close.ensures.closed i.0 i.1 ∙ sym (ap parted was)) }
