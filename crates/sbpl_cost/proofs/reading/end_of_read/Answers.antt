use Rattle.std.proofs.Common.{Some, pos, ◌-ℤ◌, arith, sym, ap, ◌∙◌}
use Rattle.sbpl_terrain.specs.Ends.{at_end}
use Rattle.sbpl_cost.specs.States.{state_number}
use Rattle.sbpl_terrain.specs.declared.arc_end.ArcEnd.{ArcEnd}
use Rattle.sbpl_cost.proofs.ArcsRead.{ends_found, no_head, no_source, place_some}
use Rattle.sbpl_cost.proofs.reading.end_of_read.Goals as goal

pub returns-in_err-source : goal.returns-in_err-source
returns-in_err-source c = record {
  value = c.from_residual.ensures
      ∙ no_source c.args.end c.args.env.now c.args.prims.now.items (pos c.args.x) (pos c.args.y) c.args.read.now
      c.get-prim.result.now c.get-prim.ensures.prim
      c.in_err-source.ensures.value;
}

pub end_state-requires : goal.end_state-requires
end_state-requires c =
    let good = c.requires.primitives.each c.args.read.now.prim c.get-prim.result.now c.get-prim.ensures.prim in
    record { heading = omega (arith, good.to, c.requires.headings) }

pub returns-in_err-head : goal.returns-in_err-head
returns-in_err-head c = record {
  value =
      c.from_residual-in_err-head.ensures
      ∙ no_head c.args.end c.args.env.now c.args.prims.now.items (pos c.args.x) (pos c.args.y) c.args.read.now
      c.get-prim.result.now c.in_ok-source.source
      c.get-prim.ensures.prim c.in_ok-source.ensures.value (sym c.in_err-head.ensures.value);
}

pub number_of-requires-clause-t : goal.number_of-requires-clause-t
number_of-requires-clause-t c =
    let good = c.requires.primitives.each c.args.read.now.prim c.get-prim.result.now c.get-prim.ensures.prim in
    let at =
    place_some c.args.env.now (pos c.args.x -ℤ c.args.read.now.cell.x) (pos c.args.y -ℤ c.args.read.now.cell.y)
    c.get-prim.result.now.from c.in_ok-source.source (sym c.in_ok-source.ensures.value) in
    omega (arith, good.from, c.requires.headings, at.heading)

pub returns-in-Source : goal.returns-in-Source
returns-in-Source c =
    let ends =
    ends_found c.args.end c.args.env.now c.args.prims.now.items (pos c.args.x) (pos c.args.y) c.args.read.now
    c.get-prim.result.now c.in_ok-source.source
    c.get-prim.ensures.prim c.in_ok-source.ensures.value c.in_ok-head.head (sym c.in_ok-head.ensures.value) in
    record {
      value =
          ap (λ n. Some n) c.number_of.ensures.number
          ∙ ap (λ (e : ArcEnd). Some (at_end e (state_number c.args.env.now c.in_ok-source.source, c.in_ok-head.head)))
          (sym c.in-Source.is) ∙ ends;
    }

pub returns-in-Head : goal.returns-in-Head
returns-in-Head c =
    let ends =
    ends_found c.args.end c.args.env.now c.args.prims.now.items (pos c.args.x) (pos c.args.y) c.args.read.now
    c.get-prim.result.now c.in_ok-source.source
    c.get-prim.ensures.prim c.in_ok-source.ensures.value c.in_ok-head.head (sym c.in_ok-head.ensures.value) in
    record {
      value =
          ap (λ (e : ArcEnd). Some (at_end e (state_number c.args.env.now c.in_ok-source.source, c.in_ok-head.head)))
          (sym c.in-Head.is) ∙ ends;
    }
