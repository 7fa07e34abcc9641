use Rattle.std.proofs.Common.{◌≡◌, ◌<◌, ◌+◌, ◌*◌, ◌/◌, ◌%◌, length, slice_index, slice_set, arith, ap, ◌∙◌}
use Rattle.std.proofs.lemmas.List.{with_items_is}
use Rattle.sbpl_pages.specs.Pages.{elements, place_of}
use Rattle.sbpl_pages.proofs.Paging.{elements_length, elements_same, element_set, place_inside}
use Rattle.sbpl_pages.proofs.paged.Paged.set.Goals as goal

pub own-frame-requires-clause-page : goal.own-frame-requires-clause-page
own-frame-requires-clause-page g c =
    let a = c.self.inside in
    omega (
      arith,
      c.requires.inside,
      ap length c.self.view_is,
      elements_length a.table.items a.frames.items a.initial 0 a.len,
      c.self.invariant.1,
      c.deref_mut.ensures.value,
      c.deref_mut.ensures.len,
    )

pub index_mut-requires : goal.index_mut-requires
index_mut-requires g c =
    let kept = c.own-frame.ensures.kept in
    omega (
      arith,
      c.own-frame.ensures.frame,
      place_inside c.own-frame.new.table c.own-frame.new.opened.items c.own-frame.new.frames.items c.args.i kept.pages
          kept.framed.each,
    )

pub returns : goal.returns
returns g c =
    let a = c.self.inside in
    let kept = c.own-frame.ensures.kept in
    let i = c.args.i in
    let size = elements_length a.table.items a.frames.items a.initial 0 a.len in
    let small : i < a.len = omega (arith, c.requires.inside, ap length c.self.view_is, size) in
    let place : c.own-frame.result * 256 + i % 256 ≡ place_of c.own-frame.new.table i = omega (arith, c.own-frame.ensures.frame) in
    let some : 0 < slice_index c.own-frame.new.table (i / 256) = omega (arith, c.own-frame.ensures.frame, c.own-frame.ensures.own) in
    record {
      list =
          rw (with_items_is a.table c.own-frame.new.table (omega arith), place)
          (element_set c.own-frame.new.table c.own-frame.new.opened.items c.own-frame.new.frames.items a.initial kept.pages kept.framed.each i
          some c.args.value a.len small
          ∙ ap (λ list. slice_set list i c.args.value)
          (elements_same c.deref_mut.result.now c.own-frame.new.table a.frames.items c.own-frame.new.frames.items a.initial a.initial
          c.own-frame.ensures.same 0 a.len
          ∙ ap (λ table. elements table a.frames.items a.initial 0 a.len) c.deref_mut.ensures.value ∙ c.self.view_is));
    }
