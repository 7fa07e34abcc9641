use Rattle.std.proofs.Common.{◌≡◌, ◌<◌, ◌+◌, ◌*◌, ◌/◌, ◌%◌, Some, length, slice_get, slice_index, slice_index_or, arith, ap, sym, ◌∙◌}
use Rattle.std.proofs.lemmas.List.{get_or_read}
use Rattle.std.proofs.lemmas.Option.{slice_get-get_or}
use Rattle.sbpl_pages.specs.Pages.{elements, element, place_of}
use Rattle.sbpl_pages.proofs.Paging.{elements_length, element_of, place_inside}
use Rattle.sbpl_pages.proofs.paged.Paged.get.Goals as goal

pub index-frame-requires : goal.index-frame-requires
index-frame-requires g c = omega (
  arith,
  c.requires.inside,
  ap length c.self.view_is,
  elements_length c.self.inside.table.items c.self.inside.frames.items c.self.inside.initial 0 c.self.inside.len,
  c.self.invariant.1,
)

pub index-requires : goal.index-requires
index-requires g c =
    let a = c.self.inside in
    let kept = c.self.invariant.0 in
    let size = elements_length a.table.items a.frames.items a.initial 0 a.len in
    let inside : c.args.i / 256 < length a.table.items =
    omega (arith, c.requires.inside, ap length c.self.view_is, size, c.self.invariant.1) in
    let frame : slice_index a.table.items (c.args.i / 256) ≡ c.index-frame.result.now =
    sym (get_or_read a.table.items (c.args.i / 256) c.index-frame.result.now inside c.index-frame.ensures 0) in
    omega (arith, frame, place_inside a.table.items a.opened.items a.frames.items c.args.i kept.pages kept.framed.each)

pub returns : goal.returns
returns g c =
    let a = c.self.inside in
    let kept = c.self.invariant.0 in
    let size = elements_length a.table.items a.frames.items a.initial 0 a.len in
    let small : c.args.i < a.len = omega (arith, c.requires.inside, ap length c.self.view_is, size) in
    let inside : c.args.i / 256 < length a.table.items = omega (arith, small, c.self.invariant.1) in
    let frame : slice_index a.table.items (c.args.i / 256) ≡ c.index-frame.result.now =
    sym (get_or_read a.table.items (c.args.i / 256) c.index-frame.result.now inside c.index-frame.ensures 0) in
    let place : c.index-frame.result.now * 256 + c.args.i % 256 ≡ place_of a.table.items c.args.i = omega (arith, frame) in
    let lies : c.index-frame.result.now * 256 + c.args.i % 256 < length a.frames.items =
    omega (arith, frame, place_inside a.table.items a.opened.items a.frames.items c.args.i kept.pages kept.framed.each) in
    let read : c.index.result.now ≡ element a.table.items a.frames.items a.initial c.args.i =
    get_or_read a.frames.items (c.index-frame.result.now * 256 + c.args.i % 256) c.index.result.now lies c.index.ensures a.initial
    ∙ ap (λ place. slice_index_or a.frames.items place a.initial) place in
    record {
      value =
          slice_get-get_or c.args.self.now c.args.i c.index.result.now c.requires.inside
          ∙ ap Some (ap (λ list. slice_index_or list c.args.i c.index.result.now) (sym c.self.view_is)
          ∙ element_of a.table.items a.frames.items a.initial a.len c.args.i c.index.result.now small ∙ sym read);
    }
