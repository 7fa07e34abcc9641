use Rattle.std.proofs.Common.{◌≡◌, ℕ, suc, ◌+◌, ◌<◌, ◌≤◌, length, slice_index_or, slice_set, vec_capacity, rules, arith, sym, subst}
use Rattle.std.proofs.lemmas.List.{length-set}
use Rattle.sbpl_pages.specs.Pages.{AreListed, AreFrames}
use Rattle.sbpl_pages.proofs.Paging.{opened_fewer, listed_more, framed_more, same_opened}
use Rattle.sbpl_pages.proofs.paged.open.Goals as goal

pub push_reserved-requires : goal.push_reserved-requires
push_reserved-requires g c =
    let kept = c.requires.kept in
    omega (
      arith,
      kept.enough,
      opened_fewer c.args.table.now c.args.opened.now.items c.args.page c.requires.page c.requires.none kept.pages,
    )

pub returns-clause-kept : goal.returns-clause-kept
returns-clause-kept g c =
    let kept = c.requires.kept in
    let table = c.args.table.now in
    let opened = c.args.opened.now.items in
    let frames = c.args.frames.now.items in
    let fewer = opened_fewer table opened c.args.page c.requires.page c.requires.none kept.pages in
    let frame : c.len-frame.result ≡ suc (length opened) = omega (arith, c.len-frame.ensures, c.push_reserved.ensures.len) in
    let longer : length c.resize.new.self.items ≡ length frames + 256 = search rules in
    let kept_frames : (k : ℕ) → k < length frames
    → slice_index_or c.resize.new.self.items k c.args.initial ≡ slice_index_or frames k c.args.initial =
    λ k less. c.resize.ensures.by_index.0 k c.args.initial (omega (arith, less, c.len.ensures)) (omega (arith, less)) in
    let fresh : (k : ℕ) → length frames ≤ k → k < length c.resize.new.self.items
    → slice_index_or c.resize.new.self.items k c.args.initial ≡ c.args.initial =
    λ k more less. c.resize.ensures.by_index.1 k c.args.initial (search rules) (omega (arith, more)) (omega (arith, less, longer, c.len.ensures)) in
    let size = length-set table c.args.page (suc (length opened)) in
    let more : suc (length opened) ≡ length c.push_reserved.new.self.items = omega (arith, c.push_reserved.ensures.len) in
    let listed : AreListed (slice_set table c.args.page (suc (length opened))) c.push_reserved.new.self.items =
    rw c.push_reserved.ensures.items (listed_more table opened c.args.page c.requires.page c.requires.none kept.pages) in
    let framed = framed_more table opened frames c.args.initial c.args.page c.requires.page c.requires.none kept.pages
    kept.framed c.resize.new.self.items longer kept_frames fresh in
    rw frame
    (record {
      pages = listed;
      framed = subst (λ n. AreFrames c.resize.new.self.items c.args.initial n
          (length (slice_set table c.args.page (suc (length opened)))) (vec_capacity c.resize.new.self)) more
          (framed (omega (arith, c.resize.ensures.capacity)) size);
      few_pages = omega (arith, size, kept.few_pages);
      enough = omega (arith, size, kept.enough, c.push_reserved.ensures.capacity);
    })

pub returns-clause-same : goal.returns-clause-same
returns-clause-same g c =
    let kept = c.requires.kept in
    let table = c.args.table.now in
    let opened = c.args.opened.now.items in
    let frames = c.args.frames.now.items in
    let fewer = opened_fewer table opened c.args.page c.requires.page c.requires.none kept.pages in
    let frame : c.len-frame.result ≡ suc (length opened) = omega (arith, c.len-frame.ensures, c.push_reserved.ensures.len) in
    let longer : length c.resize.new.self.items ≡ length frames + 256 = search rules in
    rw frame
    (same_opened table opened frames c.args.initial c.args.page c.requires.page c.requires.none kept.pages kept.framed
    c.resize.new.self.items longer
    (λ k less. c.resize.ensures.by_index.0 k c.args.initial (omega (arith, less, c.len.ensures)) (omega (arith, less)))
    (λ k more less. c.resize.ensures.by_index.1 k c.args.initial (search rules) (omega (arith, more)) (omega (arith, less, longer, c.len.ensures))))
