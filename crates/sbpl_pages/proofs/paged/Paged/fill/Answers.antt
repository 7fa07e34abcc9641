use Rattle.std.proofs.Common.{◌≡◌, ℕ, ◌<◌, length, replicate, slice_index_or, rules, arith, sym, ap, ◌∙◌}
use Rattle.std.proofs.lemmas.List.{with_items_is}
use Rattle.sbpl_pages.proofs.Paging.{elements_length, all_initial}
use Rattle.sbpl_pages.proofs.paged.Paged.fill.Goals as goal

pub returns : goal.returns
returns g c =
    let a = c.self.inside in
    let size : length c.args.self.now ≡ a.len =
    ap length (sym c.self.view_is) ∙ elements_length a.table.items a.frames.items a.initial 0 a.len in
    let first : (i : ℕ) → i < 256 → slice_index_or c.resize.new.self.items i c.args.value ≡ c.args.value =
    λ i small. c.resize.ensures.by_index.1 i c.args.value (search rules) (search rules) small in
    record {
      list =
          rw (with_items_is a.table c.close_all.new.table (omega arith), size)
          (all_initial c.close_all.new.table c.resize.new.self.items c.args.value c.close_all.ensures.closed first a.len);
    }
