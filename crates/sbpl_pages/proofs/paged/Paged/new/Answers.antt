use Rattle.std.proofs.Common.{◌≡◌, ℕ, suc, ◌+◌, ◌*◌, ◌/◌, ◌<◌, ◌≤◌, [], vec_capacity, length, replicate, slice_index, slice_index_or, rules, arith, sym, subst, ap, ◌∙◌}
use Rattle.sbpl_pages.specs.Pages.{AreListed}
use Rattle.sbpl_pages.proofs.Paging.{none_listed, none_in_zeros, all_initial}
use Rattle.sbpl_pages.proofs.paged.Paged.new.Goals as goal

pub invariant_of-result : goal.invariant_of-result
invariant_of-result g c =
    let pages : c.div_ceil-pages.result * 256 < c.args.len + 256 = search rules in
    let enough : c.args.len ≤ 256 * c.div_ceil-pages.result = search rules in
    let zeros : c.in_ok-table.table.items ≡ replicate c.div_ceil-pages.result 0 = search rules in
    let none : (page : ℕ) → slice_index c.in_ok-table.table.items page ≡ 0 =
    λ page. rw zeros (none_in_zeros c.div_ceil-pages.result page) in
    let size : length c.in_ok-table.table.items ≡ c.div_ceil-pages.result = search rules in
    let opened : c.in_ok-opened.opened.items ≡ [] = search rules in
    let longer : length c.resize.new.self.items ≡ 256 = search rules in
    let places : c.div_ceil-pages.result ≤ vec_capacity c.in_ok-opened.opened = search rules in
    let room : 256 * suc c.div_ceil-pages.result ≤ vec_capacity c.resize.new.self = search rules in
    let first : (i : ℕ) → i < 256 → slice_index_or c.resize.new.self.items i c.args.initial ≡ c.args.initial =
    λ i small. c.resize.ensures.by_index.1 i c.args.initial (search rules) (search rules) small in (
      rw opened
          (record {
            pages = none_listed c.in_ok-table.table.items none;
            framed = record { each = omega (arith, longer); first = first; enough = omega (arith, size, room) };
            few_pages = omega (arith, size, pages);
            enough = omega (arith, size, places);
          }),
      omega (arith, size, enough),
    )

pub returns : goal.returns
returns g c =
    let zeros : c.in_ok-table.table.items ≡ replicate c.div_ceil-pages.result 0 = search rules in
    let none : (page : ℕ) → slice_index c.in_ok-table.table.items page ≡ 0 =
    λ page. rw zeros (none_in_zeros c.div_ceil-pages.result page) in
    let first : (i : ℕ) → i < 256 → slice_index_or c.resize.new.self.items i c.args.initial ≡ c.args.initial =
    λ i small. c.resize.ensures.by_index.1 i c.args.initial (search rules) (search rules) small in
    record { list = all_initial c.in_ok-table.table.items c.resize.new.self.items c.args.initial none first c.args.len }
