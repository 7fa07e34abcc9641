use Rattle.std.proofs.Common.{◌≡◌, ◌≢◌, ℕ, suc, ◌+◌, ◌-◌, ◌<◌, ◌≤◌, length, slice_index, slice_index_or, slice_set, arith, sym, ap, ◌∙◌, ⊎_elim}
use Rattle.std.proofs.lemmas.Bool.{cases_eq}
use Rattle.std.proofs.lemmas.List.{get_or-set_same, get_or-set_other, length-set}
use Rattle.sbpl_pages.proofs.Paging.{page_inside, unopened_all}
use Rattle.sbpl_pages.proofs.paged.close_all.Goals as goal

pub loop-page-preserved : goal.loop-page-preserved
loop-page-preserved c =
    let table = c.loop-page.table in
    let at = c.loop-page.page-index in
    let read = c.as_slice-page-items.result.now in
    let page = slice_index read at in
    let size = length-set table page 0 in
    let was = c.loop-page.invariant in (
      omega (arith, size, was.0),
      λ p k is.
          ⊎_elim
          (λ (same : p ≡ page).
          let inside : p < length table =
          omega (arith, page_inside (slice_set table page 0) p k is, size) in
          absurd (omega (arith, is, ap (slice_index (slice_set table page 0)) same, get_or-set_same table page 0 0 (omega (arith, inside, same)))))
          (λ (apart : p ≢ page).
          let before : slice_index table p ≡ suc k = sym (get_or-set_other table page p 0 0 apart) ∙ is in
          let then = was.1 p k before in
          let listed = c.requires.listed.listed p k then.0 in
          let later : k ≢ at = λ e. apart (sym listed.1 ∙ ap (slice_index c.args.opened.now.items) e ∙ ap (λ list. slice_index list at) (sym c.as_slice-page-items.ensures.value)) in
          (then.0, omega (arith, then.1, later)))
          (cases_eq p page),
    )

pub returns-clause-closed : goal.returns-clause-closed
returns-clause-closed c = λ page.
    ⊎_elim
    (λ (none : slice_index c.loop-page.table page ≡ 0). none)
    (λ (some : slice_index c.loop-page.table page ≢ 0).
    let k = slice_index c.loop-page.table page - 1 in
    let is : slice_index c.loop-page.table page ≡ suc k = omega (arith, some) in
    let then = c.loop-page.invariant.1 page k is in
    let listed = c.requires.listed.listed page k then.0 in
    absurd (omega (arith, listed.0, then.1, c.loop-page-test.false, c.as_slice-page-items.ensures.len)))
    (cases_eq (slice_index c.loop-page.table page) 0)

pub returns-clause-unopened : goal.returns-clause-unopened
returns-clause-unopened c =
    omega (arith, unopened_all c.loop-page.table (returns-clause-closed c), c.loop-page.invariant.0)
