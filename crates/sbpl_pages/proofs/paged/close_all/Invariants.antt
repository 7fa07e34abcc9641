use Rattle.std.proofs.Common.{◌≡◌, ℕ, suc, ◌≤◌, length, slice_index}
use Rattle.sbpl_pages.proofs.paged.close_all.Given as goal

-- the pages that still have a frame are those that were not reached
abbrev pub invariant-loop-page : goal.invariant-loop-page
invariant-loop-page l = (length l.table ≡ length l.fn.table)
    × ((page k : ℕ) → slice_index l.table page ≡ suc k → (slice_index l.fn.table page ≡ suc k) × (l.page-index ≤ k))
