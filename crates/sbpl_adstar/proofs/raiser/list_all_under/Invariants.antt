use Rattle.std.proofs.Common.{◌≡◌, vec_capacity}
use Rattle.sbpl_adstar.proofs.Listing.{IsListing}
use Rattle.sbpl_adstar.proofs.raiser.list_all_under.Given as goal

abbrev pub invariant-loop-s : goal.invariant-loop-s
invariant-loop-s l = IsListing l.labels (λ s. s) l.s l.list.items × (vec_capacity l.list ≡ vec_capacity l.fn.list)
