use Rattle.std.proofs.lemmas.List.Filters.{dedup_is}
use Rattle.std.proofs.lemmas.List.Kept.{Contains-dedup_nat, Contains-from_dedup}
use Rattle.std.proofs.lemmas.List.Sorted.{Contains-permutation, IsPermutation-sym}
use Rattle.std.proofs.lemmas.Map.Keys.{IsStrictlyIncreasing-dedup}
use Rattle.sbpl_terrain.proofs.ends.list_once.Goals as goal

pub returns : goal.returns
returns c =
    let is = dedup_is _ _ _ c.dedup.ensures.filtered in
    let moved = c.sort_unstable.ensures.permutation in
    record {
      same = λ s. (
        λ h. Contains-permutation _ _ s (IsPermutation-sym _ _ moved) (Contains-from_dedup _ _ s (rw is at h)),
        λ h. rw is (Contains-dedup_nat _ s (Contains-permutation _ _ s moved h)),
      );
      once = rw is (IsStrictlyIncreasing-dedup _ c.sort_unstable.ensures.sorted);
    }
