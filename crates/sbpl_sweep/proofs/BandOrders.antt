-- Bands in order.
use Rattle.std.proofs.Common.{◌≡◌, ℤ, inl, inr, ◌⊎◌, ◌<ℤ◌, ◌≤ℤ◌, false, List, get_or, Some, refl, ap, sym}
use Rattle.std.proofs.Common.{◌∙◌, arith, Ordering}
use Rattle.std.specs.Cmp.{IsTotalOrder}
use Rattle.std.specs.List.Sorted.{IsPermutation, IsSorted}
use Rattle.std.specs.Ordering.{MatchOrdering, ordering_then, int_cmp, is_lt}
use Rattle.std.specs.declared.cmp.Ordering.TheVariants.{Less, Equal, Greater}
use Rattle.std.proofs.lemmas.Cmp.{int_ranked}
use Rattle.std.proofs.lemmas.Int.{ints}
use Rattle.std.proofs.lemmas.List.Sorted.{Contains-permutation, IsPermutation-sym, sorted_far, ranks_by}
use Rattle.std.proofs.lemmas.Option.{slice_get-get_or, slice_get_within, get_or_from_slice_get}
use Rattle.sbpl_sweep.specs.declared.band.Band.{Band}
use Rattle.sbpl_sweep.specs.Bands.{IsCovered}
use Rattle.sbpl_sweep.specs.Gathered.{AreSortedBands, CoverTheSame}

-- the order of bands: by row, by first column, by last column
abbrev pub band_cmp : Band → Band → Ordering
band_cmp a b = ordering_then (int_cmp a.y b.y) (ordering_then (int_cmp a.first b.first) (int_cmp a.last b.last))

not_after_by : (a b : Band) (o p q : Ordering) → MatchOrdering o (b.y <ℤ a.y) (b.y ≡ a.y) (a.y <ℤ b.y)
    → MatchOrdering p (b.first <ℤ a.first) (b.first ≡ a.first) (a.first <ℤ b.first)
    → is_lt (ordering_then o (ordering_then p q)) ≡ false → (a.y <ℤ b.y) ⊎ ((a.y ≡ b.y) × (a.first ≤ℤ b.first))
not_after_by a b Less p q row column h = absurd (cc)
not_after_by a b Equal Less q row column h = absurd (cc)
not_after_by a b Equal Equal q row column h = inr (sym row, omega (arith, ints, column))
not_after_by a b Equal Greater q row column h = inr (sym row, omega (arith, ints, column))
not_after_by a b Greater p q row column h = inl row

not_after : (a b : Band) → is_lt (band_cmp b a) ≡ false → (a.y <ℤ b.y) ⊎ ((a.y ≡ b.y) × (a.first ≤ℤ b.first))
not_after a b h =
    not_after_by a b (int_cmp b.y a.y) (int_cmp b.first a.first) (int_cmp b.last a.last)
    (int_ranked b.y a.y (int_cmp b.y a.y) refl) (int_ranked b.first a.first (int_cmp b.first a.first) refl) h

pub sorted_bands : (bands : List Band) → IsTotalOrder band_cmp → IsSorted band_cmp bands → AreSortedBands bands
sorted_bands bands total sorted = λ i j a b h at_i at_j.
    let far =
    sorted_far (λ x y. is_lt (band_cmp x y)) (ranks_by total (λ x. x)) bands sorted i j a (omega arith)
    (slice_get_within bands j b at_j) in
    not_after a b (ap (λ z. is_lt (band_cmp b z)) (sym (get_or_from_slice_get bands i a a at_i))
    ∙ ap (λ z. is_lt (band_cmp z (get_or bands i a))) (sym (get_or_from_slice_get bands j b a at_j)) ∙ far)

moved : (old new : List Band) (x y : ℤ) → IsPermutation old new → IsCovered old x y → IsCovered new x y
moved old new x y permutation c =
    let there = Contains-permutation old new c.band permutation (
      c.number,
      slice_get_within old c.number c.band c.stands,
      get_or_from_slice_get old c.number c.band c.band c.stands,
    ) in
    record {
      number = there.0;
      band = c.band;
      stands = slice_get-get_or new there.0 c.band there.1 ∙ ap (λ z. Some z) there.2;
      inside = c.inside;
    }

pub same_covered : (old new : List Band) → IsPermutation old new → CoverTheSame old new
same_covered old new permutation = record {
  kept = λ x y c. moved old new x y permutation c;
  each = λ x y c. moved new old x y (IsPermutation-sym old new permutation) c;
}
