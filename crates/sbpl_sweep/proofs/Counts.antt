-- Counting cells in order.
use Rattle.std.proofs.Common.{◌≡◌, ℕ, zero, suc, ◌+◌, ◌-◌, ◌≤◌, inl, inr, List, [], ◌∷◌, length, sum_by, slice_get}
use Rattle.std.proofs.Common.{Some, refl, ap, sym, ◌∙◌, arith, subst}
use Rattle.std.proofs.lemmas.Bool.{cases_lt}
use Rattle.std.proofs.lemmas.List.Sums.{sum_by-cons}
use Rattle.std.proofs.lemmas.Option.{slice_get_within, same_Some}
use Rattle.sbpl_sweep.specs.declared.cell.Cell.{Cell}
use Rattle.sbpl_sweep.specs.Centres.{IsBefore}
use Rattle.sbpl_sweep.specs.Widths.{cell_count}
use Rattle.sbpl_sweep.specs.Gathered.{AreInOrder}
use Rattle.sbpl_sweep.proofs.Listings.{later, before_before, not_before_itself}
use Rattle.sbpl_sweep.proofs.Lists.{there_is}

module _ (few many : List Cell) (few_ordered : AreInOrder few) (many_ordered : AreInOrder many)
    (among : (i : ℕ) (c : Cell) → slice_get few i ≡ Some c → (j : ℕ) × (slice_get many j ≡ Some c)) where
  -- a cell stands no earlier among more cells
  no_earlier : (i : ℕ) (c : Cell) → slice_get few i ≡ Some c → (j : ℕ) × (slice_get many j ≡ Some c) × (i ≤ j)
  no_earlier zero c at = let there = among zero c at in (there.0, there.1, omega arith)
  no_earlier (suc i) c at =
      let within = slice_get_within few (suc i) c at in
      let previous = there_is few i (omega arith) in
      let earlier = no_earlier i previous.0 previous.1 in
      let there = among (suc i) c at in
      let next : suc i ≡ i + 1 = omega arith in
      let step = few_ordered i previous.0 c previous.1 (ap (slice_get few) (sym next) ∙ at) in
      elim (cases_lt earlier.0 there.0) [
        | inl less_j ↦ let bound = earlier.2 in (there.0, there.1, omega (arith, bound))
        | inr more_j ↦ elim (cases_lt there.0 earlier.0) [
          | inl back ↦
              absurd (not_before_itself c (before_before c previous.0 c
              (later many many_ordered there.0 earlier.0 c previous.0 back there.1 earlier.1) step))
          | inr same_j ↦
              let same : there.0 ≡ earlier.0 = omega arith in
              let equal = same_Some c previous.0 (sym there.1 ∙ ap (slice_get many) same ∙ earlier.1) in
              absurd (not_before_itself c (subst (λ z. IsBefore z c) (sym equal) step))
        ]
      ]

  pub no_more : length few ≤ length many
  no_more = elim (cases_lt 0 (length few)) [
    | inr none ↦ omega arith
    | inl some ↦
        let last = there_is few (length few - 1) (omega arith) in
        let there = no_earlier (length few - 1) last.0 last.1 in
        let within = slice_get_within many there.0 last.0 there.1 in
        let bound = there.2 in
        omega (arith, within, bound, some)
  ]

-- where no list is longer, the lists together are not
pub together_no_more : (xs ys : List (List Cell)) → length xs ≡ length ys
    → ((i : ℕ) (a b : List Cell) → slice_get xs i ≡ Some a → slice_get ys i ≡ Some b → length a ≤ length b)
    → sum_by cell_count xs ≤ sum_by cell_count ys
together_no_more [] ys same each = omega arith
together_no_more (x ∷ xs) [] same each = absurd (omega arith)
together_no_more (x ∷ xs) (y ∷ ys) same each =
    let first = each 0 x y refl refl in
    let rest = together_no_more xs ys (omega arith) (λ i a b at_a at_b. each (suc i) a b at_a at_b) in
    omega (arith, first, rest, sum_by-cons cell_count x xs, sum_by-cons cell_count y ys)
