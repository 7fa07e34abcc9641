-- Cells in order, without repeats.
use Rattle.std.proofs.Common.{◌≡◌, ℕ, ℤ, ◌+◌, ◌&&◌, inl, inr, ◌<ℤ◌, Bool, true, List, map, get_or, slice_get, Some}
use Rattle.std.proofs.Common.{refl, ap, sym, ◌∙◌, arith, subst, Ordering}
use Rattle.std.specs.Cmp.{IsTotalOrder, IsEquivalence}
use Rattle.std.specs.List.{Contains, dedup}
use Rattle.std.specs.List.Sorted.{IsPermutation, IsSorted, IsStrictlySortedBy}
use Rattle.std.specs.Ordering.{MatchOrdering, ordering_then, int_cmp, int_eq, eq_by_cmp}
use Rattle.std.specs.declared.cmp.Ordering.TheVariants.{Less, Equal, Greater}
use Rattle.std.proofs.lemmas.Bool.{and_parts}
use Rattle.std.proofs.lemmas.Bool.Decides.{Decides-int_eq}
use Rattle.std.proofs.lemmas.Cmp.{int_ranked}
use Rattle.std.proofs.lemmas.List.Kept.{IsStrictlySortedBy-dedup, Contains-dedup, Contains-from_dedup}
use Rattle.std.proofs.lemmas.List.Sorted.{Contains-permutation, IsPermutation-sym}
use Rattle.std.proofs.lemmas.Map.Keys.{Less-from_sorted}
use Rattle.std.proofs.lemmas.Option.{slice_get-get_or, slice_get_within, get_or_from_slice_get}
use Rattle.sbpl_sweep.specs.declared.cell.Cell.{Cell}
use Rattle.sbpl_mprim.specs.sbpl_cfg.declared.pose.Pose.{Pose}
use Rattle.sbpl_mprim.specs.Primitives.{offset_cell}
use Rattle.sbpl_sweep.specs.Centres.{cell_of_pose, IsBefore, AreOrdered, AreCentres}
use Rattle.sbpl_sweep.proofs.Lists.{made_at, made_from}

-- the order of cells: by row, then by column
abbrev pub cell_cmp : Cell → Cell → Ordering
cell_cmp a b = ordering_then (int_cmp a.y b.y) (int_cmp a.x b.x)

abbrev pub cell_eq : Cell → Cell → Bool
cell_eq a b = int_eq a.y b.y && int_eq a.x b.x

before_by : (a b : Cell) (o p : Ordering) → MatchOrdering o (a.y <ℤ b.y) (a.y ≡ b.y) (b.y <ℤ a.y)
    → MatchOrdering p (a.x <ℤ b.x) (a.x ≡ b.x) (b.x <ℤ a.x) → ordering_then o p ≡ Less → IsBefore a b
before_by a b Less p row column h = inl row
before_by a b Equal Less row column h = inr (row, column)
before_by a b Equal Equal row column h = absurd (cc)
before_by a b Equal Greater row column h = absurd (cc)
before_by a b Greater p row column h = absurd (cc)

before : (a b : Cell) → cell_cmp a b ≡ Less → IsBefore a b
before a b h =
    before_by a b (int_cmp a.y b.y) (int_cmp a.x b.x) (int_ranked a.y b.y (int_cmp a.y b.y) refl)
    (int_ranked a.x b.x (int_cmp a.x b.x) refl) h

pub same_cell : (a b : Cell) → cell_eq a b ≡ true → a ≡ b
same_cell a b h =
    let parts = and_parts (int_eq a.y b.y) (int_eq a.x b.x) h in
    let row = (Decides-int_eq a.y b.y).0 parts.0 in
    let column = (Decides-int_eq a.x b.x).0 parts.1 in
    let by_row : ℤ → Cell = λ y. record { y = y; x = a.x } in
    let by_column : ℤ → Cell = λ x. record { y = b.y; x = x } in
    ap by_row row ∙ ap by_column column

contains_at : (cells : List Cell) (i : ℕ) (c : Cell) → slice_get cells i ≡ Some c → Contains cells c
contains_at cells i c h = (i, slice_get_within cells i c h, get_or_from_slice_get cells i c c h)

at_contained : (cells : List Cell) (c : Cell) → Contains cells c → (i : ℕ) × (slice_get cells i ≡ Some c)
at_contained cells c (i, h, e) = (i, slice_get-get_or cells i c h ∙ ap (λ z. Some z) e)

pub ordered_cells : (cells sorted result : List Cell) → IsTotalOrder cell_cmp → IsEquivalence cell_eq
    → ((x y : Cell) → cell_eq x y ≡ eq_by_cmp cell_cmp x y)
    → IsPermutation cells sorted → IsSorted cell_cmp sorted → result ≡ dedup cell_eq sorted → AreOrdered cells result
ordered_cells cells sorted result total equiv ties moved in_order is = record {
  each = λ i c h.
      let kept = subst (λ l. Contains l c) is (contains_at result i c h) in
      at_contained cells c (Contains-permutation sorted cells c (IsPermutation-sym cells sorted moved)
      (Contains-from_dedup cell_eq sorted c kept));
  all = λ i c h.
      let there =
      Contains-dedup equiv same_cell sorted c (Contains-permutation cells sorted c moved (contains_at cells i c h)) in
      at_contained result c (subst (λ l. Contains l c) (sym is) there);
  ordered = λ i a b first second.
      let strict =
      subst (λ l. IsStrictlySortedBy cell_cmp l) (sym is) (IsStrictlySortedBy-dedup total ties sorted in_order) in
      let less =
      Less-from_sorted cell_cmp result i (i + 1) a strict (omega arith) (slice_get_within result (i + 1) b second) in
      before a b (ap (λ z. cell_cmp z b) (sym (get_or_from_slice_get result i a a first))
      ∙ ap (λ z. cell_cmp (get_or result i a) z) (sym (get_or_from_slice_get result (i + 1) b a second)) ∙ less);
}

-- the cells of poses, in order and without repeats, are the centre cells
pub centres_from : (cell : ℤ) (poses : List Pose) (made cells : List Cell) → made ≡ map (cell_of_pose cell) poses
    → AreOrdered made cells → AreCentres cell poses cells
centres_from cell poses made cells is ordered = record {
  each = λ i c h.
      let there = ordered.each i c h in
      let from = made_from (cell_of_pose cell) poses there.0 c (ap (λ l. slice_get l there.0) (sym is) ∙ there.1) in
      record {
        number = there.0;
        pose = from.0;
        stands = from.1;
        column = ap (λ (z : Cell). z.x) from.2;
        row = ap (λ (z : Cell). z.y) from.2;
      };
  all = λ x y centre.
      let c : Cell = record { y = y; x = x } in
      let by_row : ℤ → Cell = λ v. record { y = v; x = offset_cell cell centre.pose.x } in
      let by_column : ℤ → Cell = λ v. record { y = y; x = v } in
      let same : cell_of_pose cell centre.pose ≡ c = ap by_row centre.row ∙ ap by_column centre.column in
      ordered.all centre.number c (ap (λ l. slice_get l centre.number) is
      ∙ made_at (cell_of_pose cell) poses centre.number centre.pose centre.stands ∙ ap (λ z. Some z) same);
  ordered = ordered.ordered;
}

-- what holds of a list of centre cells holds of the same list by other names
pub same_centres : (cell size : ℤ) (poses ps : List Pose) (cells cs : List Cell) → cell ≡ size → ps ≡ poses → cs ≡ cells
    → AreCentres cell ps cells → AreCentres size poses cs
same_centres cell size poses ps cells cs same_size same_poses same_cells h =
    subst (λ c. AreCentres size poses c) (sym same_cells)
    (subst (λ q. AreCentres size q cells) same_poses (subst (λ z. AreCentres z ps cells) same_size h))
