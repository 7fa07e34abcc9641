-- The costs of cells are written one after the other.
use Rattle.std.proofs.Common.{◌≡◌, ℕ, ◌+◌, ◌<◌, ◌≤◌, inl, inr, List, length, length-set, slice_index, slice_set, ap}
use Rattle.std.proofs.Common.{sym, ◌∙◌, arith}
use Rattle.std.proofs.lemmas.Bool.{cases_eq}
use Rattle.std.proofs.lemmas.Grind.{same_number_lists}
use Rattle.std.proofs.lemmas.List.{get_or-set_same, get_or-set_other}
use Rattle.sbpl_heur.specs.Boards.{Board}

-- the first costs are written, and nothing else of the graph has changed but costs
pub record AreWrittenBelow (old new : Board) (costs : List ℕ) (i : ℕ) : Type 0 where
  pub rest : new ≡ record old { costs = new.costs }
  pub size : length new.costs ≡ length old.costs
  pub same : (j : ℕ) → j < i → slice_index new.costs j ≡ slice_index costs j

-- a cost that is there already, and one that is written
pub kept_written : (old b : Board) (costs : List ℕ) (i : ℕ) → slice_index b.costs i ≡ slice_index costs i
    → AreWrittenBelow old b costs i → AreWrittenBelow old b costs (i + 1)
kept_written old b costs i here are = record {
  rest = are.rest;
  size = are.size;
  same = λ j below. elim (cases_eq j i) [
    | inl same ↦ ap (slice_index b.costs) same ∙ here ∙ ap (slice_index costs) (sym same)
    | inr beside ↦ are.same j (omega arith)
  ];
}

pub more_written : (old b : Board) (costs : List ℕ) (i c : ℕ) → i < length b.costs → slice_index costs i ≡ c
    → AreWrittenBelow old b costs i → AreWrittenBelow old (record b { costs = slice_set b.costs i c }) costs (i + 1)
more_written old b costs i c inside is are = record {
  rest = ap (λ (z : Board). record z { costs = slice_set b.costs i c }) are.rest;
  size = length-set b.costs i c ∙ are.size;
  same = λ j below. elim (cases_eq j i) [
    | inl same ↦
        ap (slice_index (slice_set b.costs i c)) same ∙ get_or-set_same b.costs i c 0 inside ∙ sym is
        ∙ ap (slice_index costs) (sym same)
    | inr beside ↦ get_or-set_other b.costs i j c 0 beside ∙ are.same j (omega arith)
  ];
}

pub all_written : (old b : Board) (costs : List ℕ) (i : ℕ) → length costs ≡ length old.costs → length costs ≤ i
    → AreWrittenBelow old b costs i → b ≡ record old { costs = costs }
all_written old b costs i size all are =
    let same : b.costs ≡ costs =
    same_number_lists b.costs costs (omega (arith, are.size, size))
    (λ j below. are.same j (omega (arith, below, are.size, size))) in
    are.rest ∙ ap (λ l. record old { costs = l }) same
