-- Lists of the cells that a judgement reads.
use Rattle.std.proofs.Common.{◌≡◌, ℕ, zero, suc, ℤ, pos, ◌+◌, ◌<◌, ◌&&◌, true, ◌++◌, ◌∷◌, [], inl, inr, ◌⊎◌, List}
use Rattle.std.proofs.Common.{length, take, slice_get, Some, ap, sym, ◌∙◌, arith, subst}
use Rattle.std.specs.Ordering.{int_eq}
use Rattle.std.proofs.lemmas.Bool.{cases_lt, and_parts}
use Rattle.std.proofs.lemmas.Bool.Decides.{Decides-int_eq}
use Rattle.std.proofs.lemmas.Grind.{common_steps}
use Rattle.std.proofs.lemmas.Option.{gets, none-some, same_Some, slice_get-get_or}
use Rattle.std.proofs.Math.ListN.{get_or}
use Rattle.sbpl_sweep.specs.sbpl_mprim.declared.prim.Primitive.{Primitive}
use Rattle.sbpl_sweep.specs.declared.cell.Cell.{Cell}
use Rattle.sbpl_sweep.specs.Sweep.{IsCentre}
use Rattle.sbpl_sweep.specs.Centres.{AreCentres, AreSwept}
use Rattle.sbpl_sweep.specs.ReadTables.{IsAmong}
use Rattle.sbpl_cost.specs.Checked.{AddsOthers, AreAlong, AreAround}
use Rattle.sbpl_cost.specs.Strips.{cells_in}
use Rattle.sbpl_cost.specs.declared.strip.Strip.{Strip}
use Rattle.sbpl_cost.proofs.Filling.{take_next}

-- one more cell at the end
listed_push : (list : List Cell) (c x : Cell) → IsAmong list x → IsAmong (list ++ c ∷ []) x
listed_push list c x (i, h) = (i, grind (arith, common_steps, gets))

listed_last : (list : List Cell) (c : Cell) → IsAmong (list ++ c ∷ []) c
listed_last list c = (length list, grind (arith, common_steps, gets))

from_push : (list : List Cell) (c x : Cell) → IsAmong (list ++ c ∷ []) x → IsAmong list x ⊎ (c ≡ x)
from_push list c x (i, h) = elim (cases_lt i (length list)) [
  | inl less ↦ inl (i, grind (arith, common_steps, gets))
  | inr more ↦ inr (grind (arith, common_steps, gets))
]

module _ (old cells known list : List Cell) (n : ℕ) (c : Cell) (at : slice_get cells n ≡ Some c)
    (so_far : AddsOthers old (take n cells) known list) where
  earlier : (x : Cell) → IsAmong (take n cells) x → IsAmong (take (n + 1) cells) x
  earlier x h = subst (λ l. IsAmong l x) (sym (take_next cells n c at)) (listed_push (take n cells) c x h)

  here : IsAmong (take (n + 1) cells) c
  here = subst (λ l. IsAmong l c) (sym (take_next cells n c at)) (listed_last (take n cells) c)

  before : (x : Cell) → IsAmong (take (n + 1) cells) x → IsAmong (take n cells) x ⊎ (c ≡ x)
  before x h = from_push (take n cells) c x (subst (λ l. IsAmong l x) (take_next cells n c at) h)

  -- one more cell that was added
  pub added_more : (new : List Cell) → new ≡ list ++ c ∷ [] → AddsOthers old (take (n + 1) cells) known new
  added_more new is = record {
    kept = λ x h. subst (λ l. IsAmong l x) (sym is) (listed_push list c x (so_far.kept x h));
    each = λ x h. elim (from_push list c x (subst (λ l. IsAmong l x) is h)) [
      | inl was ↦ elim (so_far.each x was) [ inl before ↦ inl before | inr among ↦ inr (earlier x among) ]
      | inr same ↦ inr (subst (λ z. IsAmong (take (n + 1) cells) z) same here)
    ];
    all = λ x h. elim (before x h) [
      | inl was ↦ elim (so_far.all x was) [
        | inl in_list ↦ inl (subst (λ l. IsAmong l x) (sym is) (listed_push list c x in_list))
        | inr in_known ↦ inr in_known
      ]
      | inr same ↦
          inl (subst (λ l. IsAmong l x) (sym is) (subst (λ z. IsAmong (list ++ c ∷ []) z) same (listed_last list c)))
    ];
  }

  -- one more cell that is known
  pub skipped_more : IsAmong known c → AddsOthers old (take (n + 1) cells) known list
  skipped_more is = record {
    kept = so_far.kept;
    each = λ x h. elim (so_far.each x h) [ inl before ↦ inl before | inr among ↦ inr (earlier x among) ];
    all =
        λ x h. elim (before x h) [ inl was ↦ so_far.all x was | inr same ↦ inr (subst (λ z. IsAmong known z) same is) ];
  }

-- a cell that equals the known one at an index is known
pub known_where_equal : (known : List Cell) (n : ℕ) (c : Cell) → n < length known
    → (int_eq (get_or known n (record { y = pos 0; x = pos 0 })).y c.y
    && int_eq (get_or known n (record { y = pos 0; x = pos 0 })).x c.x) ≡ true → IsAmong known c
known_where_equal known n c within h =
    let k : Cell = get_or known n (record { y = pos 0; x = pos 0 }) in
    let parts = and_parts (int_eq k.y c.y) (int_eq k.x c.x) h in
    let row = (Decides-int_eq k.y c.y).0 parts.0 in
    let column = (Decides-int_eq k.x c.x).0 parts.1 in
    let by_row : ℤ → Cell = λ y. record { y = y; x = k.x } in
    let by_column : ℤ → Cell = λ x. record { y = c.y; x = x } in (
      n,
      slice_get-get_or known n (record { y = pos 0; x = pos 0 }) within
          ∙ ap (λ z. Some z) (ap by_row row ∙ ap by_column column),
    )

-- a list of one cell has that cell
one_listed : (end c : Cell) → IsAmong (end ∷ []) c → end ≡ c
one_listed end c (zero, h) = same_Some end c h
one_listed end c (suc i, h) = absurd (none-some c h)

pub along_from : (cell : ℤ) (p : Primitive) (end : Cell) (centres cells : List Cell) → IsCentre cell p.poses p.dx p.dy
    → AreCentres cell p.poses centres
    → end ≡ record { y = p.dy; x = p.dx } → AddsOthers (end ∷ []) centres (end ∷ []) cells → AreAlong cell p cells
along_from cell p end centres cells in_centre are is added =
    let P : Cell → Type 0 = λ c. IsCentre cell p.poses c.x c.y in
    let at_end : P end = subst P (sym is) in_centre in
    record {
      end = in_centre;
      each = λ i c h. elim (added.each c (i, h)) [
        | inl first ↦ subst P (one_listed end c first) at_end
        | inr centre ↦ are.each centre.0 c centre.1
      ];
      all = λ x y centre.
          let c : Cell = record { y = y; x = x } in
          elim (added.all c (are.all x y centre)) [
            | inl listed ↦ listed
            | inr known ↦ added.kept c known
          ];
    }

pub around_from : (cell : ℤ) (radius : ℕ) (p : Primitive) (swept : List Cell) (strips : List Strip)
    → AreSwept cell radius p.poses swept → cells_in strips ≡ swept → AreAround cell radius p strips
around_from cell radius p swept strips all same = record {
  each = λ i c h. all.each i c (subst (λ (cells : List Cell). slice_get cells i ≡ Some c) same h);
  all = λ x y touched. let there = all.all x y touched in (
    there.0,
    subst (λ (cells : List Cell). slice_get cells there.0 ≡ Some (record { y = y; x = x })) (sym same) there.1,
  );
}
