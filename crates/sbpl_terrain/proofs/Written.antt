-- Cells whose cost differs after some writes: they were written to.
use Rattle.std.proofs.Common.{◌≡◌, ◌≢◌, ℕ, zero, suc, ℤ, pos, Bool, true, false, ◌⊎◌, inl, inr, List, [], ◌∷◌}
use Rattle.std.proofs.Common.{slice_get, Some, refl, ap, sym, ◌∙◌, subst, ◌<ℤ◌}
use Rattle.std.specs.Ordering.{int_eq}
use Rattle.std.proofs.lemmas.Bool.Decides.{Decides-int_eq}
use Rattle.sbpl_map.specs.CellMap.{CellMap, cost_at, IsOnMap}
use Rattle.sbpl_map.specs.MapAfter.{AreWritten}
use Rattle.sbpl_map.specs.declared.write.Write.{Write}

apart : (u x : ℤ) → int_eq u x ≡ false → u ≢ x
apart u x other same = absurd (let no : false ≡ true = sym other ∙ (Decides-int_eq u x).1 same in cc)

one_cell_by : (u x v y : ℤ) (a b : Bool) → int_eq u x ≡ a → int_eq v y ≡ b → ((u ≡ x) × (v ≡ y)) ⊎ ((u ≢ x) ⊎ (v ≢ y))
one_cell_by u x v y true true column row = inl ((Decides-int_eq u x).0 column, (Decides-int_eq v y).0 row)
one_cell_by u x v y true false column row = inr (inr (apart v y row))
one_cell_by u x v y false b column row = inr (inl (apart u x column))

-- a cell is another or not
one_cell : (u x v y : ℤ) → ((u ≡ x) × (v ≡ y)) ⊎ ((u ≢ x) ⊎ (v ≢ y))
one_cell u x v y = one_cell_by u x v y (int_eq u x) (int_eq v y) refl refl

pub record IsWrittenTo (batch : List Write) (x y : ℤ) : Type 0 where
  pub place : ℕ
  pub write : Write
  pub stands : slice_get batch place ≡ Some write
  pub column : x ≡ pos write.x
  pub row : y ≡ pos write.y

pub changed_is_written : (batch : List Write) (old new : CellMap) (x y : ℤ) → AreWritten old batch new
    → cost_at new x y ≢ cost_at old x y → IsWrittenTo batch x y
changed_is_written [] old new x y h changed = absurd (changed (ap (λ m. cost_at m x y) h))
changed_is_written (w ∷ later) old new x y (m, change, more) changed =
    elim (one_cell x (pos w.x) y (pos w.y)) [
      | inl here ↦ record { place = zero; write = w; stands = refl; column = here.0; row = here.1 }
      | inr other ↦
          let found = changed_is_written later m new x y more (λ same. changed (same ∙ change.others x y other)) in
          record {
            place = suc found.place;
            write = found.write;
            stands = found.stands;
            column = found.column;
            row = found.row;
          }
    ]

-- a cell is on each map of the size
pub still_on_map : (old now : CellMap) (x y : ℤ) → now.width ≡ old.width → now.height ≡ old.height
    → IsOnMap old x y → IsOnMap now x y
still_on_map old now x y width height on = record {
  left = on.left;
  right = subst (λ n. x <ℤ pos n) (sym width) on.right;
  low = on.low;
  high = subst (λ n. y <ℤ pos n) (sym height) on.high;
}
