-- What the eight directions have in common.
use Rattle.std.proofs.Common.{◌≡◌, ◌≢◌, ℕ, zero, suc, pos, negsuc, ◌<◌, ◌⊎◌, inl, inr, true, false, refl, arith}
use Rattle.std.proofs.lemmas.Int.{ints}
use Rattle.sbpl_terrain.specs.sbpl_cfg.Environment.{IsWithin}
use Rattle.sbpl_nav2d.specs.declared.cell.Cell.{Cell}
use Rattle.sbpl_nav2d.specs.Directions.{direction, is_diagonal, IsStep}

-- a step leads by at most one cell, and not nowhere; by none along x or along y where it is no diagonal, and otherwise
-- along both
pub record IsDirection (k : ℕ) (d : Cell) : Type 0 where
  pub step : IsStep d
  pub straight : is_diagonal k ≡ false → (d.x ≡ pos 0) ⊎ (d.y ≡ pos 0)
  pub moves : d.x ≡ pos 0 → d.y ≡ pos 0 → ⊥
  pub diagonal : is_diagonal k ≡ true → (d.x ≢ pos 0) × (d.y ≢ pos 0)

none : IsWithin (negsuc 0) (pos 1) (pos 0)
none = (omega (arith, ints), omega (arith, ints))

forth : IsWithin (negsuc 0) (pos 1) (pos 1)
forth = (omega (arith, ints), omega (arith, ints))

back : IsWithin (negsuc 0) (pos 1) (negsuc 0)
back = (omega (arith, ints), omega (arith, ints))

not_forth : pos 1 ≢ pos 0
not_forth e = cc

not_back : negsuc 0 ≢ pos 0
not_back e = cc

pub is_direction : (k : ℕ) → k < 8 → IsDirection k (direction k)
unfolding direction
is_direction zero h = record {
  step = (forth, none);
  straight = λ _. inr refl;
  moves = λ x _. not_forth x;
  diagonal = λ e. absurd cc;
}
is_direction (suc zero) h = record {
  step = (forth, forth);
  straight = λ e. absurd cc;
  moves = λ x _. not_forth x;
  diagonal = λ _. (not_forth, not_forth);
}
is_direction (suc (suc zero)) h = record {
  step = (none, forth);
  straight = λ _. inl refl;
  moves = λ _ y. not_forth y;
  diagonal = λ e. absurd cc;
}
is_direction (suc (suc (suc zero))) h = record {
  step = (back, forth);
  straight = λ e. absurd cc;
  moves = λ x _. not_back x;
  diagonal = λ _. (not_back, not_forth);
}
is_direction (suc (suc (suc (suc zero)))) h = record {
  step = (back, none);
  straight = λ _. inr refl;
  moves = λ x _. not_back x;
  diagonal = λ e. absurd cc;
}
is_direction (suc (suc (suc (suc (suc zero))))) h = record {
  step = (back, back);
  straight = λ e. absurd cc;
  moves = λ x _. not_back x;
  diagonal = λ _. (not_back, not_back);
}
is_direction (suc (suc (suc (suc (suc (suc zero)))))) h = record {
  step = (none, back);
  straight = λ _. inl refl;
  moves = λ _ y. not_back y;
  diagonal = λ e. absurd cc;
}
is_direction (suc (suc (suc (suc (suc (suc (suc zero))))))) h = record {
  step = (forth, back);
  straight = λ e. absurd cc;
  moves = λ x _. not_forth x;
  diagonal = λ _. (not_forth, not_back);
}
is_direction (suc (suc (suc (suc (suc (suc (suc (suc k)))))))) h = absurd (omega arith)
