-- Rows that are kept by column.
use Rattle.std.proofs.Common.{◌≡◌, ℕ, zero, suc, ◌<◌, Option, None, List, [], ◌∷◌, length, replicate, slice_index_or}
use Rattle.std.proofs.Common.{slice_set, arith, refl, sym, ap, ◌∙◌}
use Rattle.std.proofs.lemmas.List.{get_or-set_same, get_or-set_other, length-set}
use Rattle.sbpl_labels.specs.declared.row.Row.{Row}
use Rattle.sbpl_labels.specs.Marks.{no_row}
use Rattle.sbpl_labels.specs.Rows.{rows_of, SetsRow}

-- there are as many rows as entries in each column
pub rows_length : (gs vs : List ℕ) (backs : List (Option (ℕ × ℕ))) → length vs ≡ length gs → length backs ≡ length gs
    → length (rows_of gs vs backs) ≡ length gs
rows_length [] vs backs as_vs as_backs = refl
rows_length (g ∷ gs) [] backs as_vs as_backs = absurd (omega (arith, as_vs))
rows_length (g ∷ gs) (v ∷ vs) [] as_vs as_backs = absurd (omega (arith, as_backs))
rows_length (g ∷ gs) (v ∷ vs) (back ∷ backs) as_vs as_backs =
    ap suc (rows_length gs vs backs (omega (arith, as_vs)) (omega (arith, as_backs)))

-- a row is what stands at its number in each column
pub row_is : (gs vs : List ℕ) (backs : List (Option (ℕ × ℕ))) → length vs ≡ length gs
    → length backs ≡ length gs → (s : ℕ)
    → slice_index_or (rows_of gs vs backs) s no_row
    ≡ record { g = slice_index_or gs s 0; v = slice_index_or vs s 0; back = slice_index_or backs s None }
row_is [] [] [] as_vs as_backs s = refl
row_is [] (v ∷ vs) backs as_vs as_backs s = absurd (omega (arith, as_vs))
row_is [] [] (back ∷ backs) as_vs as_backs s = absurd (omega (arith, as_backs))
row_is (g ∷ gs) [] backs as_vs as_backs s = absurd (omega (arith, as_vs))
row_is (g ∷ gs) (v ∷ vs) [] as_vs as_backs s = absurd (omega (arith, as_backs))
row_is (g ∷ gs) (v ∷ vs) (back ∷ backs) as_vs as_backs zero = refl
row_is (g ∷ gs) (v ∷ vs) (back ∷ backs) as_vs as_backs (suc s) =
    row_is gs vs backs (omega (arith, as_vs)) (omega (arith, as_backs)) s

row_same : {g g' v v' : ℕ} {back back' : Option (ℕ × ℕ)} → g ≡ g' → v ≡ v' → back ≡ back'
    → ◌≡◌ {A = Row} (record { g = g; v = v; back = back }) (record { g = g'; v = v'; back = back' })
row_same g v back = rw (g, v, back) refl

module _ {now : List Row} (gs vs : List ℕ) (backs : List (Option (ℕ × ℕ))) (view : rows_of gs vs backs ≡ now)
    (as_long : (length vs ≡ length gs) × (length backs ≡ length gs)) where
  pub rows_size : length now ≡ length gs
  rows_size = ap length (sym view) ∙ rows_length gs vs backs as_long.0 as_long.1

  pub row_at_is : (s : ℕ) → slice_index_or now s no_row ≡ record {
    g = slice_index_or gs s 0;
    v = slice_index_or vs s 0;
    back = slice_index_or backs s None;
  }
  row_at_is s =
      ap (λ (rows : List Row). slice_index_or rows s no_row) (sym view) ∙ row_is gs vs backs as_long.0 as_long.1 s

  pub way_set : (s g : ℕ) (back : Option (ℕ × ℕ)) → s < length now
      → SetsRow now (rows_of (slice_set gs s g) vs (slice_set backs s back)) s
      (record { g = g; v = (slice_index_or now s no_row).v; back = back })
  way_set s g back inside =
      let long_g : length (slice_set gs s g) ≡ length gs = length-set gs s g in
      let long_back : length (slice_set backs s back) ≡ length backs = length-set backs s back in
      let as_vs : length vs ≡ length (slice_set gs s g) = omega (arith, long_g, as_long.0) in
      let as_backs : length (slice_set backs s back) ≡ length (slice_set gs s g) =
      omega (arith, long_g, long_back, as_long.1) in
      let inside_g : s < length gs = omega (arith, inside, rows_size) in
      let inside_back : s < length backs = omega (arith, inside_g, as_long.1) in
      record {
        states = rows_length _ _ _ as_vs as_backs ∙ long_g ∙ sym rows_size;
        at =
            row_is _ _ _ as_vs as_backs s
            ∙ row_same (get_or-set_same gs s g 0 inside_g) (sym (ap (λ (r : Row). r.v) (row_at_is s)))
            (get_or-set_same backs s back None inside_back);
        others = λ u apart. row_is _ _ _ as_vs as_backs u
            ∙ row_same (get_or-set_other gs s u g 0 apart) refl (get_or-set_other backs s u back None apart)
            ∙ sym (row_at_is u);
      }

  pub v_set : (s v : ℕ) → s < length now
      → SetsRow now (rows_of gs (slice_set vs s v) backs) s
      (record { g = (slice_index_or now s no_row).g; v = v; back = (slice_index_or now s no_row).back })
  v_set s v inside =
      let long_v : length (slice_set vs s v) ≡ length vs = length-set vs s v in
      let as_vs : length (slice_set vs s v) ≡ length gs = omega (arith, long_v, as_long.0) in
      let inside_v : s < length vs = omega (arith, inside, rows_size, as_long.0) in
      record {
        states = rows_length _ _ _ as_vs as_long.1 ∙ sym rows_size;
        at =
            row_is _ _ _ as_vs as_long.1 s
            ∙ row_same (sym (ap (λ (r : Row). r.g) (row_at_is s))) (get_or-set_same vs s v 0 inside_v)
            (sym (ap (λ (r : Row). r.back) (row_at_is s)));
        others = λ u apart.
            row_is _ _ _ as_vs as_long.1 u ∙ row_same refl (get_or-set_other vs s u v 0 apart) refl ∙ sym (row_at_is u);
      }

-- columns of the same entries make the same rows
pub same_rows : (n g v : ℕ) (back : Option (ℕ × ℕ))
    → rows_of (replicate n g) (replicate n v) (replicate n back) ≡ replicate n (record { g = g; v = v; back = back })
same_rows zero g v back = refl
same_rows (suc n) g v back =
    ap (λ (rows : List Row). record { g = g; v = v; back = back } ∷ rows) (same_rows n g v back)
