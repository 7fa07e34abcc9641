-- Where the cells of a map stand in its list of costs.
use Rattle.std.proofs.Common.{◌≡◌, ◌≢◌, ℕ, ℤ, pos, negsuc, ◌+◌, ◌*◌, ◌<◌, ◌≤◌, ◌&&◌, List, [], ◌∷◌, zero, suc, inl, inr}
use Rattle.std.proofs.Common.{option_and_then, length, slice_get, set, get_or, length-set, Option, Some, None, IfSome}
use Rattle.std.proofs.Common.{nat_lt, refl, ap, sym, ◌∙◌, arith}
use Rattle.std.proofs.lemmas.Bool.Decides.{nat_tests}
use Rattle.std.proofs.lemmas.Option.{cond_some, none-some, slice_get-get_or}
use Rattle.std.proofs.lemmas.Nat.{same_from_place, mul-add-lt}
use Rattle.sbpl_map.specs.CellMap.{CellMap, IsCellMap, index_in, cost_at, ChangesCell}

-- a cell that has an index has its column and its row inside the map
pub record StandsAt (m : CellMap) (x y : ℤ) (p : ℕ) : Type 0 where
  pub column : ℕ
  pub row : ℕ
  pub x_is : x ≡ pos column
  pub y_is : y ≡ pos row
  pub right : column < m.width
  pub high : row < m.height
  pub index : p ≡ row * m.width + column

pub stands_at : (m : CellMap) (x y : ℤ) (p : ℕ) → index_in m x y ≡ Some p → StandsAt m x y p
stands_at m (pos a) (pos b) p e =
    let h = cond_some (nat_lt a m.width && nat_lt b m.height) (b * m.width + a) p e in
    record {
      column = a;
      row = b;
      x_is = refl;
      y_is = refl;
      right = grind (arith, nat_tests);
      high = grind (arith, nat_tests);
      index = sym h.1;
    }
stands_at m (pos a) (negsuc b) p e = absurd (none-some p e)
stands_at m (negsuc a) y p e = absurd (none-some p e)

-- an index is inside the list
pub index_below : (m : CellMap) (x y : ℤ) (p : ℕ) → IsCellMap m → index_in m x y ≡ Some p → p < length m.costs
index_below m x y p kept e =
    let at = stands_at m x y p e in
    let h = mul-add-lt at.row m.width at.column m.height at.high at.right in
    omega (arith, kept.cells, at.index, h)

pub within : (m : CellMap) (x y : ℤ) → IsCellMap m → (o : Option ℕ) → o ≡ index_in m x y
    → IfSome o (λ i. i < length m.costs)
within m x y kept None e = tt
within m x y kept (Some p) e = index_below m x y p kept (sym e)

-- two cells with one index are one cell
pub one_cell : (m : CellMap) (x y u v : ℤ) (p q : ℕ) → index_in m x y ≡ Some p → index_in m u v ≡ Some q
    → q ≡ p → (u ≡ x) × (v ≡ y)
one_cell m x y u v p q e f same =
    let a = stands_at m x y p e in
    let b = stands_at m u v q f in
    let one = same_from_place b.row b.column a.row a.column m.width b.right a.right (sym b.index ∙ same ∙ a.index) in
    (b.x_is ∙ ap pos one.1 ∙ sym a.x_is, b.y_is ∙ ap pos one.0 ∙ sym a.y_is)

-- the cost at a cell's index is the cell's
pub cost_read : (m : CellMap) (costs : List ℕ) (x y : ℤ) (p r : ℕ) → IsCellMap m → costs ≡ m.costs
    → index_in m x y ≡ Some p → r ≡ get_or costs p r → cost_at m x y ≡ Some r
cost_read m costs x y p r kept same e s =
    let h = index_below m x y p kept e in
    rw (e, slice_get-get_or m.costs p r h, ← same) (ap Some (sym s))

slice_get-set_same : (xs : List ℕ) (i y : ℕ) → i < length xs → slice_get (set xs i y) i ≡ Some y
slice_get-set_same [] i y h = absurd (omega arith)
slice_get-set_same (x ∷ xs) zero y h = refl
slice_get-set_same (x ∷ xs) (suc i) y h = slice_get-set_same xs i y (omega arith)

slice_get-set_other : (xs : List ℕ) (i j y : ℕ) → j ≢ i → slice_get (set xs i y) j ≡ slice_get xs j
slice_get-set_other [] i j y h = refl
slice_get-set_other (x ∷ xs) zero zero y h = absurd (h refl)
slice_get-set_other (x ∷ xs) zero (suc j) y h = refl
slice_get-set_other (x ∷ xs) (suc i) zero y h = refl
slice_get-set_other (x ∷ xs) (suc i) (suc j) y h = slice_get-set_other xs i j y (λ e. h (ap suc e))

-- what stands at other indices is unchanged
others_unchanged : (costs : List ℕ) (p c : ℕ) (o : Option ℕ) → ((q : ℕ) → o ≡ Some q → q ≢ p)
    → option_and_then (slice_get (set costs p c)) o ≡ option_and_then (slice_get costs) o
others_unchanged costs p c None other = refl
others_unchanged costs p c (Some q) other = slice_get-set_other costs p q c (other q refl)

-- a write at a cell's index changes that cell and nothing else
pub cell_changed : (m : CellMap) (x y : ℤ) (p c : ℕ) → IsCellMap m → index_in m x y ≡ Some p
    → ChangesCell m (record { width = m.width; height = m.height; costs = set m.costs p c }) x y c
cell_changed m x y p c kept e = record {
  width = refl;
  height = refl;
  at = let h = index_below m x y p kept e in rw e (slice_get-set_same m.costs p c h);
  others = λ u v differs. others_unchanged m.costs p c (index_in m u v) (λ q f same.
      let one = one_cell m x y u v p q e f same in
      elim differs as (λ _. ⊥) [ inl d ↦ d one.0 | inr d ↦ d one.1 ]);
}

low_after : (xs : List ℕ) (i c k b : ℕ) → ((j : ℕ) → get_or xs j 0 ≤ b) → c ≤ b → get_or (set xs i c) k 0 ≤ b
low_after [] i c k b low le = low k
low_after (x ∷ xs) zero c zero b low le = le
low_after (x ∷ xs) zero c (suc k) b low le = low (suc k)
low_after (x ∷ xs) (suc i) c zero b low le = low zero
low_after (x ∷ xs) (suc i) c (suc k) b low le = low_after xs i c k b (λ j. low (suc j)) le

-- a map stays one when a cost is written
pub kept_by_write : (m : CellMap) (p c : ℕ) → IsCellMap m → c ≤ 255
    → IsCellMap (record { width = m.width; height = m.height; costs = set m.costs p c })
kept_by_write m p c kept le = record {
  width = kept.width;
  height = kept.height;
  cells = length-set m.costs p c ∙ kept.cells;
  few_cells = kept.few_cells;
  costs = λ k. low_after m.costs p c k 255 kept.costs le;
}
