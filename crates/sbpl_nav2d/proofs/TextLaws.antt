-- The format of a grid's environment and its list of tokens say the same.
use Rattle.std.proofs.Common.{◌≡◌, ℕ, ℤ, pos, negsuc, zero, suc, ◌-◌, ◌*◌, ◌/◌, ◌<◌, ◌≤◌, ◌≤ℤ◌, true, false, nat_lt}
use Rattle.std.proofs.Common.{List, [], ◌∷◌, ◌++◌, length, map, codes, Ok, refl, sym, ap, subst, ◌∙◌}
use Rattle.std.proofs.Common.{append_assoc, append-nil, arith}
use Rattle.std.specs.Prelude.{nat_abs}
use Rattle.std.specs.List.{AllByRecursion}
use Rattle.std.proofs.lemmas.Bool.{and_from, and_parts, ltb-false, ltb-true, le-ltb, lt-ltb}
use Rattle.std.proofs.lemmas.Int.{ints}
use Rattle.std.proofs.lemmas.Nat.{div-mul-add, div-add-mod', mod-mul-add, mul-add-lt}
use Rattle.std.proofs.Math.Nat.{div-lt_iff_lt-mul, le_trans, mul_comm, mul-le-mul_left}
use Rattle.sbpl_fixed.specs.Formats.{Says, turns, whole}
use Rattle.sbpl_fixed.specs.Numbers.{whole_of}
use Rattle.sbpl_fixed.specs.Tokens.{Piece, tokens}
use Rattle.sbpl_fixed.specs.Meaning.{StandsFor}
use Rattle.sbpl_fixed.specs.Parts.{says_both, says_parts}
use Rattle.sbpl_fixed.specs.declared.placed.Placed.{Placed}
use Rattle.sbpl_terrain.specs.sbpl_cfg.Environment.{IsWithin}
use Rattle.sbpl_terrain.specs.sbpl_cfg.Text.{Said, word, number, spelled_grid}
use Rattle.sbpl_terrain.proofs.Items.{Begins, all_begins, append_begins, at_end, begins_all, begins_append, fixed_is}
use Rattle.sbpl_terrain.proofs.Items.{if_right, is_fixed, is_within, unless_wrong, within_is}
use Rattle.sbpl_nav2d.specs.declared.parts.Size.{Size}
use Rattle.sbpl_nav2d.specs.declared.parts.GridCell.{GridCell}
use Rattle.sbpl_nav2d.specs.Environment.{NavEnvironment, IsNavEnvironment, column_of, row_of}
use Rattle.sbpl_nav2d.specs.Format.{size_format, obsthresh_format, grid_cell_format, start_grid_cell_format, end_grid_cell_format}
use Rattle.sbpl_nav2d.specs.Format.{start_format, end_format, numbers_format, cost_format, grid_format}
use Rattle.sbpl_nav2d.specs.Format.{environment_format, is_on_map, state_of}
use Rattle.sbpl_nav2d.specs.Text.{IsTextOf, spelled, spelled_numbers, spelled_state}

-- ---- numbers of zero or more

natural_is : (k : ℕ) (v : ℤ) → pos k ≤ℤ v → v ≡ pos (nat_abs v)
natural_is k (pos n) h = refl
natural_is k (negsuc n) h = absurd (omega (arith, ints))

within_naturals : (low high n : ℕ) → low ≤ n → n ≤ high → IsWithin (pos low) (pos high) (pos n)
within_naturals low high n h k = (omega (arith, ints), omega (arith, ints))

naturals_within : (low high n : ℕ) → IsWithin (pos low) (pos high) (pos n) → (low ≤ n) × (n ≤ high)
naturals_within low high n h = let low = h.0 in let high = h.1 in (omega (arith, ints), omega (arith, ints))

-- a token that says a number in a range
record IsNatural (low high n : ℕ) (bytes : List ℕ) : Type 0 where
  value : whole_of bytes ≡ Ok (pos n)
  between : (low ≤ n) × (n ≤ high)

natural_said : (low high : ℕ) (v : ℤ) (bytes : List ℕ) → whole (pos low) (pos high) bytes ≡ Ok v
    → IsNatural low high (nat_abs v) bytes
natural_said low high v bytes h =
    let r = within_is (pos low) (pos high) v (whole_of bytes) h in
    let is : v ≡ pos (nat_abs v) = natural_is low v r.between.0 in
    record {
      value = r.value ∙ ap (λ z. Ok z) is;
      between = naturals_within low high (nat_abs v) (subst (IsWithin (pos low) (pos high)) is r.between);
    }

says_natural : (low high n : ℕ) (bytes : List ℕ) → whole_of bytes ≡ Ok (pos n) → low ≤ n → n ≤ high
    → whole (pos low) (pos high) bytes ≡ Ok (pos n)
says_natural low high n bytes h above below =
    is_within (pos low) (pos high) (pos n) (whole_of bytes)
    (record { value = h; between = within_naturals low high n above below })

-- ---- the size

record IsSize (states : ℕ) (x : Size) : Type 0 where
  width : (1 ≤ x.width) × (x.width ≤ states)
  height : (1 ≤ x.height) × (x.height ≤ states)
  few : x.width * x.height ≤ states

abbrev size_words : Size → List Said
size_words x = word (codes "discretization(cells):") ∷ number (pos x.width) ∷ number (pos x.height) ∷ []

size_said : (states : ℕ) (x : Size) (ts rest : List Piece) → Says (size_format states) ts x rest
    → Begins (size_words x) ts rest × IsSize states x
unfolding size_format Says
size_said states x [] rest h = absurd h
size_said states x (t ∷ []) rest h = absurd h.2
size_said states x (t ∷ u ∷ []) rest h = absurd h.2.2
size_said states x (t ∷ u ∷ v ∷ ts) rest h =
    let w = natural_said 1 states h.2.0 u.bytes h.2.1 in
    let r = natural_said 1 states h.2.2.0 v.bytes h.2.2.1 in
    let made : Size = record { width = nat_abs h.2.0; height = nat_abs h.2.2.0 } in
    let g = unless_wrong _ _ x made ts rest h.2.2.2 in
    let begins : Begins (size_words made) (t ∷ u ∷ v ∷ ts) rest =
    (fixed_is _ t.bytes h.0 h.1, (w.value, (r.value, g.2))) in
    let is : IsSize states made = record { width = w.between; height = r.between; few = ltb-false _ _ g.0 } in
    (subst (λ (y : Size). Begins (size_words y) (t ∷ u ∷ v ∷ ts) rest) (sym g.1) begins, subst (IsSize states) (sym g.1) is)

says_size : (states : ℕ) (x : Size) (ts rest : List Piece) → Begins (size_words x) ts rest → IsSize states x
    → Says (size_format states) ts x rest
unfolding size_format Says
says_size states x [] rest h k = absurd h
says_size states x (t ∷ []) rest h k = absurd h.1
says_size states x (t ∷ u ∷ []) rest h k = absurd h.1.1
says_size states x (t ∷ u ∷ v ∷ ts) rest h k =
    let small : nat_lt states (x.width * x.height) ≡ false = le-ltb _ _ k.few in (
      pos 0,
      is_fixed _ t.bytes h.0,
      (
        pos x.width,
        says_natural 1 states x.width u.bytes h.1.0 k.width.0 k.width.1,
        (pos x.height, says_natural 1 states x.height v.bytes h.1.1.0 k.height.0 k.height.1, rw small (refl, h.1.1.1)),
      ),
    )

-- ---- the threshold

abbrev obsthresh_words : ℕ → List Said
obsthresh_words n = word (codes "obsthresh:") ∷ number (pos n) ∷ []

obsthresh_said : (n : ℕ) (ts rest : List Piece) → Says obsthresh_format ts n rest
    → Begins (obsthresh_words n) ts rest × (n ≤ 255)
unfolding obsthresh_format Says
obsthresh_said n [] rest h = absurd h
obsthresh_said n (t ∷ []) rest h = absurd h.2
obsthresh_said n (t ∷ u ∷ ts) rest h =
    let r = natural_said 0 255 h.2.0 u.bytes h.2.1 in
    let same : nat_abs h.2.0 ≡ n = sym h.2.2.0 in (
      (fixed_is _ t.bytes h.0 h.1, (r.value ∙ ap (λ m. Ok (pos m)) same, h.2.2.1)),
      subst
          (λ m. m ≤ 255) same r.between.1,
    )

says_obsthresh : (n : ℕ) (ts rest : List Piece) → Begins (obsthresh_words n) ts rest → n ≤ 255
    → Says obsthresh_format ts n rest
unfolding obsthresh_format Says
says_obsthresh n [] rest h k = absurd h
says_obsthresh n (t ∷ []) rest h k = absurd h.1
says_obsthresh n (t ∷ u ∷ ts) rest h k =
    (pos 0, is_fixed _ t.bytes h.0, (pos n, says_natural 0 255 n u.bytes h.1.0 (omega arith) k, (refl, h.1.1)))

-- ---- cells

abbrev grid_cell_words : List ℕ → GridCell → List Said
grid_cell_words w p = word w ∷ number (pos p.x) ∷ number (pos p.y) ∷ []

record IsGridCell (states : ℕ) (p : GridCell) : Type 0 where
  x : p.x ≤ states - 1
  y : p.y ≤ states - 1

grid_cell_said : (states : ℕ) (w : List ℕ) (p : Placed GridCell) (ts rest : List Piece)
    → Says (grid_cell_format states w) ts p rest
    → Begins (grid_cell_words w p.value) ts rest
unfolding grid_cell_format Says
grid_cell_said states w p [] rest h = absurd h
grid_cell_said states w p (t ∷ []) rest h = absurd h.2
grid_cell_said states w p (t ∷ u ∷ []) rest h = absurd h.2.2
grid_cell_said states w p (t ∷ u ∷ v ∷ ts) rest h =
    let x = natural_said 0 (states - 1) h.2.0 u.bytes h.2.1 in
    let y = natural_said 0 (states - 1) h.2.2.0 v.bytes h.2.2.1 in
    let g = h.2.2.2 in
    let is_x : nat_abs h.2.0 ≡ p.value.x = ap (λ (q : Placed GridCell). q.value.x) (sym g.0) in
    let is_y : nat_abs h.2.2.0 ≡ p.value.y = ap (λ (q : Placed GridCell). q.value.y) (sym g.0) in
    (fixed_is w t.bytes h.0 h.1, (x.value ∙ ap (λ m. Ok (pos m)) is_x, (y.value ∙ ap (λ m. Ok (pos m)) is_y, g.1)))

says_grid_cell : (states : ℕ) (w : List ℕ) (p : GridCell) (ts rest : List Piece) → Begins (grid_cell_words w p) ts rest
    → IsGridCell states p → (place : ℕ) × Says (grid_cell_format states w) ts (record { value = p; place = place }) rest
unfolding grid_cell_format Says
says_grid_cell states w p [] rest h k = absurd h
says_grid_cell states w p (t ∷ []) rest h k = absurd h.1
says_grid_cell states w p (t ∷ u ∷ []) rest h k = absurd h.1.1
says_grid_cell states w p (t ∷ u ∷ v ∷ ts) rest h k = (
  u.place,
  (
    pos 0,
    is_fixed w t.bytes h.0,
    (
      pos p.x,
      says_natural 0 (states - 1) p.x u.bytes h.1.0 (omega arith) k.x,
      (pos p.y, says_natural 0 (states - 1) p.y v.bytes h.1.1.0 (omega arith) k.y, (refl, h.1.1.1)),
    ),
  ),
)

-- ---- states

-- a state of a map of this size, and its cell
quotient_below : (s a n : ℕ) → 1 ≤ n → s < a * n → s / n < a
quotient_below s a n some h = (div-lt_iff_lt-mul {k = n} {x = s} {y = a} some).1 h

abbrev grid_cell_of : Size → ℕ → GridCell
grid_cell_of size s = record { x = column_of size.width s; y = row_of size.width s }

record IsGridCellOf (size : Size) (p : GridCell) (s : ℕ) : Type 0 where
  inside : s < size.width * size.height
  grid_cell : p ≡ grid_cell_of size s

same_grid_cell : (p q : GridCell) → p.x ≡ q.x → p.y ≡ q.y → p ≡ q
same_grid_cell p q x y = rw (x, y) refl

-- a cell on the map is that of its state
grid_cell_of_state : (size : Size) (p : GridCell) → is_on_map size p ≡ true → IsGridCellOf size p (state_of size p)
grid_cell_of_state size p h =
    let both = and_parts (nat_lt p.x size.width) (nat_lt p.y size.height) h in
    let right = ltb-true p.x size.width both.0 in
    let high = ltb-true p.y size.height both.1 in
    let inside = mul-add-lt p.y size.width p.x size.height high right in
    record {
      inside = omega (arith, inside);
      grid_cell = same_grid_cell p (grid_cell_of size (state_of size p)) (sym (mod-mul-add p.y size.width p.x right))
          (sym (div-mul-add p.y size.width p.x right));
    }

-- and each state is that of its cell
module _ (states : ℕ) (size : Size) (is : IsSize states size) (s : ℕ) (inside : s < size.width * size.height) where
  row_below : row_of size.width s < size.height
  row_below = quotient_below s size.height size.width is.width.0 (rw (mul_comm size.height size.width) inside)

  column_below : column_of size.width s < size.width
  column_below = let some = is.width.0 in omega arith

  is_grid_cell : IsGridCell states (grid_cell_of size s)
  is_grid_cell = let column = column_below in let row = row_below in let width = is.width.1 in let height = is.height.1 in
      record { x = omega arith; y = omega arith }

  grid_cell_on_map : is_on_map size (grid_cell_of size s) ≡ true
  grid_cell_on_map = and_from _ _ (lt-ltb (column_of size.width s) size.width column_below)
      (lt-ltb (row_of size.width s) size.height row_below)

  state_of_grid_cell : state_of size (grid_cell_of size s) ≡ s
  state_of_grid_cell = div-add-mod' s size.width

start_said : (states : ℕ) (size : Size) (s : ℕ) (ts rest : List Piece) → Says (start_format states size) ts s rest
    → Begins (spelled_state (codes "start(cells):") size.width s) ts rest × (s < size.width * size.height)
unfolding start_format start_grid_cell_format
start_said states size s ts rest h =
    let a = says_parts _ _ ts rest s h in
    let r = grid_cell_said states _ a.0 ts a.1 a.2 in
    let g = if_right _ _ s _ a.1 rest a.3 in
    let is = grid_cell_of_state size a.0.value g.0 in
    let at = subst (IsGridCellOf size a.0.value) (sym g.1) is in (
      subst (λ m. Begins (spelled_state (codes "start(cells):") size.width s) ts m) (sym g.2)
          (subst (λ p. Begins (grid_cell_words (codes "start(cells):") p) ts a.1) at.grid_cell r),
      at.inside,
    )

says_start : (states : ℕ) (size : Size) (s : ℕ) (ts rest : List Piece)
    → Begins (spelled_state (codes "start(cells):") size.width s) ts rest → IsSize states size
    → s < size.width * size.height → Says (start_format states size) ts s rest
unfolding start_format start_grid_cell_format Says
says_start states size s ts rest h is inside =
    let a = says_grid_cell states _ (grid_cell_of size s) ts rest h (is_grid_cell states size is s inside) in
    let on = grid_cell_on_map states size is s inside in
    says_both (grid_cell_format states (codes "start(cells):")) _ ts rest rest
    (record { value = grid_cell_of size s; place = a.0 }) s a.1 (rw on (sym (state_of_grid_cell states size is s inside), refl))

end_said : (states : ℕ) (size : Size) (s : ℕ) (ts rest : List Piece) → Says (end_format states size) ts s rest
    → Begins (spelled_state (codes "end(cells):") size.width s) ts rest × (s < size.width * size.height)
unfolding end_format end_grid_cell_format
end_said states size s ts rest h =
    let a = says_parts _ _ ts rest s h in
    let r = grid_cell_said states _ a.0 ts a.1 a.2 in
    let g = if_right _ _ s _ a.1 rest a.3 in
    let is = grid_cell_of_state size a.0.value g.0 in
    let at = subst (IsGridCellOf size a.0.value) (sym g.1) is in (
      subst (λ m. Begins (spelled_state (codes "end(cells):") size.width s) ts m) (sym g.2)
          (subst (λ p. Begins (grid_cell_words (codes "end(cells):") p) ts a.1) at.grid_cell r),
      at.inside,
    )

says_end : (states : ℕ) (size : Size) (s : ℕ) (ts rest : List Piece)
    → Begins (spelled_state (codes "end(cells):") size.width s) ts rest → IsSize states size
    → s < size.width * size.height → Says (end_format states size) ts s rest
unfolding end_format end_grid_cell_format Says
says_end states size s ts rest h is inside =
    let a = says_grid_cell states _ (grid_cell_of size s) ts rest h (is_grid_cell states size is s inside) in
    let on = grid_cell_on_map states size is s inside in
    says_both (grid_cell_format states (codes "end(cells):")) _ ts rest rest
    (record { value = grid_cell_of size s; place = a.0 }) s a.1
    (rw on (sym (state_of_grid_cell states size is s inside), refl))

-- ---- all numbers but the costs

abbrev size_in : NavEnvironment → Size
size_in e = record { width = e.width; height = e.height }

abbrev start_words : NavEnvironment → List Said
start_words e = spelled_state (codes "start(cells):") e.width e.start

abbrev end_words : NavEnvironment → List Said
end_words e = spelled_state (codes "end(cells):") e.width e.end

abbrev ends_words : NavEnvironment → List Said
ends_words e = start_words e ++ end_words e

numbers_said : (states : ℕ) (e : NavEnvironment) (ts rest : List Piece) → states ≤ 268435456
    → Says (numbers_format states) ts e rest
    → Begins (spelled_numbers e) ts rest × IsNavEnvironment e × (e.width * e.height ≤ states)
unfolding numbers_format Says
numbers_said states e ts rest small h =
    let a = says_parts _ _ ts rest e h in
    let b = says_parts _ _ a.1 rest e a.3 in
    let c = says_parts _ _ b.1 rest e b.3 in
    let d = says_parts _ _ c.1 rest e c.3 in
    let size = size_said states a.0 ts a.1 a.2 in
    let obsthresh = obsthresh_said b.0 a.1 b.1 b.2 in
    let start = start_said states a.0 c.0 b.1 c.1 c.2 in
    let end = end_said states a.0 d.0 c.1 d.1 d.2 in
    let made : NavEnvironment =
    record { width = a.0.width; height = a.0.height; obsthresh = b.0; start = c.0; end = d.0 } in
    let begins : Begins (spelled_numbers made) ts d.1 =
    begins_append (size_words a.0) (obsthresh_words b.0 ++ ends_words made) ts a.1 d.1 size.0
    (begins_append (obsthresh_words b.0) (ends_words made) a.1 b.1 d.1 obsthresh.0
    (begins_append (start_words made) (end_words made) b.1 c.1 d.1 start.0 end.0)) in
    let is : IsNavEnvironment made = record {
      width = (size.1.width.0, le_trans size.1.width.1 small);
      height = (size.1.height.0, le_trans size.1.height.1 small);
      obsthresh = obsthresh.1;
      states = le_trans size.1.few small;
      start = start.1;
      end = end.1;
    } in
    let same : made ≡ e = sym d.3.0 in (
      subst (λ (x : NavEnvironment). Begins (spelled_numbers x) ts rest) same
          (subst (λ m. Begins (spelled_numbers made) ts m) (sym d.3.1) begins),
      subst IsNavEnvironment same is,
      subst (λ (x : NavEnvironment). x.width * x.height ≤ states) same size.1.few,
    )

-- a side of a map is not longer than all its cells
side_le : (w h states : ℕ) → 1 ≤ h → w * h ≤ states → w ≤ states
side_le w h states some few = let one : w * 1 ≤ w * h = mul-le-mul_left w some in omega arith

says_numbers : (states : ℕ) (e : NavEnvironment) (ts rest : List Piece) → Begins (spelled_numbers e) ts rest
    → IsNavEnvironment e → e.width * e.height ≤ states → Says (numbers_format states) ts e rest
unfolding numbers_format Says
says_numbers states e ts rest h k few =
    let size = size_in e in
    let is : IsSize states size = record {
      width = (k.width.0, side_le e.width e.height states k.height.0 few);
      height = (k.height.0, side_le e.height e.width states k.width.0 (rw (mul_comm e.height e.width) few));
      few = few;
    } in
    let a = append_begins (size_words size) (obsthresh_words e.obsthresh ++ ends_words e) ts rest h in
    let b = append_begins (obsthresh_words e.obsthresh) (ends_words e) a.0 rest a.2 in
    let c = append_begins (start_words e) (end_words e) b.0 rest b.2 in
    says_both (size_format states) _ ts a.0 rest size e (says_size states size ts a.0 a.1 is)
    (says_both obsthresh_format _ a.0 b.0 rest e.obsthresh e (says_obsthresh e.obsthresh a.0 b.0 b.1 k.obsthresh)
    (says_both (start_format states size) _ b.0 c.0 rest e.start e (says_start states size e.start b.0 c.0 c.1 is k.start)
    (says_both (end_format states size) _ c.0 rest rest e.end e (says_end states size e.end c.0 rest c.2 is k.end) (refl, refl))))

-- ---- the grid

abbrev costs_words : List ℕ → List Said
costs_words cells = map (λ c. number (pos c)) cells

abbrev AreCosts : List ℕ → Type 0
AreCosts cells = AllByRecursion (λ c. c ≤ 255) cells

-- one more cost
record IsMore (before cells : List ℕ) (ts rest : List Piece) : Type 0 where
  cost : ℕ
  all : cells ≡ before ++ cost ∷ []
  bound : cost ≤ 255
  begins : Begins (number (pos cost) ∷ []) ts rest

cost_said : (before cells : List ℕ) (ts rest : List Piece) → Says (cost_format before) ts cells rest
    → IsMore before cells ts rest
unfolding cost_format Says
cost_said before cells [] rest h = absurd h
cost_said before cells (t ∷ ts) rest h =
    let r = natural_said 0 255 h.0 t.bytes h.1 in
    record { cost = nat_abs h.0; all = h.2.0; bound = r.between.1; begins = (r.value, h.2.1) }

says_cost : (before : List ℕ) (cost : ℕ) (ts rest : List Piece) → Begins (number (pos cost) ∷ []) ts rest → cost ≤ 255
    → Says (cost_format before) ts (before ++ cost ∷ []) rest
unfolding cost_format Says
says_cost before cost [] rest h k = absurd h
says_cost before cost (t ∷ ts) rest h k = (pos cost, says_natural 0 255 cost t.bytes h.0 (omega arith) k, (refl, h.1))

-- costs after those that were read
record Further (count : ℕ) (before cells : List ℕ) (ts rest : List Piece) : Type 0 where
  more : List ℕ
  all : cells ≡ before ++ more
  size : length more ≡ count
  costs : AreCosts more
  begins : Begins (costs_words more) ts rest

costs_said : (count : ℕ) (before cells : List ℕ) (ts rest : List Piece)
    → Says (turns count cost_format before) ts cells rest → Further count before cells ts rest
unfolding turns Says
costs_said zero before cells ts rest h =
    record { more = []; all = h.0 ∙ sym (append-nil before); size = refl; costs = tt; begins = h.1 }
costs_said (suc count) before cells ts rest h =
    let a = says_parts _ _ ts rest cells h in
    let one = cost_said before a.0 ts a.1 a.2 in
    let others = costs_said count a.0 cells a.1 rest a.3 in
    record {
      more = one.cost ∷ others.more;
      all = others.all ∙ ap (λ (xs : List ℕ). xs ++ others.more) one.all
          ∙ append_assoc before (one.cost ∷ []) others.more;
      size = ap suc others.size;
      costs = (one.bound, others.costs);
      begins = begins_append (number (pos one.cost) ∷ [])
          (costs_words others.more) ts a.1 rest one.begins others.begins;
    }

says_costs : (more before : List ℕ) (ts rest : List Piece) → Begins (costs_words more) ts rest → AreCosts more
    → Says (turns (length more) cost_format before) ts (before ++ more) rest
unfolding turns Says
says_costs [] before ts rest h k = (append-nil before, h)
says_costs (cost ∷ more) before ts rest h k =
    let a = append_begins (number (pos cost) ∷ []) (costs_words more) ts rest h in
    says_both (cost_format before) _ ts a.0 rest (before ++ cost ∷ []) (before ++ cost ∷ more)
    (says_cost before cost ts a.0 a.1 k.0)
    (subst (λ (xs : List ℕ). Says (turns (length more) cost_format (before ++ cost ∷ [])) a.0 xs rest)
    (append_assoc before (cost ∷ []) more)
    (says_costs more (before ++ cost ∷ []) a.0 rest a.2 k.1))

grid_said : (count : ℕ) (cells : List ℕ) (ts rest : List Piece) → Says (grid_format count) ts cells rest
    → Begins (spelled_grid cells) ts rest × (length cells ≡ count) × AreCosts cells
unfolding grid_format Says
grid_said count cells [] rest h = absurd h
grid_said count cells (t ∷ ts) rest h =
    let all = costs_said count [] cells ts rest h.2 in
    let same : all.more ≡ cells = sym all.all in (
      (fixed_is _ t.bytes h.0 h.1, subst (λ xs. Begins (costs_words xs) ts rest) same all.begins),
      subst (λ (xs : List ℕ). length xs ≡ count) same all.size,
      subst AreCosts same all.costs,
    )

says_grid : (count : ℕ) (cells : List ℕ) (ts rest : List Piece) → Begins (spelled_grid cells) ts rest
    → length cells ≡ count → AreCosts cells
    → Says (grid_format count) ts cells rest
unfolding grid_format Says
says_grid count cells [] rest h size k = absurd h
says_grid count cells (t ∷ ts) rest h size k = (
  pos 0,
  is_fixed _ t.bytes h.0,
  subst (λ n. Says (turns n cost_format []) ts cells rest) size
      (says_costs cells [] ts rest h.1 k),
)

-- ---- the whole text

pub text_said : (states : ℕ) (text : List ℕ) (x : NavEnvironment × List ℕ) → states ≤ 268435456
    → StandsFor (environment_format states) text x → IsTextOf states text x.0 x.1
unfolding environment_format
text_said states text x small h =
    let a = says_parts _ _ (tokens text) h.0 x h.1 in
    let b = says_parts _ _ a.1 h.0 x a.3 in
    let z = at_end _ _ x (a.0, b.0) b.1 h.0 b.3 in
    let p = numbers_said states a.0 (tokens text) a.1 small a.2 in
    let q = grid_said (a.0.width * a.0.height) b.0 a.1 b.1 b.2 in
    let all = begins_append (spelled_numbers a.0) (spelled_grid b.0) (tokens text) a.1 [] p.0
    (subst (λ m. Begins (spelled_grid b.0) a.1 m) z.1 q.0) in
    subst (λ (y : NavEnvironment × List ℕ). IsTextOf states text y.0 y.1) (sym z.0) (record {
      tokens = begins_all (spelled a.0 b.0) (tokens text) all;
      environment = p.1;
      few = p.2;
      grid = record { size = q.1; costs = q.2 };
    })

pub says_text : (states : ℕ) (text : List ℕ) (x : NavEnvironment × List ℕ) → IsTextOf states text x.0 x.1
    → StandsFor (environment_format states) text x
unfolding environment_format Says
says_text states text x h =
    let a = append_begins (spelled_numbers x.0) (spelled_grid x.1) (tokens text) []
    (all_begins (spelled x.0 x.1) (tokens text) h.tokens) in (
      [],
      says_both (numbers_format states) _ (tokens text) a.0 [] x.0 x
          (says_numbers states x.0 (tokens text) a.0 a.1 h.environment h.few)
          (says_both (grid_format (x.0.width * x.0.height)) _ a.0 [] [] x.1 x
          (says_grid (x.0.width * x.0.height) x.1 a.0 [] a.2 h.grid.size h.grid.costs) (refl, refl)),
    )
