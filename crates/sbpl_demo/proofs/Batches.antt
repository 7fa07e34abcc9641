-- The changes that are drawn can be made, and their text is short.
use Rattle.std.proofs.Common.{◌≡◌, ℕ, zero, suc, ◌*◌, ◌%◌, ◌<◌, ◌≤◌, List, [], ◌∷◌, ◌++◌, length, map, refl, ap, inl}
use Rattle.std.proofs.Common.{inr, add-one, arith}
use Rattle.std.specs.Prelude.{decimal, nat_eq}
use Rattle.std.specs.List.{AllByRecursion}
use Rattle.std.proofs.Math.Nat.{mod-lt}
use Rattle.std.proofs.lemmas.Bool.{cases_Bool}
use Rattle.std.proofs.lemmas.Fmt.{length-decimal-le}
use Rattle.std.proofs.lemmas.List.{length-append}
use Rattle.sbpl_fixed.specs.Printed.{line_text, lines_text}
use Rattle.sbpl_cost.specs.sbpl_map.CellMap.{CellMap}
use Rattle.sbpl_cost.specs.sbpl_map.ChangeText.{replan_line, IsWriteOnMap}
use Rattle.sbpl_cost.specs.sbpl_map.Printed.{AreChangesOf, batch_lines, changes_text, write_line}
use Rattle.sbpl_cost.specs.sbpl_map.declared.write.Write.{Write}
use Rattle.sbpl_demo.specs.Generator.{draw, word_after}
use Rattle.sbpl_demo.specs.Changes.{batches, cell_writes, change, change_cost, changes_drawn, is_end, writes}
use Rattle.sbpl_demo.proofs.Steps.{batch_ends, batches_next, batches_none, writes_next, writes_none}

abbrev a_write : ℕ → ℕ → ℕ → Write
a_write x y cost = record { x = x; y = y; cost = cost }

-- what holds of each write to a cell of the map
abbrev HoldsOnMap : ℕ → ℕ → (Write → Type 0) → Type 0
HoldsOnMap width height P = (x y cost : ℕ) → x < width → y < height → cost ≤ 255 → P (a_write x y cost)

cost_small : (drawn : ℕ) → change_cost drawn ≤ 255
cost_small drawn = elim (cases_Bool (nat_eq (drawn % 2) 1)) [ inl e ↦ rw e (omega arith) | inr e ↦ rw e (omega arith) ]

cell_holds : (width height x y cost : ℕ) (P : Write → Type 0) → P (a_write x y cost)
    → AllByRecursion P (cell_writes width height x y cost)
cell_holds width height x y cost P h =
    elim (cases_Bool (is_end width height x y)) [ inl e ↦ rw e tt | inr e ↦ rw e (h, tt) ]

change_holds : (width height from : ℕ) (P : Write → Type 0) → 0 < width → 0 < height → HoldsOnMap width height P
    → AllByRecursion P (change width height from)
unfolding change
change_holds width height from P some more h =
    let x = draw 0 from % width in
    let y = draw 1 from % height in
    let cost = change_cost (draw 2 from) in
    cell_holds width height x y cost P
    (h x y cost (mod-lt (draw 0 from) some) (mod-lt (draw 1 from) more) (cost_small (draw 2 from)))

both_hold : {X : Type 0} (P : X → Type 0) (xs ys : List X) → AllByRecursion P xs → AllByRecursion P ys
    → AllByRecursion P (xs ++ ys)
both_hold P [] ys h k = k
both_hold P (x ∷ xs) ys h k = (h.0, both_hold P xs ys h.1 k)

writes_hold : (width height n from : ℕ) (P : Write → Type 0) → 0 < width → 0 < height → HoldsOnMap width height P
    → AllByRecursion P (writes width height n from)
unfolding writes
writes_hold width height zero from P some more h = tt
writes_hold width height (suc n) from P some more h =
    both_hold P (writes width height n from) (change width height (word_after (3 * n) from))
    (writes_hold width height n from P some more h)
    (change_holds width height (word_after (3 * n) from) P some more h)

batches_hold : (width height n from : ℕ) (P : Write → Type 0) → 0 < width → 0 < height → HoldsOnMap width height P
    → AllByRecursion (λ batch. AllByRecursion P batch) (batches width height n from)
unfolding batches
batches_hold width height zero from P some more h = tt
batches_hold width height (suc n) from P some more h =
    both_hold (λ batch. AllByRecursion P batch) (batches width height n from)
    (writes width height 8 (word_after (24 * n) from) ∷ [])
    (batches_hold width height n from P some more h)
    (writes_hold width height 8 (word_after (24 * n) from) P some more h, tt)

pub are_changes : (width height seed : ℕ) (m : CellMap) → 8 ≤ width → width ≤ 512 → 8 ≤ height → height ≤ 512
    → m.width ≡ width → m.height ≡ height
    → AreChangesOf 8388608 m (changes_drawn width height seed)
are_changes width height seed m a b c d e f =
    let from = word_after (width * height) seed in
    record {
      width = omega arith;
      height = omega arith;
      on_map =
          batches_hold width height 3 from (λ w. IsWriteOnMap m w) (omega arith) (omega arith)
          (λ x y cost h k l. record { x = omega arith; y = omega arith });
      costs = batches_hold width height 3 from (λ w. w.cost ≤ 255) (omega arith) (omega arith) (λ x y cost h k l. l);
    }

pub are_three : (width height seed : ℕ) → length (changes_drawn width height seed) ≡ 3
unfolding batches
are_three width height seed = refl

-- ---- how long the text is

line_short : (w : Write) → w.x < 1000 → w.y < 1000 → w.cost < 1000 → length (line_text (write_line w)) ≤ 17
unfolding line_text
line_short w h k l =
    omega (
      arith,
      length-decimal-le 3 w.x (omega arith) h (omega arith),
      length-decimal-le 3 w.y (omega arith) k (omega arith),
      length-decimal-le 3 w.cost (omega arith) l (omega arith),
      length-append (decimal w.x) (32 ∷ (decimal w.y ++ 32 ∷ (decimal w.cost ++ 10 ∷ []))),
      length-append (decimal w.y) (32 ∷ (decimal w.cost ++ 10 ∷ [])),
      length-append (decimal w.cost) (10 ∷ []),
    )

-- the text of writes
abbrev text_of : List Write → List ℕ
text_of ws = lines_text (map write_line ws)

cell_short : (width height x y cost : ℕ) → x < 1000 → y < 1000 → cost < 1000
    → length (text_of (cell_writes width height x y cost)) ≤ 17
cell_short width height x y cost h k l = elim (cases_Bool (is_end width height x y)) [
  | inl e ↦ rw e (omega arith)
  | inr e ↦
      rw e (let one = line_short (a_write x y cost) h k l in
      omega (arith, one, length-append (line_text (write_line (a_write x y cost))) []))
]

change_short : (width height from : ℕ) → 0 < width → 0 < height → width ≤ 512 → height ≤ 512
    → length (text_of (change width height from)) ≤ 17
unfolding change
change_short width height from some more few low =
    let x = mod-lt (draw 0 from) some in
    let y = mod-lt (draw 1 from) more in
    let cost = cost_small (draw 2 from) in
    cell_short width height (draw 0 from % width) (draw 1 from % height) (change_cost (draw 2 from)) (omega (arith, x))
    (omega (arith, y)) (omega (arith, cost))

writes_short : (width height n from : ℕ) → 0 < width → 0 < height → width ≤ 512 → height ≤ 512
    → length (text_of (writes width height n from)) ≤ 17 * n
writes_short width height zero from a b c d = rw (writes_none width height from) (omega arith)
writes_short width height (suc n) from a b c d =
    let before = writes_short width height n from a b c d in
    let one = change_short width height (word_after (3 * n) from) a b c d in
    let next = rw (add-one n) at (ap length (writes_next width height n from)) in
    omega (
      arith,
      before,
      one,
      next,
      length-append (text_of (writes width height n from)) (text_of (change width height (word_after (3 * n) from))),
    )

end_short : length (line_text replan_line) ≡ 7
unfolding line_text
end_short = refl

batches_short : (width height n from : ℕ) → 0 < width → 0 < height → width ≤ 512 → height ≤ 512
    → length (changes_text (batches width height n from)) ≤ 143 * n
batches_short width height zero from a b c d = rw (batches_none width height from) (omega arith)
batches_short width height (suc n) from a b c d =
    let batch = writes width height 8 (word_after (24 * n) from) in
    let before = batches_short width height n from a b c d in
    let some = writes_short width height 8 (word_after (24 * n) from) a b c d in
    let next = rw (add-one n) at (ap length (batches_next width height n from)) in
    let ends = ap length (batch_ends batch) in
    omega (
      arith,
      before,
      some,
      next,
      ends,
      end_short,
      length-append (text_of batch) (line_text replan_line),
      length-append (changes_text (batches width height n from)) (lines_text (batch_lines batch)),
    )

pub are_short : (width height seed : ℕ) → 8 ≤ width → width ≤ 512 → 8 ≤ height → height ≤ 512
    → length (changes_text (changes_drawn width height seed)) ≤ 429
are_short width height seed a b c d =
    batches_short width height 3 (word_after (width * height) seed) (omega arith) (omega arith) b d
