-- Texts that are appended one after the other.
use Rattle.std.proofs.Common.{◌≡◌, ℕ, zero, suc, sub-one, ◌+◌, ◌-◌, ◌<◌, ◌≤◌, List, [], ◌∷◌, ◌++◌, map, take}
use Rattle.std.proofs.Common.{drop, append_assoc, append-nil, arith, refl, sym, ◌∙◌, ap}
use Rattle.std.proofs.lemmas.List.Concat.{flat_map-append}
use Rattle.std.specs.Fmt.{decimal}
use Rattle.sbpl_fixed.specs.Printed.{line_text, lines_text}
use Rattle.sbpl_cfg.specs.Printed.{grid_lines}

pub after_three : (a x y z : List ℕ) {b c d : List ℕ} → b ≡ a ++ x → c ≡ b ++ y → d ≡ c ++ z
    → d ≡ a ++ (x ++ (y ++ (z ++ [])))
after_three a x y z p q r = rw (r, q, p) (simp (append_assoc, append-nil))

grid_lines-more : (rows width : ℕ) (cells : List ℕ) → 0 < rows
    → grid_lines rows width cells ≡ map decimal (take width cells) ∷ grid_lines (rows - 1) width (drop width cells)
unfolding grid_lines
grid_lines-more zero width cells h = absurd (omega arith)
grid_lines-more (suc rows) width cells h = rw sub-one refl

-- one more row of a grid
pub grid_more : {old next row below : List ℕ} (out rest : List ℕ) (height width y : ℕ) → y < height
    → row ≡ take width rest → below ≡ drop width rest
    → next ≡ out ++ line_text (map decimal row) → out ++ lines_text (grid_lines (height - y) width rest) ≡ old
    → next ++ lines_text (grid_lines (height - (y + 1)) width below) ≡ old
grid_more {next} {row} {below} out rest height width y more at after wrote before =
    let step : grid_lines (height - y) width rest ≡ map decimal row ∷ grid_lines (height - (y + 1)) width below =
    rw (at, after, grid_lines-more (height - y) width rest (omega arith))
    (ap (λ n. map decimal (take width rest) ∷ grid_lines n width (drop width rest)) (omega arith)) in
    rw (wrote, append_assoc out (line_text (map decimal row)) (lines_text (grid_lines (height - (y + 1)) width below)))
    (rw step at before)

-- no row is left
pub grid_done : {old out : List ℕ} (rest : List ℕ) (height width y : ℕ) → height ≤ y
    → out ++ lines_text (grid_lines (height - y) width rest) ≡ old → out ≡ old
unfolding grid_lines
grid_done {out} rest height width y done before =
    let none : height - y ≡ 0 = omega arith in
    sym (append-nil out) ∙ (rw none at before)

lines_append : (a b : List (List (List ℕ))) → lines_text (a ++ b) ≡ lines_text a ++ lines_text b
lines_append a b = flat_map-append line_text a b

-- six runs of lines, one after the other
pub after_lines : {o p q r s t : List ℕ} (out : List ℕ) (a b c d e f : List (List (List ℕ)))
    → o ≡ out ++ lines_text a → p ≡ o ++ lines_text b → q ≡ p ++ lines_text c → r ≡ q ++ lines_text d
    → s ≡ r ++ lines_text e → t ≡ s ++ lines_text f
    → t ≡ out ++ lines_text (a ++ (b ++ (c ++ (d ++ (e ++ f)))))
after_lines out a b c d e f h i j k l m =
    rw (m, l, k, j, i, h, lines_append, lines_append, lines_append, lines_append, lines_append) (simp append_assoc)
