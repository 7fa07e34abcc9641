-- One more draw, and what it adds.
use Rattle.std.proofs.Common.{◌≡◌, ℕ, zero, suc, ◌+◌, ◌*◌, List, [], ◌∷◌, ◌++◌, map, append-nil, ap}
use Rattle.std.proofs.Common.{refl, sym, ◌∙◌, add-one, arith}
use Rattle.std.specs.List.{flat_map}
use Rattle.std.proofs.lemmas.List.{map-append}
use Rattle.std.proofs.lemmas.List.Concat.{flat_map-append}
use Rattle.sbpl_fixed.specs.Printed.{line_text, lines_text}
use Rattle.sbpl_cost.specs.sbpl_map.ChangeText.{replan_line}
use Rattle.sbpl_cost.specs.sbpl_map.Printed.{batch_lines, changes_text, write_line}
use Rattle.sbpl_cost.specs.sbpl_map.declared.write.Write.{Write}
use Rattle.sbpl_demo.specs.Generator.{draw, next_word, word_after}
use Rattle.sbpl_demo.specs.Environment.{cost_of, costs_drawn}
use Rattle.sbpl_demo.specs.Changes.{batches, change, writes}
use Rattle.sbpl_demo.specs.Primitives.{backward, far, forward, head_lines, left, motion_head, motion_lines, motions}
use Rattle.sbpl_demo.specs.Primitives.{motions_from, pose_lines, pose_words, primitives_text, right, way_along}
use Rattle.sbpl_demo.specs.declared.primitives.Motion.{Motion}

pub word_none : (x : ℕ) → word_after 0 x ≡ x
unfolding word_after
word_none x = refl

pub word_next : (n x : ℕ) → word_after (n + 1) x ≡ next_word (word_after n x)
unfolding word_after
word_next n x = rw (add-one n) refl

pub words_join : (n m x : ℕ) → word_after n (word_after m x) ≡ word_after (m + n) x
unfolding word_after
words_join zero m x = let e : m + 0 ≡ m = omega arith in rw e refl
words_join (suc n) m x =
    let e : m + suc n ≡ suc (m + n) = omega arith in
    rw (e, words_join n m x) refl

pub word_change : (n x : ℕ) → word_after (3 * (n + 1)) x ≡ word_after 3 (word_after (3 * n) x)
word_change n x = let e : 3 * (n + 1) ≡ 3 * n + 3 = omega arith in rw e (sym (words_join 3 (3 * n) x))

pub word_batch : (n x : ℕ) → word_after (24 * (n + 1)) x ≡ word_after 24 (word_after (24 * n) x)
word_batch n x = let e : 24 * (n + 1) ≡ 24 * n + 24 = omega arith in rw e (sym (words_join 24 (24 * n) x))

pub word_three : (x : ℕ) → word_after 3 x ≡ next_word (next_word (next_word x))
unfolding word_after
word_three x = refl

pub costs_none : (x : ℕ) → costs_drawn 0 x ≡ []
unfolding costs_drawn
costs_none x = refl

pub costs_next : (n x : ℕ) → costs_drawn (n + 1) x ≡ costs_drawn n x ++ cost_of (draw n x) ∷ []
unfolding costs_drawn
costs_next n x = rw (add-one n) refl

-- the text of writes
abbrev text_of : List Write → List ℕ
text_of ws = lines_text (map write_line ws)

pub writes_none : (width height from : ℕ) → lines_text (map write_line (writes width height 0 from)) ≡ []
unfolding writes
writes_none width height from = refl

pub writes_next : (width height n from : ℕ)
    → lines_text (map write_line (writes width height (n + 1) from))
    ≡ lines_text (map write_line (writes width height n from))
    ++ lines_text (map write_line (change width height (word_after (3 * n) from)))
unfolding writes
writes_next width height n from =
    let before = writes width height n from in
    let more = change width height (word_after (3 * n) from) in
    let next : writes width height (n + 1) from ≡ before ++ more = rw (add-one n) refl in
    rw (next, map-append write_line before more)
    (flat_map-append line_text (map write_line before) (map write_line more))

-- a batch's writes, and its end
pub batch_ends : (batch : List Write)
    → lines_text (batch_lines batch) ≡ lines_text (map write_line batch) ++ line_text replan_line
batch_ends batch =
    flat_map-append line_text (map write_line batch) (replan_line ∷ [])
    ∙ ap (λ (l : List ℕ). text_of batch ++ l) (append-nil (line_text replan_line))

pub batches_none : (width height from : ℕ) → changes_text (batches width height 0 from) ≡ []
unfolding batches
batches_none width height from = refl

pub batches_next : (width height n from : ℕ)
    → changes_text (batches width height (n + 1) from) ≡ changes_text (batches width height n from)
    ++ lines_text (batch_lines (writes width height 8 (word_after (24 * n) from)))
unfolding batches
batches_next width height n from =
    let before = batches width height n from in
    let batch = writes width height 8 (word_after (24 * n) from) in
    let next : batches width height (n + 1) from ≡ before ++ batch ∷ [] = rw (add-one n) refl in
    rw (next, flat_map-append batch_lines before (batch ∷ []), append-nil (batch_lines batch))
    (flat_map-append line_text (flat_map batch_lines before) (batch_lines batch))

-- ---- the lines of primitives

pub poses_none : (m : Motion) → lines_text (pose_lines m 0) ≡ []
unfolding pose_lines
poses_none m = refl

pub poses_next : (m : Motion) (n : ℕ)
    → lines_text (pose_lines m (n + 1)) ≡ lines_text (pose_lines m n) ++ line_text (pose_words m n)
unfolding pose_lines
poses_next m n =
    let next : pose_lines m (n + 1) ≡ pose_lines m n ++ pose_words m n ∷ [] = rw (add-one n) refl in
    rw (next, flat_map-append line_text (pose_lines m n) (pose_words m n ∷ []), append-nil (line_text (pose_words m n)))
    refl

pub motion_written : (m : Motion)
    → lines_text (motion_lines m) ≡ lines_text (motion_head m) ++ lines_text (pose_lines m 10)
unfolding motion_lines
motion_written m = flat_map-append line_text (motion_head m) (pose_lines m 10)

pub motions_none : lines_text (flat_map motion_lines (motions 0)) ≡ []
unfolding motions
motions_none = refl

pub head_written : (head empty text : List ℕ) → head ≡ lines_text head_lines → empty ≡ [] → text ≡ empty ++ head
    → text ≡ lines_text head_lines ++ lines_text (flat_map motion_lines (motions 0))
head_written head empty text is none adds =
    adds ∙ rw (none, motions_none) (is ∙ sym (append-nil (lines_text head_lines)))

pub motions_next : (n : ℕ)
    → lines_text (flat_map motion_lines (motions (n + 1)))
    ≡ lines_text (flat_map motion_lines (motions n)) ++ lines_text (flat_map motion_lines (motions_from n))
unfolding motions
motions_next n =
    let next : motions (n + 1) ≡ motions n ++ motions_from n = rw (add-one n) refl in
    rw (next, flat_map-append motion_lines (motions n) (motions_from n))
    (flat_map-append line_text (flat_map motion_lines (motions n)) (flat_map motion_lines (motions_from n)))

-- the five primitives of a heading, one after the other
pub five_written : (from : ℕ) → lines_text (flat_map motion_lines (motions_from from))
    ≡ lines_text (motion_lines (forward from (way_along from)))
    ++ (lines_text (motion_lines (backward from (way_along from)))
    ++ (lines_text (motion_lines (left from))
    ++ (lines_text (motion_lines (right from))
    ++ lines_text (motion_lines (far from (way_along from))))))
unfolding motions_from
five_written from = simp (flat_map-append, append-nil)

pub file_written : primitives_text ≡ lines_text head_lines ++ lines_text (flat_map motion_lines (motions 16))
file_written = flat_map-append line_text head_lines (flat_map motion_lines (motions 16))
