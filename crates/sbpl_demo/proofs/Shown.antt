-- What the words of the primitive file say.
use Rattle.std.proofs.Common.{◌≡◌, ℕ, zero, suc, ◌^◌, ◌≤◌, ◌<◌, ℤ, pos, negsuc, true, List, [], ◌∷◌, ◌++◌, length}
use Rattle.std.proofs.Common.{map, refl, arith}
use Rattle.std.specs.Prelude.{codes, decimal, unsigned_abs}
use Rattle.std.specs.Fmt.{signed_decimal}
use Rattle.std.specs.List.{flat_map, list_all, AllByRecursion}
use Rattle.std.proofs.lemmas.Int.{ints}
use Rattle.std.proofs.lemmas.List.Concat.{flat_map-append}
use Rattle.sbpl_fixed.specs.Numbers.{nano_of, number_after}
use Rattle.sbpl_fixed.specs.Tokens.{is_filled}
use Rattle.sbpl_fixed.proofs.ReadBack.{wholes_are_read_back, wholes_are_words}
use Rattle.sbpl_cost.specs.sbpl_cfg.declared.pose.Pose.{Pose}
use Rattle.sbpl_cost.specs.sbpl_mprim.Judging.{heading_modulo}
use Rattle.sbpl_cost.specs.sbpl_mprim.Text.{AreShown, Saying, Shows, a_heading, a_nano, a_whole, a_word, spelled}
use Rattle.sbpl_cost.specs.sbpl_mprim.Text.{spelled_pose, spelled_prim, words_of}
use Rattle.sbpl_demo.specs.declared.primitives.Motion.{Motion}
use Rattle.sbpl_demo.specs.Primitives.{along, angle, head_lines, heading_at, motion_lines, motions, nanos, parts_text}
use Rattle.sbpl_demo.specs.Primitives.{pose, pose_lines, pose_words, poses, primitive, primitives}
use Rattle.sbpl_demo.proofs.Eighty.{IsNear, IsSound, are_sound, eighty}
use Rattle.sbpl_demo.proofs.Words.{parts_are_read_back, parts_are_words}

both_shown : (ss us : List Saying) (ws vs : List (List ℕ)) → AreShown 16 ss ws → AreShown 16 us vs
    → AreShown 16 (ss ++ us) (ws ++ vs)
unfolding AreShown
both_shown [] us [] vs h k = k
both_shown [] us (w ∷ ws) vs h k = absurd h
both_shown (s ∷ ss) us [] vs h k = absurd h
both_shown (s ∷ ss) us (w ∷ ws) vs h k = (h.0, both_shown ss us ws vs h.1 k)

-- ---- words and numbers

shows_word : (w : List ℕ) → 0 < length w → list_all is_filled w ≡ true → Shows 16 (a_word w) w
shows_word w some filled = record { is_word = record { some = some; filled = filled }; means = refl }

shows_whole : (z : ℤ) → unsigned_abs z ≤ 1000 → Shows 16 (a_whole z) (signed_decimal z)
shows_whole z h = record { is_word = wholes_are_words z (omega arith); means = wholes_are_read_back z (omega arith) }

shows_count : (n : ℕ) → n ≤ 1000 → Shows 16 (a_whole (pos n)) (decimal n)
shows_count n h = shows_whole (pos n) h

shows_heading : (t : ℤ) → unsigned_abs t ≤ 16 → Shows 16 (a_heading (heading_modulo 16 t)) (signed_decimal t)
shows_heading t h = record {
  is_word = wholes_are_words t (omega arith);
  means = (t, wholes_are_read_back t (omega arith), (omega (arith, ints), omega (arith, ints)), refl);
}

parts_size : (z : ℤ) → unsigned_abs (nanos z) ≤ 10 ^ 18 → unsigned_abs z ≤ 10 ^ 13
parts_size (pos n) h = omega (arith, ints)
parts_size (negsuc n) h = omega (arith, ints)

shows_parts : (z : ℤ) → unsigned_abs (nanos z) ≤ 10 ^ 18 → Shows 16 (a_nano (nanos z)) (parts_text z)
shows_parts z h =
    let small = parts_size z h in record { is_word = parts_are_words z small; means = parts_are_read_back z small }

-- ---- poses

pose_shown : (m : Motion) (j : ℕ) → IsNear (pose m j)
    → AreShown 16 (spelled_pose (pose m j)) (words_of (pose_words m j ∷ []))
unfolding AreShown
pose_shown m j h = (
  shows_parts (along m.way.x j) (omega (arith, h.x)),
  (
    shows_parts (along m.way.y j) (omega (arith, h.y)),
    (shows_parts (angle (heading_at m j)) (omega (arith, h.theta)), tt),
  ),
)

all_split : (P : Pose → Type 0) (ps : List Pose) (p : Pose) → AllByRecursion P (ps ++ p ∷ [])
    → AllByRecursion P ps × P p
all_split P [] p h = (tt, h.0)
all_split P (q ∷ qs) p h = let k = all_split P qs p h.1 in ((h.0, k.0), k.1)

poses_shown : (m : Motion) (n : ℕ) → AllByRecursion IsNear (poses m n)
    → AreShown 16 (flat_map spelled_pose (poses m n)) (words_of (pose_lines m n))
unfolding AreShown poses pose_lines
poses_shown m zero h = tt
poses_shown m (suc n) h =
    let parts = all_split IsNear (poses m n) (pose m n) h in
    rw (
      flat_map-append spelled_pose (poses m n) (pose m n ∷ []),
      flat_map-append (λ (line : List (List ℕ)). line) (pose_lines m n) (pose_words m n ∷ []),
    )
    (both_shown (flat_map spelled_pose (poses m n)) (spelled_pose (pose m n)) (words_of (pose_lines m n))
    (words_of (pose_words m n ∷ [])) (poses_shown m n parts.0) (pose_shown m n parts.1))

-- ---- a primitive

motion_shown : (m : Motion) → IsSound m → AreShown 16 (spelled_prim (primitive m)) (words_of (motion_lines m))
unfolding AreShown primitive motion_lines poses
motion_shown m h = (
  shows_word (codes "primID:") (omega arith) refl,
  (
    shows_count m.id (omega (arith, h.id)),
    (
      shows_word (codes "startangle_c:") (omega arith) refl,
      (
        shows_count m.from (omega (arith, h.from)),
        (
          shows_word (codes "endpose_c:") (omega arith) refl,
          (
            shows_whole m.way.x (omega (arith, h.x)),
            (
              shows_whole m.way.y (omega (arith, h.y)),
              (
                shows_heading m.to h.to,
                (
                  shows_word (codes "additionalactioncostmult:") (omega arith) refl,
                  (
                    shows_count m.mult (omega (arith, h.mult.1)),
                    (
                      shows_word (codes "intermediateposes:") (omega arith) refl,
                      (shows_count 10 (omega arith), poses_shown m 10 h.near),
                    ),
                  ),
                ),
              ),
            ),
          ),
        ),
      ),
    ),
  ),
)

motions_shown : (ms : List Motion) → AllByRecursion IsSound ms
    → AreShown 16 (flat_map spelled_prim (map primitive ms)) (words_of (flat_map motion_lines ms))
unfolding AreShown
motions_shown [] h = tt
motions_shown (m ∷ ms) h =
    rw flat_map-append (both_shown (spelled_prim (primitive m)) (flat_map spelled_prim (map primitive ms))
    (words_of (motion_lines m)) (words_of (flat_map motion_lines ms)) (motion_shown m h.0) (motions_shown ms h.1))

-- ---- the file

shows_cell : Shows 16 (a_nano (pos 25000000)) (codes "0.025000")
unfolding nano_of number_after
shows_cell = record { is_word = record { some = omega arith; filled = refl }; means = refl }

pub file_shown : AreShown 16 (spelled primitives) (words_of (head_lines ++ flat_map motion_lines (motions 16)))
unfolding AreShown spelled
file_shown = (
  shows_word (codes "resolution_m:") (omega arith) refl,
  (
    shows_cell,
    (
      shows_word (codes "numberofangles:") (omega arith) refl,
      (
        shows_count 16 (omega arith),
        (
          shows_word (codes "totalnumberofprimitives:") (omega arith) refl,
          (rw eighty (shows_count 80 (omega arith)), motions_shown (motions 16) are_sound),
        ),
      ),
    ),
  ),
)
