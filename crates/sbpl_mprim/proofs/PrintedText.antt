-- What is printed of primitives stands for them.
use Rattle.std.proofs.Common.{◌≡◌, ℕ, suc, ◌+◌, ◌<◌, ◌≤◌, ℤ, pos, negsuc, true, List, [], ◌∷◌, ◌++◌, length, map, refl}
use Rattle.std.proofs.Common.{sym, ap, subst, arith, append_assoc, append-nil}
use Rattle.std.specs.Prelude.{codes, decimal, unsigned_abs}
use Rattle.std.specs.Fmt.{signed_decimal}
use Rattle.std.specs.List.{flat_map, AllByRecursion}
use Rattle.std.proofs.Math.Nat.{mod-eq_of_lt}
use Rattle.std.proofs.lemmas.Int.{ints}
use Rattle.std.proofs.lemmas.List.Concat.{flat_map-append}
use Rattle.sbpl_fixed.specs.Numbers.{most}
use Rattle.sbpl_fixed.specs.Printed.{nano_text, line_text, lines_text}
use Rattle.sbpl_fixed.specs.ReadBack.{IsWord}
use Rattle.sbpl_fixed.specs.Tokens.{is_blank, tokens, tokens_past}
use Rattle.sbpl_fixed.proofs.ReadBack.{nanos_are_read_back, nanos_are_words, blanks_part_tokens, wholes_are_read_back}
use Rattle.sbpl_fixed.proofs.ReadBack.{wholes_are_words, words_are_tokens, at_end}
use Rattle.sbpl_cfg.specs.Environment.{IsWithin}
use Rattle.sbpl_cfg.specs.declared.pose.Pose.{Pose}
use Rattle.sbpl_mprim.specs.declared.prim.Primitive.{Primitive}
use Rattle.sbpl_mprim.specs.Judging.{heading_modulo}
use Rattle.sbpl_mprim.specs.Primitives.{ArePrimitives, IsOffsetInRange, IsPrimitive, Primitives}
use Rattle.sbpl_mprim.specs.Printed.{end_line, field, pose_line, prim_lines, prims_text}
use Rattle.sbpl_mprim.specs.Text.{AreShown, IsTextOf, Saying, Shows, words_of, a_heading, a_nano, a_whole, a_word}
use Rattle.sbpl_mprim.specs.Text.{spelled, spelled_pose, spelled_prim}
use Rattle.sbpl_mprim.proofs.Pieces.{few_poses}
use Rattle.sbpl_mprim.proofs.Indices.{at_all}
use Rattle.sbpl_mprim.proofs.Spelling.{Spells, all_meant, spells_append, spells_none}

-- ---- bytes that are printed

-- wherever these bytes begin a text after a blank, their tokens are spelled so, and the rest of the text follows
unfoldable pub Prints : ℕ → List Saying → List ℕ → Type 0
Prints headings ss bytes =
    (place : ℕ) (rest : List ℕ)
    → (next : ℕ) × Spells headings ss (tokens_past true place (bytes ++ rest)) (tokens_past true next rest)

abbrev no_line : List (List ℕ)
no_line = []

prints_none : (headings : ℕ) → Prints headings [] []
unfolding Prints
prints_none headings =
    λ place rest. (place, spells_none headings (tokens_past true place rest) (tokens_past true place rest) refl)

prints_both : (headings : ℕ) (ss us : List Saying) (a b : List ℕ) → Prints headings ss a → Prints headings us b
    → Prints headings (ss ++ us) (a ++ b)
unfolding Prints
prints_both headings ss us a b h k = λ place rest.
    let x = h place (b ++ rest) in
    let y = k x.0 rest in (
      y.0,
      rw append_assoc (spells_append headings ss us (tokens_past true place (a ++ (b ++ rest)))
          (tokens_past true x.0 (b ++ rest)) (tokens_past true y.0 rest) x.1 y.1),
    )

prints_word : (headings : ℕ) (s : Saying) (word : List ℕ) (blank : ℕ) → is_blank blank ≡ true → Shows headings s word
    → Prints headings (s ∷ []) (word ++ blank ∷ [])
unfolding Prints Spells
prints_word headings s word blank e shows = λ place rest. (
  place + length word + 1,
  rw (append_assoc, words_are_tokens word blank rest place shows.is_word e) (shows.means, refl),
)

-- ---- lines

prints_line : (headings : ℕ) (s : Saying) (ss : List Saying) (w : List ℕ) (ws : List (List ℕ))
    → AreShown headings (s ∷ ss) (w ∷ ws) → Prints headings (s ∷ ss) (line_text (w ∷ ws))
unfolding AreShown line_text
prints_line headings s [] w [] h = prints_word headings s w 10 refl h.0
prints_line headings s [] w (v ∷ ws) h = absurd h.1
prints_line headings s (u ∷ us) w [] h = absurd h.1
prints_line headings s (u ∷ us) w (v ∷ vs) h =
    let both =
    prints_both headings (s ∷ []) (u ∷ us) (w ++ 32 ∷ []) (line_text (v ∷ vs)) (prints_word headings s w 32 refl h.0)
    (prints_line headings u us v vs h.1) in
    subst (λ (bytes : List ℕ). Prints headings (s ∷ u ∷ us) bytes) (append_assoc w (32 ∷ []) (line_text (v ∷ vs))) both

-- ---- numbers

size_below : (z : ℤ) (n : ℕ) → IsWithin (negsuc n) (pos (suc n)) z → unsigned_abs z ≤ suc n
size_below (pos m) n w = omega (arith, ints, w.1)
size_below (negsuc m) n w = omega (arith, ints, w.0)

shows_nano : (headings : ℕ) (z : ℤ) → unsigned_abs z ≤ most → Shows headings (a_nano z) (nano_text z)
shows_nano headings z h = record { is_word = nanos_are_words z (omega arith); means = nanos_are_read_back z h }

shows_whole : (headings : ℕ) (z : ℤ) → unsigned_abs z ≤ most → Shows headings (a_whole z) (signed_decimal z)
shows_whole headings z h = record { is_word = wholes_are_words z (omega arith); means = wholes_are_read_back z h }

shows_count : (headings n : ℕ) → n ≤ most → Shows headings (a_whole (pos n)) (decimal n)
shows_count headings n h = shows_whole headings (pos n) h

shows_heading : (headings to : ℕ) → to < headings → headings ≤ 64 → Shows headings (a_heading to) (decimal to)
shows_heading headings to low high =
    let shown = shows_count headings to (omega arith) in
    let modulo : heading_modulo headings (pos to) ≡ to = mod-eq_of_lt low in
    record {
      is_word = shown.is_word;
      means = (pos to, shown.means, (omega (arith, ints), omega (arith, ints)), modulo);
    }

-- ---- a pose

prints_pose : (headings : ℕ) (p : Pose) → IsOffsetInRange p → Prints headings (spelled_pose p) (line_text (pose_line p))
unfolding AreShown
prints_pose headings p range =
    let x = size_below p.x 999999999999 range.x in
    let y = size_below p.y 999999999999 range.y in
    let theta = size_below p.theta 999999999999999999 range.theta in
    prints_line headings _ _ _ _ (
      shows_nano headings p.x (omega arith),
      (shows_nano headings p.y (omega arith), (shows_nano headings p.theta (omega arith), tt)),
    )

prints_poses : (headings : ℕ) (poses : List Pose) → AllByRecursion IsOffsetInRange poses
    → Prints headings (flat_map spelled_pose poses) (lines_text (map pose_line poses))
prints_poses headings [] h = prints_none headings
prints_poses headings (p ∷ ps) h =
    prints_both headings (spelled_pose p) (flat_map spelled_pose ps) (line_text (pose_line p))
    (lines_text (map pose_line ps)) (prints_pose headings p h.0) (prints_poses headings ps h.1)

-- ---- a primitive

prints_field : (headings : ℕ) (name : List ℕ) (n : ℕ) → IsWord name → n ≤ most
    → Prints headings (a_word name ∷ a_whole (pos n) ∷ []) (line_text (field name n))
unfolding AreShown
prints_field headings name n word small =
    prints_line headings _ _ _ _ (record { is_word = word; means = refl }, (shows_count headings n small, tt))

prints_end : (headings : ℕ) (name : List ℕ) (prim : Primitive) → IsWord name
    → IsWithin (negsuc 32766) (pos 32767) prim.dx → IsWithin (negsuc 32766) (pos 32767) prim.dy
    → prim.to < headings → headings ≤ 64
    → Prints headings (a_word name ∷ a_whole prim.dx ∷ a_whole prim.dy ∷ a_heading prim.to ∷ [])
    (line_text (end_line name prim))
unfolding AreShown
prints_end headings name prim word dx dy low few =
    let x = size_below prim.dx 32766 dx in
    let y = size_below prim.dy 32766 dy in
    prints_line headings _ _ _ _ (
      record { is_word = word; means = refl },
      (
        shows_whole headings prim.dx (omega arith),
        (shows_whole headings prim.dy (omega arith), (shows_heading headings prim.to low few, tt)),
      ),
    )

prints_prim : (cell : ℤ) (headings : ℕ) (prim : Primitive) → headings ≤ 64 → length prim.poses ≤ 200000
    → IsPrimitive cell headings prim → Prints headings (spelled_prim prim) (lines_text (prim_lines prim))
prints_prim cell headings prim few long is =
    let id =
    prints_field headings (codes "primID:") prim.id (record { some = omega arith; filled = refl })
    (omega (arith, is.id)) in
    let from =
    prints_field headings (codes "startangle_c:") prim.from (record { some = omega arith; filled = refl })
    (omega (arith, is.from)) in
    let end =
    prints_end headings (codes "endpose_c:") prim (record { some = omega arith; filled = refl })
    is.dx is.dy is.to few in
    let mult =
    prints_field headings (codes "additionalactioncostmult:") prim.mult (record { some = omega arith; filled = refl })
    (omega (arith, is.mult.1)) in
    let count =
    prints_field headings (codes "intermediateposes:") (length prim.poses)
    (record { some = omega arith; filled = refl }) (omega (arith, long)) in
    let poses = prints_poses headings prim.poses (at_all IsOffsetInRange prim.poses is.poses) in
    prints_both headings _ _ _ _ id (prints_both headings _ _ _ _ from
    (prints_both headings _ _ _ _ end (prints_both headings _ _ _ _ mult (prints_both headings _ _ _ _ count poses))))

prints_prims : (cell : ℤ) (headings : ℕ) (prims : List Primitive) → headings ≤ 64
    → AllByRecursion (λ p. length p.poses ≤ 200000) prims → AllByRecursion (IsPrimitive cell headings) prims
    → Prints headings (flat_map spelled_prim prims) (lines_text (flat_map prim_lines prims))
prints_prims cell headings [] few long each = prints_none headings
prints_prims cell headings (p ∷ ps) few long each =
    rw flat_map-append (prints_both headings (spelled_prim p) (flat_map spelled_prim ps) (lines_text (prim_lines p))
    (lines_text (flat_map prim_lines ps)) (prints_prim cell headings p few long.0 each.0)
    (prints_prims cell headings ps few long.1 each.1))

-- ---- a file

prints_resolution : (headings : ℕ) (cell : ℤ) → IsWithin (pos 1) (pos 1000000000000) cell
    → Prints headings (a_word (codes "resolution_m:") ∷ a_nano cell ∷ [])
    (line_text (codes "resolution_m:" ∷ nano_text cell ∷ []))
unfolding AreShown
prints_resolution headings cell size =
    let small : unsigned_abs cell ≤ 1000000000000 =
    size_below cell 999999999999 (omega (arith, ints, size.0), size.1) in
    prints_line headings _ _ _ _ (
      record { is_word = record { some = omega arith; filled = refl }; means = refl },
      (shows_nano headings cell (omega arith), tt),
    )

prints_file : (ps : Primitives) → ArePrimitives ps → Prints ps.headings (spelled ps) (prims_text ps)
unfolding spelled prims_text
prints_file ps h =
    let resolution = prints_resolution ps.headings ps.cell h.cell in
    let angles =
    prints_field ps.headings (codes "numberofangles:") ps.headings (record { some = omega arith; filled = refl })
    (omega (arith, h.headings.1)) in
    let total =
    prints_field ps.headings (codes "totalnumberofprimitives:") (length ps.items)
    (record { some = omega arith; filled = refl }) (omega (arith, h.count)) in
    let long = at_all (λ (p : Primitive). length p.poses ≤ 200000) ps.items (few_poses h) in
    let each =
    prints_prims ps.cell ps.headings ps.items h.headings.1 long
    (at_all (IsPrimitive ps.cell ps.headings) ps.items h.each) in
    prints_both ps.headings _ _ _ _ resolution
    (prints_both ps.headings _ _ _ _ angles (prints_both ps.headings _ _ _ _ total each))

text_of_prints : (ps : Primitives) (text : List ℕ) → ArePrimitives ps
    → Prints ps.headings (spelled ps) text → IsTextOf text ps
unfolding Prints
text_of_prints ps text h prints =
    let k = prints 0 [] in
    let all : Spells ps.headings (spelled ps) (tokens text) [] =
    subst (λ (bytes : List ℕ). Spells ps.headings (spelled ps) (tokens_past true 0 bytes) []) (append-nil text)
    (subst (λ l. Spells ps.headings (spelled ps) (tokens_past true 0 (text ++ [])) l) (at_end k.0) k.1) in
    record { tokens = all_meant ps.headings (spelled ps) (tokens text) all; fits = h }

pub text_is_printed : (ps : Primitives) → ArePrimitives ps → IsTextOf (prims_text ps) ps
text_is_printed ps h = text_of_prints ps (prims_text ps) h (prints_file ps h)

-- ---- lines whose words are others than those that are printed

prints_empty : (headings : ℕ) → Prints headings [] (line_text no_line)
unfolding Prints line_text
prints_empty headings =
    λ place rest. (place + 1, spells_none headings _ _ (sym (blanks_part_tokens 10 rest place refl)))

prints_any : (headings : ℕ) (ss : List Saying) (line : List (List ℕ)) → AreShown headings ss line
    → Prints headings ss (line_text line)
unfolding AreShown
prints_any headings [] [] h = prints_empty headings
prints_any headings [] (w ∷ ws) h = absurd h
prints_any headings (s ∷ ss) [] h = absurd h
prints_any headings (s ∷ ss) (w ∷ ws) h = prints_line headings s ss w ws h

-- what a line shows, and what those after it do
record Parts (headings : ℕ) (ss : List Saying) (line more : List (List ℕ)) : Type 0 where
  front : List Saying
  after : List Saying
  whole : ss ≡ front ++ after
  first : AreShown headings front line
  rest : AreShown headings after more

parted : (headings : ℕ) (ss : List Saying) (line more : List (List ℕ)) → AreShown headings ss (line ++ more)
    → Parts headings ss line more
unfolding AreShown
parted headings ss [] more h = record { front = []; after = ss; whole = refl; first = tt; rest = h }
parted headings [] (w ∷ ws) more h = absurd h
parted headings (s ∷ ss) (w ∷ ws) more h =
    let k = parted headings ss ws more h.1 in
    record {
      front = s ∷ k.front;
      after = k.after;
      whole = ap (λ (us : List Saying). s ∷ us) k.whole;
      first = (h.0, k.first);
      rest = k.rest;
    }

none_shown : (headings : ℕ) (ss : List Saying) → AreShown headings ss [] → ss ≡ []
unfolding AreShown
none_shown headings [] h = refl
none_shown headings (s ∷ ss) h = absurd h

prints_lines : (headings : ℕ) (ss : List Saying) (lines : List (List (List ℕ))) → AreShown headings ss (words_of lines)
    → Prints headings ss (lines_text lines)
prints_lines headings ss [] h = rw (none_shown headings ss h) (prints_none headings)
prints_lines headings ss (l ∷ ls) h =
    let k = parted headings ss l (words_of ls) h in
    rw k.whole (prints_both headings k.front k.after (line_text l) (lines_text ls)
    (prints_any headings k.front l k.first) (prints_lines headings k.after ls k.rest))

pub text_is_worded : (ps : Primitives) (lines : List (List (List ℕ))) → ArePrimitives ps
    → AreShown ps.headings (spelled ps) (words_of lines) → IsTextOf (lines_text lines) ps
text_is_worded ps lines h shown =
    text_of_prints ps (lines_text lines) h (prints_lines ps.headings (spelled ps) lines shown)
