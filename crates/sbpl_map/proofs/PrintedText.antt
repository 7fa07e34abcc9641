-- What the plain text of batches stands for.
use Rattle.std.proofs.Common.{◌≡◌, ℕ, zero, suc, ◌-◌, ◌<◌, ◌≤◌, pos, Bool, true, false, List, [], ◌∷◌, ◌++◌, length}
use Rattle.std.proofs.Common.{refl, ap, ◌∙◌, inl, inr, arith, map, None, append_assoc}
use Rattle.std.specs.Prelude.{decimal, ◌==◌, slice_index}
use Rattle.std.specs.List.{flat_map, AllByRecursion, list_all, slice_split, onto_first, filter}
use Rattle.std.specs.Str.Lines.{lines, lines_of_parts, strip_carriage_return}
use Rattle.std.proofs.Math.Nat.{le_trans}
use Rattle.std.proofs.lemmas.Bool.{cases_Bool, eqb-true, and_parts}
use Rattle.sbpl_cfg.specs.sbpl_fixed.Printed.{line_text, lines_text}
use Rattle.sbpl_cfg.specs.sbpl_fixed.Tokens.{is_filled}
use Rattle.sbpl_cfg.specs.sbpl_fixed.ReadBack.{IsWord}
use Rattle.sbpl_cfg.proofs.ReadBack.{wholes_are_read_back, wholes_are_words}
use Rattle.sbpl_map.specs.CellMap.{CellMap}
use Rattle.sbpl_map.specs.ChangeText.{LinesSay, AreOnMap, IsNumberBelow, IsTextOf, IsWriteOnMap, LineTells}
use Rattle.sbpl_map.specs.ChangeText.{spelled, spelled_batch, lines_with_fields}
use Rattle.sbpl_map.specs.Fields.{fields, has_some, is_parting}
use Rattle.sbpl_map.specs.Printed.{AreChangesOf, batch_lines, changes_text, write_line}
use Rattle.sbpl_map.specs.declared.write.Write.{Write}
use Rattle.sbpl_map.specs.declared.said.Said.{Said}
use Rattle.sbpl_map.specs.declared.said.Said.TheVariants.{Cell}
use Rattle.sbpl_map.proofs.Lines.{lines_of_parts_after}

-- ---- the bytes of words

abbrev AllFilled : List ℕ → Type 0
AllFilled bytes = AllByRecursion (λ b. is_filled b ≡ true) bytes

other_byte : (b c : ℕ) → is_filled b ≡ true → is_filled c ≡ false → (b == c) ≡ false
other_byte b c h k = elim (cases_Bool (b == c)) [
  | inl e ↦ absurd (let same : b ≡ c = eqb-true b c e in let bad = rw same at h in cc)
  | inr e ↦ e
]

no_parting : (b : ℕ) → is_filled b ≡ true → is_parting b ≡ false
no_parting b h = rw (other_byte b 32 h refl, other_byte b 9 h refl) refl

all_filled : (bytes : List ℕ) → list_all is_filled bytes ≡ true → AllFilled bytes
all_filled [] h = tt
all_filled (b ∷ bs) h = let both = and_parts (is_filled b) (list_all is_filled bs) h in (both.0, all_filled bs both.1)

all_weaker : (P Q : ℕ → Type 0) (xs : List ℕ) → ((x : ℕ) → P x → Q x) → AllByRecursion P xs → AllByRecursion Q xs
all_weaker P Q [] k h = tt
all_weaker P Q (x ∷ xs) k h = (k x h.0, all_weaker P Q xs k h.1)

all_append : (P : ℕ → Type 0) (xs ys : List ℕ) → AllByRecursion P xs → AllByRecursion P ys → AllByRecursion P (xs ++ ys)
all_append P [] ys h k = k
all_append P (x ∷ xs) ys h k = (h.0, all_append P xs ys h.1 k)

-- ---- a list that is cut

split_first : (p : ℕ → Bool) (front : List ℕ) (y : ℕ) (rest : List ℕ)
    → AllByRecursion (λ b. p b ≡ false) front → p y ≡ true
    → slice_split p (front ++ y ∷ rest) ≡ front ∷ slice_split p rest
split_first p [] y rest h e = rw e refl
split_first p (b ∷ bs) y rest h e = rw h.0 (ap (λ parts. onto_first b parts) (split_first p bs y rest h.1 e))

cut_nowhere : (p : ℕ → Bool) (bytes : List ℕ) → AllByRecursion (λ b. p b ≡ false) bytes
    → slice_split p bytes ≡ bytes ∷ []
cut_nowhere p [] h = refl
cut_nowhere p (b ∷ bs) h = rw h.0 (ap (λ parts. onto_first b parts) (cut_nowhere p bs h.1))

-- ---- a line

-- words with a space between each two
abbrev spaced : List (List ℕ) → List ℕ
spaced [] = []
spaced (w ∷ []) = w
spaced (w ∷ v ∷ ws) = w ++ 32 ∷ spaced (v ∷ ws)

line_is : (ws : List (List ℕ)) → line_text ws ≡ spaced ws ++ 10 ∷ []
unfolding line_text
line_is [] = refl
line_is (w ∷ []) = refl
line_is (w ∷ v ∷ ws) = rw (line_is (v ∷ ws), append_assoc w (32 ∷ spaced (v ∷ ws)) (10 ∷ [])) refl

abbrev AreWords : List (List ℕ) → Type 0
AreWords ws = AllByRecursion IsWord ws

-- a byte that isn't the end of a line
abbrev IsInner : ℕ → Type 0
IsInner b = ((b == 10) ≡ false) × ((b == 13) ≡ false)

inner_word : (w : List ℕ) → IsWord w → AllByRecursion IsInner w
inner_word w h =
    all_weaker (λ b. is_filled b ≡ true) IsInner w
    (λ b k. (other_byte b 10 k refl, other_byte b 13 k refl)) (all_filled w h.filled)

inner_line : (ws : List (List ℕ)) → AreWords ws → AllByRecursion IsInner (spaced ws)
inner_line [] h = tt
inner_line (w ∷ []) h = inner_word w h.0
inner_line (w ∷ v ∷ ws) h =
    all_append IsInner w (32 ∷ spaced (v ∷ ws)) (inner_word w h.0) ((refl, refl), inner_line (v ∷ ws) h.1)

no_return : (bytes : List ℕ) (i : ℕ) → AllByRecursion IsInner bytes → (slice_index bytes i == 13) ≡ false
no_return [] i h = refl
no_return (b ∷ bs) zero h = h.0.1
no_return (b ∷ bs) (suc i) h = no_return bs i h.1

not_stripped : (bytes : List ℕ) → AllByRecursion IsInner bytes → strip_carriage_return bytes ≡ bytes
not_stripped bytes h = rw (no_return bytes (length bytes - 1) h) refl

first_line : (bytes rest : List ℕ) → AllByRecursion IsInner bytes → lines (bytes ++ 10 ∷ rest) ≡ bytes ∷ lines rest
first_line bytes rest h =
    let cut =
    split_first (λ b. b == 10) bytes 10 rest (all_weaker IsInner (λ b. (b == 10) ≡ false) bytes (λ b k. k.0) h) refl in
    ap lines_of_parts cut ∙ lines_of_parts_after bytes rest ∙ ap (λ (l : List ℕ). l ∷ lines rest) (not_stripped bytes h)

word_first : (w : List ℕ) (parts : List (List ℕ)) → IsWord w → filter has_some (w ∷ parts) ≡ w ∷ filter has_some parts
word_first [] parts h = absurd (omega (arith, h.some))
word_first (b ∷ bs) parts h = refl

line_fields : (ws : List (List ℕ)) → AreWords ws → fields (spaced ws) ≡ ws
line_fields [] h = refl
line_fields (w ∷ []) h =
    let whole =
    cut_nowhere is_parting w
    (all_weaker (λ b. is_filled b ≡ true) (λ b. is_parting b ≡ false) w no_parting (all_filled w h.0.filled)) in
    ap (λ (l : List (List ℕ)). filter has_some l) whole ∙ word_first w [] h.0
line_fields (w ∷ v ∷ ws) h =
    let cut =
    split_first is_parting w 32 (spaced (v ∷ ws))
    (all_weaker (λ b. is_filled b ≡ true) (λ b. is_parting b ≡ false) w no_parting (all_filled w h.0.filled)) refl in
    ap (λ (l : List (List ℕ)). filter has_some l) cut ∙ word_first w (slice_split is_parting (spaced (v ∷ ws))) h.0
    ∙ ap (λ (l : List (List ℕ)). w ∷ l) (line_fields (v ∷ ws) h.1)

-- ---- lines of words

abbrev IsLine : List (List ℕ) → Type 0
IsLine ws = (has_some ws ≡ true) × AreWords ws

told_first : (ws : List (List ℕ)) (more : List (List ℕ)) → IsLine ws
    → lines_with_fields (spaced ws ∷ more) ≡ ws ∷ lines_with_fields more
told_first ws more h = rw (line_fields ws h.1, h.0) refl

lines_are_told : (ls : List (List (List ℕ))) → AllByRecursion IsLine ls → lines_with_fields (lines (lines_text ls)) ≡ ls
lines_are_told [] h = refl
lines_are_told (l ∷ ls) h =
    let front : lines_text (l ∷ ls) ≡ spaced l ++ 10 ∷ lines_text ls =
    rw (line_is l, append_assoc (spaced l) (10 ∷ []) (lines_text ls)) refl in
    ap (λ text. lines_with_fields (lines text)) front
    ∙ ap lines_with_fields (first_line (spaced l) (lines_text ls) (inner_line l h.0.1))
    ∙ told_first l (lines (lines_text ls)) h.0 ∙ ap (λ (more : List (List (List ℕ))). l ∷ more) (lines_are_told ls h.1)

-- ---- writes

number_is_word : (n : ℕ) → n ≤ 268435456 → IsWord (decimal n)
number_is_word n h = wholes_are_words (pos n) (omega arith)

gives : (limit n : ℕ) → limit ≤ 268435456 → n < limit → IsNumberBelow limit (decimal n) n
gives limit n k h = (wholes_are_read_back (pos n) (omega arith), h)

write_says : (states : ℕ) (m : CellMap) (w : Write) → states ≤ 268435456 → m.width ≤ states → m.height ≤ states
    → IsWriteOnMap m w → w.cost ≤ 255
    → LineTells states m None (write_line w) (Cell w)
write_says states m w small width height on cost = (
  decimal w.x,
  decimal w.y,
  decimal w.cost,
  refl,
  record {
    x_is = gives states w.x small (omega (arith, on.x, width));
    y_is = gives states w.y small (omega (arith, on.y, height));
    z_is = gives 256 w.cost (omega arith) (omega arith);
  },
  on,
)

write_is_line : (m : CellMap) (w : Write) → m.width ≤ 268435456 → m.height ≤ 268435456 → IsWriteOnMap m w
    → w.cost ≤ 255 → IsLine (write_line w)
write_is_line m w width height on cost = (
  refl,
  (
    record { some = omega arith; filled = refl },
    (
      number_is_word w.x (omega (arith, on.x)),
      (number_is_word w.y (omega (arith, on.y)), (number_is_word w.cost (omega arith), tt)),
    ),
  ),
)

abbrev AreCosts : List Write → Type 0
AreCosts batch = AllByRecursion (λ w. w.cost ≤ 255) batch

batch_says : (states : ℕ) (m : CellMap) (batch : List Write) (ls : List (List (List ℕ))) (more : List Said)
    → states ≤ 268435456 → m.width ≤ states → m.height ≤ states
    → AllByRecursion (λ w. IsWriteOnMap m w) batch → AreCosts batch → LinesSay states m ls more
    → LinesSay states m (batch_lines batch ++ ls) (spelled_batch (map (λ w. inl w) batch) ++ more)
batch_says states m [] ls more small width height on costs h = (refl, h)
batch_says states m (w ∷ ws) ls more small width height on costs h =
    (write_says states m w small width height on.0 costs.0, batch_says states m ws ls more small width height on.1 costs.1 h)

batch_are_lines : (m : CellMap) (batch : List Write) (ls : List (List (List ℕ)))
    → m.width ≤ 268435456 → m.height ≤ 268435456
    → AllByRecursion (λ w. IsWriteOnMap m w) batch → AreCosts batch → AllByRecursion IsLine ls
    → AllByRecursion IsLine (batch_lines batch ++ ls)
batch_are_lines m [] ls width height on costs h = ((refl, (record { some = omega arith; filled = refl }, tt)), h)
batch_are_lines m (w ∷ ws) ls width height on costs h =
    (write_is_line m w width height on.0 costs.0, batch_are_lines m ws ls width height on.1 costs.1 h)

all_say : (states : ℕ) (m : CellMap) (batches : List (List Write)) → states ≤ 268435456 → m.width ≤ states
    → m.height ≤ states → AreOnMap m batches
    → AllByRecursion AreCosts batches
    → LinesSay states m (flat_map batch_lines batches) (spelled batches)
all_say states m [] small width height on costs = tt
all_say states m (b ∷ bs) small width height on costs =
    batch_says states m b (flat_map batch_lines bs) (spelled bs) small width height on.0 costs.0
    (all_say states m bs small width height on.1 costs.1)

all_are_lines : (m : CellMap) (batches : List (List Write)) → m.width ≤ 268435456 → m.height ≤ 268435456
    → AreOnMap m batches → AllByRecursion AreCosts batches
    → AllByRecursion IsLine (flat_map batch_lines batches)
all_are_lines m [] width height on costs = tt
all_are_lines m (b ∷ bs) width height on costs =
    batch_are_lines m b (flat_map batch_lines bs) width height on.0 costs.0
    (all_are_lines m bs width height on.1 costs.1)

pub changes_are_printed : (states : ℕ) (m : CellMap) (batches : List (List Write)) → states ≤ 268435456
    → AreChangesOf states m batches → IsTextOf states m (changes_text batches) batches
changes_are_printed states m batches small h =
    let width = le_trans h.width small in
    let height = le_trans h.height small in
    rw (lines_are_told (flat_map batch_lines batches) (all_are_lines m batches width height h.on_map h.costs))
    (all_say states m batches small h.width h.height h.on_map h.costs)
