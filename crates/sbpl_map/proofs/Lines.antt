-- How the lines of a text and the fields of a line go on after the first one.
use Rattle.std.proofs.Common.{◌≡◌, ℕ, zero, suc, ◌+◌, ◌<◌, false, List, [], ◌∷◌, length, take, drop, refl, ap, ◌∙◌}
use Rattle.std.proofs.Common.{arith, inl, inr, one-add}
use Rattle.std.specs.Prelude.{◌==◌}
use Rattle.std.specs.List.{prefix_len, slice_split, onto_first, filter}
use Rattle.std.specs.Str.Lines.{lines, lines_of_parts, strip_carriage_return}
use Rattle.std.proofs.lemmas.Bool.{cases_Bool, eqb-true}
use Rattle.sbpl_map.specs.Fields.{is_parting, is_in_field, is_in_line, has_some, fields}

-- ---- lines

one_part : (text : List ℕ) → prefix_len is_in_line text ≡ length text → slice_split (λ b. b == 10) text ≡ text ∷ []
one_part [] h = refl
one_part (b ∷ bs) h =
    elim (cases_Bool (b == 10)) [
      | inl e ↦ absurd (let k : 0 ≡ suc (length bs) = rw e at h in omega arith)
      | inr e ↦ let k : suc (prefix_len is_in_line bs) ≡ suc (length bs) = rw (e, one-add) at h in
          rw e (ap (λ l. onto_first b l) (one_part bs (omega (arith, k))))
    ]

first_part : (text : List ℕ) → prefix_len is_in_line text < length text
    → slice_split (λ b. b == 10) text
    ≡ take (prefix_len is_in_line text) text ∷ slice_split (λ b. b == 10) (drop (prefix_len is_in_line text + 1) text)
first_part [] h = absurd (omega arith)
first_part (b ∷ bs) h =
    elim (cases_Bool (b == 10)) [
      | inl e ↦ rw e refl
      | inr e ↦ let k : suc (prefix_len is_in_line bs) < suc (length bs) = rw (e, one-add) at h in
          let one : suc (prefix_len is_in_line bs) + 1 ≡ suc (prefix_len is_in_line bs + 1) = omega arith in
          rw (e, one-add, one) (ap (λ l. onto_first b l) (first_part bs (omega (arith, k))))
    ]

onto_first_line : (x : List ℕ) (b : ℕ) (parts : List (List ℕ))
    → lines_of_parts (x ∷ onto_first b parts) ≡ strip_carriage_return x ∷ lines_of_parts (onto_first b parts)
onto_first_line x b [] = refl
onto_first_line x b (part ∷ parts) = refl

-- a text has one more part than line feeds, so at least one
pub lines_of_parts_after : (x : List ℕ) (bs : List ℕ)
    → lines_of_parts (x ∷ slice_split (λ b. b == 10) bs)
    ≡ strip_carriage_return x ∷ lines_of_parts (slice_split (λ b. b == 10) bs)
lines_of_parts_after x [] = refl
lines_of_parts_after x (b ∷ bs) =
    elim (cases_Bool (b == 10)) [
      | inl e ↦ rw e refl
      | inr e ↦ rw e (onto_first_line x b (slice_split (λ c. c == 10) bs))
    ]

is_no_zero : (n : ℕ) → (suc n == 0) ≡ false
is_no_zero n =
    elim (cases_Bool (suc n == 0)) [
      | inl e ↦ absurd (omega (arith, eqb-true (suc n) 0 e))
      | inr e ↦ e
    ]

alone : (b : ℕ) (bs : List ℕ) → lines_of_parts ((b ∷ bs) ∷ []) ≡ (b ∷ bs) ∷ []
alone b bs = rw (is_no_zero (length bs)) refl

-- where no line feed stands the text is one line
pub only_line : (text : List ℕ) → 0 < length text → prefix_len is_in_line text ≡ length text → lines text ≡ text ∷ []
only_line [] some h = absurd (omega arith)
only_line (b ∷ bs) some h = ap lines_of_parts (one_part (b ∷ bs) h) ∙ alone b bs

-- and otherwise the first line is what stands before the first line feed
pub line_before : (text : List ℕ) (end : ℕ) → end ≡ prefix_len is_in_line text → end < length text
    → lines text ≡ strip_carriage_return (take end text) ∷ lines (drop (end + 1) text)
line_before text end e h =
    let there = first_part text (rw e at h) in
    rw e (ap lines_of_parts there ∙ lines_of_parts_after _ (drop (prefix_len is_in_line text + 1) text))

-- ---- fields

-- a leading space or tab changes nothing
pub after_parting : (line : List ℕ) → fields line ≡ fields (drop (prefix_len is_parting line) line)
after_parting [] = refl
after_parting (b ∷ bs) =
    elim (cases_Bool (is_parting b)) [
      | inl e ↦ rw (e, one-add) (after_parting bs)
      | inr e ↦ rw (e, e) refl
    ]

past_parting : (line : List ℕ) → prefix_len is_parting (drop (prefix_len is_parting line) line) ≡ 0
past_parting [] = refl
past_parting (b ∷ bs) =
    elim (cases_Bool (is_parting b)) [
      | inl e ↦ rw (e, one-add) (past_parting bs)
      | inr e ↦ rw (e, e) refl
    ]

-- the first part, and those after it
record PartsAt (line : List ℕ) : Type 0 where
  parts : List (List ℕ)
  cut : slice_split is_parting line ≡ take (prefix_len is_in_field line) line ∷ parts
  after : filter has_some parts ≡ fields (drop (prefix_len is_in_field line) line)

parts_at : (line : List ℕ) → PartsAt line
parts_at [] = record { parts = []; cut = refl; after = refl }
parts_at (b ∷ bs) =
    elim (cases_Bool (is_parting b)) [
      | inl e ↦ record { parts = slice_split is_parting bs; cut = rw e refl; after = rw (e, e) refl }
      | inr e ↦ let more = parts_at bs in
          record {
            parts = more.parts;
            cut = rw (e, one-add) (ap (λ l. onto_first b l) more.cut);
            after = rw (e, one-add) more.after;
          }
    ]

field_first : (line : List ℕ) → prefix_len is_parting line ≡ 0 → 0 < length line → 0 < prefix_len is_in_field line
field_first [] h some = absurd (omega arith)
field_first (b ∷ bs) h some =
    elim (cases_Bool (is_parting b)) [
      | inl e ↦ absurd (let k : suc (prefix_len is_parting bs) ≡ 0 = rw (e, one-add) at h in omega arith)
      | inr e ↦ rw (e, one-add) (omega arith)
    ]

some_taken : (line : List ℕ) (n : ℕ) (parts : List (List ℕ)) → 0 < n → 0 < length line
    → filter has_some (take n line ∷ parts) ≡ take n line ∷ filter has_some parts
some_taken [] n parts h some = absurd (omega arith)
some_taken (b ∷ bs) zero parts h some = absurd (omega arith)
some_taken (b ∷ bs) (suc n) parts h some = refl

-- the first field is all that stands before the first space or tab
pub field_before : (line start : List ℕ) (end : ℕ) → start ≡ drop (prefix_len is_parting line) line
    → end ≡ prefix_len is_in_field start → 0 < length start
    → fields line ≡ take end start ∷ fields (drop end start)
field_before line start end s e some =
    let clear : prefix_len is_parting start ≡ 0 = rw s (past_parting line) in
    let at = parts_at start in
    after_parting line ∙ rw (← s, e) (ap (λ l. filter has_some l) at.cut
    ∙ some_taken start (prefix_len is_in_field start) at.parts (field_first start clear some) some
    ∙ ap (λ l. take (prefix_len is_in_field start) start ∷ l) at.after)

empty_is : (l : List ℕ) → length l ≡ 0 → l ≡ []
empty_is [] h = refl
empty_is (b ∷ bs) h = absurd (omega arith)

pub no_field : (line : List ℕ) → length (drop (prefix_len is_parting line) line) ≡ 0 → fields line ≡ []
no_field line h = after_parting line ∙ ap fields (empty_is (drop (prefix_len is_parting line) line) h)
