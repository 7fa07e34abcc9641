-- The tokens of a text are its longest runs, in order.
use Rattle.std.proofs.Common.{◌≡◌, ℕ, suc, ◌+◌, ◌<◌, ◌≤◌, Bool, true, false, cond, List, [], ◌∷◌, ◌++◌, length, drop}
use Rattle.std.proofs.Common.{refl, sym, ap, subst, ◌∙◌, arith, inl, inr, one-add}
use Rattle.std.specs.Prelude.{take_while}
use Rattle.std.specs.List.{prefix_len, list_all, AllByRecursion}
use Rattle.std.proofs.lemmas.Bool.{cases_Bool, and_parts, false≢true, not-true}
use Rattle.std.proofs.lemmas.List.{take_at, take-append-drop}
use Rattle.sbpl_fixed.specs.Tokens.{is_blank, is_filled, Piece, tokens_past, tokens}
use Rattle.sbpl_fixed.specs.Runs.{ends_blank, begins_blank, IsRun, IsLongestRun, IsOneOf, AreAbove}

all_weaker : (P Q : Piece → Type 0) (ts : List Piece) → ((t : Piece) → P t → Q t)
    → AllByRecursion P ts → AllByRecursion Q ts
all_weaker P Q [] f h = tt
all_weaker P Q (t ∷ ts) f h = (f t h.0, all_weaker P Q ts f h.1)

-- a run after one more byte
run_after : (fresh : Bool) (place b : ℕ) (bs : List ℕ) (t : Piece) → IsRun (is_blank b) (place + 1) bs t
    → IsRun fresh place (b ∷ bs) t
run_after fresh place b bs t r = record {
  before = b ∷ r.before;
  after = r.after;
  parts = ap (λ (x : List ℕ). b ∷ x) r.parts;
  here = omega (arith, r.here);
  some = r.some;
  filled = r.filled;
  begins = r.begins;
  ends = r.ends;
}

front_filled : (bs : List ℕ) → list_all is_filled (take_while is_filled bs) ≡ true
front_filled [] = refl
front_filled (b ∷ bs) =
    elim (cases_Bool (is_blank b)) [
      | inl e ↦ rw e refl
      | inr e ↦ rw (e, one-add, e) (front_filled bs)
    ]

front_ends : (bs : List ℕ) → begins_blank (drop (prefix_len is_filled bs) bs) ≡ true
front_ends [] = refl
front_ends (b ∷ bs) =
    elim (cases_Bool (is_blank b)) [
      | inl e ↦ rw (e, e) refl
      | inr e ↦ rw (e, one-add) (front_ends bs)
    ]

first_run : (place b : ℕ) (bs : List ℕ) → is_blank b ≡ false
    → IsRun true place (b ∷ bs) (record { place = place; bytes = take_while is_filled (b ∷ bs) })
first_run place b bs e = record {
  before = [];
  after = drop (prefix_len is_filled (b ∷ bs)) (b ∷ bs);
  parts = sym (take-append-drop (prefix_len is_filled (b ∷ bs)) (b ∷ bs));
  here = omega arith;
  some = rw (e, one-add) (omega arith);
  filled = front_filled (b ∷ bs);
  begins = refl;
  ends = front_ends (b ∷ bs);
}

-- the runs of what comes after a byte
runs_after : (fresh was : Bool) (place b : ℕ) (bs : List ℕ) (ts : List Piece) → is_blank b ≡ was
    → AllByRecursion (IsRun was (place + 1) bs) ts → AllByRecursion (IsRun fresh place (b ∷ bs)) ts
runs_after fresh was place b bs ts e h =
    all_weaker (IsRun was (place + 1) bs) (IsRun fresh place (b ∷ bs)) ts
    (λ t r. run_after fresh place b bs t (subst (λ (v : Bool). IsRun v (place + 1) bs t) (sym e) r)) h

pub each_is_run : (fresh : Bool) (place : ℕ) (text : List ℕ)
    → AllByRecursion (IsRun fresh place text) (tokens_past fresh place text)
unfolding tokens_past
each_is_run fresh place [] = tt
each_is_run true place (b ∷ bs) =
    elim (cases_Bool (is_blank b)) [
      | inl e ↦
          rw e (runs_after true true place b bs (tokens_past true (place + 1) bs) e (each_is_run true (place + 1) bs))
      | inr e ↦
          subst (λ (v : Bool). AllByRecursion (IsRun true place (b ∷ bs)) (cond v (tokens_past true (place + 1) bs)
          (record { place = place; bytes = take_while is_filled (b ∷ bs) } ∷ tokens_past false (place + 1) bs)))
          (sym e) (
            first_run place b bs e,
            runs_after true false place b bs (tokens_past false (place + 1) bs) e (each_is_run false (place + 1) bs),
          )
    ]
each_is_run false place (b ∷ bs) =
    elim (cases_Bool (is_blank b)) [
      | inl e ↦
          rw e (runs_after false true place b bs (tokens_past true (place + 1) bs) e (each_is_run true (place + 1) bs))
      | inr e ↦ rw e
          (runs_after false false place b bs (tokens_past false (place + 1) bs) e (each_is_run false (place + 1) bs))
    ]

-- ---- each longest run is a token

-- the prefix that is filled, where a blank or nothing comes after it
pub whole_front : (bytes after : List ℕ) → list_all is_filled bytes ≡ true → begins_blank after ≡ true
    → prefix_len is_filled (bytes ++ after) ≡ length bytes
whole_front [] [] f e = refl
whole_front [] (c ∷ cs) f e = rw e refl
whole_front (b ∷ bs) after f e =
    let both = and_parts (is_filled b) (list_all is_filled bs) f in
    rw (both.0, one-add) (ap suc (whole_front bs after both.1 e))

pub is_front : (bytes after : List ℕ) → list_all is_filled bytes ≡ true → begins_blank after ≡ true
    → take_while is_filled (bytes ++ after) ≡ bytes
is_front bytes after f e = rw (whole_front bytes after f e) (take_at bytes after (length bytes) refl)

same_piece : (s t : Piece) → s.place ≡ t.place → s.bytes ≡ t.bytes → s ≡ t
same_piece s t p q = rw (p, q) refl

run_is_token : (fresh : Bool) (place : ℕ) (before bytes after : List ℕ) (t : Piece)
    → t.place ≡ place + length before → t.bytes ≡ bytes
    → 0 < length bytes → list_all is_filled bytes ≡ true → ends_blank fresh before ≡ true → begins_blank after ≡ true
    → IsOneOf t (tokens_past fresh place (before ++ (bytes ++ after)))
unfolding tokens_past
run_is_token fresh place [] [] after t here is some filled begins ends = absurd (omega arith)
run_is_token false place [] (c ∷ cs) after t here is some filled begins ends = absurd (false≢true begins)
run_is_token true place [] (c ∷ cs) after t here is some filled begins ends =
    let no_blank : is_blank c ≡ false =
    not-true (is_blank c) (and_parts (is_filled c) (list_all is_filled cs) filled).0 in
    let first : Piece = record { place = place; bytes = take_while is_filled (c ∷ (cs ++ after)) } in
    let same : t ≡ first = same_piece t first (omega arith) (is ∙ sym (is_front (c ∷ cs) after filled ends)) in
    subst (λ (v : Bool). IsOneOf t (cond v (tokens_past true (place + 1) (cs ++ after))
    (first ∷ tokens_past false (place + 1) (cs ++ after)))) (sym no_blank) (inl same)
run_is_token true place (c ∷ before) bytes after t here is some filled begins ends =
    let rest = before ++ (bytes ++ after) in
    let first : Piece = record { place = place; bytes = take_while is_filled (c ∷ rest) } in
    elim (cases_Bool (is_blank c)) [
      | inl e ↦
          rw e (run_is_token true (place + 1) before bytes after t (omega arith) is some filled (rw e at begins) ends)
      | inr e ↦ subst (λ (v : Bool).
          IsOneOf t (cond v (tokens_past true (place + 1) rest) (first ∷ tokens_past false (place + 1) rest))) (sym e)
          (inr (run_is_token false (place + 1) before bytes after t (omega arith) is some filled (rw e at begins) ends))
    ]
run_is_token false place (c ∷ before) bytes after t here is some filled begins ends =
    elim (cases_Bool (is_blank c)) [
      | inl e ↦
          rw e (run_is_token true (place + 1) before bytes after t (omega arith) is some filled (rw e at begins) ends)
      | inr e ↦
          rw e (run_is_token false (place + 1) before bytes after t (omega arith) is some filled (rw e at begins) ends)
    ]

pub run_is_one : (text : List ℕ) (t : Piece) → IsLongestRun text t → IsOneOf t (tokens text)
run_is_one text t r =
    rw r.parts (run_is_token true 0 r.before t.bytes r.after t r.here refl r.some r.filled r.begins r.ends)

-- ---- in order

above_weaker : (low high : ℕ) (ts : List Piece) → low ≤ high → AreAbove high ts → AreAbove low ts
above_weaker low high [] le h = tt
above_weaker low high (t ∷ ts) le h = (omega (arith, h.0), h.1)

pub tokens_above : (fresh : Bool) (place : ℕ) (text : List ℕ) → AreAbove place (tokens_past fresh place text)
unfolding tokens_past
tokens_above fresh place [] = tt
tokens_above true place (b ∷ bs) =
    elim (cases_Bool (is_blank b)) [
      | inl e ↦
          rw e (above_weaker place (place + 1) (tokens_past true (place + 1) bs) (omega arith)
          (tokens_above true (place + 1) bs))
      | inr e ↦
          subst (λ (v : Bool). AreAbove place (cond v (tokens_past true (place + 1) bs) (record {
            place = place;
            bytes = take_while is_filled (b ∷ bs);
          } ∷ tokens_past false (place + 1) bs))) (sym e)
          (omega arith, tokens_above false (place + 1) bs)
    ]
tokens_above false place (b ∷ bs) =
    elim (cases_Bool (is_blank b)) [
      | inl e ↦
          rw e (above_weaker place (place + 1) (tokens_past true (place + 1) bs) (omega arith)
          (tokens_above true (place + 1) bs))
      | inr e ↦
          rw e (above_weaker place (place + 1) (tokens_past false (place + 1) bs) (omega arith)
          (tokens_above false (place + 1) bs))
    ]
