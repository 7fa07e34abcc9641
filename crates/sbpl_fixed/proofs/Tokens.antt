-- How the tokens of a text go on after a blank, within a token and after one.
use Rattle.std.proofs.Common.{◌≡◌, ℕ, suc, ◌+◌, ◌-◌, ◌<◌, Bool, true, false, List, [], ◌∷◌, length, drop, refl, sym, ap}
use Rattle.std.proofs.Common.{◌∙◌, arith, inl, inr, add-zero, one-add}
use Rattle.std.specs.Prelude.{take_while}
use Rattle.std.specs.List.{prefix_len}
use Rattle.std.proofs.lemmas.Bool.{cases_Bool}
use Rattle.std.proofs.lemmas.List.{drop-drop, length-drop}
use Rattle.std.proofs.Math.Seq.{drop-length}
use Rattle.sbpl_fixed.specs.Tokens.{is_blank, is_filled, tokens_past, is_fresh, tokens_from, token_at}

-- after the longest prefix of bytes that pass a test, the next byte does not pass
pub past_front : (p : ℕ → Bool) (bs : List ℕ) → prefix_len p (drop (prefix_len p bs) bs) ≡ 0
past_front p [] = refl
past_front p (b ∷ bs) =
    elim (cases_Bool (p b)) [
      | inl e ↦ rw (e, one-add) (past_front p bs)
      | inr e ↦ rw (e, e) refl
    ]

-- within a token none begins
pub skip_filled : (place : ℕ) (bs : List ℕ)
    → tokens_past false place bs
    ≡ tokens_past true (place + prefix_len is_filled bs) (drop (prefix_len is_filled bs) bs)
unfolding tokens_past
skip_filled place [] = refl
skip_filled place (b ∷ bs) =
    elim (cases_Bool (is_blank b)) [
      | inl e ↦ rw (e, add-zero, e) refl
      | inr e ↦
          rw (e, one-add) (skip_filled (place + 1) bs
          ∙ ap (λ (n : ℕ). tokens_past true n (drop (prefix_len is_filled bs) bs)) (omega arith))
    ]

-- nor after a blank, up to the next byte that is filled
skip_blank : (place : ℕ) (bs : List ℕ)
    → tokens_past true place bs ≡ tokens_past true (place + prefix_len is_blank bs) (drop (prefix_len is_blank bs) bs)
unfolding tokens_past
skip_blank place [] = refl
skip_blank place (b ∷ bs) =
    elim (cases_Bool (is_blank b)) [
      | inl e ↦
          rw (e, one-add) (skip_blank (place + 1) bs
          ∙ ap (λ (n : ℕ). tokens_past true n (drop (prefix_len is_blank bs) bs)) (omega arith))
      | inr e ↦ rw (e, add-zero, e) refl
    ]

-- where the first byte is not filled, it does not matter what comes before
pub fresh_or_not : (fresh : Bool) (place : ℕ) (bs : List ℕ) → prefix_len is_filled bs ≡ 0
    → tokens_past fresh place bs ≡ tokens_past true place bs
fresh_or_not true place bs h = refl
fresh_or_not false place bs h = skip_filled place bs ∙ rw (h, add-zero) refl

-- the token that begins at a filled byte
pub first_token : (place b : ℕ) (bs : List ℕ) → is_blank b ≡ false → tokens_past true place (b ∷ bs) ≡ record {
  place = place;
  bytes = take_while is_filled (b ∷ bs);
} ∷ tokens_past false place (b ∷ bs)
unfolding tokens_past
first_token place b bs e = rw e refl

first_filled : (place : ℕ) (bs : List ℕ) → prefix_len is_blank bs ≡ 0 → 0 < length bs
    → (0 < prefix_len is_filled bs) × (tokens_past true place bs ≡ record {
      place = place;
      bytes = take_while is_filled bs;
    } ∷ tokens_past false place bs)
first_filled place [] h some = absurd (omega arith)
first_filled place (b ∷ bs) h some =
    elim (cases_Bool (is_blank b)) [
      | inl e ↦ absurd (let k : suc (prefix_len is_blank bs) ≡ 0 = rw (e, one-add) at h in omega arith)
      | inr e ↦ (rw e (omega arith), first_token place b bs e)
    ]

-- inside a token the search goes on after it
pub amid_token : (text : List ℕ) (at n : ℕ) → is_fresh text at ≡ false → n ≡ prefix_len is_filled (drop at text)
    → tokens_from text at ≡ tokens_past true (at + n) (drop (at + n) text)
amid_token text at n amid e = rw (amid, e, ← drop-drop) (skip_filled at (drop at text))

-- the search goes on at the first byte that is not a blank
after_blanks : (text : List ℕ) (start k : ℕ) → k ≡ prefix_len is_blank (drop start text)
    → tokens_past true start (drop start text) ≡ tokens_past true (start + k) (drop (start + k) text)
after_blanks text start k e = rw (e, ← drop-drop) (skip_blank start (drop start text))

-- where blanks reach the end there is no token
pub none_left : (text : List ℕ) (start k : ℕ) → k ≡ prefix_len is_blank (drop start text) → start + k ≡ length text
    → tokens_past true start (drop start text) ≡ []
unfolding tokens_past
none_left text start k e end = after_blanks text start k e ∙ rw (end, drop-length) refl

-- and otherwise there is one, after the blanks
pub one_left : (text : List ℕ) (start k n : ℕ) → k ≡ prefix_len is_blank (drop start text)
    → n ≡ prefix_len is_filled (drop (start + k) text) → start + k < length text
    → (0 < n) × (tokens_past true start (drop start text)
    ≡ token_at text (start + k) (start + k + n) ∷ tokens_from text (start + k + n))
one_left text start k n e f some =
    let rest = drop (start + k) text in
    let no_blank : prefix_len is_blank rest ≡ 0 = rw (e, ← drop-drop) (past_front is_blank (drop start text)) in
    let first = first_filled (start + k) rest no_blank (omega (arith, length-drop (start + k) text)) in
    let ends : prefix_len is_filled (drop (start + k + n) text) ≡ 0 = rw (← drop-drop, f) (past_front is_filled rest) in
    let after : tokens_past false (start + k) rest ≡ tokens_from text (start + k + n) =
    skip_filled (start + k) rest ∙ rw (← f, drop-drop)
    (sym (fresh_or_not (is_fresh text (start + k + n)) (start + k + n) (drop (start + k + n) text) ends)) in
    let size : start + k + n - (start + k) ≡ n = omega arith in
    (rw f first.0, after_blanks text start k e ∙ first.1 ∙ rw (size, ← f, after) refl)
