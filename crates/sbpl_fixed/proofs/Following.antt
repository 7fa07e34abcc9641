-- How a text goes on after a token.
use Rattle.std.proofs.Common.{◌≡◌, ℕ, suc, ◌+◌, ◌<◌, ◌≤◌, Bool, true, false, inl, inr, List, [], ◌∷◌, ◌++◌, length}
use Rattle.std.proofs.Common.{drop, refl, sym, ap, subst, ◌∙◌, arith}
use Rattle.std.specs.Prelude.{take_while}
use Rattle.std.specs.List.{prefix_len}
use Rattle.std.proofs.lemmas.Bool.{cases_Bool}
use Rattle.std.proofs.lemmas.List.{length-drop, drop-drop}
use Rattle.std.proofs.lemmas.List.Sums.{prefix_len-le-length}
use Rattle.std.proofs.lemmas.List.Folds.{length-prefix_len}
use Rattle.sbpl_fixed.specs.Runs.{TokensGoOn}
use Rattle.sbpl_fixed.specs.Tokens.{Piece, is_blank, is_filled, is_fresh, tokens_past}
use Rattle.sbpl_fixed.proofs.Tokens.{skip_filled, past_front, fresh_or_not, first_token}

-- the place of a token in a text that begins at a place, and how the text goes on after it
pub record IsAfter (place : ℕ) (bs : List ℕ) (t : Piece) (ts : List Piece) : Type 0 where
  pub far : ℕ
  pub here : t.place ≡ place + far
  pub some : 0 < length t.bytes
  pub inside : far + length t.bytes ≤ length bs
  pub rest : ts ≡ tokens_past true (place + far + length t.bytes) (drop (far + length t.bytes) bs)
  pub ends : prefix_len is_filled (drop (far + length t.bytes) bs) ≡ 0

one_further : (place b : ℕ) (bs : List ℕ) (t : Piece) (ts : List Piece) → IsAfter (place + 1) bs t ts
    → IsAfter place (b ∷ bs) t ts
one_further place b bs t ts w =
    let move : suc w.far + length t.bytes ≡ suc (w.far + length t.bytes) = omega arith in
    let at : place + suc w.far + length t.bytes ≡ place + 1 + w.far + length t.bytes = omega arith in
    record {
      far = suc w.far;
      here = w.here ∙ omega arith;
      some = w.some;
      inside = let le = w.inside in omega arith;
      rest = rw (at, move) w.rest;
      ends = rw move w.ends;
    }

abbrev piece_at : ℕ → List ℕ → Piece
piece_at place bs = record { place = place; bytes = take_while is_filled bs }

first_after : (place b : ℕ) (bs : List ℕ) (ts : List Piece) → is_blank b ≡ false → tokens_past false (place + 1) bs ≡ ts
    → IsAfter place (b ∷ bs) (piece_at place (b ∷ bs)) ts
unfolding tokens_past
first_after place b bs ts e is =
    let size : length (take_while is_filled (b ∷ bs)) ≡ prefix_len is_filled (b ∷ bs) =
    length-prefix_len is_filled (b ∷ bs) in
    let within = prefix_len-le-length is_filled (b ∷ bs) in
    let one : prefix_len is_filled (b ∷ bs) ≡ 1 + prefix_len is_filled bs = rw e refl in
    let on : tokens_past false place (b ∷ bs) ≡ tokens_past false (place + 1) bs = rw e refl in
    let len : 0 + length (take_while is_filled (b ∷ bs)) ≡ prefix_len is_filled (b ∷ bs) = omega arith in
    let at : place + 0 + length (take_while is_filled (b ∷ bs)) ≡ place + prefix_len is_filled (b ∷ bs) = omega arith in
    record {
      far = 0;
      here = omega arith;
      some = omega arith;
      inside = omega arith;
      rest = rw (at, len) (sym is ∙ sym on ∙ skip_filled place (b ∷ bs));
      ends = rw len (past_front is_filled (b ∷ bs));
    }

abbrev no_tokens : List Piece
no_tokens = []

none_ends : (before : List Piece) (t : Piece) (ts : List Piece) → no_tokens ≡ before ++ t ∷ ts → ⊥
none_ends [] t ts h = cc
none_ends (x ∷ xs) t ts h = cc

begun : (place b : ℕ) (bs : List ℕ) (t : Piece) (ts : List Piece)
    → ((xs : List Piece) → tokens_past false (place + 1) bs ≡ xs ++ t ∷ ts → IsAfter (place + 1) bs t ts)
    → is_blank b ≡ false → (before : List Piece)
    → piece_at place (b ∷ bs) ∷ tokens_past false (place + 1) bs ≡ before ++ t ∷ ts → IsAfter place (b ∷ bs) t ts
begun place b bs t ts on e [] k =
    let same : piece_at place (b ∷ bs) ≡ t = cc in
    let rest : tokens_past false (place + 1) bs ≡ ts = cc in
    subst (λ (p : Piece). IsAfter place (b ∷ bs) p ts) same (first_after place b bs ts e rest)
begun place b bs t ts on e (x ∷ xs) k = one_further place b bs t ts (on xs cc)

pub after_token : (fresh : Bool) (place : ℕ) (bs : List ℕ) (before : List Piece) (t : Piece) (ts : List Piece)
    → tokens_past fresh place bs ≡ before ++ t ∷ ts → IsAfter place bs t ts
unfolding tokens_past
after_token fresh place [] before t ts h = absurd (none_ends before t ts h)
after_token true place (b ∷ bs) before t ts h =
    elim (cases_Bool (is_blank b)) [
      | inl e ↦
          one_further place b bs t ts (after_token true (place + 1) bs before t ts
          (let k : tokens_past true (place + 1) bs ≡ before ++ t ∷ ts = rw e at h in k))
      | inr e ↦ (
          let on : tokens_past false place (b ∷ bs) ≡ tokens_past false (place + 1) bs = rw e refl in
          let first : tokens_past true place (b ∷ bs) ≡ piece_at place (b ∷ bs) ∷ tokens_past false (place + 1) bs =
          first_token place b bs e ∙ ap (λ (l : List Piece). piece_at place (b ∷ bs) ∷ l) on in
          begun place b bs t ts (λ xs k. after_token false (place + 1) bs xs t ts k) e before (sym first ∙ h)
          )
    ]
after_token false place (b ∷ bs) before t ts h =
    elim (cases_Bool (is_blank b)) [
      | inl e ↦
          one_further place b bs t ts (after_token true (place + 1) bs before t ts
          (let k : tokens_past true (place + 1) bs ≡ before ++ t ∷ ts = rw e at h in k))
      | inr e ↦
          one_further place b bs t ts (after_token false (place + 1) bs before t ts
          (let k : tokens_past false (place + 1) bs ≡ before ++ t ∷ ts = rw e at h in k))
    ]

-- a token of a text from an offset stands there or later, in the text, and the text's tokens go on after it
pub tokens_go_on : TokensGoOn
tokens_go_on text at before t ts inside is =
    let w = after_token (is_fresh text at) at (drop at text) before t ts is in
    let end : t.place + length t.bytes ≡ at + w.far + length t.bytes = let here = w.here in omega arith in
    let far : at + (w.far + length t.bytes) ≡ t.place + length t.bytes = omega arith in
    let same : drop (w.far + length t.bytes) (drop at text) ≡ drop (t.place + length t.bytes) text =
    drop-drop (w.far + length t.bytes) at text ∙ ap (λ (n : ℕ). drop n text) far in
    let ends : prefix_len is_filled (drop (t.place + length t.bytes) text) ≡ 0 =
    ap (prefix_len is_filled) (sym same) ∙ w.ends in
    let rest : ts ≡ tokens_past true (t.place + length t.bytes) (drop (t.place + length t.bytes) text) =
    w.rest ∙ ap (λ (n : ℕ). tokens_past true n (drop (w.far + length t.bytes) (drop at text))) (sym end)
    ∙ ap (tokens_past true (t.place + length t.bytes)) same in (
      let here = w.here in omega arith,
      w.some,
      (let le = w.inside in omega (arith, length-drop at text)),
      fresh_or_not (is_fresh text (t.place + length t.bytes)) (t.place + length t.bytes)
          (drop (t.place + length t.bytes) text) ends ∙ sym rest,
    )
