-- Formats in parts, as lists of tokens.
use Rattle.std.proofs.Common.{◌≡◌, ℕ, zero, suc, List, [], ◌∷◌, ◌++◌, length, refl, sym, ap, subst, ◌∙◌, append_assoc}
use Rattle.std.specs.List.{flat_map}
use Rattle.std.proofs.lemmas.List.{append-nil}
use Rattle.sbpl_fixed.specs.Tokens.{Piece, tokens}
use Rattle.sbpl_fixed.specs.Formats.{Format, ended, done, and_then, turns, Says}
use Rattle.sbpl_fixed.specs.Meaning.{StandsFor}
use Rattle.sbpl_fixed.specs.Parts.{says_parts}
use Rattle.sbpl_fixed.proofs.Spelled.{Expected, Spells, IsSpelled, AllAfter}

-- a text that must end after a format stands for what the format says of all its tokens
pub whole_said : {E A : Type 0} (f : Format E A) (text : List ℕ) (x : A)
    → StandsFor (and_then f (λ y. ended (done y))) text x → Says f (tokens text) x []
unfolding Says
whole_said {E} {A} f text x h =
    let p = says_parts f (λ y. ended (done y)) (tokens text) h.0 x h.1 in
    let go : (mid : List Piece) → Says f (tokens text) p.0 mid → Says {E = E} (ended (done p.0)) mid x h.0
    → Says f (tokens text) x [] = elim [
      | [] ↦ λ s e. subst (λ (y : A). Says f (tokens text) y []) (sym e.0) s
      | ◌∷◌ t ts ↦ λ s e. absurd e
    ] in
    go p.1 p.2 p.3

-- ---- lists of expected tokens

pub spells_both : (ws vs : List Expected) (ts mid rest : List Piece) → Spells ws ts mid → Spells vs mid rest
    → Spells (ws ++ vs) ts rest
spells_both [] vs ts mid rest g h = rw (← g) h
spells_both (w ∷ ws) vs [] mid rest g h = absurd g
spells_both (w ∷ ws) vs (t ∷ ts) mid rest g h = (g.0, spells_both ws vs ts mid rest g.1 h)

-- ---- how a format is spelled, by its parts

-- ---- rounds that collect a list

-- one more after those that were read
abbrev pub collecting : {E X : Type 0} → (List X → Format E X) → List X → Format E (List X)
collecting f before = and_then (f before) (λ x. done (before ++ x ∷ []))

one_longer : {X : Type 0} (xs : List X) (x : X) (n : ℕ) → length xs ≡ n → length (x ∷ xs) ≡ suc n
one_longer xs x n h = ap suc h

grouped : {X : Type 0} (all before xs : List X) (x : X) → all ≡ before ++ x ∷ [] ++ xs → all ≡ before ++ x ∷ xs
grouped all before xs x h = h ∙ append_assoc before (x ∷ []) xs

module _ {E X : Type 0} (f : List X → Format E X) (Holds : List X → X → Type 0) (spelled : X → List Expected)
    (rule : (before : List X) → IsSpelled (f before) (Holds before) spelled) where
  collected : (n : ℕ) (before all : List X) (ts rest : List Piece) → Says (turns n (collecting f) before) ts all rest
      → (xs : List X) × (all ≡ before ++ xs) × (length xs ≡ n) × AllAfter Holds before xs
      × Spells (flat_map spelled xs) ts rest
  unfolding Says turns and_then
  collected zero before all ts rest h = ([], h.0 ∙ sym (append-nil before), refl, tt, h.1)
  collected (suc n) before all ts rest h =
      let round = says_parts (collecting f before) (turns n (collecting f)) ts rest all h in
      let one = says_parts (f before) (λ x. done (before ++ x ∷ [])) ts round.1 round.0 round.2 in
      let x = one.0 in
      let state : round.0 ≡ before ++ x ∷ [] = one.3.0 in
      let place : round.1 ≡ one.1 = one.3.1 in
      let others =
      collected n (before ++ x ∷ []) all one.1 rest
      (subst (λ (m : List Piece). Says (turns n (collecting f) (before ++ x ∷ [])) m all rest) place
      (subst (λ (s : List X). Says (turns n (collecting f) s) round.1 all rest) state round.3)) in (
        x ∷ others.0,
        grouped all before others.0 x others.1,
        one_longer others.0 x n others.2,
        ((rule before).holds x ts one.1 one.2, others.3),
        spells_both (spelled x) (flat_map spelled others.0) ts one.1 rest
            ((rule before).spells x ts one.1 one.2) others.4,
      )

-- ---- texts of words
