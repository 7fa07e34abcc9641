-- Lines of words.
use Rattle.std.proofs.Common.{◌≡◌, ℕ, List, [], ◌∷◌, ◌++◌, flat_map, length, map, refl, append_assoc, arith}
use Rattle.sbpl_fixed.specs.Printed.{line_text}

-- a line is its first word, each other word after a space, and a line feed
line_of_first : {A : Type 0} (text : A → List ℕ) (first : A) (rest : List A)
    → line_text (map text (first ∷ rest)) ≡ text first ++ (flat_map (λ word. 32 ∷ text word) rest ++ 10 ∷ [])
unfolding line_text
line_of_first text first [] = refl
line_of_first text first (next ∷ rest) = rw (line_of_first text next rest, append_assoc) refl

-- a line of no words
pub line_of_none : {A : Type 0} {done : List ℕ} (text : A → List ℕ) (out : List ℕ) (words : List A) → length words ≡ 0
    → done ≡ out ++ 10 ∷ [] → done ≡ out ++ line_text (map text words)
unfolding line_text
line_of_none text out [] none wrote = wrote
line_of_none text out (word ∷ words) none wrote = absurd (omega arith)

-- its parts are written one after the other
pub line_written : {A : Type 0} {words rest : List A} {first : A} {a b done : List ℕ} (text : A → List ℕ) (out : List ℕ)
    → words ≡ first ∷ rest → a ≡ out ++ text first → b ≡ a ++ flat_map (λ word. 32 ∷ text word) rest
    → done ≡ b ++ 10 ∷ [] → done ≡ out ++ line_text (map text words)
line_written {words} {rest} {first} text out parts one others end =
    rw (parts, line_of_first text first rest, end, others, one) (simp append_assoc)
