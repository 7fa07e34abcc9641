-- A format's texts as lists: which tokens with which values
-- stand one after another for a value, and a text of such words.
use Rattle.std.specs.Prelude.{◌≡◌, ℕ, List, [], ◌∷◌, ◌++◌, ℤ, Ok}
use Rattle.sbpl_fixed.specs.Tokens.{Piece}
use Rattle.sbpl_fixed.specs.Formats.{Item, Format, Says}

-- a token that must stand: the item, and its value
pub record Expected : Type 0 where
  pub item : Item
  pub value : ℤ

-- the first tokens are the expected ones, one for one, and the rest is left
abbrev pub Spells : List Expected → List Piece → List Piece → Type 0
Spells [] ts rest = rest ≡ ts
Spells (w ∷ ws) [] rest = ⊥
Spells (w ∷ ws) (t ∷ ts) rest = (w.item t.bytes ≡ Ok w.value) × Spells ws ts rest

-- the format says just those values for which Holds holds, each by its list of tokens
pub record IsSpelled {E A : Type 0} (f : Format E A) (Holds : A → Type 0) (spelled : A → List Expected) : Type 0 where
  pub holds : (x : A) (ts rest : List Piece) → Says f ts x rest → Holds x
  pub spells : (x : A) (ts rest : List Piece) → Says f ts x rest → Spells (spelled x) ts rest
  pub said : (x : A) (ts rest : List Piece) → Holds x → Spells (spelled x) ts rest → Says f ts x rest

-- each holds after those before it
abbrev pub AllAfter : {X : Type 0} → (List X → X → Type 0) → List X → List X → Type 0
AllAfter Holds before [] = Unit {0}
AllAfter Holds before (x ∷ xs) = Holds before x × AllAfter Holds (before ++ x ∷ []) xs

-- a word of a text, and the blank after it
pub record Spaced : Type 0 where
  pub word : List ℕ
  pub blank : ℕ

-- words, each with its blank after it
abbrev pub written : List Spaced → List ℕ
written [] = []
written (w ∷ ws) = w.word ++ w.blank ∷ written ws
