-- What the words after `plan` or `nav` ask, in plain words.
use Rattle.std.specs.Prelude.{◌≡◌, ◌≢◌, ◌⊎◌, ◌*◌, ◌^◌, ℕ, pos, List, [], ◌∷◌, ◌++◌, Option, MatchOption, option_map, codes}
use Rattle.std.specs.List.{AllByRecursion, find, flat_map}
use Rattle.std.specs.Str.{bytes_eq}
use Rattle.sbpl_headline.specs.Numbers.{IsNanos, IsNumber}

-- not empty, and without a dash at its beginning
abbrev pub IsPlain : List ℕ → Type 0
IsPlain [] = ⊥
IsPlain (b ∷ bs) = b ≢ 45

-- with a dash at its beginning
abbrev pub IsOptionName : List ℕ → Type 0
IsOptionName [] = ⊥
IsOptionName (b ∷ bs) = b ≡ 45

-- one or two words that belong together, and what they give: a plain word, or a name with its value
pub record Part : Type 0 where
  pub words : List (List ℕ)
  pub plain : List (List ℕ)
  pub given : List (List ℕ × List ℕ)

-- a plain word; or a name, with its value in the next word or after a '='
abbrev pub IsPart : Part → Type 0
IsPart part =
    ((w : List ℕ) × IsPlain w × (part ≡ record { words = w ∷ []; plain = w ∷ []; given = [] }))
    ⊎ ((name : List ℕ) × (v : List ℕ) × IsOptionName name × AllByRecursion (λ c. c ≢ 61) name × IsPlain v × (part.plain ≡ [])
    × (part.given ≡ (name, v) ∷ []) × ((part.words ≡ name ∷ v ∷ []) ⊎ (part.words ≡ (name ++ 61 ∷ v) ∷ [])))

-- the first value that is given to a name
abbrev pub value_of : List ℕ → List Part → Option (List ℕ)
value_of name parts = option_map (λ g. g.1) (find (λ g. bytes_eq g.0 name) (flat_map (λ p. p.given) parts))

-- what is asked: the name of the change file, the words for the start and the goal, the robot's radius in nanometres, the bound in
-- thousandths, and how many states a plan may expand
pub record Asked : Type 0 where
  pub changes : Option (List ℕ)
  pub start : Option (List ℕ)
  pub goal : Option (List ℕ)
  pub radius : ℕ
  pub bound : ℕ
  pub budget : ℕ

-- these words, of which these are plain, ask this
pub record Ask (words plain : List (List ℕ)) (a : Asked) : Type 0 where
  pub parts : List Part
  pub are_parts : AllByRecursion IsPart parts
  pub spelled : words ≡ flat_map (λ p. p.words) parts
  pub plain_words : plain ≡ flat_map (λ p. p.plain) parts
  pub changes : a.changes ≡ value_of (codes "--changes") parts
  pub start : a.start ≡ value_of (codes "--start") parts
  pub goal : a.goal ≡ value_of (codes "--goal") parts
  pub radius : MatchOption (value_of (codes "--radius") parts) (a.radius ≡ 0) (λ v. IsNanos v (pos a.radius))
  pub bound : MatchOption (value_of (codes "--bound") parts) (a.bound ≡ 1000) (λ v. IsNanos v (pos (a.bound * 10 ^ 6)))
  pub budget : MatchOption (value_of (codes "--budget") parts) (a.budget ≡ 2 ^ 30) (λ v. IsNumber v (pos a.budget))
