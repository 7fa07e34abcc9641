-- The forms in which words give plain words, and settings with their values.
use Rattle.std.specs.Prelude.{◌≡◌, ◌≢◌, ◌↔◌, ℕ, true, List, [], ◌∷◌, ◌++◌, Some, None}
use Rattle.std.specs.List.{All, AllPairs, flat_map}
use Rattle.sbpl_job.specs.declared.words.Command.{Command}
use Rattle.sbpl_job.specs.declared.words.Setting.{Setting}
use Rattle.sbpl_job.specs.Words.{Given, WordParts, id_of, is_plain_word, takes, parts_of}

-- a plain word; a setting's name, with its value in the next word; or a setting's name, '=' and its value in one word
pub data Form : Type 0 where
  Plain : List ℕ → Form
  Apart : Setting → List ℕ → Form
  Joined : Setting → List ℕ → Form

-- a setting's name: two dashes, and what it is called
abbrev pub name_of : Setting → List ℕ
name_of s = 45 ∷ (45 ∷ id_of s)

-- the words of a form
abbrev pub form_words : Form → List (List ℕ)
form_words (Plain word) = word ∷ []
form_words (Apart s value) = name_of s ∷ (value ∷ [])
form_words (Joined s value) = (name_of s ++ (61 ∷ value)) ∷ []

-- the plain words that a form gives
abbrev pub plain_of : Form → List (List ℕ)
plain_of (Plain word) = word ∷ []
plain_of (Apart s value) = []
plain_of (Joined s value) = []

-- the settings, with their values, that a form gives
abbrev pub given_of : Form → List Given
given_of (Plain word) = []
given_of (Apart s value) = record { setting = s; value = value } ∷ []
given_of (Joined s value) = record { setting = s; value = value } ∷ []

-- a form is fit for a command: its word or its value is plain, and the command takes the setting
abbrev pub IsFit : Command → Form → Type 0
IsFit c (Plain word) = is_plain_word word ≡ true
IsFit c (Apart s value) = (takes c s ≡ true) × (is_plain_word value ≡ true)
IsFit c (Joined s value) = (takes c s ≡ true) × (is_plain_word value ≡ true)

-- two settings differ
abbrev pub Differ : Given → Given → Type 0
Differ g h = g.setting ≢ h.setting

-- words are the words of some fit forms in turn, which give these parts in order and no setting twice
pub record ArePartsOf (c : Command) (words : List (List ℕ)) (p : WordParts) : Type 0 where
  pub forms : List Form
  pub fit : All (IsFit c) forms
  pub spelled : words ≡ flat_map form_words forms
  pub plain : p.plain ≡ flat_map plain_of forms
  pub given : p.given ≡ flat_map given_of forms
  pub single : AllPairs Differ p.given

-- the parts of words are what their forms give
abbrev pub PartsAreOfForms : Type 0
PartsAreOfForms = (c : Command) (words : List (List ℕ)) (p : WordParts) → (parts_of c words ≡ Some p) ↔ ArePartsOf c words p

-- words have no parts exactly where they are not the words of such forms
abbrev pub NoPartsWithoutForms : Type 0
NoPartsWithoutForms = (c : Command) (words : List (List ℕ)) → (parts_of c words ≡ None) ↔ ((p : WordParts) → ArePartsOf c words p → ⊥)
