-- What the text of an environment is: its list of tokens, each number with its value and in its range.
use Rattle.std.specs.Prelude.{◌≡◌, ◌≢◌, ◌⊎◌, false, ℕ, ℤ, pos, ◌*◌, ◌≤◌, List, [], ◌∷◌, ◌++◌, length, map, codes, Ok}
use Rattle.std.specs.List.{AllByRecursion}
use Rattle.sbpl_fixed.specs.Numbers.{nano_of, whole_of}
use Rattle.sbpl_fixed.specs.Tokens.{tokens}
use Rattle.sbpl_fixed.specs.Meaning.{HasFirstFault}
use Rattle.sbpl_cfg.specs.declared.fault.EnvFault.{EnvFault}
use Rattle.sbpl_cfg.specs.declared.fault.EnvFault.TheVariants.{NoMemory}
use Rattle.sbpl_cfg.specs.declared.pose.Pose.{Pose}
use Rattle.sbpl_cfg.specs.Faults.{told}
use Rattle.sbpl_cfg.specs.Format.{environment_format, headings_word, says_headings}
use Rattle.sbpl_cfg.specs.Environment.{Environment, IsEnvironment, state_count, usual_headings}

-- what a token says: a fixed word, a whole number, or a decimal by its billionths
pub data Said : Type 0 where
  word : List ℕ → Said
  number : ℤ → Said
  nano : ℤ → Said

abbrev pub Means : Said → List ℕ → Type 0
Means (word w) bytes = bytes ≡ w
Means (number n) bytes = whole_of bytes ≡ Ok n
Means (nano n) bytes = nano_of bytes ≡ Ok n

-- each token says what stands at its index in the list, and both have the same length
abbrev pub AllMean : List Said → List (List ℕ) → Type 0
AllMean [] [] = Unit {0}
AllMean [] (bytes ∷ others) = ⊥
AllMean (said ∷ more) [] = ⊥
AllMean (said ∷ more) (bytes ∷ others) = Means said bytes × AllMean more others

-- the tokens of a text, without their offsets
abbrev pub words_of : List ℕ → List (List ℕ)
words_of text = map (λ t. t.bytes) (tokens text)

abbrev pub spelled_pose : List ℕ → Pose → List Said
spelled_pose name p = word name ∷ nano p.x ∷ nano p.y ∷ nano p.theta ∷ []

abbrev pub spelled_size : Environment → List Said
spelled_size e = word (codes "discretization(cells):") ∷ number (pos e.width) ∷ number (pos e.height) ∷ []

abbrev pub spelled_headings : ℕ → List Said
spelled_headings n = word headings_word ∷ number (pos n) ∷ []

abbrev pub spelled_thresholds : Environment → List Said
spelled_thresholds e =
    word (codes "obsthresh:") ∷ number (pos e.obsthresh)
    ∷ word (codes "cost_inscribed_thresh:") ∷ number (pos e.inscribed)
    ∷ word (codes "cost_possibly_circumscribed_thresh:") ∷ number e.circumscribed
    ∷ []

abbrev pub spelled_rates : Environment → List Said
spelled_rates e =
    word (codes "cellsize(meters):") ∷ nano e.cell
    ∷ word (codes "nominalvel(mpersecs):") ∷ nano e.speed
    ∷ word (codes "timetoturn45degsinplace(secs):") ∷ nano e.turn45
    ∷ []

abbrev pub spelled_ends : Environment → List Said
spelled_ends e = spelled_pose (codes "start(meters,rads):") e.start ++ spelled_pose (codes "end(meters,rads):") e.end

-- the costs row by row
abbrev pub spelled_grid : List ℕ → List Said
spelled_grid cells = word (codes "environment:") ∷ map (λ c. number (pos c)) cells

-- the whole list, with these tokens for the number of headings
abbrev pub spelled : List Said → Environment → List ℕ → List Said
spelled headings e cells =
    spelled_size e ++ (headings ++ (spelled_thresholds e ++ (spelled_rates e ++ (spelled_ends e ++ spelled_grid cells))))

-- the tokens are the list with the number of headings, or without it, and then it is the usual one
abbrev pub AreTokensOf : List (List ℕ) → Environment → List ℕ → Type 0
AreTokensOf words e cells =
    AllMean (spelled (spelled_headings e.headings) e cells) words
    ⊎ ((e.headings ≡ usual_headings) × AllMean (spelled [] e cells) words)

-- The costs of a grid of an environment's size.
pub record IsGrid (e : Environment) (cells : List ℕ) : Type 0 where
  pub size : length cells ≡ e.width * e.height
  pub costs : AllByRecursion (λ c. c ≤ 255) cells

-- The text stands for the environment and the grid: its tokens are those of the file, the numbers lie in their ranges, there
-- are not more states than the limit, both poses are on the map, and the grid has the size.
pub record IsTextOf (states : ℕ) (text : List ℕ) (e : Environment) (cells : List ℕ) : Type 0 where
  pub tokens : AreTokensOf (words_of text) e cells
  pub environment : IsEnvironment e
  pub few : state_count e ≤ states
  pub grid : IsGrid e cells

-- the text stands for an environment and a grid
abbrev pub IsText : (states : ℕ) → List ℕ → Type 0
IsText states text = (e : Environment) × (cells : List ℕ) × IsTextOf states text e cells

-- Two texts with the same tokens, but that one says the usual number of headings and the other leaves it out.
pub record LeavesOutUsual (plain full : List ℕ) : Type 0 where
  pub discretization : List ℕ
  pub width : List ℕ
  pub height : List ℕ
  pub headings : List ℕ
  pub others : List (List ℕ)
  pub usual : whole_of headings ≡ Ok (pos usual_headings)
  pub plain_words : words_of plain ≡ discretization ∷ width ∷ height ∷ others
  pub full_words : words_of full ≡ discretization ∷ width ∷ height ∷ headings_word ∷ headings ∷ others
  pub left_out : says_headings plain ≡ false

-- Up to the fault's offset the text is what the format calls for, with the number of headings where the text says it, and
-- there it fails in the way that the fault names.
abbrev pub HasFault : (states : ℕ) → List ℕ → EnvFault → Type 0
HasFault states text f = HasFirstFault told (environment_format states (says_headings text)) text f

abbrev pub IsFaulty : (states : ℕ) → List ℕ → Type 0
IsFaulty states text = (f : EnvFault) × (f ≢ NoMemory) × HasFault states text f
