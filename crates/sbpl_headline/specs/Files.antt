-- What the words of files and the lines of changes say, in plain words.
use Rattle.std.specs.Prelude.{◌≡◌, ◌⊎◌, ◌==◌, ℕ, ℤ, pos, nat_lt, Bool, Option, MatchOption, List, [], ◌∷◌, ◌++◌, length, map, codes}
use Rattle.std.specs.Int.{int_rem_euclid}
use Rattle.std.specs.Int.RustNames.{unsigned_abs}
use Rattle.std.specs.List.{AllZip, filter, flat_map, slice_split}
use Rattle.std.specs.Str.Lines.{lines}
use Rattle.sbpl_promises.specs.sbpl_fixed.Tokens.{is_blank}
use Rattle.sbpl_promises.specs.sbpl_cfg.Environment.{Environment}
use Rattle.sbpl_promises.specs.sbpl_cfg.declared.pose.Place.{Place}
use Rattle.sbpl_promises.specs.sbpl_cfg.declared.pose.Pose.{Pose}
use Rattle.sbpl_promises.specs.sbpl_mprim.declared.prim.Primitive.{Primitive}
use Rattle.sbpl_promises.specs.sbpl_map.Fields.{is_parting}
use Rattle.sbpl_headline.specs.Numbers.{IsNanos, IsNumber}

-- what a word says: this word, this whole number, this number of billionths, or a whole number that is `to` modulo n
pub data Said : Type 0 where
  word : List ℕ → Said
  number : ℤ → Said
  nano : ℤ → Said
  modulo : (n to : ℕ) → Said

abbrev pub Means : Said → List ℕ → Type 0
Means (word w) bytes = bytes ≡ w
Means (number z) bytes = IsNumber bytes z
Means (nano z) bytes = IsNanos bytes z
Means (modulo n to) bytes = (z : ℤ) × IsNumber bytes z × (unsigned_abs (int_rem_euclid z (pos n)) ≡ to)

-- what stands between bytes that part, where it is not empty
abbrev pub between : (parts : ℕ → Bool) → List ℕ → List (List ℕ)
between parts bytes = filter (λ w. nat_lt 0 (length w)) (slice_split parts bytes)

-- the words of a text, between blanks, say this, one by one
abbrev pub Says : List Said → List ℕ → Type 0
Says said text = AllZip Means said (between is_blank text)

-- a value is that of the file; or, where a word is given in its place, the word says it between commas
abbrev pub IsGiven : {P : Type 0} → (P → List Said) → Option (List ℕ) → (file value : P) → Type 0
IsGiven said given file value = MatchOption given (value ≡ file) (λ w. AllZip Means (said value) (slice_split (λ b. b == 44) w))

-- ---- a lattice: its environment file, in which the number of headings can be left out where it is 16, and its primitive file

abbrev pub said_pose : Pose → List Said
said_pose p = nano p.x ∷ nano p.y ∷ nano p.theta ∷ []

abbrev pub environment_words : (headings : List Said) → Environment → List ℕ → List Said
environment_words headings e cells =
    word (codes "discretization(cells):") ∷ number (pos e.width) ∷ number (pos e.height) ∷ (headings
    ++ word (codes "obsthresh:") ∷ number (pos e.obsthresh)
    ∷ word (codes "cost_inscribed_thresh:") ∷ number (pos e.inscribed)
    ∷ word (codes "cost_possibly_circumscribed_thresh:") ∷ number e.circumscribed
    ∷ word (codes "cellsize(meters):") ∷ nano e.cell
    ∷ word (codes "nominalvel(mpersecs):") ∷ nano e.speed
    ∷ word (codes "timetoturn45degsinplace(secs):") ∷ nano e.turn45
    ∷ word (codes "start(meters,rads):") ∷ (said_pose e.start
    ++ word (codes "end(meters,rads):") ∷ (said_pose e.end
    ++ word (codes "environment:") ∷ map (λ c. number (pos c)) cells)))

abbrev pub IsEnvironmentText : Environment → List ℕ → List ℕ → Type 0
IsEnvironmentText e cells text =
    Says (environment_words (word (codes "NumThetaDirs:") ∷ number (pos e.headings) ∷ []) e cells) text
    ⊎ ((e.headings ≡ 16) × Says (environment_words [] e cells) text)

abbrev pub primitive_words : (headings : ℕ) → Primitive → List Said
primitive_words headings p =
    word (codes "primID:") ∷ number (pos p.id) ∷ word (codes "startangle_c:") ∷ number (pos p.from)
    ∷ word (codes "endpose_c:") ∷ number p.dx ∷ number p.dy ∷ modulo headings p.to
    ∷ word (codes "additionalactioncostmult:") ∷ number (pos p.mult)
    ∷ word (codes "intermediateposes:") ∷ number (pos (length p.poses))
    ∷ flat_map said_pose p.poses

abbrev pub IsPrimitiveText : Environment → List Primitive → List ℕ → Type 0
IsPrimitiveText e prims text = Says
    (word (codes "resolution_m:") ∷ nano e.cell ∷ word (codes "numberofangles:") ∷ number (pos e.headings)
    ∷ word (codes "totalnumberofprimitives:") ∷ number (pos (length prims)) ∷ flat_map (primitive_words e.headings) prims) text

-- ---- changes

-- a line of a batch: the cost of a cell, or where the robot is
pub data ChangeLine : Type 0 where
  Cell : (x y cost : ℕ) → ChangeLine
  Start : Place → ChangeLine

abbrev pub line_words : ChangeLine → List Said
line_words (Cell x y cost) = word (codes "cell") ∷ number (pos x) ∷ number (pos y) ∷ number (pos cost) ∷ []
line_words (Start p) = word (codes "start") ∷ number (pos p.x) ∷ number (pos p.y) ∷ number (pos p.t) ∷ []

-- The words of the lines that have some, between spaces and tabs, are those of the batches, with `replan` after each. Lines end at line
-- feeds, and one carriage return before a line feed is dropped (std's `lines`).
abbrev pub IsChangeText : List (List ChangeLine) → List ℕ → Type 0
IsChangeText batches text = AllZip (AllZip Means)
    (flat_map (λ b. map line_words b ++ (word (codes "replan") ∷ []) ∷ []) batches)
    (filter (λ f. nat_lt 0 (length f)) (map (between is_parting) (lines text)))
