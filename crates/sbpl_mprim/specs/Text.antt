-- Which texts stand for primitives, token by token and with no reading in it.
use Rattle.std.specs.Prelude.{◌≡◌, ◌≢◌, ◌≤◌, ℕ, ℤ, pos, negsuc, List, [], ◌∷◌, length, codes, Ok}
use Rattle.std.specs.List.{flat_map}
use Rattle.sbpl_fixed.specs.Numbers.{nano_of, whole_of}
use Rattle.sbpl_fixed.specs.Meaning.{HasFirstFault}
use Rattle.sbpl_fixed.specs.ReadBack.{IsWord}
use Rattle.sbpl_fixed.specs.Tokens.{Piece, tokens}
use Rattle.sbpl_cfg.specs.declared.pose.Pose.{Pose}
use Rattle.sbpl_cfg.specs.Environment.{IsWithin}
use Rattle.sbpl_mprim.specs.declared.fault.PrimFault.{PrimFault}
use Rattle.sbpl_mprim.specs.declared.fault.PrimFault.TheVariants.{NoMemory}
use Rattle.sbpl_mprim.specs.declared.prim.Primitive.{Primitive}
use Rattle.sbpl_mprim.specs.Faults.{told}
use Rattle.sbpl_mprim.specs.Judging.{heading_modulo}
use Rattle.sbpl_mprim.specs.Primitives.{ArePrimitives, Primitives}
use Rattle.sbpl_mprim.specs.Reading.{prims_format}

-- what a token of a primitive file says: this word, this whole number, this number in billionths, or this end heading
pub data Saying : Type 0 where
  a_word : List ℕ → Saying
  a_whole : ℤ → Saying
  a_nano : ℤ → Saying
  a_heading : ℕ → Saying

-- The bytes of a token say it. An end heading is any number that is the heading modulo the number of headings.
abbrev pub Means : ℕ → Saying → List ℕ → Type 0
Means headings (a_word word) bytes = bytes ≡ word
Means headings (a_whole n) bytes = whole_of bytes ≡ Ok n
Means headings (a_nano n) bytes = nano_of bytes ≡ Ok n
Means headings (a_heading to) bytes = (n : ℤ) × (whole_of bytes ≡ Ok n) × IsWithin (negsuc 32766) (pos 32767) n × (heading_modulo headings n ≡ to)

-- there are as many tokens as sayings, and each token says the one at its index
unfoldable pub AreMeant : ℕ → List Saying → List Piece → Type 0
AreMeant headings [] [] = Unit {0}
AreMeant headings [] (t ∷ ts) = ⊥
AreMeant headings (s ∷ ss) [] = ⊥
AreMeant headings (s ∷ ss) (t ∷ ts) = Means headings s t.bytes × AreMeant headings ss ts

-- a word that says something
pub record Shows (headings : ℕ) (s : Saying) (word : List ℕ) : Type 0 where
  pub is_word : IsWord word
  pub means : Means headings s word

-- there are as many words as sayings, and each word says the one at its index
unfoldable pub AreShown : ℕ → List Saying → List (List ℕ) → Type 0
AreShown headings [] [] = Unit {0}
AreShown headings [] (w ∷ ws) = ⊥
AreShown headings (s ∷ ss) [] = ⊥
AreShown headings (s ∷ ss) (w ∷ ws) = Shows headings s w × AreShown headings ss ws

abbrev pub spelled_pose : Pose → List Saying
spelled_pose p = a_nano p.x ∷ a_nano p.y ∷ a_nano p.theta ∷ []

abbrev pub spelled_prim : Primitive → List Saying
spelled_prim p =
    a_word (codes "primID:") ∷ a_whole (pos p.id)
    ∷ a_word (codes "startangle_c:") ∷ a_whole (pos p.from)
    ∷ a_word (codes "endpose_c:") ∷ a_whole p.dx ∷ a_whole p.dy ∷ a_heading p.to
    ∷ a_word (codes "additionalactioncostmult:") ∷ a_whole (pos p.mult)
    ∷ a_word (codes "intermediateposes:") ∷ a_whole (pos (length p.poses)) ∷ flat_map spelled_pose p.poses

unfoldable pub spelled : Primitives → List Saying
spelled ps =
    a_word (codes "resolution_m:") ∷ a_nano ps.cell
    ∷ a_word (codes "numberofangles:") ∷ a_whole (pos ps.headings)
    ∷ a_word (codes "totalnumberofprimitives:") ∷ a_whole (pos (length ps.items)) ∷ flat_map spelled_prim ps.items

-- the text stands for the primitives: its tokens spell them, and they are what a primitive file may give
pub record IsTextOf (text : List ℕ) (ps : Primitives) : Type 0 where
  pub tokens : AreMeant ps.headings (spelled ps) (tokens text)
  pub fits : ArePrimitives ps

-- the words of lines, one line after the other
abbrev pub words_of : List (List (List ℕ)) → List (List ℕ)
words_of lines = flat_map (λ line. line) lines

-- the text stands for some primitives for the cell size and the headings
abbrev pub IsText : ℤ → ℕ → List ℕ → Type 0
IsText cell headings text = (ps : Primitives) × (ps.cell ≡ cell) × (ps.headings ≡ headings) × IsTextOf text ps

-- Up to the fault's offset the text is what the format calls for, and there it fails in the way that the fault names.
abbrev pub HasFault : ℤ → ℕ → List ℕ → PrimFault → Type 0
HasFault cell headings text f = HasFirstFault told (prims_format cell headings) text f

abbrev pub IsFaulty : ℤ → ℕ → List ℕ → Type 0
IsFaulty cell headings text = (f : PrimFault) × (f ≢ NoMemory) × HasFault cell headings text f

-- a cell size and a number of headings that an environment may have
pub record AreSizes (cell : ℤ) (headings : ℕ) : Type 0 where
  pub cell_is : IsWithin (pos 1) (pos 1000000000000) cell
  pub some : 1 ≤ headings
  pub few : headings ≤ 64
