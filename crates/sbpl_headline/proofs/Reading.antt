-- What stands between blanks is a token, and the words of files say what the files stand for.
use Rattle.std.proofs.Common.{◌≡◌, ℕ, suc, ℤ, pos, ◌+◌, nat_lt, Bool, true, false, List, [], ◌∷◌, ◌++◌, map, filter}
use Rattle.std.proofs.Common.{length, codes, refl, sym, ap, subst, subst₂, ◌∙◌, arith, inl, inr, one-add}
use Rattle.std.specs.Prelude.{take_while}
use Rattle.std.specs.List.{AllZip, flat_map, onto_first, slice_split}
use Rattle.std.proofs.lemmas.Bool.{cases_Bool, lt-ltb}
use Rattle.std.proofs.lemmas.List.{map-append}
use Rattle.sbpl_promises.specs.sbpl_fixed.Tokens.{Piece, is_blank, is_filled, tokens, tokens_past}
use Rattle.sbpl_promises.specs.sbpl_cfg.Environment.{Environment}
use Rattle.sbpl_promises.specs.sbpl_cfg.declared.pose.Pose.{Pose}
use Rattle.sbpl_promises.specs.sbpl_cfg.Text.{words_of}
use Rattle.sbpl_promises.specs.sbpl_cfg.Text as environments
use Rattle.sbpl_promises.specs.sbpl_mprim.declared.prim.Primitive.{Primitive}
use Rattle.sbpl_promises.specs.sbpl_mprim.Primitives.{Primitives}
use Rattle.sbpl_promises.specs.sbpl_mprim.Text as primitives
use Rattle.sbpl_promises.specs.sbpl_map.CellMap.{CellMap}
use Rattle.sbpl_promises.specs.sbpl_map.ChangeText.{Given}
use Rattle.sbpl_promises.specs.sbpl_nav2d.Environment.{NavEnvironment, column_of, row_of}
use Rattle.sbpl_promises.specs.sbpl_nav2d.Text as grids
use Rattle.sbpl_promises.specs.Texts as promised
use Rattle.sbpl_headline.specs.Files.{IsEnvironmentText, IsPrimitiveText, Means, Said, Says, between, environment_words}
use Rattle.sbpl_headline.specs.Files.{modulo, nano, number, primitive_words, word}
use Rattle.sbpl_headline.specs.Grid.{IsGridText}
use Rattle.sbpl_headline.proofs.Numbering.{nano_says, whole_says}
use Rattle.sbpl_headline.proofs.Told.{map_with, square_of}

-- ---- words are tokens

-- a part is not empty
abbrev is_word : List ℕ → Bool
is_word w = nat_lt 0 (length w)

-- a part with a byte is a word
first_kept : (b : ℕ) (w : List ℕ) (parts : List (List ℕ))
    → filter is_word ((b ∷ w) ∷ parts) ≡ (b ∷ w) ∷ filter is_word parts
first_kept b w parts = rw (lt-ltb 0 (suc (length w)) (omega arith)) refl

-- How a text is cut at its blanks: its first part, and those after it, whose words are the tokens that begin within the
-- text; and all words are the tokens where a blank or nothing stands before it.
record IsCut (text : List ℕ) : Type 0 where
  parts : List (List ℕ)
  cut : slice_split is_blank text ≡ take_while is_filled text ∷ parts
  amid : (place : ℕ) → map (λ t. t.bytes) (tokens_past false place text) ≡ filter is_word parts
  whole : (place : ℕ) → map (λ t. t.bytes) (tokens_past true place text) ≡ between is_blank text

-- each text is cut so
is_cut : (text : List ℕ) → IsCut text
unfolding tokens_past
is_cut [] = record { parts = []; cut = refl; amid = λ place. refl; whole = λ place. refl }
is_cut (b ∷ bs) =
    let more = is_cut bs in
    elim (cases_Bool (is_blank b)) [
      | inl e ↦ record {
        parts = slice_split is_blank bs;
        cut = rw e refl;
        amid = λ place. rw e (more.whole (place + 1));
        whole = λ place. rw e (more.whole (place + 1));
      }
      | inr e ↦ record {
        parts = more.parts;
        cut = rw (e, one-add) (ap (λ l. onto_first b l) more.cut);
        amid = λ place. rw e (more.amid (place + 1));
        whole = λ place. rw (e, one-add) (ap (λ l. (b ∷ take_while is_filled bs) ∷ l) (more.amid (place + 1))
            ∙ sym (first_kept b (take_while is_filled bs) more.parts)
            ∙ ap (λ l. filter is_word (onto_first b l)) (sym more.cut));
      }
    ]

-- the words of a text between blanks are its tokens
pub words_are : (text : List ℕ) → words_of text ≡ between is_blank text
words_are text = (is_cut text).whole 0

-- ---- an environment file

-- what a token says, as the headline has it
abbrev said_of : environments.Said → Said
said_of (environments.word w) = word w
said_of (environments.number z) = number z
said_of (environments.nano z) = nano z

-- a token that says something says it to the headline
means_said : (said : environments.Said) (bytes : List ℕ) → environments.Means said bytes → Means (said_of said) bytes
means_said (environments.word w) bytes h = h
means_said (environments.number z) bytes h = whole_says bytes z h
means_said (environments.nano z) bytes h = nano_says bytes z h

-- and so do tokens, one by one
all_said : (said : List environments.Said) (words : List (List ℕ)) → environments.AllMean said words
    → AllZip Means (map said_of said) words
all_said [] [] h = tt
all_said [] (w ∷ words) h = absurd h
all_said (s ∷ said) [] h = absurd h
all_said (s ∷ said) (w ∷ words) h = (means_said s w h.0, all_said said words h.1)

-- so the words of a text say what its tokens say
says_tokens : (said : List environments.Said) (text : List ℕ) → environments.AllMean said (words_of text)
    → Says (map said_of said) text
says_tokens said text h =
    subst (λ words. AllZip Means (map said_of said) words) (words_are text) (all_said said (words_of text) h)

-- the costs of cells are told one by one
costs_said : (cells : List ℕ)
    → map said_of (map (λ c. environments.number (pos c)) cells) ≡ map (λ c. number (pos c)) cells
costs_said [] = refl
costs_said (c ∷ cells) = ap (λ l. number (pos c) ∷ l) (costs_said cells)

-- the words of an environment file that tells its number of headings
full_said : (e : Environment) (cells : List ℕ)
    → map said_of (environments.spelled (environments.spelled_headings e.headings) e cells)
    ≡ environment_words (word (codes "NumThetaDirs:") ∷ number (pos e.headings) ∷ []) e cells
full_said e cells = rw (costs_said cells) refl

-- and of one that leaves it out
short_said : (e : Environment) (cells : List ℕ)
    → map said_of (environments.spelled [] e cells) ≡ environment_words [] e cells
short_said e cells = rw (costs_said cells) refl

-- the words of an environment file say its numbers
pub environment_says : (states : ℕ) (text : List ℕ) (e : Environment) (cells : List ℕ)
    → environments.IsTextOf states text e cells
    → IsEnvironmentText e cells text
environment_says states text e cells h =
    let full = environments.spelled (environments.spelled_headings e.headings) e cells in
    let short = environments.spelled [] e cells in
    elim h.tokens [
      | inl t ↦ inl (subst (λ l. Says l text) (full_said e cells) (says_tokens full text t))
      | inr t ↦ inr (t.0, subst (λ l. Says l text) (short_said e cells) (says_tokens short text t.1))
    ]

-- ---- a primitive file

-- what a token says, as the headline has it
abbrev saying_of : ℕ → primitives.Saying → Said
saying_of n (primitives.a_word w) = word w
saying_of n (primitives.a_whole z) = number z
saying_of n (primitives.a_nano z) = nano z
saying_of n (primitives.a_heading to) = modulo n to

-- a token that says something says it to the headline
means_saying : (n : ℕ) (s : primitives.Saying) (bytes : List ℕ) → primitives.Means n s bytes
    → Means (saying_of n s) bytes
means_saying n (primitives.a_word w) bytes h = h
means_saying n (primitives.a_whole z) bytes h = whole_says bytes z h
means_saying n (primitives.a_nano z) bytes h = nano_says bytes z h
means_saying n (primitives.a_heading to) bytes h = (h.0, whole_says bytes h.0 h.1, h.3)

-- and so do tokens, one by one
all_meant : (n : ℕ) (sayings : List primitives.Saying) (pieces : List Piece) → primitives.AreMeant n sayings pieces
    → AllZip Means (map (saying_of n) sayings) (map (λ t. t.bytes) pieces)
unfolding primitives.AreMeant
all_meant n [] [] h = tt
all_meant n [] (t ∷ pieces) h = absurd h
all_meant n (s ∷ sayings) [] h = absurd h
all_meant n (s ∷ sayings) (t ∷ pieces) h = (means_saying n s t.bytes h.0, all_meant n sayings pieces h.1)

-- the poses of a primitive are told one by one
poses_said : (n : ℕ) (poses : List Pose) → map (saying_of n) (flat_map primitives.spelled_pose poses)
    ≡ flat_map (λ q. nano q.x ∷ nano q.y ∷ nano q.theta ∷ []) poses
poses_said n [] = refl
poses_said n (q ∷ poses) = ap (λ l. nano q.x ∷ nano q.y ∷ nano q.theta ∷ l) (poses_said n poses)

-- the words of a primitive
primitive_said : (n : ℕ) (p : Primitive) → map (saying_of n) (primitives.spelled_prim p) ≡ primitive_words n p
primitive_said n p = rw (poses_said n p.poses) refl

-- and of primitives, one by one
primitives_said : (n : ℕ) (ps : List Primitive)
    → map (saying_of n) (flat_map primitives.spelled_prim ps) ≡ flat_map (primitive_words n) ps
primitives_said n [] = refl
primitives_said n (p ∷ ps) =
    map-append (saying_of n) (primitives.spelled_prim p) (flat_map primitives.spelled_prim ps)
    ∙ ap (λ l. l ++ map (saying_of n) (flat_map primitives.spelled_prim ps)) (primitive_said n p)
    ∙ ap (λ l. primitive_words n p ++ l) (primitives_said n ps)

-- the words of a primitive file
abbrev primitive_file : (cell : ℤ) (n : ℕ) → List Primitive → List Said
primitive_file cell n ps =
    word (codes "resolution_m:") ∷ nano cell ∷ word (codes "numberofangles:") ∷ number (pos n)
    ∷ word (codes "totalnumberofprimitives:") ∷ number (pos (length ps)) ∷ flat_map (primitive_words n) ps

-- are what its tokens say
file_said : (ps : Primitives)
    → map (saying_of ps.headings) (primitives.spelled ps) ≡ primitive_file ps.cell ps.headings ps.items
unfolding primitives.spelled
file_said ps = rw (primitives_said ps.headings ps.items) refl

-- the words of a primitive file say its primitives
pub primitives_say : (e : Environment) (text : List ℕ) (ps : Primitives) → promised.IsPrimitiveText e text ps
    → IsPrimitiveText e ps.items text
primitives_say e text ps h =
    let n = ps.headings in
    let words = all_meant n (primitives.spelled ps) (tokens text) h.stands.tokens in
    let says : Says (map (saying_of n) (primitives.spelled ps)) text =
    subst (λ l. AllZip Means (map (saying_of n) (primitives.spelled ps)) l) (words_are text) words in
    subst₂ (λ cell headings. Says (primitive_file cell headings ps.items) text) h.cell h.headings
    (subst (λ l. Says l text) (file_said ps) says)

-- ---- the environment file of a grid

-- the words of such a file
abbrev grid_file : (width height : ℕ) → NavEnvironment → List ℕ → List Said
grid_file width height e cells =
    word (codes "discretization(cells):") ∷ number (pos width) ∷ number (pos height)
    ∷ word (codes "obsthresh:") ∷ number (pos e.obsthresh)
    ∷ word (codes "start(cells):") ∷ number (pos (column_of e.width e.start)) ∷ number (pos (row_of e.width e.start))
    ∷ word (codes "end(cells):") ∷ number (pos (column_of e.width e.end)) ∷ number (pos (row_of e.width e.end))
    ∷ word (codes "environment:") ∷ map (λ c. number (pos c)) cells

-- are what its tokens say
grid_said : (e : NavEnvironment) (cells : List ℕ)
    → map said_of (grids.spelled e cells) ≡ grid_file e.width e.height e cells
grid_said e cells = rw (costs_said cells) refl

-- the words of the environment file of a grid say its numbers and its costs
pub grid_says : (states : ℕ) (text : List ℕ) (e : NavEnvironment) (m : CellMap) (told : List (List Given)) (k : ℕ)
    → grids.IsTextOf states text e m.costs → m.width ≡ e.width → m.height ≡ e.height
    → IsGridText e.obsthresh (square_of e.width e.start) (square_of e.width e.end) (map_with m told k) text
grid_says states text e m told k h wide high =
    let says : Says (grid_file e.width e.height e m.costs) text =
    subst (λ l. Says l text) (grid_said e m.costs) (says_tokens (grids.spelled e m.costs) text h.tokens) in
    subst₂ (λ width height. Says (grid_file width height e m.costs) text) (sym wide) (sym high) says
