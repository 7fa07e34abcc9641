-- What is printed of an environment is its text.
use Rattle.std.proofs.Common.{◌≡◌, ℕ, ℤ, pos, negsuc, zero, suc, ◌+◌, ◌*◌, ◌^◌, ◌<◌, ◌≤◌, Bool, true, false, cond, ltb}
use Rattle.std.proofs.Common.{◌==◌, inl, inr, List, [], ◌∷◌, ◌++◌, length, map, take, drop, Result, Ok, lit<, lit≤}
use Rattle.std.proofs.Common.{refl, sym, ap, subst, ◌∙◌, append_assoc, arith}
use Rattle.std.specs.Fmt.{decimal, signed_decimal}
use Rattle.std.specs.List.{AllByRecursion, list_all}
use Rattle.std.proofs.lemmas.Bool.{eqb-true, ltb-true}
use Rattle.sbpl_fixed.specs.declared.fault.NumFault.{NumFault}
use Rattle.std.specs.Prelude.{take_while}
use Rattle.std.specs.Int.RustNames.{unsigned_abs}
use Rattle.std.proofs.lemmas.Int.{ints}
use Rattle.std.proofs.lemmas.List.{length-drop, map-append, nil_from_length, take-append-drop}
use Rattle.sbpl_fixed.specs.Numbers.{most, nano_of, whole_of}
use Rattle.sbpl_fixed.specs.Printed.{nano_text, line_text, lines_text}
use Rattle.sbpl_fixed.specs.ReadBack.{IsWord}
use Rattle.sbpl_fixed.specs.Tokens.{Piece, is_blank, is_filled, tokens_past}
use Rattle.sbpl_fixed.proofs.ReadBack.{blanks_part_tokens, nanos_are_read_back, nanos_are_words}
use Rattle.sbpl_fixed.proofs.ReadBack.{wholes_are_read_back, wholes_are_words, words_are_tokens}
use Rattle.sbpl_cfg.specs.Environment.{Environment, IsEnvironment, IsHeadingCount, IsWithin, state_count, usual_headings}
use Rattle.sbpl_cfg.specs.Format.{headings_word}
use Rattle.sbpl_cfg.specs.Printed.{end_lines, environment_text, grid_lines, rate_lines, size_lines, threshold_lines}
use Rattle.sbpl_cfg.specs.Text.{AllMean, AreTokensOf, IsGrid, IsTextOf, Said, number, spelled_ends, spelled_grid}
use Rattle.sbpl_cfg.specs.Text.{spelled_headings, spelled_rates, spelled_size, spelled_thresholds, words_of}

-- ---- the words of lines

abbrev words : List Piece → List (List ℕ)
words ts = map (λ t. t.bytes) ts

words_anywhere : (fresh : Bool) (p q : ℕ) (text : List ℕ)
    → words (tokens_past fresh p text) ≡ words (tokens_past fresh q text)
unfolding tokens_past
words_anywhere fresh p q [] = refl
words_anywhere fresh p q (b ∷ bs) =
    let word = take_while is_filled (b ∷ bs) in
    let one : (f : Bool)
    → words (cond f (record { place = p; bytes = word } ∷ tokens_past false (p + 1) bs) (tokens_past false (p + 1) bs))
    ≡ words
    (cond f (record { place = q; bytes = word } ∷ tokens_past false (q + 1) bs) (tokens_past false (q + 1) bs)) = elim [
      | true ↦ ap (λ (ws : List (List ℕ)). word ∷ ws) (words_anywhere false (p + 1) (q + 1) bs)
      | false ↦ words_anywhere false (p + 1) (q + 1) bs
    ] in
    elim (is_blank b) as (λ blank. words (cond blank (tokens_past true (p + 1) bs)
    (cond fresh (record { place = p; bytes = word } ∷ tokens_past false (p + 1) bs) (tokens_past false (p + 1) bs)))
    ≡ words (cond blank (tokens_past true (q + 1) bs)
    (cond fresh (record { place = q; bytes = word } ∷ tokens_past false (q + 1) bs) (tokens_past false (q + 1) bs)))) [
      | true ↦ words_anywhere true (p + 1) (q + 1) bs
      | false ↦ one fresh
    ]

abbrev AreWords : List (List ℕ) → Type 0
AreWords ws = AllByRecursion IsWord ws

-- one word, a blank, and what follows
word_first : (w : List ℕ) (blank : ℕ) (rest : List ℕ) → IsWord w → is_blank blank ≡ true
    → words (tokens_past true 0 (w ++ blank ∷ rest)) ≡ w ∷ words (tokens_past true 0 rest)
word_first w blank rest is e =
    ap words (words_are_tokens w blank rest 0 is e)
    ∙ ap (λ (ws : List (List ℕ)). w ∷ ws) (words_anywhere true (0 + length w + 1) 0 rest)

line_words : (ws : List (List ℕ)) (rest : List ℕ) → AreWords ws
    → words (tokens_past true 0 (line_text ws ++ rest)) ≡ ws ++ words (tokens_past true 0 rest)
unfolding line_text
line_words [] rest h = ap words (blanks_part_tokens 10 rest 0 refl) ∙ words_anywhere true (0 + 1) 0 rest
line_words (w ∷ []) rest h = rw (append_assoc w (10 ∷ []) rest) (word_first w 10 rest h.0 refl)
line_words (w ∷ v ∷ ws) rest h =
    rw (append_assoc w (32 ∷ line_text (v ∷ ws)) rest) (word_first w 32 (line_text (v ∷ ws) ++ rest) h.0 refl
    ∙ ap (λ (us : List (List ℕ)). w ∷ us) (line_words (v ∷ ws) rest h.1))

-- the words of all lines
abbrev joined : List (List (List ℕ)) → List (List ℕ)
joined [] = []
joined (l ∷ ls) = l ++ joined ls

lines_words : (ls : List (List (List ℕ))) → AllByRecursion AreWords ls → words_of (lines_text ls) ≡ joined ls
unfolding tokens_past
lines_words [] h = refl
lines_words (l ∷ ls) h = line_words l (lines_text ls) h.0 ∙ ap (λ (ws : List (List ℕ)). l ++ ws) (lines_words ls h.1)

-- ---- the words of a grid

digits_are_words : (n : ℕ) → n < 2 ^ 63 → IsWord (decimal n)
digits_are_words n h = wholes_are_words (pos n) h

costs_are_words : (cells : List ℕ) → AllByRecursion (λ c. c ≤ 255) cells → AreWords (map decimal cells)
costs_are_words [] h = tt
costs_are_words (c ∷ cells) h = (digits_are_words c (omega (arith, h.0)), costs_are_words cells h.1)

costs_take : (n : ℕ) (cells : List ℕ) → AllByRecursion (λ c. c ≤ 255) cells
    → AllByRecursion (λ c. c ≤ 255) (take n cells)
costs_take zero cells h = tt
costs_take (suc n) [] h = tt
costs_take (suc n) (c ∷ cells) h = (h.0, costs_take n cells h.1)

costs_drop : (n : ℕ) (cells : List ℕ) → AllByRecursion (λ c. c ≤ 255) cells
    → AllByRecursion (λ c. c ≤ 255) (drop n cells)
costs_drop zero cells h = h
costs_drop (suc n) [] h = tt
costs_drop (suc n) (c ∷ cells) h = costs_drop n cells h.1

grid_are_words : (rows width : ℕ) (cells : List ℕ) → AllByRecursion (λ c. c ≤ 255) cells
    → AllByRecursion AreWords (grid_lines rows width cells)
unfolding grid_lines
grid_are_words zero width cells h = tt
grid_are_words (suc rows) width cells h = (
  costs_are_words (take width cells) (costs_take width cells h),
  grid_are_words rows width (drop width cells) (costs_drop width cells h),
)

-- the rows are all costs, each once
grid_words : (rows width : ℕ) (cells : List ℕ) → length cells ≡ width * rows
    → joined (grid_lines rows width cells) ≡ map decimal cells
unfolding grid_lines
grid_words zero width cells h = rw (nil_from_length cells (omega arith)) refl
grid_words (suc rows) width cells h =
    let size : length (drop width cells) ≡ width * rows = omega (arith, length-drop width cells) in
    rw (grid_words rows width (drop width cells) size, ← map-append, take-append-drop) refl

costs_mean : (cells : List ℕ) → AllByRecursion (λ c. c ≤ 255) cells
    → AllMean (map (λ c. number (pos c)) cells) (map decimal cells)
costs_mean [] h = tt
costs_mean (c ∷ cells) h = (wholes_are_read_back (pos c) (omega (arith, h.0)), costs_mean cells h.1)

-- ---- the whole text

at_most : (low high : ℕ) (z : ℤ) → low < most → high ≤ most → IsWithin (negsuc low) (pos high) z → unsigned_abs z ≤ most
at_most low high (pos n) h k w = let up = w.1 in omega (arith, ints)
at_most low high (negsuc n) h k w = let down = w.0 in omega (arith, ints)

at_most_positive : (low high : ℕ) (z : ℤ) → high ≤ most → IsWithin (pos low) (pos high) z → unsigned_abs z ≤ most
at_most_positive low high (pos n) k w = let up = w.1 in omega (arith, ints)
at_most_positive low high (negsuc n) k w = let down = w.0 in absurd (omega (arith, ints))

-- a word of the file
fixed_word : (w : List ℕ) → ltb 0 (length w) ≡ true → list_all is_filled w ≡ true → IsWord w
fixed_word w some filled = record { some = ltb-true 0 (length w) some; filled = filled }

-- a number that is printed, as a word and as what it says
record Shows (z : ℤ) (text : List ℕ) (value : List ℕ → Result ℤ NumFault) : Type 0 where
  pub is_word : IsWord text
  pub says : value text ≡ Ok z

shows_nano : (z : ℤ) → unsigned_abs z ≤ most → Shows z (nano_text z) nano_of
shows_nano z h = record { is_word = nanos_are_words z (omega arith); says = nanos_are_read_back z h }

shows_whole : (z : ℤ) → unsigned_abs z ≤ most → Shows z (signed_decimal z) whole_of
shows_whole z h = record { is_word = wholes_are_words z (omega arith); says = wholes_are_read_back z h }

shows_rate : (z : ℤ) → IsWithin (pos 1) (pos 1000000000000) z → Shows z (nano_text z) nano_of
shows_rate z w = shows_nano z (at_most_positive 1 1000000000000 z (lit≤ tt) w)

shows_coordinate : (z : ℤ) → IsWithin (negsuc 999999999999999999) (pos 1000000000000000000) z
    → Shows z (nano_text z) nano_of
shows_coordinate z w = shows_nano z (at_most 999999999999999999 1000000000000000000 z (lit< tt) (lit≤ tt) w)

shows_natural : (n : ℕ) → n ≤ 268435456 → Shows (pos n) (decimal n) whole_of
shows_natural n h = shows_whole (pos n) (omega arith)

-- the lines after that of the number of headings
abbrev last_lines : Environment → List ℕ → List (List (List ℕ))
last_lines e cells = threshold_lines e ++ (rate_lines e ++ (end_lines e ++ grid_lines e.height e.width cells))

abbrev last_spelled : Environment → List ℕ → List Said
last_spelled e cells = spelled_thresholds e ++ (spelled_rates e ++ (spelled_ends e ++ spelled_grid cells))

-- lines of words that say this
record AreSaying (ss : List Said) (ls : List (List (List ℕ))) : Type 0 where
  pub are_words : AllByRecursion AreWords ls
  pub mean : AllMean ss (joined ls)

rates_are_printed : (e : Environment) → IsEnvironment e → AreSaying (spelled_rates e) (rate_lines e)
rates_are_printed e k =
    let cell = shows_rate e.cell k.cell in
    let speed = shows_rate e.speed k.speed in
    let turn45 = shows_rate e.turn45 k.turn45 in
    record {
      are_words = (
        (fixed_word _ refl refl, (cell.is_word, tt)),
        ((fixed_word _ refl refl, (speed.is_word, tt)), ((fixed_word _ refl refl, (turn45.is_word, tt)), tt)),
      );
      mean = (refl, (cell.says, (refl, (speed.says, (refl, (turn45.says, tt))))));
    }

thresholds_are_printed : (e : Environment) → IsEnvironment e → AreSaying (spelled_thresholds e) (threshold_lines e)
thresholds_are_printed e k =
    let obsthresh = shows_natural e.obsthresh (omega (arith, k.obsthresh)) in
    let inscribed = shows_natural e.inscribed (omega (arith, k.inscribed)) in
    let circumscribed =
    shows_whole e.circumscribed (at_most 0 255 e.circumscribed (lit< tt) (lit≤ tt) k.circumscribed) in
    record {
      are_words = (
        (fixed_word _ refl refl, (obsthresh.is_word, tt)),
        (
          (fixed_word _ refl refl, (inscribed.is_word, tt)),
          ((fixed_word _ refl refl, (circumscribed.is_word, tt)), tt),
        ),
      );
      mean = (refl, (obsthresh.says, (refl, (inscribed.says, (refl, (circumscribed.says, tt))))));
    }

ends_are_printed : (e : Environment) (cells : List ℕ) → IsEnvironment e → IsGrid e cells
    → AreSaying (spelled_ends e ++ spelled_grid cells) (end_lines e ++ grid_lines e.height e.width cells)
ends_are_printed e cells k g =
    let start_x = shows_coordinate e.start.x k.start_in_range.x in
    let start_y = shows_coordinate e.start.y k.start_in_range.y in
    let start_theta = shows_coordinate e.start.theta k.start_in_range.theta in
    let end_x = shows_coordinate e.end.x k.end_in_range.x in
    let end_y = shows_coordinate e.end.y k.end_in_range.y in
    let end_theta = shows_coordinate e.end.theta k.end_in_range.theta in
    let grid =
    subst (AllMean (map (λ c. number (pos c)) cells)) (sym (grid_words e.height e.width cells g.size))
    (costs_mean cells g.costs) in
    record {
      are_words = (
        (fixed_word _ refl refl, (start_x.is_word, (start_y.is_word, (start_theta.is_word, tt)))),
        (
          (fixed_word _ refl refl, (end_x.is_word, (end_y.is_word, (end_theta.is_word, tt)))),
          ((fixed_word _ refl refl, tt), grid_are_words e.height e.width cells g.costs),
        ),
      );
      mean = (
        refl,
        (
          start_x.says,
          (start_y.says, (start_theta.says, (refl, (end_x.says, (end_y.says, (end_theta.says, (refl, grid))))))),
        ),
      );
    }

words_append : (a b : List (List (List ℕ))) → AllByRecursion AreWords a → AllByRecursion AreWords b
    → AllByRecursion AreWords (a ++ b)
words_append [] b h k = k
words_append (l ∷ a) b h k = (h.0, words_append a b h.1 k)

joined_append : (a b : List (List (List ℕ))) → joined (a ++ b) ≡ joined a ++ joined b
joined_append [] b = refl
joined_append (l ∷ a) b =
    ap (λ (ws : List (List ℕ)). l ++ ws) (joined_append a b) ∙ sym (append_assoc l (joined a) (joined b))

all_mean_append : (a b : List Said) (ws vs : List (List ℕ)) → AllMean a ws → AllMean b vs → AllMean (a ++ b) (ws ++ vs)
all_mean_append [] b [] vs h k = k
all_mean_append [] b (w ∷ ws) vs h k = absurd h
all_mean_append (s ∷ a) b [] vs h k = absurd h
all_mean_append (s ∷ a) b (w ∷ ws) vs h k = (h.0, all_mean_append a b ws vs h.1 k)

saying_append : (a b : List Said) (ls ms : List (List (List ℕ))) → AreSaying a ls → AreSaying b ms
    → AreSaying (a ++ b) (ls ++ ms)
saying_append a b ls ms h k = record {
  are_words = words_append ls ms h.are_words k.are_words;
  mean =
      subst (AllMean (a ++ b)) (sym (joined_append ls ms)) (all_mean_append a b (joined ls) (joined ms) h.mean k.mean);
}

-- the words of lines that say a list
said_by_lines : (ss : List Said) (ls : List (List (List ℕ))) → AreSaying ss ls → AllMean ss (words_of (lines_text ls))
said_by_lines ss ls h = subst (AllMean ss) (sym (lines_words ls h.are_words)) h.mean

-- with the line of the number of headings, or without it where the number is the usual one
tokens_are_printed : (usual : Bool) (e : Environment) (cells : List ℕ) → (usual ≡ true → e.headings ≡ usual_headings)
    → IsHeadingCount e.headings
    → AreSaying (spelled_size e) (size_lines e) → AreSaying (last_spelled e cells) (last_lines e cells)
    → AreTokensOf (words_of (lines_text (size_lines e
    ++ (cond usual [] ((headings_word ∷ decimal e.headings ∷ []) ∷ []) ++ last_lines e cells)))) e cells
tokens_are_printed true e cells is few size others =
    inr (
      is refl,
      said_by_lines _ _
          (saying_append (spelled_size e) (last_spelled e cells) (size_lines e) (last_lines e cells) size others),
    )
tokens_are_printed false e cells is few size others =
    let headings = shows_natural e.headings (omega (arith, few.1)) in
    let line : AreSaying (spelled_headings e.headings) ((headings_word ∷ decimal e.headings ∷ []) ∷ []) =
    record { are_words = ((fixed_word _ refl refl, (headings.is_word, tt)), tt); mean = (refl, (headings.says, tt)) } in
    inl (said_by_lines _ _ (saying_append (spelled_size e)
    (spelled_headings e.headings ++ last_spelled e cells) (size_lines e) _ size
    (saying_append (spelled_headings e.headings) (last_spelled e cells) _ (last_lines e cells) line others)))

pub environment_is_printed : (states : ℕ) (e : Environment) (cells : List ℕ) → state_count e ≤ states → IsEnvironment e
    → IsGrid e cells → IsTextOf states (environment_text e cells) e cells
environment_is_printed states e cells few k g =
    let width = shows_natural e.width k.width.1 in
    let height = shows_natural e.height k.height.1 in
    let size : AreSaying (spelled_size e) (size_lines e) = record {
      are_words = ((fixed_word _ refl refl, (width.is_word, (height.is_word, tt))), tt);
      mean = (refl, (width.says, (height.says, tt)));
    } in
    let last : AreSaying (last_spelled e cells) (last_lines e cells) =
    saying_append (spelled_thresholds e) _ (threshold_lines e) _ (thresholds_are_printed e k)
    (saying_append (spelled_rates e) _ (rate_lines e) _ (rates_are_printed e k) (ends_are_printed e cells k g)) in
    record {
      tokens =
          tokens_are_printed (e.headings == usual_headings) e cells
          (eqb-true e.headings usual_headings) k.headings size last;
      environment = k;
      few = few;
      grid = g;
    }
