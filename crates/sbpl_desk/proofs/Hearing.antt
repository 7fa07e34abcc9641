-- Where a line ends, and that no more than its first bytes are needed to hear it.
use Rattle.std.proofs.Common.{◌≡◌, ℕ, ◌+◌, ◌-◌, ◌<◌, ◌≤◌, Bool, true, false, cond, List, [], ◌∷◌, ◌++◌, length, take, drop}
use Rattle.std.proofs.Common.{refl, sym, ap, subst, ◌∙◌, append_assoc, append-nil, arith, inl, inr, length-append, length-take, length-take-le, ◌≢◌, min}
use Rattle.std.proofs.Common.{take-append-drop, take-take, take_all, Option, Some, None}
use Rattle.std.proofs.BufReadLemmas.{take_through-append, drop_through-append}
use Rattle.std.proofs.Math.Seq.{drop-length}
use Rattle.std.proofs.lemmas.Bool.{cases_Bool, cases_lt}
use Rattle.std.proofs.lemmas.List.{take-append-le}
use Rattle.std.proofs.lemmas.List.Elements.{All-take}
use Rattle.std.specs.Io.BufRead.{drop_through, ends_with_byte, strip_last, take_through}
use Rattle.std.specs.Io.KnownBytes.{Consumes, IsAtEnd, prepend_known}
use Rattle.sbpl_desk.specs.Hearing.{GivesLine, HasNoFeed, IsFeedAt, after_line, heard_of, next_line, without_end}

-- ---- where a line ends

-- a text goes on after its first line feed
parted : (bytes rest : List ℕ) (at : ℕ) → IsFeedAt bytes at
    → bytes ++ rest ≡ take at bytes ++ 10 ∷ (drop (at + 1) bytes ++ rest)
parted bytes rest at h =
    ap (λ l. l ++ rest) (sym (take-append-drop (at + 1) bytes))
    ∙ append_assoc (take (at + 1) bytes) (drop (at + 1) bytes) rest
    ∙ ap (λ l. l ++ (drop (at + 1) bytes ++ rest)) h.feed
    ∙ append_assoc (take at bytes) (10 ∷ []) (drop (at + 1) bytes ++ rest)

-- whatever follows, a line is taken through the first line feed
pub through_feed : (bytes rest : List ℕ) (at : ℕ) → IsFeedAt bytes at
    → take (at + 1) bytes ≡ take_through 10 (bytes ++ rest)
through_feed bytes rest at h =
    h.feed ∙ sym (ap (take_through 10) (parted bytes rest at h) ∙ take_through-append 10 (take at bytes) _ h.before)

pub after_feed : (bytes rest : List ℕ) (at : ℕ) → IsFeedAt bytes at
    → drop (at + 1) bytes ++ rest ≡ drop_through 10 (bytes ++ rest)
after_feed bytes rest at h =
    sym (ap (drop_through 10) (parted bytes rest at h) ∙ drop_through-append 10 (take at bytes) _ h.before)

-- without a line feed it is taken whole
pub through_none : (bytes : List ℕ) → HasNoFeed bytes → take_through 10 bytes ≡ bytes
through_none bytes h =
    ap (take_through 10) (sym (append-nil bytes)) ∙ take_through-append 10 bytes [] h ∙ append-nil bytes

pub after_none : (bytes : List ℕ) → HasNoFeed bytes → drop_through 10 bytes ≡ []
after_none bytes h = ap (drop_through 10) (sym (append-nil bytes)) ∙ drop_through-append 10 bytes [] h

-- ---- a long line

-- without its last byte a text still begins so
strip_begins : (byte n : ℕ) (l : List ℕ) → n + 1 ≤ length l
    → (take n (strip_last byte l) ≡ take n l) × (length l ≤ length (strip_last byte l) + 1)
strip_begins byte n l long =
    elim (cases_Bool (ends_with_byte byte l)) [
      | inl e ↦ rw e (take-take n (length l - 1) l (omega arith), omega (arith, length-take (length l - 1) l))
      | inr e ↦ rw e (refl, omega arith)
    ]

-- what ends a line is two bytes at most
begins : (n : ℕ) (l : List ℕ) → n + 2 ≤ length l → take n (without_end l) ≡ take n l
begins n l long = at (ends_with_byte 10 l)
  where
    once : (take n (strip_last 10 l) ≡ take n l) × (length l ≤ length (strip_last 10 l) + 1)
    once = strip_begins 10 n l (omega arith)

    at : (test : Bool) → take n (cond test (strip_last 13 (strip_last 10 l)) (strip_last 10 l)) ≡ take n l
    at true = (strip_begins 13 n (strip_last 10 l) (let left = once.1 in omega arith)).0 ∙ once.0
    at false = once.0

-- so two long lines that begin alike are heard alike
alike_long : (n : ℕ) (x y : List ℕ) → n + 2 ≤ length x → n + 2 ≤ length y → take n x ≡ take n y
    → take n (without_end x) ≡ take n (without_end y)
alike_long n x y long also same = begins n x long ∙ same ∙ sym (begins n y also)

-- of a line that is longer than n and what may end it, so much is enough to hear n
kept_line : (n : ℕ) (bytes rest : List ℕ) → HasNoFeed bytes
    → take n (without_end (take_through 10 (take (n + 2) bytes ++ rest)))
    ≡ take n (without_end (take_through 10 (bytes ++ rest)))
kept_line n bytes rest none =
    elim (cases_lt (n + 2) (length bytes)) [
      | inl long ↦
          let more = take_through 10 rest in
          let short = take (n + 2) bytes in
          let size : length short ≡ n + 2 = length-take-le (n + 2) bytes (omega arith) in
          ap (λ l. take n (without_end l)) (take_through-append 10 short rest (All-take (λ b. b ≢ 10) (n + 2) bytes none))
          ∙ alike_long n (short ++ more) (bytes ++ more) (omega (arith, size, length-append short more))
          (omega (arith, long, length-append bytes more))
          (take-append-le n short more (omega (arith, size)) ∙ take-take n (n + 2) bytes (omega arith)
          ∙ sym (take-append-le n bytes more (omega (arith, long))))
          ∙ ap (λ l. take n (without_end l)) (sym (take_through-append 10 bytes rest none))
      | inr short ↦ ap (λ l. take n (without_end (take_through 10 (l ++ rest)))) (take_all (n + 2) bytes short)
    ]

-- ---- where it is known what is to come

-- of both the same line is heard, and the same is to come after it
pub record IsHeardAlike (before now : List ℕ) : Type 0 where
  pub next : next_line now ≡ next_line before
  pub after : after_line now ≡ after_line before
  pub some : 0 < length now → 0 < length before
  pub none : length now ≡ 0 → length before ≡ 0

abbrev pub AreHeardAlike : (before now : Option (List ℕ)) → Type 0
AreHeardAlike None now = Unit {0}
AreHeardAlike (Some before) None = ⊥
AreHeardAlike (Some before) (Some now) = IsHeardAlike before now

pub heard_alike : (known : Option (List ℕ)) → AreHeardAlike known known
heard_alike None = tt
heard_alike (Some coming) = record { next = refl; after = refl; some = λ h. h; none = λ h. h }

-- all that was read goes on as it did
pub reads_on : (before known after : Option (List ℕ)) (coming piece : List ℕ) → Consumes known after piece
    → AreHeardAlike before (prepend_known coming known) → AreHeardAlike before (prepend_known (coming ++ piece) after)
reads_on None known after coming piece taken alike = tt
reads_on (Some before) None after coming piece taken alike = absurd alike
reads_on (Some before) (Some bytes) None coming piece taken alike = absurd taken
reads_on (Some before) (Some bytes) (Some rest) coming piece taken alike =
    subst (λ l. IsHeardAlike before l)
    (ap (λ l. coming ++ l) taken ∙ sym (append_assoc coming piece rest)) alike

-- a long line may be cut
pub cuts_on : (before known : Option (List ℕ)) (coming : List ℕ) → HasNoFeed coming
    → AreHeardAlike before (prepend_known coming known) → AreHeardAlike before (prepend_known (take 4099 coming) known)
cuts_on None known coming none alike = tt
cuts_on (Some before) None coming none alike = absurd alike
cuts_on (Some before) (Some bytes) coming none alike =
    let short = take 4099 coming in
    let sizes : length (short ++ bytes) ≡ min 4099 (length coming) + length bytes =
    length-append short bytes ∙ ap (λ n. n + length bytes) (length-take 4099 coming) in
    let size = length-append coming bytes in
    record {
      next = kept_line 4097 coming bytes none ∙ alike.next;
      after =
          drop_through-append 10 short bytes (All-take (λ b. b ≢ 10) 4099 coming none)
          ∙ sym (drop_through-append 10 coming bytes none) ∙ alike.after;
      some = λ h. alike.some (omega (arith, sizes, size, h));
      none = λ h. alike.none (omega (arith, sizes, size, h));
    }

-- no line feed has come, and some more was read
pub goes_on : (before known after : Option (List ℕ)) (coming cut joined piece : List ℕ) → HasNoFeed coming
    → cut ≡ take 4099 coming → joined ≡ cut ++ piece → Consumes known after piece
    → AreHeardAlike before (prepend_known coming known) → AreHeardAlike before (prepend_known joined after)
goes_on before known after coming cut joined piece none is_cut is_joined taken alike =
    subst (λ l. AreHeardAlike before (prepend_known l after)) (sym (is_joined ∙ ap (λ l. l ++ piece) is_cut))
    (reads_on before known after (take 4099 coming) piece taken (cuts_on before known coming none alike))

-- no line feed has come, and nothing more was read
pub still_none : (coming cut joined piece : List ℕ) → HasNoFeed coming → cut ≡ take 4099 coming
    → joined ≡ cut ++ piece → piece ≡ [] → HasNoFeed joined
still_none coming cut joined piece none is_cut is_joined empty =
    subst HasNoFeed (sym (is_joined ∙ ap (λ l. cut ++ l) empty ∙ append-nil cut ∙ is_cut))
    (All-take (λ b. b ≢ 10) 4099 coming none)

-- a line feed has come
pub gives_line : (before known : Option (List ℕ)) (coming rest line : List ℕ) (at : ℕ)
    → AreHeardAlike before (prepend_known coming known) → IsFeedAt coming at
    → line ≡ heard_of (without_end (take (at + 1) coming)) → rest ≡ drop (at + 1) coming
    → GivesLine before (prepend_known rest known) line
gives_line None known coming rest line at alike feed is left = tt
gives_line (Some before) None coming rest line at alike feed is left = absurd alike
gives_line (Some before) (Some bytes) coming rest line at alike feed is left = (
  alike.some (omega (arith, feed.within, length-append coming bytes)),
  is ∙ ap (λ l. heard_of (without_end l)) (through_feed coming bytes at feed) ∙ alike.next,
  ap Some (ap (λ l. l ++ bytes) left ∙ after_feed coming bytes at feed ∙ alike.after),
)

-- the input ends within a line
pub gives_last : (before known : Option (List ℕ)) (coming rest line : List ℕ) (end : ℕ)
    → AreHeardAlike before (prepend_known coming known) → IsAtEnd known → HasNoFeed coming → end ≡ length coming → 0 < end
    → line ≡ heard_of (without_end (take end coming)) → rest ≡ drop end coming
    → GivesLine before (prepend_known rest known) line
gives_last None known coming rest line end alike none_left none whole some is left = tt
gives_last (Some before) None coming rest line end alike none_left none whole some is left = absurd alike
gives_last (Some before) (Some bytes) coming rest line end alike none_left none whole some is left =
    let all : coming ++ bytes ≡ coming = ap (λ l. coming ++ l) none_left ∙ append-nil coming in (
      alike.some (omega (arith, some, whole, length-append coming bytes)),
      is ∙ ap (λ l. heard_of (without_end l)) (take_all end coming (omega (arith, whole))
          ∙ sym (ap (take_through 10) all ∙ through_none coming none)) ∙ alike.next,
      ap Some (ap (λ l. l ++ bytes) (left ∙ ap (λ n. drop n coming) whole ∙ drop-length coming) ∙ none_left
          ∙ sym (ap (drop_through 10) all ∙ after_none coming none) ∙ alike.after),
    )

-- the input ends, and no line is left
pub gives_end : (before known : Option (List ℕ)) (coming : List ℕ) → AreHeardAlike before (prepend_known coming known)
    → IsAtEnd known → length coming ≡ 0 → IsAtEnd before
gives_end None known coming alike end none = tt
gives_end (Some before) None coming alike end none = absurd alike
gives_end (Some before) (Some bytes) coming alike end none =
    empty before (alike.none (omega (arith, none, length-append coming bytes, ap length end)))
  where
    empty : (l : List ℕ) → length l ≡ 0 → l ≡ []
    empty [] h = refl
    empty (x ∷ xs) h = absurd (omega arith)
