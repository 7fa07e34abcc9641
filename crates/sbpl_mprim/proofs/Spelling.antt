-- What a format says, token by token.
use Rattle.std.proofs.Common.{◌≡◌, ℕ, ◌≤◌, ℤ, pos, negsuc, Bool, true, false, ◌&&◌, List, [], ◌∷◌, ◌++◌, Result, Ok}
use Rattle.std.proofs.Common.{Err, refl, ap, subst, arith}
use Rattle.std.specs.Prelude.{if◌then◌else◌, int_le, bytes_eq, ◌≤ℤ◌, unsigned_abs}
use Rattle.std.proofs.lemmas.Int.{ints}
use Rattle.std.proofs.lemmas.Slice.Eq.{bytes_eq-Decides}
use Rattle.sbpl_fixed.specs.Tokens.{Piece}
use Rattle.sbpl_fixed.specs.Numbers.{whole_of, nano_of}
use Rattle.sbpl_fixed.specs.declared.fault.NumFault.{NumFault}
use Rattle.sbpl_fixed.specs.declared.fault.NumFault.TheVariants.{Form, Size}
use Rattle.sbpl_fixed.specs.Formats.{Miss, out_of_range, no_word, Format, item, ended, wrong, done, fixed, whole}
use Rattle.sbpl_fixed.specs.Formats.{nano, within, Says}
use Rattle.sbpl_cfg.specs.Environment.{IsWithin}
use Rattle.sbpl_mprim.specs.Text.{Saying, a_word, a_whole, a_nano, Means, AreMeant}

-- ---- tokens before others

-- the tokens begin with what is spelled, and the rest is left
unfoldable pub Spells : ℕ → List Saying → List Piece → List Piece → Type 0
Spells headings [] ts rest = rest ≡ ts
Spells headings (s ∷ ss) [] rest = ⊥
Spells headings (s ∷ ss) (t ∷ ts) rest = Means headings s t.bytes × Spells headings ss ts rest

pub spells_all : (headings : ℕ) (ss : List Saying) (ts : List Piece) → AreMeant headings ss ts
    → Spells headings ss ts []
unfolding AreMeant Spells
spells_all headings [] [] h = refl
spells_all headings [] (t ∷ ts) h = absurd h
spells_all headings (s ∷ ss) [] h = absurd h
spells_all headings (s ∷ ss) (t ∷ ts) h = (h.0, spells_all headings ss ts h.1)

pub all_meant : (headings : ℕ) (ss : List Saying) (ts : List Piece) → Spells headings ss ts [] → AreMeant headings ss ts
unfolding AreMeant Spells
all_meant headings [] [] h = tt
all_meant headings [] (t ∷ ts) h = absurd cc
all_meant headings (s ∷ ss) [] h = absurd h
all_meant headings (s ∷ ss) (t ∷ ts) h = (h.0, all_meant headings ss ts h.1)

pub spells_none : (headings : ℕ) (ts rest : List Piece) → rest ≡ ts → Spells headings [] ts rest
unfolding Spells
spells_none headings ts rest e = e

pub none_spelled : (headings : ℕ) (ts rest : List Piece) → Spells headings [] ts rest → rest ≡ ts
unfolding Spells
none_spelled headings ts rest h = h

pub spells_append : (headings : ℕ) (ss us : List Saying) (ts mid rest : List Piece) → Spells headings ss ts mid
    → Spells headings us mid rest → Spells headings (ss ++ us) ts rest
unfolding Spells
spells_append headings [] us ts mid rest h k = subst (λ (l : List Piece). Spells headings us l rest) h k
spells_append headings (s ∷ ss) us [] mid rest h k = absurd h
spells_append headings (s ∷ ss) us (t ∷ ts) mid rest h k = (h.0, spells_append headings ss us ts mid rest h.1 k)

pub spells_split : (headings : ℕ) (ss us : List Saying) (ts rest : List Piece) → Spells headings (ss ++ us) ts rest
    → (mid : List Piece) × Spells headings ss ts mid × Spells headings us mid rest
unfolding Spells
spells_split headings [] us ts rest h = (ts, refl, h)
spells_split headings (s ∷ ss) us [] rest h = absurd h
spells_split headings (s ∷ ss) us (t ∷ ts) rest h =
    let k = spells_split headings ss us ts rest h.1 in (k.0, (h.0, k.1), k.2)

-- ---- numbers in a range

int_le_tells : (a b : ℤ) → int_le a b ≡ true → a ≤ℤ b
int_le_tells a b h = grind (arith, ints)

int_le_holds : (a b : ℤ) → a ≤ℤ b → int_le a b ≡ true
int_le_holds a b h = grind (arith, ints)

pub within_ok : (low high n : ℤ) (r : Result ℤ NumFault) → r ≡ Ok n → IsWithin low high n → within low high r ≡ Ok n
within_ok low high n r e w = rw (e, int_le_holds low n w.0, int_le_holds n high w.1) refl

abbrev was_read : ℤ → Result ℤ NumFault
was_read n = Ok n

abbrev ranged : Bool → Bool → ℤ → Result ℤ Miss
ranged a b n = if a && b then Ok n else Err out_of_range

pub within_tells : (low high v : ℤ) (r : Result ℤ NumFault) → within low high r ≡ Ok v
    → (r ≡ Ok v) × IsWithin low high v
within_tells low high v (Ok n) e =
    let go : (a b : Bool) → int_le low n ≡ a → int_le n high ≡ b → ranged a b n ≡ Ok v
    → (was_read n ≡ was_read v) × IsWithin low high v = elim [
      | true ↦ elim [
        | true ↦ λ p q h. let same : n ≡ v = cc in (
          ap was_read same,
          (
            subst (λ (z : ℤ). low ≤ℤ z) same (int_le_tells low n p),
            subst (λ (z : ℤ). z ≤ℤ high) same (int_le_tells n high q),
          ),
        )
        | false ↦ λ p q h. absurd cc
      ]
      | false ↦ λ b p q h. absurd cc
    ] in
    go (int_le low n) (int_le n high) refl refl e
within_tells low high v (Err Form) e = absurd cc
within_tells low high v (Err Size) e = absurd cc

pub natural_is : (high : ℕ) (n : ℤ) → IsWithin (pos 0) (pos high) n
    → (n ≡ pos (unsigned_abs n)) × (unsigned_abs n ≤ high)
natural_is high (pos n) w = (refl, omega (arith, ints, w.1))
natural_is high (negsuc n) w = absurd (omega (arith, ints, w.0))

-- ---- words

abbrev worded : Bool → Result ℤ Miss
worded b = if b then Ok (pos 0) else Err no_word

pub fixed_tells : (word bytes : List ℕ) (v : ℤ) → fixed word bytes ≡ Ok v → bytes ≡ word
fixed_tells word bytes v e =
    let go : (b : Bool) → bytes_eq bytes word ≡ b → worded b ≡ Ok v → bytes ≡ word = elim [
      | true ↦ λ p h. (bytes_eq-Decides bytes word).0 p
      | false ↦ λ p h. absurd cc
    ] in
    go (bytes_eq bytes word) refl e

pub fixed_ok : (word bytes : List ℕ) → bytes ≡ word → fixed word bytes ≡ Ok (pos 0)
fixed_ok word bytes e = let t : bytes_eq bytes word ≡ true = (bytes_eq-Decides bytes word).1 e in rw t refl

-- ---- the first item, when a format says something

-- an item said a value, and the format goes on after it; that
-- token's saying comes before those of the tokens that follow
pub record Found {E A : Type 0} (headings : ℕ) (more : ℕ → ℤ → Format E A) (saying : ℤ → Saying) (range : ℤ → Type 0)
    (ts : List Piece) (x : A) (rest : List Piece) : Type 0 where
  pub place : ℕ
  pub value : ℤ
  pub after : List Piece
  pub within : range value
  pub says : Says (more place value) after x rest
  pub front : (ss : List Saying) → Spells headings ss after rest → Spells headings (saying value ∷ ss) ts rest

pub found_word : {E A : Type 0} (headings : ℕ) (word : List ℕ) (more : ℕ → ℤ → Format E A) (ts : List Piece)
    (x : A) (rest : List Piece)
    → Says (item (fixed word) more) ts x rest → Found headings more (λ _. a_word word) (λ _. Unit {0}) ts x rest
unfolding Says Spells
found_word headings word more [] x rest h = absurd h
found_word headings word more (t ∷ ts) x rest h = record {
  place = t.place;
  value = h.0;
  after = ts;
  within = tt;
  says = h.2;
  front = λ ss k. (fixed_tells word t.bytes h.0 h.1, k);
}

pub found_whole : {E A : Type 0} (headings : ℕ) (low high : ℤ) (more : ℕ → ℤ → Format E A) (ts : List Piece)
    (x : A) (rest : List Piece)
    → Says (item (whole low high) more) ts x rest → Found headings more a_whole (IsWithin low high) ts x rest
unfolding Says Spells
found_whole headings low high more [] x rest h = absurd h
found_whole headings low high more (t ∷ ts) x rest h =
    let told = within_tells low high h.0 (whole_of t.bytes) h.1 in
    record { place = t.place; value = h.0; after = ts; within = told.1; says = h.2; front = λ ss k. (told.0, k) }

pub found_nano : {E A : Type 0} (headings : ℕ) (low high : ℤ) (more : ℕ → ℤ → Format E A) (ts : List Piece)
    (x : A) (rest : List Piece)
    → Says (item (nano low high) more) ts x rest → Found headings more a_nano (IsWithin low high) ts x rest
unfolding Says Spells
found_nano headings low high more [] x rest h = absurd h
found_nano headings low high more (t ∷ ts) x rest h =
    let told = within_tells low high h.0 (nano_of t.bytes) h.1 in
    record { place = t.place; value = h.0; after = ts; within = told.1; says = h.2; front = λ ss k. (told.0, k) }

-- ---- a first item, so that a format says something

-- the format says some value with this property of the tokens
abbrev pub SaysSome : {E A : Type 0} → (A → Type 0) → Format E A → List Piece → List Piece → Type 0
SaysSome {E} {A} P f ts rest = (x : A) × P x × Says f ts x rest

pub say_word : {E A : Type 0} (P : A → Type 0) (headings : ℕ) (word : List ℕ) (more : ℕ → ℤ → Format E A)
    (ss : List Saying) (ts rest : List Piece)
    → Spells headings (a_word word ∷ ss) ts rest
    → ((place : ℕ) (us : List Piece) → Spells headings ss us rest → SaysSome P (more place (pos 0)) us rest)
    → SaysSome P (item (fixed word) more) ts rest
unfolding Says Spells
say_word P headings word more ss [] rest h k = absurd h
say_word P headings word more ss (t ∷ ts) rest h k =
    let s = k t.place ts h.1 in (s.0, s.1, (pos 0, fixed_ok word t.bytes h.0, s.2))

pub say_whole : {E A : Type 0} (P : A → Type 0) (headings : ℕ) (low high n : ℤ) (more : ℕ → ℤ → Format E A)
    (ss : List Saying) (ts rest : List Piece) → IsWithin low high n
    → Spells headings (a_whole n ∷ ss) ts rest
    → ((place : ℕ) (us : List Piece) → Spells headings ss us rest → SaysSome P (more place n) us rest)
    → SaysSome P (item (whole low high) more) ts rest
unfolding Says Spells
say_whole P headings low high n more ss [] rest w h k = absurd h
say_whole P headings low high n more ss (t ∷ ts) rest w h k =
    let s = k t.place ts h.1 in (s.0, s.1, (n, within_ok low high n (whole_of t.bytes) h.0 w, s.2))

pub say_nano : {E A : Type 0} (P : A → Type 0) (headings : ℕ) (low high n : ℤ) (more : ℕ → ℤ → Format E A)
    (ss : List Saying) (ts rest : List Piece) → IsWithin low high n
    → Spells headings (a_nano n ∷ ss) ts rest
    → ((place : ℕ) (us : List Piece) → Spells headings ss us rest → SaysSome P (more place n) us rest)
    → SaysSome P (item (nano low high) more) ts rest
unfolding Says Spells
say_nano P headings low high n more ss [] rest w h k = absurd h
say_nano P headings low high n more ss (t ∷ ts) rest w h k =
    let s = k t.place ts h.1 in (s.0, s.1, (n, within_ok low high n (nano_of t.bytes) h.0 w, s.2))

-- ---- parts one after the other, and tests in the middle

pub found_test : {E A : Type 0} (b : Bool) (e : E) (f : Format E A) (ts : List Piece) (x : A) (rest : List Piece)
    → Says (if b then wrong e else f) ts x rest
    → (b ≡ false) × Says f ts x rest
unfolding Says
found_test true e f ts x rest h = absurd h
found_test false e f ts x rest h = (refl, h)

pub say_test : {E A : Type 0} (b : Bool) (e : E) (f : Format E A) (ts : List Piece) (x : A) (rest : List Piece)
    → b ≡ false → Says f ts x rest
    → Says (if b then wrong e else f) ts x rest
say_test b e f ts x rest p h = rw p h

abbrev pub just : {E A : Type 0} → A → Format E A
just x = done x

pub found_done : {A : Type 0} (E : Type 0) (y : A) (ts : List Piece) (x : A) (rest : List Piece)
    → Says (just {E = E} y) ts x rest → (x ≡ y) × (rest ≡ ts)
unfolding Says
found_done E y ts x rest h = h

pub say_done : {A : Type 0} (E : Type 0) (x : A) (ts rest : List Piece) → rest ≡ ts → Says (just {E = E} x) ts x rest
unfolding Says
say_done E x ts rest e = (refl, e)

-- what a format says of just one value
pub just_said : {E A : Type 0} (y : A) (f : Format E A) (ts rest : List Piece)
    → SaysSome (λ x. x ≡ y) f ts rest → Says f ts y rest
just_said {E} {A} y f ts rest h = subst (λ (x : A). Says f ts x rest) h.1 h.2

pub found_yes : {E A : Type 0} (b : Bool) (e : E) (f : Format E A) (ts : List Piece) (x : A) (rest : List Piece)
    → Says (if b then f else wrong e) ts x rest
    → (b ≡ true) × Says f ts x rest
unfolding Says
found_yes true e f ts x rest h = (refl, h)
found_yes false e f ts x rest h = absurd h

pub say_yes : {E A : Type 0} (b : Bool) (e : E) (f : Format E A) (ts : List Piece) (x : A) (rest : List Piece)
    → b ≡ true → Says f ts x rest
    → Says (if b then f else wrong e) ts x rest
say_yes b e f ts x rest p h = rw p h

-- nothing stands after the last token
pub found_end : {A : Type 0} (E : Type 0) (y : A) (ts : List Piece) (x : A) (rest : List Piece)
    → Says (ended (just {E = E} y)) ts x rest → (ts ≡ []) × (x ≡ y)
unfolding Says
found_end E y [] x rest h = (refl, h.0)
found_end E y (t ∷ ts) x rest h = absurd h

pub say_end : {A : Type 0} (E : Type 0) (x : A) → Says (ended (just {E = E} x)) [] x []
unfolding Says
say_end E x = (refl, refl)
