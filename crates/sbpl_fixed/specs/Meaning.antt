-- What holds of every format.
use Rattle.std.specs.Prelude.{◌≡◌, ◌≢◌, ◌⊎◌, ◌↔◌, ◌≤ℤ◌, ◌<ℤ◌, ℕ, ℤ, pos, List, length, Result, Ok, Err}
use Rattle.sbpl_fixed.specs.Tokens.{Piece, tokens}
use Rattle.sbpl_fixed.specs.declared.fault.TextFault.{TextFault}
use Rattle.sbpl_fixed.specs.Formats.{Miss, no_word, no_number, out_of_range, fixed, within, Format, Left, reads, Says, IsFaulty}
use Rattle.sbpl_fixed.specs.declared.fault.NumFault.{NumFault}
use Rattle.sbpl_fixed.specs.declared.fault.NumFault.TheVariants.{Form, Size}

-- the tokens begin with what the format says
abbrev pub IsSaid : {E A : Type 0} → Format E A → List Piece → Type 0
IsSaid {E} {A} f tokens = (x : A) × (rest : List Piece) × Says f tokens x rest

abbrev pub HasFault : {E A : Type 0} → (TextFault → E) → Format E A → Left → Type 0
HasFault {E} tell f left = (e : E) × IsFaulty tell f left.end left.tokens e

-- The text stands for x: its tokens are what the format says of x. (A format that ends where the text must end leaves none.)
abbrev pub StandsFor : {E A : Type 0} → Format E A → List ℕ → A → Type 0
StandsFor f text x = (rest : List Piece) × Says f (tokens text) x rest

-- Up to the place of e the text is what the format calls for, and there it fails in the way that e names.
abbrev pub HasFirstFault : {E A : Type 0} → (TextFault → E) → Format E A → List ℕ → E → Type 0
HasFirstFault tell f text e = IsFaulty tell f (length text) (tokens text) e

-- What is read is just what the format says.
abbrev pub ReadsWhatIsSaid : (E A : Type 0) → Type 0
ReadsWhatIsSaid E A = (tell : TextFault → E) (f : Format E A) (left rest : Left) (x : A)
    → (reads tell f left ≡ Ok (x, rest)) ↔ (Says f left.tokens x rest.tokens × (rest.end ≡ left.end))

-- The fault that is answered is just the one that comes first.
abbrev pub ReadsFirstFault : (E A : Type 0) → Type 0
ReadsFirstFault E A = (tell : TextFault → E) (f : Format E A) (left : Left) (e : E)
    → (reads tell f left ≡ Err e) ↔ IsFaulty tell f left.end left.tokens e

-- Each text is said or has a fault.
abbrev pub IsSaidOrFaulty : (E A : Type 0) → Type 0
IsSaidOrFaulty E A = (tell : TextFault → E) (f : Format E A) (left : Left) → IsSaid f left.tokens ⊎ HasFault tell f left

-- No text is said to be two values, nor has a fault besides a value, nor two faults.
abbrev pub IsSaidOnce : (E A : Type 0) → Type 0
IsSaidOnce E A = (f : Format E A) (tokens : List Piece) (x y : A) (r s : List Piece) → Says f tokens x r → Says f tokens y s → (x ≡ y) × (r ≡ s)

abbrev pub IsSaidOrFaultyAlone : (E A : Type 0) → Type 0
IsSaidOrFaultyAlone E A = (tell : TextFault → E) (f : Format E A) (left : Left) (e : E) → IsSaid f left.tokens → IsFaulty tell f left.end left.tokens e → ⊥

abbrev pub IsFaultyOnce : (E A : Type 0) → Type 0
IsFaultyOnce E A = (tell : TextFault → E) (f : Format E A) (left : Left) (e d : E) → IsFaulty tell f left.end left.tokens e → IsFaulty tell f left.end left.tokens d → e ≡ d

-- reading is what is said
pub record ReadingIsWhatIsSaid (E A : Type 0) : Type 0 where
  pub said : ReadsWhatIsSaid E A
  pub faulty : ReadsFirstFault E A
  pub either : IsSaidOrFaulty E A
  pub not_both : IsSaidOrFaultyAlone E A
  pub one_value : IsSaidOnce E A
  pub one_fault : IsFaultyOnce E A

-- ---- items in plain words

-- a word is met by these very bytes
abbrev pub WordsAreMet : Type 0
WordsAreMet = (word bytes : List ℕ) (v : ℤ) → (fixed word bytes ≡ Ok v) ↔ ((bytes ≡ word) × (v ≡ pos 0))

abbrev pub WordsAreMissed : Type 0
WordsAreMissed = (word bytes : List ℕ) (m : Miss) → (fixed word bytes ≡ Err m) ↔ ((bytes ≢ word) × (m ≡ no_word))

-- a number that was read is met in its range
abbrev pub NumbersAreMet : Type 0
NumbersAreMet = (low high v : ℤ) (r : Result ℤ NumFault) → (within low high r ≡ Ok v) ↔ ((r ≡ Ok v) × (low ≤ℤ v) × (v ≤ℤ high))

-- it is missed where it does not have the form
abbrev pub NumbersWithoutForm : Type 0
NumbersWithoutForm = (low high : ℤ) (r : Result ℤ NumFault) → (within low high r ≡ Err no_number) ↔ (r ≡ Err Form)

-- or lies outside the range, also where it is above every range
abbrev pub NumbersOutOfRange : Type 0
NumbersOutOfRange = (low high : ℤ) (r : Result ℤ NumFault)
    → (within low high r ≡ Err out_of_range) ↔ ((r ≡ Err Size) ⊎ ((v : ℤ) × (r ≡ Ok v) × ((v <ℤ low) ⊎ (high <ℤ v))))
