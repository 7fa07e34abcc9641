-- Lists by their elements.
use Rattle.std.proofs.Common.{◌≡◌, ℕ, ◌+◌, ◌<◌, inl, inr, ◌⊎◌, List, [], ◌∷◌, ◌++◌, length, take, map}
use Rattle.std.proofs.Common.{slice_get, Some, arith}
use Rattle.std.proofs.lemmas.Grind.{common_steps}
use Rattle.std.proofs.lemmas.Option.{gets, slice_get-map, slice_get_cases}

-- elements of a list that was made by a function
pub made_at : {X Y : Type 0} (f : X → Y) (xs : List X) (i : ℕ) (x : X) → slice_get xs i ≡ Some x
    → slice_get (map f xs) i ≡ Some (f x)
made_at f xs i x at = grind (arith, common_steps, gets, slice_get-map)

pub made_from : {X Y : Type 0} (f : X → Y) (xs : List X) (i : ℕ) (y : Y) → slice_get (map f xs) i ≡ Some y
    → (x : X) × (slice_get xs i ≡ Some x) × (f x ≡ y)
made_from f xs i y at = grind (arith, common_steps, gets, slice_get-map)

-- below its length a list has an element
pub there_is : {X : Type 0} (xs : List X) (i : ℕ) → i < length xs → (x : X) × (slice_get xs i ≡ Some x)
there_is xs i h = elim (slice_get_cases xs i).1 [ inl some ↦ (some.0, some.2) | inr past ↦ absurd (omega arith) ]

-- an element of a list's prefix is one of the list
pub taken_at : {X : Type 0} (xs : List X) (n i : ℕ) (x : X) → slice_get (take n xs) i ≡ Some x → slice_get xs i ≡ Some x
taken_at xs n i x at = grind (arith, common_steps, gets)

-- what stood in a list stands there when more is added
pub before_push : {X : Type 0} (xs : List X) (y : X) (i : ℕ) → i < length xs
    → slice_get (xs ++ y ∷ []) i ≡ slice_get xs i
before_push xs y i h = grind (arith, common_steps, gets)

-- what is added stands at the end
pub at_push : {X : Type 0} (xs : List X) (y : X) (i : ℕ) → i ≡ length xs → slice_get (xs ++ y ∷ []) i ≡ Some y
at_push xs y i e = grind (arith, common_steps, gets)

-- an element was there, or is the one that was added
pub from_push : {X : Type 0} (xs : List X) (y : X) (i : ℕ) (x : X) → slice_get (xs ++ y ∷ []) i ≡ Some x
    → (slice_get xs i ≡ Some x) ⊎ ((i ≡ length xs) × (y ≡ x))
from_push xs y i x at = grind (arith, common_steps, gets)

-- elements of two lists, one after the other
pub in_first : {X : Type 0} (xs ys : List X) (i : ℕ) → i < length xs → slice_get (xs ++ ys) i ≡ slice_get xs i
in_first xs ys i h = grind (arith, common_steps, gets)

pub in_second : {X : Type 0} (xs ys : List X) (i n : ℕ) → n ≡ length xs + i → slice_get (xs ++ ys) n ≡ slice_get ys i
in_second xs ys i n e = grind (arith, common_steps, gets)

pub from_either : {X : Type 0} (xs ys : List X) (n : ℕ) (x : X) → slice_get (xs ++ ys) n ≡ Some x
    → (slice_get xs n ≡ Some x) ⊎ ((i : ℕ) × (n ≡ length xs + i) × (slice_get ys i ≡ Some x))
from_either xs ys n x at = grind (arith, common_steps, gets)
