-- Elements of a list by their indices.
use Rattle.std.proofs.Common.{◌≡◌, ℕ, zero, suc, ◌+◌, ◌<◌, Bool, true, false, ◌||◌, List, [], ◌∷◌, ◌++◌, length}
use Rattle.std.proofs.Common.{Some, refl, sym, ap, subst, ◌∙◌, arith, length-append}
use Rattle.std.proofs.lemmas.Option.{get_or_from_slice_get}
use Rattle.std.proofs.Math.Seq.{get_or-append_seam}
use Rattle.std.specs.List.{slice_get, list_any, AllByRecursion}

pub all_at : {A : Type 0} (P : A → Type 0) (xs : List A) → AllByRecursion P xs → (i : ℕ) (x : A)
    → slice_get xs i ≡ Some x → P x
all_at P [] h i x e = absurd cc
all_at {A} P (y ∷ ys) h zero x e = let same : y ≡ x = cc in subst P same h.0
all_at P (y ∷ ys) h (suc i) x e = all_at P ys h.1 i x e

pub at_all : {A : Type 0} (P : A → Type 0) (xs : List A)
    → ((i : ℕ) (x : A) → slice_get xs i ≡ Some x → P x) → AllByRecursion P xs
at_all P [] h = tt
at_all P (y ∷ ys) h = (h 0 y refl, at_all P ys (λ i. h (suc i)))

pub at_front : {A : Type 0} (xs ys : List A) (i : ℕ) (x : A) → slice_get xs i ≡ Some x → slice_get (xs ++ ys) i ≡ Some x
at_front [] ys i x e = absurd cc
at_front (z ∷ zs) ys zero x e = e
at_front (z ∷ zs) ys (suc i) x e = at_front zs ys i x e

pub at_seam : {A : Type 0} (xs : List A) (y : A) (ys : List A) → slice_get (xs ++ y ∷ ys) (length xs) ≡ Some y
at_seam [] y ys = refl
at_seam (x ∷ xs) y ys = at_seam xs y ys

-- an element with its index, where one passes a test
pub one_passes : {A : Type 0} (p : A → Bool) (xs : List A) → list_any p xs ≡ true
    → (i : ℕ) × (x : A) × (slice_get xs i ≡ Some x) × (p x ≡ true)
one_passes p [] e = absurd cc
one_passes {A} p (x ∷ xs) e =
    let go : (b : Bool) → p x ≡ b → (b || list_any p xs) ≡ true
    → (i : ℕ) × (y : A) × (slice_get (x ∷ xs) i ≡ Some y) × (p y ≡ true) = elim [
      | true ↦ λ q h. (0, x, refl, q)
      | false ↦ λ q h. let k = one_passes p xs h in (suc k.0, k.1, k.2, k.3)
    ] in
    go (p x) refl e

-- the last element, where there is one
pub record Last {A : Type 0} (xs : List A) : Type 0 where
  pub front : List A
  pub last : A
  pub parts : xs ≡ front ++ last ∷ []

pub last_of : {A : Type 0} (x : A) (xs : List A) → Last (x ∷ xs)
last_of x [] = record { front = []; last = x; parts = refl }
last_of x (y ∷ ys) =
    let l = last_of y ys in record { front = x ∷ l.front; last = l.last; parts = ap (λ zs. x ∷ zs) l.parts }

pub front_at : {A : Type 0} (xs ys : List A) (i : ℕ) (x : A) → i < length xs → slice_get (xs ++ ys) i ≡ Some x
    → slice_get xs i ≡ Some x
front_at [] ys i x lt e = absurd (omega arith)
front_at (z ∷ zs) ys zero x lt e = e
front_at (z ∷ zs) ys (suc i) x lt e = front_at zs ys i x (omega arith) e

-- the last element is the one that stands last
pub last_at : {A : Type 0} (front : List A) (last : A) (xs : List A) (i : ℕ) (x : A) → xs ≡ front ++ last ∷ []
    → i + 1 ≡ length xs → slice_get xs i ≡ Some x → x ≡ last
last_at front last xs i x parts at_end here =
    let index : i ≡ length front = omega (arith, at_end, ap length parts, length-append front (last ∷ [])) in
    sym (get_or_from_slice_get xs i x x here) ∙ rw (parts, index) (get_or-append_seam front last [] x)

pub last_some : {A : Type 0} (xs : List A) → 0 < length xs → Last xs
last_some [] h = absurd (omega arith)
last_some (x ∷ xs) h = last_of x xs
