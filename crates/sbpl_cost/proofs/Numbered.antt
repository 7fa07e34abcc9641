-- The numbers of the elements that pass a test.
use Rattle.std.proofs.Common.{◌≡◌, ℕ, zero, suc, ◌+◌, Bool, true, false, cond, List, [], ◌∷◌, ◌++◌, length, take}
use Rattle.std.proofs.Common.{slice_get, Some, count_by, refl, ap, sym, ◌∙◌, arith, add-zero}
use Rattle.std.proofs.lemmas.List.Sums.{sum_by-cons}
use Rattle.std.proofs.lemmas.Option.{none-some, same_Some}
use Rattle.sbpl_cost.specs.Lattices.{indices_from}

-- n is the number of the k-th element that passes the test, where the first element has number i
pub record IsNumbered {X : Type 0} (test : X → Bool) (i : ℕ) (xs : List X) (k n : ℕ) : Type 0 where
  pub at : ℕ
  pub item : X
  pub stands : slice_get xs at ≡ Some item
  pub passes : test item ≡ true
  pub number : n ≡ i + at
  pub before : count_by test (take at xs) ≡ k

-- how many elements pass, from the first on
count_next : {X : Type 0} (test : X → Bool) (x : X) (xs : List X) (b : Bool) → test x ≡ b
    → count_by test (x ∷ xs) ≡ cond b 1 0 + count_by test xs
count_next test x xs b e = sum_by-cons (λ y. cond (test y) 1 0) x xs ∙ ap (λ c. cond c 1 0 + count_by test xs) e

numbered_later : {X : Type 0} (test : X → Bool) (i : ℕ) (x : X) (xs : List X) (b : Bool) (j k n : ℕ) → test x ≡ b
    → k ≡ cond b 1 0 + j → IsNumbered test (i + 1) xs j n → IsNumbered test i (x ∷ xs) k n
numbered_later test i x xs b j k n e same r = record {
  at = suc r.at;
  item = r.item;
  stands = r.stands;
  passes = r.passes;
  number = omega (arith, r.number);
  before = count_next test x (take r.at xs) b e ∙ ap (λ c. cond b 1 0 + c) r.before ∙ sym same;
}

numbered_step : {X : Type 0} (test : X → Bool) (i : ℕ) (x : X) (xs : List X) (b : Bool) (k n : ℕ) → test x ≡ b
    → ((k n : ℕ) → slice_get (indices_from test (i + 1) xs) k ≡ Some n → IsNumbered test (i + 1) xs k n)
    → slice_get (cond b (i ∷ indices_from test (i + 1) xs) (indices_from test (i + 1) xs)) k ≡ Some n
    → IsNumbered test i (x ∷ xs) k n
numbered_step test i x xs true zero n e later h = record {
  at = 0;
  item = x;
  stands = refl;
  passes = e;
  number = sym (same_Some i n h) ∙ sym (add-zero i);
  before = refl;
}
numbered_step test i x xs true (suc k) n e later h =
    numbered_later test i x xs true k (suc k) n e (omega arith) (later k n h)
numbered_step test i x xs false k n e later h = numbered_later test i x xs false k k n e (omega arith) (later k n h)

pub numbered : {X : Type 0} (test : X → Bool) (i : ℕ) (xs : List X) (k n : ℕ)
    → slice_get (indices_from test i xs) k ≡ Some n → IsNumbered test i xs k n
numbered test i [] k n h = absurd (none-some n h)
numbered test i (x ∷ xs) k n h = numbered_step test i x xs (test x) k n refl (numbered test (i + 1) xs) h

length_if : (b : Bool) (i : ℕ) (places : List ℕ) → length (cond b (i ∷ places) places) ≡ cond b 1 0 + length places
length_if true i places = omega arith
length_if false i places = omega arith

-- there are as many numbers as elements that pass
pub length-indices_from : {X : Type 0} (test : X → Bool) (i : ℕ) (xs : List X)
    → length (indices_from test i xs) ≡ count_by test xs
length-indices_from test i [] = refl
length-indices_from test i (x ∷ xs) =
    length_if (test x) i (indices_from test (i + 1) xs)
    ∙ ap (λ c. cond (test x) 1 0 + c) (length-indices_from test (i + 1) xs) ∙ sym (count_next test x xs (test x) refl)

append_if : (b : Bool) (i : ℕ) (places last : List ℕ)
    → cond b (i ∷ places) places ++ last ≡ cond b (i ∷ (places ++ last)) (places ++ last)
append_if true i places last = refl
append_if false i places last = refl

-- one more element at the end
pub indices_from-push : {X : Type 0} (test : X → Bool) (i : ℕ) (xs : List X) (x : X)
    → indices_from test i (xs ++ x ∷ []) ≡ indices_from test i xs ++ cond (test x) ((i + length xs) ∷ []) []
indices_from-push test i [] x = rw (add-zero i) refl
indices_from-push test i (y ∷ xs) x =
    let later = indices_from-push test (i + 1) xs x in
    let same : i + 1 + length xs ≡ i + suc (length xs) = omega arith in
    ap (λ places. cond (test y) (i ∷ places) places)
    (later ∙ ap (λ n. indices_from test (i + 1) xs ++ cond (test x) (n ∷ []) []) same)
    ∙ sym (append_if (test y) i (indices_from test (i + 1) xs) (cond (test x) ((i + suc (length xs)) ∷ []) []))

skip_if : (b : Bool) (i m n : ℕ) (places : List ℕ) → slice_get places n ≡ Some m
    → slice_get (cond b (i ∷ places) places) (cond b 1 0 + n) ≡ Some m
skip_if true i m n places h = let next : 1 + n ≡ suc n = omega arith in rw next h
skip_if false i m n places h = let same : 0 + n ≡ n = omega arith in rw same h

-- an element that passes has its number at the index that the count before it tells
pub numbered_at : {X : Type 0} (test : X → Bool) (i : ℕ) (xs : List X) (at : ℕ) (x : X)
    → slice_get xs at ≡ Some x → test x ≡ true
    → slice_get (indices_from test i xs) (count_by test (take at xs)) ≡ Some (i + at)
numbered_at test i [] at x there passes = absurd (none-some x there)
numbered_at test i (y ∷ ys) zero x there passes =
    let first = ap test (same_Some y x there) ∙ passes in
    ap (λ b. slice_get (cond b (i ∷ indices_from test (i + 1) ys) (indices_from test (i + 1) ys)) 0) first
    ∙ ap (λ n. Some n) (sym (add-zero i))
numbered_at test i (y ∷ ys) (suc at) x there passes =
    let later = numbered_at test (i + 1) ys at x there passes in
    let same : (i + 1) + at ≡ i + suc at = omega arith in
    ap (λ n. slice_get (indices_from test i (y ∷ ys)) n) (count_next test y (take at ys) (test y) refl)
    ∙ skip_if (test y) i (i + 1 + at) (count_by test (take at ys)) (indices_from test (i + 1) ys) later
    ∙ ap (λ n. Some n) same
