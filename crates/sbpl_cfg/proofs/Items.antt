-- What formats say of the first tokens of a list.
use Rattle.std.proofs.Common.{◌≡◌, ℕ, ℤ, pos, ◌≤ℤ◌, Bool, true, false, cond, ◌&&◌, List, [], ◌∷◌, ◌++◌, map, Result, Ok}
use Rattle.std.proofs.Common.{Err, refl, ap, subst, arith}
use Rattle.std.specs.Prelude.{int_le, bytes_eq}
use Rattle.std.proofs.lemmas.Bool.{and_parts}
use Rattle.std.proofs.lemmas.Int.{ints}
use Rattle.std.proofs.lemmas.Slice.Eq.{bytes_eq-Decides}
use Rattle.sbpl_fixed.specs.Formats as Formats
use Rattle.sbpl_fixed.specs.declared.fault.NumFault.{NumFault}
use Rattle.sbpl_fixed.specs.declared.fault.NumFault.TheVariants as faults
use Rattle.sbpl_fixed.specs.Formats.{Format, ended, wrong, done, fixed, within, whole, nano, Miss, Says}
use Rattle.sbpl_fixed.specs.Tokens.{Piece}
use Rattle.sbpl_cfg.specs.Environment.{IsWithin}
use Rattle.sbpl_cfg.specs.Text.{Said, Means, AllMean}

-- ---- items

to_le : (a b : ℤ) → int_le a b ≡ true → a ≤ℤ b
to_le a b e = omega (arith, ints)

pub from_le : (a b : ℤ) → a ≤ℤ b → int_le a b ≡ true
from_le a b h = grind (arith, ints)

pub fixed_is : (w bytes : List ℕ) (v : ℤ) → fixed w bytes ≡ Ok v → bytes ≡ w
fixed_is w bytes v =
    let d = bytes_eq-Decides bytes w in
    let go : (b : Bool) → (b ≡ true → bytes ≡ w) → cond b (Ok (pos 0)) (Err Formats.no_word) ≡ Ok v → bytes ≡ w = elim [
      | true ↦ λ q e. q refl
      | false ↦ λ q e. absurd cc
    ] in
    go (bytes_eq bytes w) d.0

pub is_fixed : (w bytes : List ℕ) → bytes ≡ w → fixed w bytes ≡ Ok (pos 0)
is_fixed w bytes e = let d = bytes_eq-Decides bytes w in rw (d.1 e) refl

-- a number that was read and lies in a range
pub record Ranged (low high n : ℤ) (r : Result ℤ NumFault) : Type 0 where
  pub value : r ≡ Ok n
  pub between : IsWithin low high n

pub within_is : (low high n : ℤ) (r : Result ℤ NumFault) → within low high r ≡ Ok n → Ranged low high n r
within_is low high n (Ok m) =
    let go : (b : Bool) → int_le low m && int_le m high ≡ b → cond b (Ok m) (Err Formats.out_of_range) ≡ Ok n
    → Ranged low high n (Ok m) = elim [
      | true ↦ λ q e.
          let same : m ≡ n = cc in
          let both = and_parts (int_le low m) (int_le m high) q in
          record {
            value = ap (λ z. Ok z) same;
            between = subst (IsWithin low high) same (to_le low m both.0, to_le m high both.1);
          }
      | false ↦ λ q e. absurd cc
    ] in
    go (int_le low m && int_le m high) refl
within_is low high n (Err faults.Form) = λ e. absurd cc
within_is low high n (Err faults.Size) = λ e. absurd cc

pub is_within : (low high n : ℤ) (r : Result ℤ NumFault) → Ranged low high n r → within low high r ≡ Ok n
is_within low high n r h = rw h.value (rw (from_le low n h.between.0, from_le n high h.between.1) refl)

-- ---- the first tokens of a list

-- the tokens begin with what is said, and the rest is left
abbrev pub Begins : List Said → List Piece → List Piece → Type 0
Begins [] ts rest = rest ≡ ts
Begins (s ∷ ss) [] rest = ⊥
Begins (s ∷ ss) (t ∷ ts) rest = Means s t.bytes × Begins ss ts rest

pub begins_append : (a b : List Said) (ts mid rest : List Piece) → Begins a ts mid → Begins b mid rest
    → Begins (a ++ b) ts rest
begins_append [] b ts mid rest h k = subst (λ m. Begins b m rest) h k
begins_append (s ∷ ss) b [] mid rest h k = absurd h
begins_append (s ∷ ss) b (t ∷ ts) mid rest h k = (h.0, begins_append ss b ts mid rest h.1 k)

pub append_begins : (a b : List Said) (ts rest : List Piece) → Begins (a ++ b) ts rest
    → (mid : List Piece) × Begins a ts mid × Begins b mid rest
append_begins [] b ts rest h = (ts, refl, h)
append_begins (s ∷ ss) b [] rest h = absurd h
append_begins (s ∷ ss) b (t ∷ ts) rest h = let p = append_begins ss b ts rest h.1 in (p.0, (h.0, p.1), p.2)

pub begins_all : (ss : List Said) (ts : List Piece) → Begins ss ts [] → AllMean ss (map (λ t. t.bytes) ts)
begins_all [] [] h = tt
begins_all [] (t ∷ ts) h = absurd cc
begins_all (s ∷ ss) [] h = absurd h
begins_all (s ∷ ss) (t ∷ ts) h = (h.0, begins_all ss ts h.1)

pub all_begins : (ss : List Said) (ts : List Piece) → AllMean ss (map (λ t. t.bytes) ts) → Begins ss ts []
all_begins [] [] h = refl
all_begins [] (t ∷ ts) h = absurd h
all_begins (s ∷ ss) [] h = absurd h
all_begins (s ∷ ss) (t ∷ ts) h = (h.0, all_begins ss ts h.1)

-- ---- tests in the middle of a format

pub unless_wrong : {E A : Type 0} (b : Bool) (e : E) (x y : A) (ts rest : List Piece)
    → Says (cond b (wrong e) (done y)) ts x rest → (b ≡ false) × (x ≡ y) × (rest ≡ ts)
unfolding Says
unless_wrong true e x y ts rest h = absurd h
unless_wrong false e x y ts rest h = (refl, h.0, h.1)

pub if_right : {E A : Type 0} (b : Bool) (e : E) (x y : A) (ts rest : List Piece)
    → Says (cond b (done y) (wrong e)) ts x rest → (b ≡ true) × (x ≡ y) × (rest ≡ ts)
unfolding Says
if_right true e x y ts rest h = (refl, h.0, h.1)
if_right false e x y ts rest h = absurd h

pub at_end : (E A : Type 0) (x y : A) (ts rest : List Piece)
    → Says {E = E} (ended (done y)) ts x rest → (x ≡ y) × (ts ≡ [])
unfolding Says
at_end E A x y [] rest h = (h.0, refl)
at_end E A x y (t ∷ ts) rest h = absurd h
