-- Items in plain words.
use Rattle.std.proofs.Common.{◌≡◌, ℕ, Bool, true, false, cond, ◌&&◌, ◌⊎◌, ℤ, pos, negsuc, Result, Ok, Err, refl, sym}
use Rattle.std.proofs.Common.{subst, ◌∙◌, inl, inr, T, arith}
use Rattle.std.specs.Prelude.{◌≢◌, ◌≤ℤ◌, ◌<ℤ◌, int_le, bytes_eq, nat_abs}
use Rattle.std.proofs.lemmas.Bool.{cases_Bool, and_parts, and_cases, and_left, and_right, false≢true}
use Rattle.std.proofs.lemmas.Int.{by_lt_z, ints}
use Rattle.std.proofs.lemmas.Slice.Eq.{bytes_eq-Decides}
use Rattle.std.proofs.lemmas.Float.{T_from_true}
use Rattle.sbpl_fixed.specs.declared.fault.NumFault.{NumFault}
use Rattle.sbpl_fixed.specs.declared.fault.NumFault.TheVariants.{Form, Size}
use Rattle.sbpl_fixed.specs.Formats.{Miss, no_word, no_number, out_of_range, within}
use Rattle.sbpl_fixed.specs.Meaning.{WordsAreMet, WordsAreMissed, NumbersAreMet, NumbersWithoutForm, NumbersOutOfRange}

abbrev met_by : Bool → ℤ → Miss → Result ℤ Miss
met_by passes v m = cond passes (Ok v) (Err m)

-- ---- words

pub words_are_met : WordsAreMet
words_are_met word bytes v =
    let decides = bytes_eq-Decides bytes word in
    let go : (b : Bool) → bytes_eq bytes word ≡ b → met_by b (pos 0) no_word ≡ Ok v → (bytes ≡ word) × (v ≡ pos 0) =
    elim [
      | true ↦ λ q e. (decides.0 q, cc)
      | false ↦ λ q e. absurd cc
    ] in
    (λ e. go (bytes_eq bytes word) refl e, λ h. rw (decides.1 h.0, h.1) refl)

pub words_are_missed : WordsAreMissed
words_are_missed word bytes m =
    let decides = bytes_eq-Decides bytes word in
    let go : (b : Bool) → bytes_eq bytes word ≡ b → met_by b (pos 0) no_word ≡ Err m → (bytes ≢ word) × (m ≡ no_word) =
    elim [
      | true ↦ λ q e. absurd cc
      | false ↦ λ q e. (λ same. false≢true (sym q ∙ decides.1 same), cc)
    ] in
    let back : (b : Bool) → bytes_eq bytes word ≡ b → bytes ≢ word → m ≡ no_word → met_by b (pos 0) no_word ≡ Err m =
    elim [
      | true ↦ λ q n e. absurd (n (decides.0 q))
      | false ↦ λ q n e. rw e refl
    ] in
    (λ e. go (bytes_eq bytes word) refl e, λ h. back (bytes_eq bytes word) refl h.0 h.1)

-- ---- numbers

le_test : (a b : ℤ) → int_le a b ≡ true → a ≤ℤ b
le_test a b e = record { le = T_from_true (int_le a b) e }

test_le : (a b : ℤ) → a ≤ℤ b → int_le a b ≡ true
test_le a b h = elim (cases_Bool (int_le a b)) [ inl e ↦ e | inr e ↦ absurd (subst T e h.le) ]

test_lt : (a b : ℤ) → b <ℤ a → int_le a b ≡ false
test_lt a b h =
    elim (cases_Bool (int_le a b)) [ inl e ↦ (let le = le_test a b e in absurd (omega (arith, ints))) | inr e ↦ e ]

lt_test : (a b : ℤ) → int_le a b ≡ false → b <ℤ a
lt_test a b e = by_lt_z b a (λ h. h) (λ h. absurd (false≢true (sym e ∙ test_le a b h)))

abbrev in_range : ℤ → ℤ → ℤ → Bool
in_range low high n = int_le low n && int_le n high

pub numbers_are_met : NumbersAreMet
numbers_are_met low high v (Ok n) =
    let go : (b : Bool) → in_range low high n ≡ b → met_by b n out_of_range ≡ Ok v
    → (n ≡ v) × (low ≤ℤ v) × (v ≤ℤ high) = elim [
      | true ↦ λ q e.
          let same : n ≡ v = cc in
          let both = and_parts (int_le low n) (int_le n high) q in (
            same,
            subst (λ (x : ℤ). low ≤ℤ x) same (le_test low n both.0),
            subst (λ (x : ℤ). x ≤ℤ high) same (le_test n high both.1),
          )
      | false ↦ λ q e. absurd cc
    ] in (
      λ e. let p = go (in_range low high n) refl e in (rw p.0 refl, p.1, p.2),
      λ h. let same : n ≡ v = let was : Result ℤ NumFault = Ok n in cc in
          rw (same, test_le low v h.1, test_le v high h.2) refl,
    )
numbers_are_met low high v (Err Form) = (λ e. absurd cc, λ h. absurd (let was = h.0 in cc))
numbers_are_met low high v (Err Size) = (λ e. absurd cc, λ h. absurd (let was = h.0 in cc))

no_form_from_range : (b : Bool) (n : ℤ) → met_by b n out_of_range ≡ Err no_number → ⊥
no_form_from_range true n e = absurd cc
no_form_from_range false n e = absurd cc

pub numbers_without_form : NumbersWithoutForm
numbers_without_form low high (Ok n) = (λ e. absurd (no_form_from_range (in_range low high n) n e), λ h. absurd cc)
numbers_without_form low high (Err Form) = (λ e. refl, λ h. refl)
numbers_without_form low high (Err Size) = (λ e. absurd cc, λ h. absurd cc)

out_of : (low high n : ℤ) → in_range low high n ≡ false → (n <ℤ low) ⊎ (high <ℤ n)
out_of low high n q =
    elim (and_cases (int_le low n) (int_le n high) q) [ inl e ↦ inl (lt_test low n e) | inr e ↦ inr (lt_test n high e) ]

outside : (low high n : ℤ) → (n <ℤ low) ⊎ (high <ℤ n) → in_range low high n ≡ false
outside low high n h = elim h [
  | inl lt ↦ and_left (int_le low n) (int_le n high) (test_lt low n lt)
  | inr lt ↦ and_right (int_le low n) (int_le n high) (test_lt n high lt)
]

pub numbers_out_of_range : NumbersOutOfRange
numbers_out_of_range low high (Ok n) =
    let go : (b : Bool) → in_range low high n ≡ b → met_by b n out_of_range ≡ Err out_of_range
    → (n <ℤ low) ⊎ (high <ℤ n) = elim [
      | true ↦ λ q e. absurd cc
      | false ↦ λ q e. out_of low high n q
    ] in (
      λ e. inr (n, refl, go (in_range low high n) refl e),
      λ h. elim h [
        | inl w ↦ absurd cc
        | inr w ↦ (let same : n ≡ w.0 = let was = w.1 in cc in rw (outside low high n (rw same w.2)) refl)
      ],
    )
numbers_out_of_range low high (Err Form) =
    (λ e. absurd cc, λ h. elim h [ inl w ↦ absurd cc | inr w ↦ absurd (let was = w.1 in cc) ])
numbers_out_of_range low high (Err Size) = (λ e. inl refl, λ h. refl)

-- a number in a range of numbers of zero or more is one
pub natural_is : (low high : ℕ) (v : ℤ) (r : Result ℤ NumFault)
    → within (pos low) (pos high) r ≡ Ok v → v ≡ pos (nat_abs v)
natural_is low high (pos n) r e = refl
natural_is low high (negsuc n) r e =
    absurd (let h = (numbers_are_met (pos low) (pos high) (negsuc n) r).0 e in omega (arith, ints, h.1))
