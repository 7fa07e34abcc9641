-- What the items of a section mean, in both directions.
use Rattle.std.proofs.Common.{◌≡◌, ℕ, ◌+◌, ◌*◌, ◌^◌, ◌<◌, ◌≤◌, Bool, true, false, ◌⊎◌, inl, inr, List, [], ◌∷◌, ℤ, pos}
use Rattle.std.proofs.Common.{Result, Ok, Err, refl, sym, ap, ◌∙◌, arith}
use Rattle.std.specs.Prelude.{bytes_eq, codes, if◌then◌else◌, nat_le}
use Rattle.std.proofs.lemmas.Bool.{cases_Bool, and_parts, leb-true, cases_lt, lt-ltb, le-ltb, lt-leb, le-leb}
use Rattle.std.proofs.lemmas.Slice.Eq.{bytes_eq-Decides}
use Rattle.sbpl_labels.specs.sbpl_graph.declared.TheConstants.{FAR}
use Rattle.sbpl_fixed.specs.Numbers.{all_digits, is_digit, number_of}
use Rattle.sbpl_fixed.specs.Unsigned.{below, IsDigits, NumbersAreTheirDigits}
use Rattle.sbpl_fixed.specs.declared.fault.NumFault.TheVariants.{Form, Size}
use Rattle.sbpl_fixed.specs.Formats.{Miss, no_word, out_of_range, fixed}
use Rattle.sbpl_cert.specs.Format.{as_at_least, as_number, digits, digits_from, label}
use Rattle.sbpl_cert.specs.Format.{bound, outcome_word, version_word}
use Rattle.sbpl_cert.specs.Text.{MeansNumber, Means, a_label, a_milli}

abbrev item_met : ℤ → Result ℤ Miss
item_met v = Ok v

abbrev item_missed : Result ℤ Miss
item_missed = Err out_of_range

abbrev no_outcome : Result ℤ Miss
no_outcome = Err no_word

-- ---- numbers

below_out : (end n : ℕ) (v : ℤ) → as_number (below end n) ≡ Ok v → (v ≡ pos n) × (n < end)
below_out end n v e =
    elim (cases_lt n end) [
      | inl lt ↦ (let met : item_met (pos n) ≡ item_met v = rw (lt-ltb n end lt) at e in (cc, lt))
      | inr le ↦ absurd (let missed : as_number (Err Size) ≡ item_met v = rw (le-ltb n end le) at e in cc)
    ]

abbrev label_by : Bool → Result ℤ Miss → Result ℤ Miss
label_by far other = if far then Ok (pos FAR) else other

digit_first : (bytes : List ℕ) → IsDigits bytes → bytes ≡ codes "-" → ⊥
digit_first [] is same = absurd (omega (arith, is.some))
digit_first (b ∷ bs) is same =
    let digit = and_parts (nat_le 48 b) (nat_le b 57) (and_parts (is_digit b) (all_digits bs) is.digits_only).0 in
    let minus : b ≡ 45 = cc in
    omega (arith, leb-true 48 b digit.0)

module _ (numbers : NumbersAreTheirDigits) where
  pub digits_out : (end : ℕ) (bytes : List ℕ) (v : ℤ) → digits end bytes ≡ Ok v
      → (v ≡ pos (number_of bytes)) × (number_of bytes < end) × IsDigits bytes
  digits_out end bytes v e =
      elim (numbers.other_digits end bytes) [
        | inl none ↦ absurd (let missed : as_number (Err Form) ≡ item_met v = sym (ap as_number none) ∙ e in cc)
        | inr is ↦
            (let met = below_out end (number_of bytes) v (sym (ap as_number (numbers.digits end bytes is)) ∙ e) in
            (met.0, met.1, is))
      ]

  pub digits_in : (end n : ℕ) (bytes : List ℕ) → MeansNumber n bytes → n < end → digits end bytes ≡ Ok (pos n)
  digits_in end n bytes means lt = ap as_number (numbers.digits end bytes means.0) ∙ rw (means.1, lt-ltb n end lt) refl

  pub label_out : (end : ℕ) (bytes : List ℕ) (v : ℤ) → end ≤ FAR → label end bytes ≡ Ok v
      → (n : ℕ) × (v ≡ pos n) × Means (a_label n) bytes × ((n ≡ FAR) ⊎ (n < end))
  label_out end bytes v small e =
      let decides = bytes_eq-Decides bytes (codes "-") in
      let go : (b : Bool) → bytes_eq bytes (codes "-") ≡ b → label_by b (digits end bytes) ≡ Ok v
      → (n : ℕ) × (v ≡ pos n) × Means (a_label n) bytes × ((n ≡ FAR) ⊎ (n < end)) = elim [
        | true ↦
            λ q met. (FAR, (let same : item_met (pos FAR) ≡ item_met v = met in cc), inl (decides.0 q, refl), inl refl)
        | false ↦ λ q met. (let out = digits_out end bytes v met in
            (number_of bytes, out.0, inr ((out.2, refl), omega (arith, out.1)), inr out.1))
      ] in
      go (bytes_eq bytes (codes "-")) refl e

  pub label_in : (end n : ℕ) (bytes : List ℕ) → end ≤ FAR → Means (a_label n) bytes → (n ≡ FAR) ⊎ (n < end)
      → label end bytes ≡ Ok (pos n)
  label_in end n bytes small means range =
      let decides = bytes_eq-Decides bytes (codes "-") in
      elim means [
        | inl far ↦ rw (decides.1 far.0) (ap (λ (x : ℕ). item_met (pos x)) (sym far.1))
        | inr near ↦ (
            let lt : n < end = elim range [ inl far ↦ omega (arith, near.1) | inr lt ↦ lt ] in
            let other : bytes_eq bytes (codes "-") ≡ false =
            elim (cases_Bool (bytes_eq bytes (codes "-"))) [
              | inl q ↦ absurd (digit_first bytes near.0.0 (decides.0 q))
              | inr q ↦ q
            ] in
            rw other (digits_in end n bytes near.0 lt)
            )
      ]

  -- ---- numbers from a limit on

  pub digits_from_out : (least end : ℕ) (bytes : List ℕ) (v : ℤ) → digits_from least end bytes ≡ Ok v
      → (v ≡ pos (number_of bytes)) × (least ≤ number_of bytes) × (number_of bytes < end) × IsDigits bytes
  digits_from_out least end bytes v e =
      elim (numbers.other_digits end bytes) [
        | inl none ↦
            absurd (let missed : as_at_least least (Err Form) ≡ item_met v =
            sym (ap (as_at_least least) none) ∙ e in cc)
        | inr is ↦ (
            let n = number_of bytes in
            let met : as_at_least least (below end n) ≡ item_met v =
            sym (ap (as_at_least least) (numbers.digits end bytes is)) ∙ e in
            elim (cases_lt n end) [
              | inl lt ↦ elim (cases_lt n least) [
                | inl low ↦
                    absurd (let missed : item_missed ≡ item_met v =
                    rw (lt-ltb n end lt, lt-leb least n low) at met in cc)
                | inr high ↦
                    (let same : item_met (pos n) ≡ item_met v =
                    rw (lt-ltb n end lt, le-leb least n high) at met in (cc, high, lt, is))
              ]
              | inr le ↦ absurd (let missed : item_missed ≡ item_met v = rw (le-ltb n end le) at met in cc)
            ]
            )
      ]

  pub digits_from_in : (least end n : ℕ) (bytes : List ℕ) → MeansNumber n bytes → least ≤ n → n < end
      → digits_from least end bytes ≡ Ok (pos n)
  digits_from_in least end n bytes means high lt =
      ap (as_at_least least) (numbers.digits end bytes means.0)
      ∙ rw (means.1, lt-ltb n end lt, le-leb least n high) refl

  -- ---- bounds

  pub bound_out : (bytes : List ℕ) (v : ℤ) → bound bytes ≡ Ok v
      → (n : ℕ) × (v ≡ pos n) × Means (a_milli n) bytes × (1000 ≤ n) × (n < 2 ^ 100)
  bound_out bytes v e =
      elim (numbers.other_millis (2 ^ 100) bytes) [
        | inl none ↦
            absurd (let missed : as_at_least 1000 (Err Form) ≡ item_met v = sym (ap (as_at_least 1000) none) ∙ e in cc)
        | inr w ↦ (
            let n = number_of w.0 * 1000 + number_of w.1 in
            let met : as_at_least 1000 (below (2 ^ 100) n) ≡ item_met v =
            sym (ap (as_at_least 1000) (numbers.millis (2 ^ 100) bytes w.0 w.1 w.2)) ∙ e in
            elim (cases_lt n (2 ^ 100)) [
              | inl lt ↦ elim (cases_lt n 1000) [
                | inl low ↦
                    absurd (let missed : item_missed ≡ item_met v =
                    rw (lt-ltb n (2 ^ 100) lt, lt-leb 1000 n low) at met in cc)
                | inr high ↦
                    (let same : item_met (pos n) ≡ item_met v = rw (lt-ltb n (2 ^ 100) lt, le-leb 1000 n high) at met in
                    (n, cc, (w.0, w.1, w.2, refl), high, lt))
              ]
              | inr le ↦ absurd (let missed : item_missed ≡ item_met v = rw (le-ltb n (2 ^ 100) le) at met in cc)
            ]
            )
      ]

  pub bound_in : (n : ℕ) (bytes : List ℕ) → Means (a_milli n) bytes → 1000 ≤ n → n < 2 ^ 100 → bound bytes ≡ Ok (pos n)
  bound_in n bytes means high lt =
      ap (as_at_least 1000) (numbers.millis (2 ^ 100) bytes means.0 means.1 means.2)
      ∙ rw (means.3, lt-ltb n (2 ^ 100) lt, le-leb 1000 n high) refl

-- ---- words

pub word_out : (word bytes : List ℕ) (v : ℤ) → fixed word bytes ≡ Ok v → bytes ≡ word
word_out word bytes v e = elim (cases_Bool (bytes_eq bytes word)) [
  | inl q ↦ (bytes_eq-Decides bytes word).0 q
  | inr q ↦ absurd (let missed : no_outcome ≡ item_met v = rw q at e in cc)
]

pub word_in : (word bytes : List ℕ) → bytes ≡ word → fixed word bytes ≡ Ok (pos 0)
word_in word bytes e = rw ((bytes_eq-Decides bytes word).1 e) refl

-- ---- versions

pub version_out : (bytes : List ℕ) (v : ℤ) → version_word bytes ≡ Ok v
    → ((bytes ≡ codes "1") × (v ≡ pos 1)) ⊎ ((bytes ≡ codes "2") × (v ≡ pos 2))
version_out bytes v e =
    let one = bytes_eq-Decides bytes (codes "1") in
    let two = bytes_eq-Decides bytes (codes "2") in
    elim (cases_Bool (bytes_eq bytes (codes "1"))) [
      | inl p ↦ (let met : item_met (pos 1) ≡ item_met v = rw p at e in inl (one.0 p, cc))
      | inr p ↦ elim (cases_Bool (bytes_eq bytes (codes "2"))) [
        | inl q ↦ (let met : item_met (pos 2) ≡ item_met v = rw (p, q) at e in inr (two.0 q, cc))
        | inr q ↦ absurd (let missed : no_outcome ≡ item_met v = rw (p, q) at e in cc)
      ]
    ]

pub one_in : (bytes : List ℕ) → bytes ≡ codes "1" → version_word bytes ≡ Ok (pos 1)
one_in bytes is = rw is refl

pub two_in : (bytes : List ℕ) → bytes ≡ codes "2" → version_word bytes ≡ Ok (pos 2)
two_in bytes is = rw is refl

-- ---- the words of outcomes

pub outcome_word_out : (bytes : List ℕ) (v : ℤ) → outcome_word bytes ≡ Ok v
    → ((bytes ≡ codes "path") × (v ≡ pos 0))
    ⊎ (((bytes ≡ codes "nopath") × (v ≡ pos 1)) ⊎ ((bytes ≡ codes "unknown") × (v ≡ pos 2)))
outcome_word_out bytes v e =
    let one = bytes_eq-Decides bytes (codes "path") in
    let two = bytes_eq-Decides bytes (codes "nopath") in
    let three = bytes_eq-Decides bytes (codes "unknown") in
    elim (cases_Bool (bytes_eq bytes (codes "path"))) [
      | inl p ↦ (let met : item_met (pos 0) ≡ item_met v = rw p at e in inl (one.0 p, cc))
      | inr p ↦ elim (cases_Bool (bytes_eq bytes (codes "nopath"))) [
        | inl q ↦ (let met : item_met (pos 1) ≡ item_met v = rw (p, q) at e in inr (inl (two.0 q, cc)))
        | inr q ↦ elim (cases_Bool (bytes_eq bytes (codes "unknown"))) [
          | inl r ↦ (let met : item_met (pos 2) ≡ item_met v = rw (p, q, r) at e in inr (inr (three.0 r, cc)))
          | inr r ↦ absurd (let missed : no_outcome ≡ item_met v = rw (p, q, r) at e in cc)
        ]
      ]
    ]

pub path_in : (bytes : List ℕ) → bytes ≡ codes "path" → outcome_word bytes ≡ Ok (pos 0)
path_in bytes is = rw is refl

pub no_path_in : (bytes : List ℕ) → bytes ≡ codes "nopath" → outcome_word bytes ≡ Ok (pos 1)
no_path_in bytes is = rw is refl

pub unknown_in : (bytes : List ℕ) → bytes ≡ codes "unknown" → outcome_word bytes ≡ Ok (pos 2)
unknown_in bytes is = rw is refl
