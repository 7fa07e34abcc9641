-- A heap that lacks a state has room for it.
use Rattle.std.proofs.Common.{◌≡◌, ◌≢◌, ℕ, zero, suc, ◌+◌, ◌<◌, ◌≤◌, ◌&&◌, nat_lt, nat_le, if◌then◌else◌, List, length}
use Rattle.std.proofs.Common.{slice_index, arith, ⊎_elim}
use Rattle.std.proofs.lemmas.Bool.{cases_eq}
use Rattle.std.proofs.lemmas.Bool.Decides.{nat_tests}
use Rattle.sbpl_open.specs.declared.entry.Entry.{Entry}
use Rattle.sbpl_open.specs.Entries.{state_at}
use Rattle.sbpl_open.specs.Heap.{AreAgreed}

-- 1 where an entry of the table is one of the first j slots, and 0 otherwise
abbrev hit : ℕ → ℕ → ℕ
hit slot j = if nat_lt 0 slot && nat_le slot j then 1 else 0

hit_at_most : (slot j : ℕ) → hit slot j ≤ 1
hit_at_most slot j = grind (arith, nat_tests)

hit_absent : (slot j : ℕ) → slot ≡ 0 → hit slot j ≡ 0
hit_absent slot j absent = grind (arith, nat_tests)

hit_more : (slot j : ℕ) → hit slot j ≤ hit slot (j + 1)
hit_more slot j = grind (arith, nat_tests)

hit_before : (slot j : ℕ) → slot ≡ j + 1 → hit slot j ≡ 0
hit_before slot j at = grind (arith, nat_tests)

hit_after : (slot j : ℕ) → slot ≡ j + 1 → hit slot (j + 1) ≡ 1
hit_after slot j at = grind (arith, nat_tests)

-- how many of the first n states stand at one of the first j slots
count : List ℕ → ℕ → ℕ → ℕ
count slots zero j = 0
count slots (suc n) j = hit (slice_index slots n) j + count slots n j

count_at_most : (slots : List ℕ) (n j : ℕ) → count slots n j ≤ n
unfolding count
count_at_most slots zero j = omega arith
count_at_most slots (suc n) j = omega (arith, hit_at_most (slice_index slots n) j, count_at_most slots n j)

count_absent : (slots : List ℕ) (n j s : ℕ) → s < n → slice_index slots s ≡ 0 → count slots n j < n
unfolding count
count_absent slots zero j s inside absent = absurd (omega arith)
count_absent slots (suc n) j s inside absent =
    ⊎_elim
    (λ (at : s ≡ n).
    let none : slice_index slots n ≡ 0 = rw (← at) absent in
    omega (arith, hit_absent (slice_index slots n) j none, count_at_most slots n j))
    (λ (apart : s ≢ n).
    omega (arith, hit_at_most (slice_index slots n) j, count_absent slots n j s (omega arith) absent))
    (cases_eq s n)

count_more : (slots : List ℕ) (n j : ℕ) → count slots n j ≤ count slots n (j + 1)
unfolding count
count_more slots zero j = omega arith
count_more slots (suc n) j = omega (arith, hit_more (slice_index slots n) j, count_more slots n j)

count_next : (slots : List ℕ) (n j s : ℕ) → s < n → slice_index slots s ≡ j + 1
    → count slots n j < count slots n (j + 1)
unfolding count
count_next slots zero j s inside at = absurd (omega arith)
count_next slots (suc n) j s inside at =
    ⊎_elim
    (λ (own : s ≡ n).
    let here : slice_index slots n ≡ j + 1 = rw (← own) at in
    omega (
      arith,
      hit_before (slice_index slots n) j here,
      hit_after (slice_index slots n) j here,
      count_more slots n j,
    ))
    (λ (apart : s ≢ n).
    omega (arith, hit_more (slice_index slots n) j, count_next slots n j s (omega arith) at))
    (cases_eq s n)

count_all : {heap : List Entry} {slots : List ℕ} → AreAgreed heap slots → (j : ℕ) → j ≤ length heap
    → j ≤ count slots (length slots) j
count_all agreed zero below = omega arith
count_all {heap} {slots} agreed (suc j) below =
    let inside : j < length heap = omega arith in
    let rest = count_all agreed j (omega arith) in
    let more = count_next slots (length slots) j (state_at heap j) (agreed.inside j inside) (agreed.placed j inside) in
    let same : suc j ≡ j + 1 = omega arith in
    rw same (omega arith)

-- no more states are in the heap than there are
pub states_at_most : {heap : List Entry} {slots : List ℕ} → AreAgreed heap slots → length heap ≤ length slots
states_at_most {heap} {slots} agreed =
    omega (arith, count_all agreed (length heap) (omega arith), count_at_most slots (length slots) (length heap))

-- fewer, where one is not there
pub states_fewer : {heap : List Entry} {slots : List ℕ} (s : ℕ) → AreAgreed heap slots → s < length slots
    → slice_index slots s ≡ 0
    → length heap < length slots
states_fewer {heap} {slots} s agreed inside absent =
    omega (
      arith,
      count_all agreed (length heap) (omega arith),
      count_absent slots (length slots) (length heap) s inside absent,
    )
