-- Lists that are kept by pages.
use Rattle.std.proofs.Common.{◌≡◌, ◌≢◌, ℕ, zero, suc, ◌+◌, ◌*◌, ◌/◌, ◌%◌, ◌<◌, ◌≤◌, List, [], ◌∷◌, length, replicate, slice_index}
use Rattle.std.proofs.Common.{◌++◌, ◌-◌, slice_index_or, slice_set, arith, refl, sym, ap, ◌∙◌, ⊎_elim}
use Rattle.std.proofs.lemmas.Bool.{cases_eq}
use Rattle.std.proofs.lemmas.List.{ext_get_or, get_or-set_same, get_or-set_other, length-set, length-replicate, get_or-replicate, length_push, get_or_append_left, get_or_push}
use Rattle.sbpl_pages.specs.Pages.{place_of, element, elements, unopened, AreListed, AreFrames, IsKept}

-- there are as many elements as were asked for
pub elements_length : {T : Type 0} (table : List ℕ) (frames : List T) (initial : T) (first count : ℕ)
    → length (elements table frames initial first count) ≡ count
elements_length table frames initial first zero = refl
elements_length table frames initial first (suc count) =
    ap suc (elements_length table frames initial (suc first) count)

pub element_at : {T : Type 0} (table : List ℕ) (frames : List T) (initial : T) (first count i : ℕ) (other : T) → i < count
    → slice_index_or (elements table frames initial first count) i other ≡ element table frames initial (first + i)
element_at table frames initial first zero i other inside = absurd (omega (arith, inside))
element_at table frames initial first (suc count) zero other inside =
    let same : first + 0 ≡ first = omega arith in
    rw same refl
element_at table frames initial first (suc count) (suc i) other inside =
    let same : first + suc i ≡ suc first + i = omega arith in
    rw same (element_at table frames initial (suc first) count i other (omega (arith, inside)))

pub element_of : {T : Type 0} (table : List ℕ) (frames : List T) (initial : T) (count i : ℕ) (other : T) → i < count
    → slice_index_or (elements table frames initial 0 count) i other ≡ element table frames initial i
element_of table frames initial count i other inside =
    let same : 0 + i ≡ i = omega arith in
    element_at table frames initial 0 count i other inside ∙ rw same refl

-- where each element stays, the list stays
pub elements_same : {T : Type 0} (table table' : List ℕ) (frames frames' : List T) (initial initial' : T)
    → ((i : ℕ) → element table' frames' initial' i ≡ element table frames initial i) → (first count : ℕ)
    → elements table' frames' initial' first count ≡ elements table frames initial first count
elements_same table table' frames frames' initial initial' same first zero = refl
elements_same table table' frames frames' initial initial' same first (suc count) =
    rw (same first, elements_same table table' frames frames' initial initial' same (suc first) count) refl

-- ---- the table

-- a page that is opened has had no frame
pub unopened_set : (table : List ℕ) (page frame : ℕ) → page < length table → slice_index table page ≡ 0
    → unopened table ≡ suc (unopened (slice_set table page (suc frame)))
unopened_set [] page frame inside none = absurd (omega (arith, inside))
unopened_set (zero ∷ table) zero frame inside none = refl
unopened_set (suc other ∷ table) zero frame inside none = absurd (omega (arith, none))
unopened_set (zero ∷ table) (suc page) frame inside none =
    ap suc (unopened_set table page frame (omega (arith, inside)) none)
unopened_set (suc other ∷ table) (suc page) frame inside none = unopened_set table page frame (omega (arith, inside)) none

-- where no page has a frame, all count
pub unopened_all : (table : List ℕ) → ((page : ℕ) → slice_index table page ≡ 0) → unopened table ≡ length table
unopened_all [] none = refl
unopened_all (zero ∷ table) none = ap suc (unopened_all table (λ page. none (suc page)))
unopened_all (suc frame ∷ table) none = absurd (omega (arith, none 0))

pub unopened_none : (n : ℕ) → unopened (replicate n 0) ≡ n
unopened_none zero = refl
unopened_none (suc n) = ap suc (unopened_none n)

pub none_in_zeros : (n page : ℕ) → slice_index (replicate n 0) page ≡ 0
none_in_zeros zero page = refl
none_in_zeros (suc n) zero = refl
none_in_zeros (suc n) (suc page) = none_in_zeros n page

-- a page with a frame is a page
pub page_inside : (table : List ℕ) (page k : ℕ) → slice_index table page ≡ suc k → page < length table
page_inside [] page k is = absurd (omega (arith, is))
page_inside (frame ∷ table) zero k is = omega arith
page_inside (frame ∷ table) (suc page) k is = omega (arith, page_inside table page k is)

-- ---- opening a page

-- where a place lies in a list of frames
pub place_inside : {T : Type 0} (table opened : List ℕ) (frames : List T) (i : ℕ) → AreListed table opened
    → length frames ≡ 256 * suc (length opened) → place_of table i < length frames
place_inside table opened frames i pages each = ⊎_elim
    (λ (none : slice_index table (i / 256) ≡ 0). omega (arith, none, each))
    (λ (some : slice_index table (i / 256) ≢ 0).
    let k = slice_index table (i / 256) - 1 in
    let is : slice_index table (i / 256) ≡ suc k = omega (arith, some) in
    omega (arith, is, each, (pages.listed (i / 256) k is).0))
    (cases_eq (slice_index table (i / 256)) 0)

module _ (table opened : List ℕ) (page : ℕ) (inside : page < length table) (none : slice_index table page ≡ 0)
    (pages : AreListed table opened) where
  -- fewer pages are listed than there are
  pub opened_fewer : length opened < length table
  opened_fewer = omega (arith, pages.counted, unopened_set table page 0 inside none)

  pub listed_more : AreListed (slice_set table page (suc (length opened))) (opened ++ page ∷ [])
  listed_more =
      let n = length opened in
      let size : length (slice_set table page (suc n)) ≡ length table = length-set table page (suc n) in
      let longer : length (opened ++ page ∷ []) ≡ suc n = omega (arith, length_push opened page) in
      let here : slice_index (slice_set table page (suc n)) page ≡ suc n = get_or-set_same table page (suc n) 0 inside in
      let last : slice_index (opened ++ page ∷ []) n ≡ page = get_or_push opened page 0 n refl in
      record {
        counted = omega (arith, size, longer, pages.counted, unopened_set table page n inside none);
        listed = λ p k is.
            ⊎_elim
            (λ (at : p ≡ page).
            let there : slice_index (slice_set table page (suc n)) p ≡ suc n = rw at here in
            let same : k ≡ n = omega (arith, is, there) in
            (omega (arith, same, longer), rw (same, at) last))
            (λ (apart : p ≢ page).
            let was : slice_index table p ≡ suc k = sym (get_or-set_other table page p (suc n) 0 apart) ∙ is in
            let old = pages.listed p k was in
            (omega (arith, old.0, longer), get_or_append_left opened (page ∷ []) 0 k old.0 ∙ old.1))
            (cases_eq p page);
        owned = λ k less.
            ⊎_elim
            (λ (at : k ≡ n). rw (at, last) here)
            (λ (apart : k ≢ n).
            let before : k < n = omega (arith, less, longer, apart) in
            let old : slice_index table (slice_index opened k) ≡ suc k = pages.owned k before in
            let other : slice_index opened k ≢ page = λ at. omega (arith, old, ap (slice_index table) at, none) in
            rw (get_or_append_left opened (page ∷ []) 0 k before)
            (get_or-set_other table page (slice_index opened k) (suc n) 0 other ∙ old))
            (cases_eq k n);
      }

module _ {T : Type 0} (table opened : List ℕ) (frames : List T) (initial : T) (page : ℕ) (inside : page < length table)
    (none : slice_index table page ≡ 0) (pages : AreListed table opened) {room : ℕ}
    (framed : AreFrames frames initial (length opened) (length table) room) (frames' : List T)
    (longer : length frames' ≡ length frames + 256)
    (kept : (k : ℕ) → k < length frames → slice_index_or frames' k initial ≡ slice_index_or frames k initial)
    (fresh : (k : ℕ) → length frames ≤ k → k < length frames' → slice_index_or frames' k initial ≡ initial) where
  -- the new frame has initial elements, so each element stays
  pub same_opened : (i : ℕ)
      → element (slice_set table page (suc (length opened))) frames' initial i ≡ element table frames initial i
  same_opened i =
      let n = length opened in
      ⊎_elim
      (λ (at : i / 256 ≡ page).
      let frame : slice_index (slice_set table page (suc n)) (i / 256) ≡ suc n =
      rw at (get_or-set_same table page (suc n) 0 inside) in
      let was : slice_index table (i / 256) ≡ 0 = rw at none in
      let first : 256 * 0 + i % 256 ≡ i % 256 = omega arith in
      rw (frame, was, first)
      (fresh (256 * suc n + i % 256) (omega (arith, framed.each)) (omega (arith, framed.each, longer))
      ∙ sym (framed.first (i % 256) (omega arith))))
      (λ (apart : i / 256 ≢ page).
      rw (get_or-set_other table page (i / 256) (suc n) 0 apart)
      (kept (place_of table i) (place_inside table opened frames i pages framed.each)))
      (cases_eq (i / 256) page)

  pub framed_more : {room' pages' : ℕ} → room ≤ room' → pages' ≡ length table
      → AreFrames frames' initial (suc (length opened)) pages' room'
  framed_more more same = record {
    each = omega (arith, longer, framed.each);
    first = λ i small. kept i (omega (arith, framed.each)) ∙ framed.first i small;
    enough = omega (arith, framed.enough, more, same);
  }

-- ---- writing an element

module _ {T : Type 0} (table opened : List ℕ) (frames : List T) (initial : T) (pages : AreListed table opened)
    (each : length frames ≡ 256 * suc (length opened)) (i : ℕ) (some : 0 < slice_index table (i / 256)) (value : T) where
  -- two elements of opened pages have two places
  place_apart : (j : ℕ) → j ≢ i → place_of table j ≢ place_of table i
  place_apart j apart at =
      let k = slice_index table (i / 256) - 1 in
      let is_i : slice_index table (i / 256) ≡ suc k = omega (arith, some) in
      let is_j : slice_index table (j / 256) ≡ suc k = omega (arith, at, is_i) in
      let page : j / 256 ≡ i / 256 = sym (pages.listed (j / 256) k is_j).1 ∙ (pages.listed (i / 256) k is_i).1 in
      apart (omega (arith, at, is_i, is_j, page))

  pub element_set : (count : ℕ) → i < count
      → elements table (slice_set frames (place_of table i) value) initial 0 count
      ≡ slice_set (elements table frames initial 0 count) i value
  element_set count inside =
      let long : length (elements table frames initial 0 count) ≡ count = elements_length table frames initial 0 count in
      ext_get_or value _ _
      (elements_length table _ initial 0 count ∙ sym (length-set (elements table frames initial 0 count) i value ∙ long))
      (λ j less.
      let small : j < count =
      omega (arith, less, elements_length table (slice_set frames (place_of table i) value) initial 0 count) in
      element_of table _ initial count j value small
      ∙ ⊎_elim
      (λ (at : j ≡ i).
      rw at
      (get_or-set_same frames (place_of table i) value initial (place_inside table opened frames i pages each)
      ∙ sym (get_or-set_same (elements table frames initial 0 count) i value value (omega (arith, inside, long)))))
      (λ (apart : j ≢ i).
      get_or-set_other frames (place_of table i) (place_of table j) value initial (place_apart j apart)
      ∙ sym (element_of table frames initial count j value small)
      ∙ sym (get_or-set_other (elements table frames initial 0 count) i j value value apart))
      (cases_eq j i))

-- ---- a list of the same elements

pub all_initial : {T : Type 0} (table : List ℕ) (frames : List T) (initial : T) → ((page : ℕ) → slice_index table page ≡ 0)
    → ((i : ℕ) → i < 256 → slice_index_or frames i initial ≡ initial) → (count : ℕ)
    → elements table frames initial 0 count ≡ replicate count initial
all_initial table frames initial none first count =
    let long : length (elements table frames initial 0 count) ≡ count = elements_length table frames initial 0 count in
    ext_get_or initial _ _ (long ∙ sym (length-replicate count initial))
    (λ i less.
    let small : i < count = omega (arith, less, long) in
    let at : place_of table i ≡ i % 256 = omega (arith, none (i / 256)) in
    element_of table frames initial count i initial small
    ∙ rw at (first (i % 256) (omega arith))
    ∙ sym (get_or-replicate count i initial initial small))

-- no page is listed
pub none_listed : (table : List ℕ) → ((page : ℕ) → slice_index table page ≡ 0) → AreListed table []
none_listed table none = record {
  counted = omega (arith, unopened_all table none);
  listed = λ page k is. absurd (omega (arith, is, none page));
  owned = λ k less. absurd (omega (arith, less));
}
