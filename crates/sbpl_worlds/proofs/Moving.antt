-- Where the robot is at each plan.
use Rattle.std.proofs.Common.{◌≡◌, ℕ, zero, suc, ◌+◌, ◌<◌, List, [], ◌∷◌, take, length, slice_get, Option, Some, None}
use Rattle.std.proofs.Common.{IfSome, option_map, unwrap_or, refl, sym, ap, subst, ◌∙◌, add-one, arith}
use Rattle.std.specs.List.{filter_map, last_or}
use Rattle.sbpl_promises.specs.sbpl_cfg.declared.pose.Place.{Place}
use Rattle.sbpl_promises.specs.sbpl_map.CellMap.{CellMap}
use Rattle.sbpl_promises.specs.sbpl_map.ChangeText.{IsPlaceOnMap}
use Rattle.sbpl_promises.specs.sbpl_map.declared.write.Write.{Write}
use Rattle.sbpl_promises.specs.Causes.{AreMovesIn}
use Rattle.sbpl_promises.specs.Sites.{Site, WordPlacesAlike, Reporting, start_after}
use Rattle.sbpl_worlds.specs.Moves.{move_at, state_or}
use Rattle.sbpl_worlds.proofs.OnMaps.{at_place}

-- ---- the place that is given last

-- the last state that the first k moves give, or this one
last_of : (Place → ℕ) → Option ℕ → List (Option Place) → ℕ → Option ℕ
last_of state o moves k = last_or o (filter_map (option_map state) (take k moves))

-- what is given, or otherwise the other
or_other : Option ℕ → Option ℕ → Option ℕ
or_other None other = other
or_other (Some s) other = Some s

one_later : (state : Place → ℕ) (o : Option ℕ) (moves : List (Option Place)) (k : ℕ) (place : Option Place)
    → slice_get moves k ≡ Some place
    → last_of state o moves (suc k) ≡ or_other (option_map state place) (last_of state o moves k)
unfolding last_of or_other
one_later state o [] k place at = absurd cc
one_later state o (None ∷ moves) zero place at =
    let same : None ≡ place = cc in subst (λ (p : Option Place). o ≡ or_other (option_map state p) o) same refl
one_later state o (Some p ∷ moves) zero place at =
    let same : Some p ≡ place = cc in
    subst (λ (q : Option Place). Some (state p) ≡ or_other (option_map state q) o) same refl
one_later state o (None ∷ moves) (suc k) place at = one_later state o moves k place at
one_later state o (Some p ∷ moves) (suc k) place at = one_later state (Some (state p)) moves k place at

by_last : (state : Place → ℕ) (start : ℕ) (place : Option Place) (last : Option ℕ)
    → unwrap_or (or_other (option_map state place) last) start
    ≡ unwrap_or (option_map state place) (unwrap_or last start)
unfolding or_other
by_last state start None last = refl
by_last state start (Some p) last = refl

some_at : (moves : List (Option Place)) (k : ℕ) → k < length moves
    → (place : Option Place) × (slice_get moves k ≡ Some place)
some_at [] k here = absurd (omega arith)
some_at (o ∷ moves) zero here = (o, refl)
some_at (o ∷ moves) (suc k) here = some_at moves k (omega arith)

move_is : (moves : List (Option Place)) (k : ℕ) (place : Option Place) → slice_get moves k ≡ Some place
    → move_at (Some moves) k ≡ place
move_is moves k place at = rw at refl

-- the start of the next plan is the place that is given with its batch, or the start as it is
pub start_next : {W : Type 0} (words : Reporting W) (w : W) (start : ℕ) (moves : Option (List (Option Place))) (k : ℕ)
    → IfSome moves (λ l. k < length l)
    → start_after words w start moves (k + 1) ≡ state_or words w (move_at moves k) (start_after words w start moves k)
unfolding last_of
start_next words w start None k here = refl
start_next words w start (Some moves) k here =
    let at = some_at moves k here in
    let later : last_of (words.state w) None moves (suc k)
    ≡ or_other (option_map (words.state w) at.0) (last_of (words.state w) None moves k) =
    one_later (words.state w) None moves k at.0 at.1 in
    rw (add-one, move_is moves k at.0 at.1) (ap (λ (o : Option ℕ). unwrap_or o start) later
    ∙ by_last (words.state w) start at.0 (last_of (words.state w) None moves k))

pub start_first : {W : Type 0} (words : Reporting W) (w : W) (start : ℕ) (moves : Option (List (Option Place)))
    → start_after words w start moves 0 ≡ start
start_first words w start None = refl
start_first words w start (Some moves) = refl

-- ---- on the map

place_on_other : (m now : CellMap) (headings : ℕ) (place : Option Place) → now.width ≡ m.width → now.height ≡ m.height
    → IsPlaceOnMap m headings place → IsPlaceOnMap now headings place
place_on_other m now headings None width height on = tt
place_on_other m now headings (Some p) width height (cell, heading) = (
  record { x = subst (λ (n : ℕ). p.x < n) (sym width) cell.x; y = subst (λ (n : ℕ). p.y < n) (sym height) cell.y },
  heading,
)

move_on : {W : Type 0} (on : Site W) (w : W) (batches : List (List Write)) (moves : Option (List (Option Place)))
    (k : ℕ) → IfSome moves (AreMovesIn on w batches) → k < length batches
    → IsPlaceOnMap (on.cells.map w) (on.reporting.headings w) (move_at moves k)
move_on on w batches None k are here = tt
move_on on w batches (Some moves) k are here =
    let at = some_at moves k (let same = are.each in omega arith) in
    subst (λ (o : Option Place). IsPlaceOnMap (on.cells.map w) (on.reporting.headings w) o)
    (sym (move_is moves k at.0 at.1))
    (at_place (λ o. IsPlaceOnMap (on.cells.map w) (on.reporting.headings w) o) moves are.places k at.0 at.1)

-- where the moves are on the map of a world, each is on another map of its size
pub move_on_map : {W : Type 0} (on : Site W) (w : W) (now : CellMap) (batches : List (List Write))
    (moves : Option (List (Option Place))) (k : ℕ) → IfSome moves (AreMovesIn on w batches) → k < length batches
    → now.width ≡ (on.cells.map w).width → now.height ≡ (on.cells.map w).height
    → IsPlaceOnMap now (on.reporting.headings w) (move_at moves k)
move_on_map on w now batches moves k are here width height =
    place_on_other (on.cells.map w) now (on.reporting.headings w) (move_at moves k) width height
    (move_on on w batches moves k are here)

pub within : {W : Type 0} (on : Site W) (w : W) (batches : List (List Write)) (moves : Option (List (Option Place)))
    (k : ℕ) → IfSome moves (AreMovesIn on w batches) → k < length batches → IfSome moves (λ l. k < length l)
within on w batches None k are here = tt
within on w batches (Some moves) k are here = let same = are.each in omega arith

-- the start of the next plan, as it is found from the one that was
pub next_is : {W : Type 0} (words : Reporting W) (w now : W) (start : ℕ) (moves : Option (List (Option Place)))
    (k here next : ℕ) (place : Option Place) → IfSome moves (λ l. k < length l)
    → start_after words w start moves k ≡ here → WordPlacesAlike words w now → place ≡ move_at moves k
    → next ≡ state_or words now place here → start_after words w start moves (k + 1) ≡ next
next_is words w now start moves k here next place room was alike at is =
    let same : words.state w ≡ words.state now = sym alike.state in
    let one : state_or words w (move_at moves k) (start_after words w start moves k) ≡ state_or words now place here =
    λ i. unwrap_or (option_map (same i) ((sym at) i)) (was i) in
    start_next words w start moves k room ∙ one ∙ sym is

-- where no move is given the start stays
pub stays_put : {W : Type 0} (words : Reporting W) (now : W) (moves : Option (List (Option Place))) (k here next : ℕ)
    (place : Option Place) → moves ≡ None → place ≡ move_at moves k → next ≡ state_or words now place here → next ≡ here
stays_put words now moves k here next place none at is =
    let nowhere : place ≡ None = at ∙ ap (λ (o : Option (List (Option Place))). move_at o k) none in
    is ∙ ap (λ (o : Option Place). state_or words now o here) nowhere

-- places are worded alike in a world that has another map
pub alike_over : {W : Type 0} (on : Site W) → ((w : W) (m : CellMap) → WordPlacesAlike on.reporting w (on.cells.over w m))
    → (w v : W) → v ≡ on.cells.over w (on.cells.map v) → WordPlacesAlike on.reporting w v
alike_over on stay w v same = subst (λ u. WordPlacesAlike on.reporting w u) (sym same) (stay w (on.cells.map v))
