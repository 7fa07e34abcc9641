-- Where plans on a lattice start: at the last place that the lines of the batches before give, or where the file says.
use Rattle.std.proofs.Common.{◌≡◌, ℕ, zero, suc, ◌<◌, Bool, true, false}
use Rattle.std.proofs.Common.{if◌then◌else◌, List, [], ◌∷◌, ◌++◌, map, take, Option, Some, None, MatchOption}
use Rattle.std.proofs.Common.{option_map, unwrap_or}
use Rattle.std.proofs.Common.{refl, sym, ap, subst, subst₂, ◌∙◌, inl, inr}
use Rattle.std.specs.List.{AllByRecursion, cons_option, filter_map, flat_map, last_or}
use Rattle.std.proofs.lemmas.Grind.{flat_map-append}
use Rattle.std.proofs.lemmas.Option.{none-some, same_Some}
use Rattle.sbpl_promises.specs.sbpl_cfg.declared.pose.Place.{Place}
use Rattle.sbpl_promises.specs.sbpl_cfg.Environment.{IsHeadingCount, IsPlaceOf, IsPoseOnMap}
use Rattle.sbpl_promises.specs.sbpl_cost.States.{state_number}
use Rattle.sbpl_promises.specs.sbpl_cost.States as states
use Rattle.sbpl_promises.specs.sbpl_cost.World.{World}
use Rattle.sbpl_promises.specs.sbpl_map.CellMap.{CellMap}
use Rattle.sbpl_promises.specs.sbpl_map.ChangeText.{ArePlacesOnMap, Given, IsPlaceOnMap, place_in, place_of}
use Rattle.sbpl_promises.specs.Causes.{scope_of}
use Rattle.sbpl_promises.specs.LatticeSite.{IsStateOf, lattice_reporting}
use Rattle.sbpl_promises.specs.Sites.{start_after}
use Rattle.sbpl_promises.specs.Writing.{Told}
use Rattle.sbpl_promises.specs.declared.updates.Updates.{Updates}
use Rattle.sbpl_headline.specs.Motion.{Starts}
use Rattle.sbpl_headline.specs.Motion as motion
use Rattle.sbpl_headline.proofs.Changing.{HasPlacesOf, HaveNoPlaces, AreUpdatesTold}
use Rattle.sbpl_headline.proofs.Places.{place_of_pose, place_of_state}
use Rattle.sbpl_headline.proofs.Told.{line_of, lines_of, map_with}

-- ---- the last place that lines give

-- the last element of two lists together
last_of_both : {X : Type 0} (o : Option X) (xs ys : List X) → last_or o (xs ++ ys) ≡ last_or (last_or o xs) ys
last_of_both o [] ys = refl
last_of_both o (x ∷ xs) ys = last_of_both (Some x) xs ys

-- there is a last element where there is a first
some_last : {X : Type 0} (x : X) (xs : List X) → (y : X) × (last_or (Some x) xs ≡ Some y)
some_last x [] = (x, refl)
some_last x (z ∷ xs) = some_last z xs

-- the last element of two lists together is that of the second with the last of the first before it
last_kept : {X : Type 0} (o : Option X) (xs ys : List X)
    → last_or (last_or o xs) ys ≡ last_or o (cons_option (last_or None xs) ys)
last_kept o [] ys = refl
last_kept o (x ∷ xs) ys = let last = some_last x xs in rw last.1 refl

-- the places that the lines of a batch give
places_given : (batch : List Given) → flat_map motion.place_in (map line_of batch) ≡ filter_map place_in batch
places_given [] = refl
places_given (inl w ∷ batch) = places_given batch
places_given (inr p ∷ batch) = ap (λ l. p ∷ l) (places_given batch)

-- the last place that the lines of the first batches give is the last of those that these batches give
last_given : (told : List (List Given)) (k : ℕ) (o : Option Place)
    → last_or o (flat_map motion.place_in (flat_map (λ b. b) (take k (lines_of told))))
    ≡ last_or o (filter_map (λ p. p) (take k (map place_of told)))
last_given told zero o = refl
last_given [] (suc k) o = refl
last_given (batch ∷ told) (suc k) o =
    let later = flat_map (λ b. b) (take k (lines_of told)) in
    let here = filter_map place_in batch in
    ap (λ l. last_or o l) (flat_map-append motion.place_in (map line_of batch) later)
    ∙ ap (λ l. last_or o (l ++ flat_map motion.place_in later)) (places_given batch)
    ∙ last_of_both o here (flat_map motion.place_in later)
    ∙ last_given told k (last_or o here)
    ∙ last_kept o here (filter_map (λ p. p) (take k (map place_of told)))

-- a batch none of whose lines is a place gives none
no_place : (batch : List Given) → AllByRecursion (λ g. place_in g ≡ None) batch → filter_map place_in batch ≡ []
no_place [] h = refl
no_place (g ∷ batch) h = rw h.0 (no_place batch h.1)

-- nor do the first of such batches
no_places : (told : List (List Given)) (k : ℕ) → HaveNoPlaces told
    → filter_map (λ (p : Option Place). p) (take k (map place_of told)) ≡ []
no_places told zero h = refl
no_places [] (suc k) h = refl
no_places (batch ∷ told) (suc k) h = rw (no_place batch h.0) (no_places told k h.1)

-- ---- and its state

-- the last of the states of some places is the state of the last of them
last_state : (f : Place → ℕ) (o : Option Place) (moves : List (Option Place))
    → last_or (option_map f o) (filter_map (option_map f) moves) ≡ option_map f (last_or o (filter_map (λ p. p) moves))
last_state f o [] = refl
last_state f o (None ∷ moves) = last_state f o moves
last_state f o (Some p ∷ moves) = last_state f (Some p) moves

-- the last of some places on the map is on the map
last_on_map : (m : CellMap) (n : ℕ) (o : Option Place) (moves : List (Option Place)) (k : ℕ) → IsPlaceOnMap m n o
    → ArePlacesOnMap m n moves → IsPlaceOnMap m n (last_or o (filter_map (λ p. p) (take k moves)))
last_on_map m n o moves zero on h = on
last_on_map m n o [] (suc k) on h = on
last_on_map m n o (None ∷ moves) (suc k) on h = last_on_map m n o moves k on h.1
last_on_map m n o (Some p ∷ moves) (suc k) on h = last_on_map m n (Some p) moves k h.0 h.1

-- ---- where plans start

-- where a last place is given, a plan starts there, and otherwise where the file says
starts_by : (w : World) (o : Option Place) (s : ℕ) → IsHeadingCount w.env.headings → IsPoseOnMap w.env w.env.start
    → w.map.width ≡ w.env.width
    → IsStateOf w.env w.env.start s → IsPlaceOnMap w.map w.env.headings o
    → MatchOption o
    (IsPlaceOf w.env w.env.start (states.place_of w.env (unwrap_or (option_map (state_number w.env) o) s)))
    (λ p. states.place_of w.env (unwrap_or (option_map (state_number w.env) o) s) ≡ p)
starts_by w None s many there wide start on = place_of_pose w.env many w.env.start s there start
starts_by w (Some p) s many there wide start on =
    place_of_state w.env p (subst (λ width. p.x < width) wide on.0.x) on.1

-- the number of headings that a change file is read for is that of the lattice
headings_given : (moving : Bool) (given n : ℕ) → (if moving then Some given else None) ≡ Some n → n ≡ given
headings_given true given n h = sym (same_Some given n h)
headings_given false given n h = absurd (none-some n h)

-- the last place that the first batches give
abbrev last_move : List (List Given) → ℕ → Option Place
last_move told k = last_or None (filter_map (λ (p : Option Place). p) (take k (map place_of told)))

-- it is on the map of the lattice
last_move_on_map : (limit : ℕ) (moving : Bool) (w : World) (c : Updates) (told : List (List Given)) (k : ℕ)
    → HasPlacesOf (scope_of limit moving w) c told → IsPlaceOnMap w.map w.env.headings (last_move told k)
last_move_on_map limit moving w c told k has =
    subst (λ n. IsPlaceOnMap w.map n (last_move told k)) (headings_given moving w.env.headings has.headings has.given)
    (last_on_map w.map has.headings None (map place_of told) k tt has.on_map)

-- and a plan starts at its state
start_by_moves : (limit : ℕ) (moving : Bool) (w : World) (c : Updates) (told : List (List Given)) (s k : ℕ)
    → HasPlacesOf (scope_of limit moving w) c told
    → unwrap_or (option_map (state_number w.env) (last_move told k)) s ≡ start_after lattice_reporting w s c.moves k
start_by_moves limit moving w c told s k has =
    ap (λ o. unwrap_or o s) (sym (last_state (state_number w.env) None (take k (map place_of told))))
    ∙ ap (λ moves. start_after lattice_reporting w s moves k) (sym has.moves)

-- Where a plan starts: at the last place that the lines of the batches before it give, or where the file says.
pub starts_say : (held : Told) (changes : Option (List ℕ)) (limit : ℕ) (moving : Bool) (w : World) (c : Updates)
    (t : AreUpdatesTold held changes (scope_of limit moving w) c) (m : CellMap) (s k : ℕ) → IsHeadingCount w.env.headings
    → IsPoseOnMap w.env w.env.start → w.map.width ≡ w.env.width → IsStateOf w.env w.env.start s
    → Starts w.env (map_with m t.told k) (states.place_of w.env (start_after lattice_reporting w s c.moves k))
starts_say held changes limit moving w c t m s k many on_map wide start =
    let there = last_given t.told k None in
    let At : Option Place → ℕ → Type 0 = λ o n. MatchOption o (IsPlaceOf w.env w.env.start (states.place_of w.env n))
    (λ p. states.place_of w.env n ≡ p) in
    elim t.moves [
      | inl none ↦
          let nowhere = there ∙ ap (λ places. last_or None places) (no_places t.told k none.1) in
          subst₂ At (sym nowhere) (ap (λ moves. start_after lattice_reporting w s moves k) (sym none.0))
          (starts_by w None s many on_map wide start tt)
      | inr has ↦ subst₂ At (sym there) (start_by_moves limit moving w c t.told s k has)
          (starts_by w (last_move t.told k) s many on_map wide start (last_move_on_map limit moving w c t.told k has))
    ]
