-- The states of a lattice and their places are one to one.
use Rattle.std.proofs.Common.{◌≡◌, ℕ, ℤ, ◌+◌, ◌*◌, ◌/◌, ◌%◌, ◌<◌, ap, sym, subst, ◌∙◌, arith}
use Rattle.std.proofs.lemmas.Int.{ints}
use Rattle.std.proofs.lemmas.Nat.{div-mul-add, div-add-mod', mod-mul-add, mul-add-lt}
use Rattle.sbpl_promises.specs.sbpl_cfg.declared.pose.Place.{Place}
use Rattle.sbpl_promises.specs.sbpl_cfg.declared.pose.Pose.{Pose}
use Rattle.sbpl_promises.specs.sbpl_cfg.Environment.{Environment, IsHeadingCount, IsPlaceOf, IsPoseOnMap}
use Rattle.sbpl_promises.specs.sbpl_cfg.Place.{heading_of}
use Rattle.sbpl_promises.specs.sbpl_cost.States.{IsPlace, place_of, state_number, state_count}
use Rattle.sbpl_promises.specs.LatticeSite.{IsStateOf}

-- a state's place has the state's number
pub state_of_place : (e : Environment) (s : ℕ) → state_number e (place_of e s) ≡ s
state_of_place e s =
    ap (λ c. c * e.headings + s % e.headings) (div-add-mod' (s / e.headings) e.width) ∙ div-add-mod' s e.headings

-- the place of the state of a place is that place
pub place_of_state : (e : Environment) (p : Place) → p.x < e.width → p.t < e.headings
    → place_of e (state_number e p) ≡ p
place_of_state e p wide few =
    let cell = div-mul-add (p.y * e.width + p.x) e.headings p.t few in
    let by_x : ℕ → Place = λ x. record {
      x = x;
      y = state_number e p / e.headings / e.width;
      t = state_number e p % e.headings;
    } in
    let by_y : ℕ → Place = λ y. record { x = p.x; y = y; t = state_number e p % e.headings } in
    let by_t : ℕ → Place = λ t. record { x = p.x; y = p.y; t = t } in
    ap by_x (ap (λ c. c % e.width) cell ∙ mod-mul-add p.y e.width p.x wide)
    ∙ ap by_y (ap (λ c. c / e.width) cell ∙ div-mul-add p.y e.width p.x wide)
    ∙ ap by_t (mod-mul-add (p.y * e.width + p.x) e.headings p.t few)

-- and so of a place of the lattice
pub place_of_number : (e : Environment) (p : Place) → IsPlace e p → place_of e (state_number e p) ≡ p
place_of_number e p at = place_of_state e p at.x at.t

-- a place's state is one of the states
pub number_below : (e : Environment) (p : Place) → IsPlace e p → state_number e p < state_count e
number_below e p at =
    let cell = mul-add-lt p.y e.width p.x e.height at.y at.x in
    let state = mul-add-lt (p.y * e.width + p.x) e.headings p.t (e.width * e.height) cell at.t in
    omega (arith, state)

-- a heading is one of those that there are
heading_below : (n : ℕ) (a : ℤ) → 0 < n → heading_of n a < n
unfolding heading_of
heading_below n a some = omega arith

-- the place of a pose on the map is a place of the lattice
pub pose_place : (e : Environment) → IsHeadingCount e.headings → (p : Pose) (q : Place) → IsPoseOnMap e p → IsPlaceOf e p q
    → IsPlace e q
pose_place e many p q on_map is =
    let below : heading_of e.headings p.theta < e.headings =
    heading_below e.headings p.theta (omega (arith, many)) in
    record {
      x = omega (arith, ints, is.x, on_map.x);
      y = omega (arith, ints, is.y, on_map.y);
      t = omega (arith, is.t, below);
    }

-- where a state is that of a pose on the map, its place is the pose's
pub place_of_pose : (e : Environment) → IsHeadingCount e.headings → (p : Pose) (s : ℕ) → IsPoseOnMap e p → IsStateOf e p s
    → IsPlaceOf e p (place_of e s)
place_of_pose e many p s on_map is =
    let at = pose_place e many p is.place on_map is.of_pose in
    let same : place_of e s ≡ is.place = ap (place_of e) is.number ∙ place_of_number e is.place at in
    subst (λ (q : Place). IsPlaceOf e p q) (sym same) is.of_pose
