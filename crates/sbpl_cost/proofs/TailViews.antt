-- What the methods of a lattice answer of its tails.
use Rattle.std.proofs.Common.{◌≡◌, ℕ, pos, ◌<◌, ◌^◌, ◌==◌, ◌-ℤ◌, List, length, take, count_by, slice_get, get_or}
use Rattle.std.proofs.Common.{Option, Some, None, option_and_then, IfSome, refl, ap, sym, ◌∙◌, arith, subst}
use Rattle.std.specs.Option.{option_map}
use Rattle.std.proofs.lemmas.Option.{slice_get_within, slice_get-get_or, get_or_from_slice_get}
use Rattle.sbpl_sweep.specs.sbpl_cfg.declared.pose.Place.{Place}
use Rattle.sbpl_sweep.specs.sbpl_mprim.declared.prim.Primitive.{Primitive}
use Rattle.sbpl_cost.specs.States.{place_of, state_in}
use Rattle.sbpl_cost.specs.Gaps.{gap_of}
use Rattle.sbpl_cost.specs.World.{World, IsWorld}
use Rattle.sbpl_cost.specs.Lattices.{entering, tail_by, network_of}
use Rattle.sbpl_cost.specs.Tables.{AreNumbers}
use Rattle.sbpl_cost.specs.Ends.{heading_at}
use Rattle.sbpl_terrain.specs.declared.arc_end.ArcEnd.{ArcEnd}
use Rattle.sbpl_cost.proofs.LatticeLaws.{gaps}
use Rattle.sbpl_cost.proofs.Numbered.{numbered}
use Rattle.sbpl_cost.proofs.Tails.{tail_is_arc}

pub tail_fan_is : (w : World) (t : ℕ) → (network_of w).tail_fan t ≡ length (entering w.prims.items (place_of w.env t).t)
unfolding network_of
tail_fan_is w t = refl

-- an index in the table is an index in the file
pub entering_read : (prims : List Primitive) (t j : ℕ) (list : List ℕ) → list ≡ entering prims t
    → j < length (entering prims t) → get_or list j 0 < length prims
entering_read prims t j list same h =
    let there = slice_get-get_or (entering prims t) j 0 h ∙ ap (λ l. Some (get_or l j 0)) (sym same) in
    let n = numbered (λ p. p.to == t) 0 prims j (get_or list j 0) there in
    omega (arith, n.number, slice_get_within prims n.at n.item n.stands)

-- a tail below the fan is in the table
pub tail_below : (w : World) (t j heading : ℕ) → heading ≡ (place_of w.env t).t → j < (network_of w).tail_fan t
    → j < length (entering w.prims.items heading)
tail_below w t j heading same h =
    subst (λ n. j < length (entering w.prims.items n)) (sym same) (subst (λ n. j < n) (tail_fan_is w t) h)

-- the number that stands in the table
pub number_read : (end : ArcEnd) (prims : List Primitive) (numbers : List ℕ) (i number : ℕ) (p : Primitive)
    → AreNumbers end prims numbers → slice_get prims i ≡ Some p
    → number ≡ get_or numbers i number → number ≡ count_by (λ q. heading_at end q == heading_at end p) (take i prims)
number_read end prims numbers i number p are stands is =
    is ∙ get_or_from_slice_get numbers i
    (count_by (λ q. heading_at end q == heading_at end p) (take i prims)) number (are i p stands)

-- the tail that stands at an index of the file
pub tail_read : (w : World) (t j place : ℕ) (target : Place) (p : Primitive) → target ≡ place_of w.env t
    → slice_get (entering w.prims.items target.t) j ≡ Some place → slice_get w.prims.items place ≡ Some p
    → (number : ℕ) → number ≡ count_by (λ q. q.from == p.from) (take place w.prims.items)
    → (o : Option ℕ) → o ≡ state_in w.env (pos target.x -ℤ p.dx) (pos target.y -ℤ p.dy) p.from
    → option_map (λ (s : ℕ). (s, number)) o ≡ (network_of w).tail t j
unfolding network_of tail_by
tail_read w t j place target p same at stands number is o from =
    sym (ap (λ r. option_and_then (λ i. option_and_then (tail_by w t i) (slice_get w.prims.items i)) r)
    (ap (λ (q : Place). slice_get (entering w.prims.items q.t) j) (sym same) ∙ at)
    ∙ ap (λ r. option_and_then (tail_by w t place) r) stands
    ∙ ap (λ n. option_map (λ (s : ℕ). (s, n))
    (state_in w.env (pos (place_of w.env t).x -ℤ p.dx) (pos (place_of w.env t).y -ℤ p.dy) p.from)) (sym is)
    ∙ ap (λ (q : Place).
    option_map (λ (s : ℕ). (s, number)) (state_in w.env (pos q.x -ℤ p.dx) (pos q.y -ℤ p.dy) p.from)) (sym same)
    ∙ ap (λ r. option_map (λ (s : ℕ). (s, number)) r) (sym from))

pub gap_is : (w : World) (a b : ℕ)
    → (network_of w).gap a b ≡ gap_of w.env w.prims.items (place_of w.env a) (place_of w.env b)
unfolding network_of
gap_is w a b = refl

pub gap_is_small : (w : World) → IsWorld w → (a b gap : ℕ) → a < (network_of w).states → b < (network_of w).states
    → gap ≡ (network_of w).gap a b → gap < 2 ^ 55
gap_is_small w is_world a b gap from to is = omega (arith, is, (gaps w is_world).small a b from to)

-- an answer that is the graph's keeps the graph's laws
pub tail_inside : (w : World) → IsWorld w → (t j : ℕ) → t < (network_of w).states → j < (network_of w).tail_fan t
    → (o : Option (ℕ × ℕ)) → o ≡ (network_of w).tail t j
    → IfSome o (λ a. (a.0 < (network_of w).states) × (a.1 < (network_of w).fan a.0))
tail_inside w is_world t j state number None is = tt
tail_inside w is_world t j state number (Some a) is =
    let arc = tail_is_arc w is_world t j a.0 a.1 (record { target = state; number = number; tail = sym is }) in
    (arc.source, arc.number)
