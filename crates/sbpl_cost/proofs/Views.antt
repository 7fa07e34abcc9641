-- What the methods of a lattice answer, in terms of its graph.
use Rattle.std.proofs.Common.{◌≡◌, ℕ, ◌<◌, ◌≤◌, ◌==◌, List, length, slice_get, get_or, Option, Some, None}
use Rattle.std.proofs.Common.{option_and_then, IfSome, refl, ap, sym, ◌∙◌, arith, subst}
use Rattle.std.proofs.lemmas.List.Sums.{count_by-le-length}
use Rattle.std.proofs.lemmas.Option.{slice_get_within, slice_get-get_or, same_Some}
use Rattle.sbpl_sweep.specs.sbpl_mprim.declared.prim.Primitive.{Primitive}
use Rattle.sbpl_cost.specs.States.{place_of, state_in, state_count}
use Rattle.sbpl_cost.specs.World.{World, IsWorld}
use Rattle.sbpl_cost.specs.Arc.{column_from, row_from}
use Rattle.sbpl_cost.specs.Lattices.{leaving, head_by, network_of, states_are}
use Rattle.sbpl_cost.proofs.Numbered.{numbered, length-indices_from}
use Rattle.sbpl_cost.proofs.Arcs.{IsFound, found_at}
use Rattle.sbpl_cost.proofs.LatticeLaws.{sound}

pub fan_is : (w : World) (s : ℕ) → (network_of w).fan s ≡ length (leaving w.prims.items (place_of w.env s).t)
unfolding network_of
fan_is w s = refl

pub head_is : (w : World) (s k place : ℕ) (p : Primitive) → IsFound w s k place p
    → (network_of w).head s k ≡ state_in w.env (column_from w s p.dx) (row_from w s p.dy) p.to
unfolding network_of head_by
head_is w s k place p f = ap (λ o. option_and_then (head_by w s) o) f.primitive

-- an index in the table is an index in the file
pub leaving_inside : (prims : List Primitive) (t k place : ℕ)
    → slice_get (leaving prims t) k ≡ Some place → place < length prims
leaving_inside prims t k place h =
    let n = numbered (λ p. p.from == t) 0 prims k place h in
    omega (arith, n.number, slice_get_within prims n.at n.item n.stands)

-- there are no more indices than primitives
pub few_leaving : (prims : List Primitive) (t : ℕ) → length (leaving prims t) ≤ length prims
few_leaving prims t =
    omega (arith, length-indices_from (λ p. p.from == t) 0 prims, count_by-le-length (λ p. p.from == t) prims)

pub leaving_read : (prims : List Primitive) (t k : ℕ) (list : List ℕ) → list ≡ leaving prims t
    → k < length (leaving prims t) → get_or list k 0 < length prims
leaving_read prims t k list same h =
    leaving_inside prims t k (get_or list k 0)
    (slice_get-get_or (leaving prims t) k 0 h ∙ ap (λ l. Some (get_or l k 0)) (sym same))

-- the motion of an arc, by the index that the table has
pub found_by : (w : World) (s k t place : ℕ) → IsWorld w → t ≡ (place_of w.env s).t
    → slice_get (leaving w.prims.items t) k ≡ Some place → (p : Primitive) × IsFound w s k place p
found_by w s k t place is_world same h =
    found_at w s k place is_world (ap (λ n. slice_get (leaving w.prims.items n) k) (sym same) ∙ h)

-- an arc below the fan is in the table
pub number_below : (w : World) (s k t : ℕ) → t ≡ (place_of w.env s).t → k < (network_of w).fan s
    → k < length (leaving w.prims.items t)
number_below w s k t same h =
    subst (λ n. k < length (leaving w.prims.items n)) (sym same) (subst (λ n. k < n) (fan_is w s) h)

pub state_below : (w : World) (s : ℕ) → s < (network_of w).states → s < state_count w.env
state_below w s h = subst (λ n. s < n) (states_are w) h

-- the motion of an arc, by the primitive that was read
pub found_prim : (w : World) (s k t place : ℕ) (p : Primitive) → IsWorld w → t ≡ (place_of w.env s).t
    → slice_get (leaving w.prims.items t) k ≡ Some place
    → slice_get w.prims.items place ≡ Some p → IsFound w s k place p
found_prim w s k t place p is_world same h at =
    let found = found_by w s k t place is_world same h in
    subst (λ q. IsFound w s k place q) (same_Some found.0 p (sym found.1.by.stands ∙ at)) found.1

-- an answer that is the graph's keeps the graph's laws
pub head_inside : (w : World) → IsWorld w → (s k : ℕ) → s < (network_of w).states → k < (network_of w).fan s
    → (o : Option ℕ) → o ≡ (network_of w).head s k → IfSome o (λ t. t < (network_of w).states)
head_inside w is_world s k state number None is = tt
head_inside w is_world s k state number (Some t) is = (sound w is_world).head_is_state s k t state number (sym is)
