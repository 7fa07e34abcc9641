-- The pairs by which primitives move.
use Rattle.std.specs.Prelude.{◌≡◌, ℕ, ◌++◌, min, List, [], ◌∷◌, slice_get, slice_set, Some}
use Rattle.sbpl_cost.specs.sbpl_cfg.Environment.{Environment}
use Rattle.sbpl_cost.specs.sbpl_mprim.declared.prim.Primitive.{Primitive}
use Rattle.sbpl_cost.specs.PrimitiveCost.{primitive_cost}
use Rattle.sbpl_heur.specs.declared.hop.Hop.{Hop}
use Rattle.sbpl_heur.specs.Walks.{IsLeastCost, Moves}

-- a pair other than (0, 0), with the least cost of the primitives that have it
pub record IsHop (e : Environment) (prims : List Primitive) (h : Hop) : Type 0 where
  pub moves : Moves h.dx h.dy
  pub least : IsLeastCost e prims h.dx h.dy h.cost

-- the list has each pair other than (0, 0) of a primitive, once
pub record AreHops (e : Environment) (prims : List Primitive) (hops : List Hop) : Type 0 where
  pub each : (j : ℕ) (h : Hop) → slice_get hops j ≡ Some h → IsHop e prims h
  pub all : (i : ℕ) (p : Primitive) → slice_get prims i ≡ Some p → Moves p.dx p.dy → (j : ℕ) × (h : Hop) × (slice_get hops j ≡ Some h) × (h.dx ≡ p.dx) × (h.dy ≡ p.dy)
  pub once : (i j : ℕ) (g h : Hop) → slice_get hops i ≡ Some g → slice_get hops j ≡ Some h → g.dx ≡ h.dx → g.dy ≡ h.dy → i ≡ j

-- two hops have the same pair
abbrev pub SamePair : Hop → Hop → Type 0
SamePair g h = (g.dx ≡ h.dx) × (g.dy ≡ h.dy)

-- no hop of the list has the pair of this one
abbrev pub HasNoPair : List Hop → Hop → Type 0
HasNoPair hops h = (j : ℕ) (g : Hop) → slice_get hops j ≡ Some g → SamePair g h → ⊥

-- hop j of the list has the pair of this one
abbrev pub HasPairAt : List Hop → Hop → ℕ → Type 0
HasPairAt hops h j = (g : Hop) × (slice_get hops j ≡ Some g) × SamePair g h

-- the list has the hop's pair with the lesser of both costs, or the hop is added where the list does not have its pair
pub data Includes (old new : List Hop) (h : Hop) : Type 0 where
  lowers : (j : ℕ) (g : Hop) → slice_get old j ≡ Some g → SamePair g h → new ≡ slice_set old j (record { dx = g.dx; dy = g.dy; cost = min g.cost h.cost }) → Includes old new h
  adds : HasNoPair old h → new ≡ old ++ h ∷ [] → Includes old new h

-- a hop is the motion by the primitive at this index
pub record IsHopOf (e : Environment) (prims : List Primitive) (index : ℕ) (h : Hop) : Type 0 where
  pub prim : Primitive
  pub stands : slice_get prims index ≡ Some prim
  pub column : h.dx ≡ prim.dx
  pub row : h.dy ≡ prim.dy
  pub own : h.cost ≡ primitive_cost e prim
