-- The table of the primitives' costs.
use Rattle.std.proofs.Common.{◌≡◌, ◌<◌, ◌≤◌, ◌+◌, ◌++◌, ◌∷◌, [], ℕ, List, inl, inr, ap, sym, ◌∙◌, map, take, length}
use Rattle.std.proofs.Common.{slice_get, get_or, Some, arith, refl, subst}
use Rattle.std.proofs.lemmas.Bool.{cases_lt}
use Rattle.std.proofs.lemmas.Grind.{common_steps}
use Rattle.std.proofs.lemmas.Option.{gets, same_Some, slice_get_read, slice_get_within, slice_get-map}
use Rattle.sbpl_sweep.specs.sbpl_cfg.Environment.{Environment}
use Rattle.sbpl_sweep.specs.sbpl_mprim.declared.prim.Primitive.{Primitive}
use Rattle.sbpl_cost.specs.PrimitiveCost.{primitive_cost, most_cost}

-- the costs of the first n primitives, none of which is too dear
abbrev pub AreCosts : Environment → List Primitive → List ℕ → ℕ → Type 0
AreCosts e prims costs n =
    (costs ≡ map (primitive_cost e) (take n prims))
    × ((k : ℕ) (p : Primitive) → k < n → slice_get prims k ≡ Some p
    → (1 ≤ primitive_cost e p) × (primitive_cost e p ≤ most_cost))

-- one more primitive
pub costs_more : (e : Environment) (prims : List Primitive) (costs new : List ℕ) (i cost : ℕ) (p : Primitive)
    → slice_get prims i ≡ Some p → AreCosts e prims costs i
    → new ≡ costs ++ cost ∷ [] → cost ≡ primitive_cost e p → cost ≤ most_cost → 1 ≤ cost → AreCosts e prims new (i + 1)
costs_more e prims costs new i cost p there old added is high low = (
  let so_far = old.0 in grind (arith, common_steps, gets),
  λ k q before at. elim (cases_lt k i) [
    | inl earlier ↦ old.1 k q earlier at
    | inr now ↦
        let last : i ≡ k = omega arith in
        let same = same_Some p q (sym (ap (λ n. slice_get prims n) (sym last) ∙ there) ∙ at) in (
          subst (λ z. 1 ≤ z) (is ∙ ap (primitive_cost e) same) low,
          subst (λ z. z ≤ most_cost) (is ∙ ap (primitive_cost e) same) high,
        )
  ],
)

-- what is read from a list by another name
pub read_there : {X : Type 0} (list items : List X) (i : ℕ) (x : X) → list ≡ items → i < length items
    → x ≡ get_or list i x → slice_get items i ≡ Some x
read_there list items i x same h is =
    ap (λ l. slice_get l i) (sym same)
    ∙ slice_get_read list (length list) i x refl (omega (arith, h, ap length same)) is

-- what stands in the table of costs is the primitive's cost
pub price_is : (e : Environment) (prims : List Primitive) (prices : List ℕ) (i price : ℕ)
    → prices ≡ map (primitive_cost e) prims → i < length prims → price ≡ get_or prices i price
    → (p : Primitive) × (slice_get prims i ≡ Some p) × (price ≡ primitive_cost e p)
price_is e prims prices i price same h is = grind (arith, common_steps, gets, slice_get-map)

-- the price of the primitive that was read
pub price_of : (e : Environment) (prims : List Primitive) (prices : List ℕ) (i price : ℕ) (p : Primitive)
    → prices ≡ map (primitive_cost e) prims → slice_get prims i ≡ Some p → price ≡ get_or prices i price
    → price ≡ primitive_cost e p
price_of e prims prices i price p same at is =
    let found = price_is e prims prices i price same (slice_get_within prims i p at) is in
    found.2 ∙ ap (primitive_cost e) (same_Some found.0 p (sym found.1 ∙ at))

-- what stands in the table of costs is not too dear
pub cheap_at : (e : Environment) (prims : List Primitive) (costs : List ℕ) (i : ℕ)
    → costs ≡ map (primitive_cost e) prims
    → ((k : ℕ) (p : Primitive) → slice_get prims k ≡ Some p
    → (1 ≤ primitive_cost e p) × (primitive_cost e p ≤ most_cost)) → i < length prims
    → get_or costs i 0 ≤ most_cost
cheap_at e prims costs i same cheap h =
    let own = price_is e prims costs i (get_or costs i 0) same h (grind (arith, common_steps, gets)) in
    subst (λ n. n ≤ most_cost) (sym own.2) (cheap i own.0 own.1).1
