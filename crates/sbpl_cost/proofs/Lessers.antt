-- Fractions that were read from primitives, and the gap by them.
use Rattle.std.proofs.Common.{◌≡◌, ℕ, ℤ, ◌+◌, ◌-◌, ◌*◌, ◌/◌, ◌<◌, ◌≤◌, inl, inr, min, max, Bool, true, false, List}
use Rattle.std.proofs.Common.{take, slice_get, unwrap_or, Option, Some, None, ap, sym, ◌∙◌, arith, subst}
use Rattle.std.proofs.lemmas.Bool.{cases_lt, false≢true}
use Rattle.sbpl_sweep.specs.sbpl_cfg.declared.pose.Place.{Place}
use Rattle.sbpl_sweep.specs.sbpl_cfg.Environment.{Environment}
use Rattle.sbpl_sweep.specs.sbpl_mprim.declared.prim.Primitive.{Primitive}
use Rattle.sbpl_sweep.specs.sbpl_mprim.Primitives.{Primitives, IsPrimitive, ArePrimitives}
use Rattle.sbpl_cost.specs.declared.gaps.Gaps.{Gaps}
use Rattle.sbpl_cost.specs.declared.rate.Rate.{Rate}
use Rattle.sbpl_cost.specs.declared.way.Way.{Way}
use Rattle.sbpl_cost.specs.PrimitiveCost.{heading_gap}
use Rattle.sbpl_cost.specs.Gaps.{lesser, floor_by, least_floor, way_bound, gap_of}
use Rattle.sbpl_cost.specs.Rates.{floor_at, gap_by, table_of, IsRate, AreGaps}
use Rattle.sbpl_cost.proofs.Floors.{floor_le, least_floor_push, nothing}
use Rattle.sbpl_cost.proofs.Filling.{take_next}

pub second_is_lesser : (a b : Option Rate) (r s : Rate) → a ≡ Some r → b ≡ Some s → s.cost * r.cells < r.cost * s.cells
    → (n : ℕ) → Some (n * s.cost / s.cells) ≡ lesser (floor_at a n) (floor_at b n)
second_is_lesser a b r s is_r is_s less n =
    let low = floor_le n s.cost s.cells r.cost r.cells s.some r.some (omega arith) in
    let least : min (n * r.cost / r.cells) (n * s.cost / s.cells) ≡ n * s.cost / s.cells = omega arith in
    ap Some (sym least) ∙ ap (λ o. lesser (Some (n * r.cost / r.cells)) (floor_at o n)) (sym is_s)
    ∙ ap (λ o. lesser (floor_at o n) (floor_at b n)) (sym is_r)

pub first_is_lesser : (a b : Option Rate) (r s : Rate) → a ≡ Some r → b ≡ Some s → r.cost * s.cells ≤ s.cost * r.cells
    → (n : ℕ) → Some (n * r.cost / r.cells) ≡ lesser (floor_at a n) (floor_at b n)
first_is_lesser a b r s is_r is_s less n =
    let low = floor_le n r.cost r.cells s.cost s.cells r.some s.some less in
    let least : min (n * r.cost / r.cells) (n * s.cost / s.cells) ≡ n * r.cost / r.cells = omega arith in
    ap Some (sym least) ∙ ap (λ o. lesser (Some (n * r.cost / r.cells)) (floor_at o n)) (sym is_s)
    ∙ ap (λ o. lesser (floor_at o n) (floor_at b n)) (sym is_r)

-- one more primitive
pub least_more : (e : Environment) (way : Way) (prims : List Primitive) (i : ℕ) (p : Primitive)
    (old here new : Option Rate) → slice_get prims i ≡ Some p
    → ((n : ℕ) → floor_at old n ≡ least_floor e way n (take i prims)) → ((n : ℕ) → floor_at here n ≡ floor_by e way n p)
    → ((n : ℕ) → floor_at new n ≡ lesser (floor_at old n) (floor_at here n))
    → (n : ℕ) → floor_at new n ≡ least_floor e way n (take (i + 1) prims)
least_more e way prims i p old here new at before by is n =
    is n ∙ ap (λ o. lesser o (floor_at here n)) (before n) ∙ ap (lesser (least_floor e way n (take i prims))) (by n)
    ∙ sym (ap (least_floor e way n) (take_next prims i p at) ∙ least_floor_push e way n (take i prims) p)

-- the fraction that was found
pub rate_found : (e : Environment) (way : Way) (prims : List Primitive) (o : Option Rate) (r : Rate)
    → ((n : ℕ) → floor_at o n ≡ least_floor e way n prims) → o ≡ Some r → IsRate e prims way r
unfolding way_bound
rate_found e way prims o r floors is n =
    ap (λ p. unwrap_or (floor_at p n) 0) (sym is) ∙ ap (λ p. unwrap_or p 0) (floors n)

-- nothing for a cell, where none was found
pub none_found : (e : Environment) (way : Way) (prims : List Primitive) (o : Option Rate)
    → ((n : ℕ) → floor_at o n ≡ least_floor e way n prims) → o ≡ None → (n : ℕ) → n * 0 / 1 ≡ way_bound e prims way n
unfolding way_bound
none_found e way prims o floors is n =
    sym (nothing n) ∙ ap (λ p. unwrap_or (floor_at p n) 0) (sym is) ∙ ap (λ p. unwrap_or p 0) (floors n)

-- a test that fails
pub not_less : (m n : ℕ) (b : Bool) → (m < n → b ≡ true) → b ≡ false → n ≤ m
not_less m n b known is = elim (cases_lt m n) [ inl less ↦ absurd (false≢true (sym is ∙ known less)) | inr more ↦ more ]

-- all primitives are good for the environment that they belong to
pub all_good : (prims : Primitives) (cell : ℤ) (headings : ℕ) (items : List Primitive) → prims.cell ≡ cell
    → prims.headings ≡ headings → ArePrimitives prims → items ≡ prims.items
    → (i : ℕ) (p : Primitive) → slice_get items i ≡ Some p → IsPrimitive cell headings p
all_good prims cell headings items same_cell same_headings good same i p at =
    subst (λ n. IsPrimitive cell n p) same_headings
    (subst (λ z. IsPrimitive z prims.headings p) same_cell (good.each i p (ap (λ l. slice_get l i) (sym same) ∙ at)))

-- the gap of two places by the rates
pub gap_by_is : (e : Environment) (prims : List Primitive) (gaps : Gaps) → AreGaps e prims gaps → (a b : Place)
    → gap_by (table_of e gaps) a b ≡ gap_of e prims a b
unfolding gap_of
gap_by_is e prims gaps are a b = λ i.
    max (max (are.right (b.x - a.x) i) (are.left (a.x - b.x) i))
    (max (max (are.up (b.y - a.y) i) (are.down (a.y - b.y) i)) (are.round (heading_gap e.headings a.t b.t) i))
