-- Floors of fractions, and the least of them.
use Rattle.std.proofs.Common.{◌≡◌, ℕ, ◌+◌, ◌*◌, ◌/◌, ◌≤◌, ◌++◌, min, inl, inr, ◌⊎◌, List, [], ◌∷◌, slice_get, Option}
use Rattle.std.proofs.Common.{Some, None, unwrap_or, refl, ap, sym, ◌∙◌, arith, subst, zero, suc}
use Rattle.std.proofs.Math.Nat.{div-mul-le_self, le_of_mul-le-mul_right}
use Rattle.std.proofs.Math.Nat.{mul-le-mul_left, mul-le-mul_right, add-mul-div_right}
use Rattle.std.proofs.lemmas.Bool.{cases_lt, cond-true, cond-false, eq-eqb, ne_eqb}
use Rattle.std.proofs.lemmas.Nat.{le-div}
use Rattle.std.proofs.lemmas.Option.{same_Some, none-some}
use Rattle.sbpl_sweep.specs.sbpl_cfg.Environment.{Environment}
use Rattle.sbpl_sweep.specs.sbpl_mprim.declared.prim.Primitive.{Primitive}
use Rattle.sbpl_cost.specs.declared.way.Way.{Way}
use Rattle.sbpl_cost.specs.PrimitiveCost.{primitive_cost}
use Rattle.sbpl_cost.specs.Gaps.{advance, lesser, floor_by, least_floor, way_bound}

-- the lesser fraction has the lesser floor
pub floor_le : (n c d a b : ℕ) → 1 ≤ d → 1 ≤ b → c * b ≤ a * d → n * c / d ≤ n * a / b
floor_le n c d a b some_d some_b less =
    let q : ℕ = n * c / d in
    let low : q * d ≤ n * c = div-mul-le_self (n * c) d in
    let one : q * d * b ≤ n * c * b = mul-le-mul_right b low in
    let two : n * (c * b) ≤ n * (a * d) = mul-le-mul_left n less in
    let three : q * b * d ≤ n * a * d = omega (arith, one, two) in
    le-div q (n * a) b some_b (le_of_mul-le-mul_right three some_d)

-- a step of g cells that costs k or more lowers the floor by k at most
pub floor_step : (n m g k c d : ℕ) → n ≤ m + g → 1 ≤ d → c * g ≤ k * d → n * c / d ≤ k + m * c / d
floor_step n m g k c d less some dear =
    let low : n * c / d * d ≤ n * c = div-mul-le_self (n * c) d in
    let high : n * c ≤ (m + g) * c = mul-le-mul_right c less in
    let sum : n * c / d * d ≤ m * c + k * d = omega (arith, low, high, dear) in
    let at : n * c / d ≤ (m * c + k * d) / d = le-div (n * c / d) (m * c + k * d) d some sum in
    let split : (m * c + k * d) / d ≡ m * c / d + k = add-mul-div_right (m * c) k some in
    omega (arith, at, split)

pub lesser_none : (o : Option ℕ) → lesser o None ≡ o
lesser_none None = refl
lesser_none (Some a) = refl

pub lesser_assoc : (o p q : Option ℕ) → lesser (lesser o p) q ≡ lesser o (lesser p q)
lesser_assoc None p q = refl
lesser_assoc (Some a) None q = refl
lesser_assoc (Some a) (Some b) None = refl
lesser_assoc (Some a) (Some b) (Some c) = let e : min (min a b) c ≡ min a (min b c) = omega arith in ap Some e

-- one more primitive
pub least_floor_push : (e : Environment) (way : Way) (n : ℕ) (ps : List Primitive) (p : Primitive)
    → least_floor e way n (ps ++ p ∷ []) ≡ lesser (least_floor e way n ps) (floor_by e way n p)
least_floor_push e way n [] p = lesser_none (floor_by e way n p)
least_floor_push e way n (q ∷ ps) p =
    ap (lesser (floor_by e way n q)) (least_floor_push e way n ps p)
    ∙ sym (lesser_assoc (floor_by e way n q) (least_floor e way n ps) (floor_by e way n p))

-- the floors of a primitive that goes that way, and of one that doesn't
pub floor_where_goes : (e : Environment) (way : Way) (n : ℕ) (p : Primitive) → 1 ≤ advance e.headings way p
    → floor_by e way n p ≡ Some (n * primitive_cost e p / advance e.headings way p)
floor_where_goes e way n p goes = cond-false _ _ _ (ne_eqb (advance e.headings way p) 0 (λ h. omega arith))

pub floor_where_not : (e : Environment) (way : Way) (n : ℕ) (p : Primitive) → advance e.headings way p ≡ 0
    → floor_by e way n p ≡ None
floor_where_not e way n p none = cond-true _ _ _ (eq-eqb (advance e.headings way p) 0 none)

-- the order of fractions: where each of three is at most the next, the first is at most the last
fraction_through : (a x c d b y : ℕ) → 1 ≤ d → a * d ≤ c * x → c * y ≤ b * d → a * y ≤ b * x
fraction_through a x c d b y some one two =
    let first : a * d * y ≤ c * x * y = mul-le-mul_right y one in
    let second : c * y * x ≤ b * d * x = mul-le-mul_right x two in
    let both : a * y * d ≤ b * x * d = omega (arith, first, second) in
    le_of_mul-le-mul_right both some

times_none : (a x : ℕ) → x ≡ 0 → a * x ≡ 0
times_none a x h = let z : a * 0 ≡ 0 = omega arith in ap (λ k. a * k) h ∙ z

-- a fraction that is 0 has the floor 0
pub nothing : (n : ℕ) → 0 ≡ n * 0 / 1
nothing n = let z : n * 0 ≡ 0 = omega arith in sym (ap (λ k. k / 1) z)

-- the floors of these primitives are those of one fraction, which is the least of them
pub record IsRateOf (e : Environment) (ps : List Primitive) (way : Way) (cost cells : ℕ) : Type 0 where
  pub some : 1 ≤ cells
  pub floors : (n : ℕ) → least_floor e way n ps ≡ Some (n * cost / cells)
  pub least : (i : ℕ) (p : Primitive) → slice_get ps i ≡ Some p
      → cost * advance e.headings way p ≤ primitive_cost e p * cells
  pub place : ℕ
  pub owner : Primitive
  pub stands : slice_get ps place ≡ Some owner
  pub own_cost : cost ≡ primitive_cost e owner
  pub own_cells : cells ≡ advance e.headings way owner

-- none of these primitives goes that way
abbrev pub NoneGo : Environment → Way → List Primitive → Type 0
NoneGo e way ps = (i : ℕ) (p : Primitive) → slice_get ps i ≡ Some p → advance e.headings way p ≡ 0

module _ (e : Environment) (way : Way) where
  pub no_floor : (n : ℕ) (ps : List Primitive) → NoneGo e way ps → least_floor e way n ps ≡ None
  no_floor n [] none = refl
  no_floor n (p ∷ ps) none =
      ap (λ o. lesser o (least_floor e way n ps)) (floor_where_not e way n p (none 0 p refl))
      ∙ no_floor n ps (λ i q at. none (suc i) q at)

  lesser_first : (a b : ℕ) → a ≤ b → lesser (Some a) (Some b) ≡ Some a
  lesser_first a b h = let k : min a b ≡ a = omega arith in ap Some k

  lesser_second : (a b : ℕ) → b ≤ a → lesser (Some a) (Some b) ≡ Some b
  lesser_second a b h = let k : min a b ≡ b = omega arith in ap Some k

  module _ (p : Primitive) (ps : List Primitive) where
    none_more : advance e.headings way p ≡ 0 → NoneGo e way ps → NoneGo e way (p ∷ ps)
    none_more none rest zero q at = subst (λ z. advance e.headings way z ≡ 0) (same_Some p q at) none
    none_more none rest (suc i) q at = rest i q at

    least_more : (c d : ℕ) → c * advance e.headings way p ≤ primitive_cost e p * d
        → ((i : ℕ) (q : Primitive) → slice_get ps i ≡ Some q → c * advance e.headings way q ≤ primitive_cost e q * d)
        → (i : ℕ) (q : Primitive) → slice_get (p ∷ ps) i ≡ Some q
        → c * advance e.headings way q ≤ primitive_cost e q * d
    least_more c d first rest zero q at =
        subst (λ z. c * advance e.headings way z ≤ primitive_cost e z * d) (same_Some p q at) first
    least_more c d first rest (suc i) q at = rest i q at

    -- a primitive that does not go that way changes nothing
    still : (c d : ℕ) → advance e.headings way p ≡ 0 → IsRateOf e ps way c d → IsRateOf e (p ∷ ps) way c d
    still c d none rate = record {
      some = rate.some;
      floors = λ n. ap (λ o. lesser o (least_floor e way n ps)) (floor_where_not e way n p none) ∙ rate.floors n;
      least = least_more c d (omega (arith, times_none c (advance e.headings way p) none)) rate.least;
      place = suc rate.place;
      owner = rate.owner;
      stands = rate.stands;
      own_cost = rate.own_cost;
      own_cells = rate.own_cells;
    }

    -- the first that goes that way
    first : 1 ≤ advance e.headings way p → NoneGo e way ps
        → IsRateOf e (p ∷ ps) way (primitive_cost e p) (advance e.headings way p)
    first goes none = record {
      some = goes;
      floors = λ n. ap (λ o. lesser (floor_by e way n p) o) (no_floor n ps none) ∙ lesser_none (floor_by e way n p)
          ∙ floor_where_goes e way n p goes;
      least = least_more (primitive_cost e p) (advance e.headings way p) (omega arith)
          (λ i q at. omega (arith, times_none (primitive_cost e p) (advance e.headings way q) (none i q at)));
      place = zero;
      owner = p;
      stands = refl;
      own_cost = refl;
      own_cells = refl;
    }

    -- one whose fraction is not less
    kept : (c d : ℕ) → 1 ≤ advance e.headings way p → c * advance e.headings way p ≤ primitive_cost e p * d
        → IsRateOf e ps way c d → IsRateOf e (p ∷ ps) way c d
    kept c d goes less rate = record {
      some = rate.some;
      floors = λ n. ap (λ o. lesser o (least_floor e way n ps)) (floor_where_goes e way n p goes)
          ∙ ap (lesser (Some (n * primitive_cost e p / advance e.headings way p))) (rate.floors n)
          ∙ lesser_second (n * primitive_cost e p / advance e.headings way p) (n * c / d)
          (floor_le n c d (primitive_cost e p) (advance e.headings way p) rate.some goes less);
      least = least_more c d less rate.least;
      place = suc rate.place;
      owner = rate.owner;
      stands = rate.stands;
      own_cost = rate.own_cost;
      own_cells = rate.own_cells;
    }

    -- one whose fraction is less
    lowered : (c d : ℕ) → 1 ≤ advance e.headings way p → primitive_cost e p * d ≤ c * advance e.headings way p
        → IsRateOf e ps way c d → IsRateOf e (p ∷ ps) way (primitive_cost e p) (advance e.headings way p)
    lowered c d goes less rate = record {
      some = goes;
      floors = λ n. ap (λ o. lesser o (least_floor e way n ps)) (floor_where_goes e way n p goes)
          ∙ ap (lesser (Some (n * primitive_cost e p / advance e.headings way p))) (rate.floors n)
          ∙ lesser_first (n * primitive_cost e p / advance e.headings way p) (n * c / d)
          (floor_le n (primitive_cost e p) (advance e.headings way p) c d goes rate.some less);
      least = least_more (primitive_cost e p) (advance e.headings way p) (omega arith) (λ i q at.
          fraction_through (primitive_cost e p) (advance e.headings way p) c d (primitive_cost e q)
          (advance e.headings way q) rate.some less (rate.least i q at));
      place = zero;
      owner = p;
      stands = refl;
      own_cost = refl;
      own_cells = refl;
    }

  -- either none of the primitives goes that way, or one of them has the least fraction
  pub rate_of : (ps : List Primitive) → NoneGo e way ps ⊎ ((c : ℕ) × (d : ℕ) × IsRateOf e ps way c d)
  rate_of [] = inl (λ i p at. absurd (none-some p at))
  rate_of (p ∷ ps) = elim (cases_lt 0 (advance e.headings way p)) [
    | inl goes ↦ elim (rate_of ps) [
      | inl none ↦ inr (primitive_cost e p, advance e.headings way p, first p ps goes none)
      | inr (c, d, rate) ↦ elim (cases_lt (primitive_cost e p * d) (c * advance e.headings way p)) [
        | inl less ↦ inr (primitive_cost e p, advance e.headings way p, lowered p ps c d goes (omega arith) rate)
        | inr more ↦ inr (c, d, kept p ps c d goes more rate)
      ]
    ]
    | inr stays ↦
        let none : advance e.headings way p ≡ 0 = omega arith in
        elim (rate_of ps) [
          | inl rest ↦ inl (none_more p ps none rest)
          | inr (c, d, rate) ↦ inr (c, d, still p ps c d none rate)
        ]
  ]

  -- the bound of a way is the floor of some fraction, which no primitive undercuts
  pub record IsFloor (ps : List Primitive) (c d : ℕ) : Type 0 where
    pub some : 1 ≤ d
    pub small : (most : ℕ) → ((i : ℕ) (p : Primitive) → slice_get ps i ≡ Some p → primitive_cost e p ≤ most) → c ≤ most
    pub floors : (n : ℕ) → way_bound e ps way n ≡ n * c / d
    pub least : (i : ℕ) (p : Primitive) → slice_get ps i ≡ Some p
        → c * advance e.headings way p ≤ primitive_cost e p * d

  pub floor_of : (ps : List Primitive) → (c : ℕ) × (d : ℕ) × IsFloor ps c d
  unfolding way_bound
  floor_of ps = elim (rate_of ps) [
    | inl none ↦ (
      0,
      1,
      record {
        some = omega arith;
        small = λ most h. omega arith;
        floors = λ n. ap (λ o. unwrap_or o 0) (no_floor n ps none) ∙ nothing n;
        least = λ i p at. omega arith;
      },
    )
    | inr (c, d, rate) ↦ (
      c,
      d,
      record {
        some = rate.some;
        small = λ most h. omega (arith, rate.own_cost, h rate.place rate.owner rate.stands);
        floors = λ n. ap (λ o. unwrap_or o 0) (rate.floors n);
        least = rate.least;
      },
    )
  ]
