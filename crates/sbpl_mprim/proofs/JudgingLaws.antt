-- What the tests of a primitive say.
use Rattle.std.proofs.Common.{◌≡◌, ◌≢◌, ℕ, zero, suc, ◌≤◌, ℤ, Bool, true, false, not, ◌&&◌, ◌||◌, ◌==◌, List, [], ◌∷◌}
use Rattle.std.proofs.Common.{Some, ◌↔◌, inl, inr, refl, sym, ap, ◌∙◌, arith}
use Rattle.std.proofs.lemmas.Bool.{false≢true}
use Rattle.std.proofs.lemmas.Bool.Decides.{Decides-int_eq, Decides-eqb, Decides-and, nat_tests}
use Rattle.std.proofs.lemmas.Map.Keys.{any_passes_from_place}
use Rattle.std.specs.Bool.{Decides}
use Rattle.std.specs.List.{slice_get, list_all, AllByRecursion}
use Rattle.std.specs.Ordering.{int_eq}
use Rattle.sbpl_cfg.specs.declared.pose.Pose.{Pose}
use Rattle.sbpl_cfg.specs.Place.{heading_of}
use Rattle.sbpl_mprim.specs.declared.prim.Primitive.{Primitive}
use Rattle.sbpl_mprim.specs.Judging.{CostsNothing, HasId, are_at_one_point, costs_nothing, has_id}
use Rattle.sbpl_mprim.specs.Judging.{is_in_bin, is_in_cell, is_same_point}
use Rattle.sbpl_mprim.specs.Primitives.{AreAtOnePoint, EndsAt, offset_cell}
use Rattle.sbpl_mprim.proofs.Indices.{all_at, at_all, one_passes}

-- ---- tests of all

pub all_pass : {A : Type 0} (p : A → Bool) (xs : List A) → list_all p xs ≡ true → AllByRecursion (λ x. p x ≡ true) xs
all_pass p [] e = tt
all_pass p (x ∷ xs) e =
    let go : (b : Bool) → p x ≡ b → (b && list_all p xs) ≡ true → AllByRecursion (λ y. p y ≡ true) (x ∷ xs) = elim [
      | true ↦ λ q h. (q, all_pass p xs h)
      | false ↦ λ q h. absurd (false≢true h)
    ] in
    go (p x) refl e

pub pass_all : {A : Type 0} (p : A → Bool) (xs : List A) → AllByRecursion (λ x. p x ≡ true) xs → list_all p xs ≡ true
pass_all p [] h = refl
pass_all p (x ∷ xs) h = rw (h.0, pass_all p xs h.1) refl

-- ---- one point

same_point : (p q : Pose) → Decides (is_same_point p q) ((p.x ≡ q.x) × (p.y ≡ q.y))
same_point p q = Decides-and (int_eq p.x q.x) (int_eq p.y q.y) (Decides-int_eq p.x q.x) (Decides-int_eq p.y q.y)

at_first : (p : Pose) (ps : List Pose) → list_all (is_same_point p) ps ≡ true → (i : ℕ) (q : Pose)
    → slice_get (p ∷ ps) i ≡ Some q → (p.x ≡ q.x) × (p.y ≡ q.y)
at_first p ps h zero q e = let same : p ≡ q = cc in (ap (λ (r : Pose). r.x) same, ap (λ (r : Pose). r.y) same)
at_first p ps h (suc i) q e =
    (same_point p q).0 (all_at (λ r. is_same_point p r ≡ true) ps (all_pass (is_same_point p) ps h) i q e)

pub one_point_holds : (ps : List Pose) → are_at_one_point ps ≡ true → AreAtOnePoint ps
one_point_holds [] h = λ p q i j e f. absurd cc
one_point_holds (p ∷ ps) h = λ q r i j e f.
    let a = at_first p ps h i q e in
    let b = at_first p ps h j r f in
    (sym a.0 ∙ b.0, sym a.1 ∙ b.1)

pub one_point_tests : (ps : List Pose) → AreAtOnePoint ps → are_at_one_point ps ≡ true
one_point_tests [] h = refl
one_point_tests (p ∷ ps) h =
    pass_all (is_same_point p) ps
    (at_all (λ q. is_same_point p q ≡ true) ps (λ i q e. (same_point p q).1 (h p q 0 (suc i) refl e)))

-- ---- what costs nothing

pub costs_something : (prim : Primitive) → costs_nothing prim ≡ false
    → (1 ≤ prim.mult) × (AreAtOnePoint prim.poses → prim.from ≢ prim.to)
costs_something prim e =
    let go : (a b c : Bool) → (prim.mult == 0) ≡ a → (prim.from == prim.to) ≡ b → are_at_one_point prim.poses ≡ c
    → (a || (b && c)) ≡ false
    → (prim.mult ≢ 0) × (AreAtOnePoint prim.poses → prim.from ≢ prim.to) = elim [
      | true ↦ λ b c p q r h. absurd (false≢true (sym h))
      | false ↦ elim [
        | true ↦ elim [
          | true ↦ λ p q r h. absurd (false≢true (sym h))
          | false ↦ λ p q r h. (
            λ z. absurd (false≢true (sym p ∙ (Decides-eqb prim.mult 0).1 z)),
            λ at _. false≢true (sym r ∙ one_point_tests prim.poses at),
          )
        ]
        | false ↦ λ c p q r h. (
          λ z. absurd (false≢true (sym p ∙ (Decides-eqb prim.mult 0).1 z)),
          λ _ z. false≢true (sym q ∙ (Decides-eqb prim.from prim.to).1 z),
        )
      ]
    ] in
    let k = go (prim.mult == 0) (prim.from == prim.to) (are_at_one_point prim.poses) refl refl refl e in
    (omega (arith, k.0), k.1)

pub costs_then : (prim : Primitive) → 1 ≤ prim.mult → (AreAtOnePoint prim.poses → prim.from ≢ prim.to)
    → costs_nothing prim ≡ false
costs_then prim some moves =
    let go : (a b c : Bool) → (prim.mult == 0) ≡ a → (prim.from == prim.to) ≡ b → are_at_one_point prim.poses ≡ c
    → (a || (b && c)) ≡ false = elim [
      | true ↦ λ b c p q r. let z = (Decides-eqb prim.mult 0).0 p in absurd (omega arith)
      | false ↦ elim [
        | true ↦ elim [
          | true ↦ λ p q r. absurd (moves (one_point_holds prim.poses r) ((Decides-eqb prim.from prim.to).0 q))
          | false ↦ λ p q r. refl
        ]
        | false ↦ λ c p q r. refl
      ]
    ] in
    go (prim.mult == 0) (prim.from == prim.to) (are_at_one_point prim.poses) refl refl refl

-- ---- where a primitive ends

in_cell : (cell dx dy : ℤ) (p : Pose)
    → Decides (is_in_cell cell dx dy p) ((offset_cell cell p.x ≡ dx) × (offset_cell cell p.y ≡ dy))
in_cell cell dx dy p =
    Decides-and (int_eq (offset_cell cell p.x) dx) (int_eq (offset_cell cell p.y) dy)
    (Decides-int_eq (offset_cell cell p.x) dx) (Decides-int_eq (offset_cell cell p.y) dy)

not_false : (b : Bool) → not b ≡ false → b ≡ true
not_false true e = refl
not_false false e = absurd (false≢true (sym e))

pub ends_at : (cell : ℤ) (headings : ℕ) (prim : Primitive) (p : Pose) → not (is_in_cell cell prim.dx prim.dy p) ≡ false
    → not (is_in_bin headings prim.to p) ≡ false → EndsAt cell headings prim p
ends_at cell headings prim p a b =
    let inside = (in_cell cell prim.dx prim.dy p).0 (not_false (is_in_cell cell prim.dx prim.dy p) a) in
    record {
      x = inside.0;
      y = inside.1;
      heading = (Decides-eqb (heading_of headings p.theta) prim.to).0 (not_false (is_in_bin headings prim.to p) b);
    }

pub in_end_cell : (cell : ℤ) (headings : ℕ) (prim : Primitive) (p : Pose) → EndsAt cell headings prim p
    → not (is_in_cell cell prim.dx prim.dy p) ≡ false
in_end_cell cell headings prim p e = ap not ((in_cell cell prim.dx prim.dy p).1 (e.x, e.y))

pub in_end_bin : (cell : ℤ) (headings : ℕ) (prim : Primitive) (p : Pose) → EndsAt cell headings prim p
    → not (is_in_bin headings prim.to p) ≡ false
in_end_bin cell headings prim p e = ap not ((Decides-eqb (heading_of headings p.theta) prim.to).1 e.heading)

-- ---- ids

pub taken : (from id : ℕ) (p : Primitive) → Decides ((p.from == from) && (p.id == id)) ((p.from ≡ from) × (p.id ≡ id))
taken from id p = Decides-and (p.from == from) (p.id == id) (Decides-eqb p.from from) (Decides-eqb p.id id)

-- where an id is taken there is a primitive that has it
pub id_taken : (prims : List Primitive) (from id : ℕ) → has_id prims from id ≡ true
    → (i : ℕ) × (p : Primitive) × (slice_get prims i ≡ Some p) × (p.from ≡ from) × (p.id ≡ id)
id_taken prims from id e =
    let k = one_passes (λ (p : Primitive). (p.from == from) && (p.id == id)) prims e in
    let both = (taken from id k.1).0 k.3 in
    (k.0, k.1, k.2, both.0, both.1)

-- ---- the tests in plain words

nothing_costs : (prim : Primitive) → costs_nothing prim ≡ true → CostsNothing prim
nothing_costs prim e =
    let go : (a b c : Bool) → (prim.mult == 0) ≡ a → (prim.from == prim.to) ≡ b → are_at_one_point prim.poses ≡ c
    → (a || (b && c)) ≡ true → CostsNothing prim = elim [
      | true ↦ λ b c p q r h. inl ((Decides-eqb prim.mult 0).0 p)
      | false ↦ elim [
        | true ↦ elim [
          | true ↦ λ p q r h. inr ((Decides-eqb prim.from prim.to).0 q, one_point_holds prim.poses r)
          | false ↦ λ p q r h. absurd (false≢true h)
        ]
        | false ↦ λ c p q r h. absurd (false≢true h)
      ]
    ] in
    go (prim.mult == 0) (prim.from == prim.to) (are_at_one_point prim.poses) refl refl refl e

pub cost_test : (prim : Primitive) → (costs_nothing prim ≡ true) ↔ CostsNothing prim
cost_test prim = (
  nothing_costs prim,
  λ h. elim h [
    | inl z ↦ rw ((Decides-eqb prim.mult 0).1 z) refl
    | inr w ↦
        let last : (prim.mult == 0 || true) ≡ true = grind (arith, nat_tests) in
        rw ((Decides-eqb prim.from prim.to).1 w.0, one_point_tests prim.poses w.1) last
  ],
)

pub cell_test : (cell dx dy : ℤ) (p : Pose)
    → (is_in_cell cell dx dy p ≡ true) ↔ ((offset_cell cell p.x ≡ dx) × (offset_cell cell p.y ≡ dy))
cell_test cell dx dy p = in_cell cell dx dy p

pub id_test : (prims : List Primitive) (from id : ℕ) → (has_id prims from id ≡ true) ↔ HasId prims from id
id_test prims from id = (
  id_taken prims from id,
  λ h. any_passes_from_place (λ (p : Primitive). (p.from == from) && (p.id == id)) prims h.0 h.1 h.2
      ((taken from id h.1).1 (h.3, h.4)),
)
