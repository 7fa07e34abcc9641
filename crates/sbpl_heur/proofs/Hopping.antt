-- The list of hops, one primitive after another.
use Rattle.std.proofs.Common.{◌≡◌, ℕ, ℤ, ◌+◌, ◌<◌, ◌≤◌, ◌++◌, inl, inr, ◌⊎◌, min, List, [], ◌∷◌, length, length-set}
use Rattle.std.proofs.Common.{set, get_or, slice_get, Some, refl, ap, sym, ◌∙◌, arith, subst}
use Rattle.std.proofs.lemmas.Bool.{cases_lt, cases_eq}
use Rattle.std.proofs.lemmas.Grind.{common_steps}
use Rattle.std.proofs.lemmas.List.{length_push}
use Rattle.std.proofs.lemmas.Option.{gets, slice_get_within, same_Some, none-some, get_or_from_slice_get}
use Rattle.sbpl_cost.specs.sbpl_cfg.Environment.{Environment}
use Rattle.sbpl_cost.specs.sbpl_mprim.declared.prim.Primitive.{Primitive}
use Rattle.sbpl_cost.specs.PrimitiveCost.{primitive_cost}
use Rattle.sbpl_heur.specs.declared.hop.Hop.{Hop}
use Rattle.sbpl_heur.specs.Walks.{Moves}
use Rattle.sbpl_heur.specs.Hops.{AreHops, IsHopOf, SamePair, HasNoPair, HasPairAt, Includes, lowers, adds}

-- an element of a list in which one was written, and of one to which one was added
pub at_set : {X : Type 0} (xs : List X) (j : ℕ) (x y : X) → slice_get xs j ≡ Some x → slice_get (set xs j y) j ≡ Some y
at_set xs j x y h = grind (arith, common_steps, gets)

pub beside_set : {X : Type 0} (xs : List X) (j k : ℕ) (y : X) → (k ≡ j → ⊥) → slice_get (set xs j y) k ≡ slice_get xs k
beside_set xs j k y h = grind (arith, common_steps, gets)

-- the least cost of the first n primitives that move by this pair
pub record IsLeastOfFirst (e : Environment) (prims : List Primitive) (n : ℕ) (dx dy : ℤ) (cost : ℕ) : Type 0 where
  pub place : ℕ
  pub owner : Primitive
  pub early : place < n
  pub stands : slice_get prims place ≡ Some owner
  pub column : owner.dx ≡ dx
  pub row : owner.dy ≡ dy
  pub own : cost ≡ primitive_cost e owner
  pub least : (i : ℕ) (p : Primitive) → i < n → slice_get prims i ≡ Some p → p.dx ≡ dx → p.dy ≡ dy
      → cost ≤ primitive_cost e p

-- the list has the pairs of the first n primitives, each once and with the least of their costs
pub record AreHopsOfFirst (e : Environment) (prims : List Primitive) (n : ℕ) (hops : List Hop) : Type 0 where
  pub moves : (j : ℕ) (h : Hop) → slice_get hops j ≡ Some h → Moves h.dx h.dy
  pub each : (j : ℕ) (h : Hop) → slice_get hops j ≡ Some h → IsLeastOfFirst e prims n h.dx h.dy h.cost
  pub all : (i : ℕ) (p : Primitive) → i < n → slice_get prims i ≡ Some p → Moves p.dx p.dy
      → (j : ℕ) × (h : Hop) × (slice_get hops j ≡ Some h) × (h.dx ≡ p.dx) × (h.dy ≡ p.dy)
  pub once : (i j : ℕ) (g h : Hop) → slice_get hops i ≡ Some g → slice_get hops j ≡ Some h → SamePair g h → i ≡ j

module _ (e : Environment) (prims : List Primitive) where
  pub no_hops : AreHopsOfFirst e prims 0 []
  no_hops = record {
    moves = λ j h at. absurd (none-some h at);
    each = λ j h at. absurd (none-some h at);
    all = λ i p early. absurd (omega arith);
    once = λ i j g h at. absurd (none-some g at);
  }

  pub all_hops : (hops : List Hop) (n : ℕ) → length prims ≤ n → AreHopsOfFirst e prims n hops → AreHops e prims hops
  all_hops hops n whole are = record {
    each = λ j h at.
        let low = are.each j h at in
        record {
          moves = are.moves j h at;
          least = record {
            place = low.place;
            owner = low.owner;
            stands = low.stands;
            column = low.column;
            row = low.row;
            own = low.own;
            least = λ i p there. low.least i p (omega (arith, slice_get_within prims i p there)) there;
          };
        };
    all = λ i p there. are.all i p (omega (arith, slice_get_within prims i p there)) there;
    once = λ i j g h at to column row. are.once i j g h at to (column, row);
  }

  module _ (n : ℕ) (p : Primitive) (there : slice_get prims n ≡ Some p) where
    same_prim : (i : ℕ) (q : Primitive) → n ≤ i → i < n + 1 → slice_get prims i ≡ Some q → p ≡ q
    same_prim i q low high at =
        let now : n ≡ i = omega arith in same_Some p q (sym there ∙ ap (slice_get prims) now ∙ at)

    -- a least cost of another pair stays the least
    stays_least : (dx dy : ℤ) (cost : ℕ) → ((p.dx ≡ dx) × (p.dy ≡ dy) → ⊥) → IsLeastOfFirst e prims n dx dy cost
        → IsLeastOfFirst e prims (n + 1) dx dy cost
    stays_least dx dy cost other low = record {
      place = low.place;
      owner = low.owner;
      early = omega (arith, low.early);
      stands = low.stands;
      column = low.column;
      row = low.row;
      own = low.own;
      least = λ i q early at column row. elim (cases_lt i n) [
        | inl before ↦ low.least i q before at column row
        | inr now ↦
            let same = same_prim i q now early at in
            absurd (other (ap (λ (z : Primitive). z.dx) same ∙ column, ap (λ (z : Primitive). z.dy) same ∙ row))
      ];
    }

    -- a primitive that does not move
    pub still : (hops : List Hop) → (Moves p.dx p.dy → ⊥) → AreHopsOfFirst e prims n hops
        → AreHopsOfFirst e prims (n + 1) hops
    still hops stays are = record {
      moves = are.moves;
      each = λ j h at. stays_least h.dx h.dy h.cost
          (λ same. stays (λ zero. are.moves j h at (sym same.0 ∙ zero.0, sym same.1 ∙ zero.1))) (are.each j h at);
      all = λ i q early at moves. elim (cases_lt i n) [
        | inl before ↦ are.all i q before at moves
        | inr now ↦ absurd (stays (subst (λ (z : Primitive). Moves z.dx z.dy) (sym (same_prim i q now early at)) moves))
      ];
      once = are.once;
    }

    module _ (old new : List Hop) (h : Hop) (column : h.dx ≡ p.dx) (row : h.dy ≡ p.dy)
        (cost : h.cost ≡ primitive_cost e p) (moves : Moves h.dx h.dy) (are : AreHopsOfFirst e prims n old) where
      module _ (j : ℕ) (g : Hop) (at : slice_get old j ≡ Some g) (pair : SamePair g h)
          (is : new ≡ set old j (record { dx = g.dx; dy = g.dy; cost = min g.cost h.cost })) where
        new_at : slice_get new j ≡ Some (record { dx = g.dx; dy = g.dy; cost = min g.cost h.cost })
        new_at =
            ap (λ l. slice_get l j) is ∙ at_set old j g (record { dx = g.dx; dy = g.dy; cost = min g.cost h.cost }) at

        new_beside : (k : ℕ) → (k ≡ j → ⊥) → slice_get new k ≡ slice_get old k
        new_beside k beside =
            ap (λ l. slice_get l k) is
            ∙ beside_set old j k (record { dx = g.dx; dy = g.dy; cost = min g.cost h.cost }) beside

        -- each hop was there with its pair
        was : (k : ℕ) (f : Hop) → slice_get new k ≡ Some f → (b : Hop) × (slice_get old k ≡ Some b) × SamePair b f
        was k f there_now = elim (cases_eq k j) [
          | inl same ↦
              let equal : record { dx = g.dx; dy = g.dy; cost = min g.cost h.cost } ≡ f =
              same_Some (record { dx = g.dx; dy = g.dy; cost = min g.cost h.cost }) f
              (sym new_at ∙ ap (slice_get new) (sym same) ∙ there_now) in
              (g, ap (slice_get old) same ∙ at, (ap (λ (z : Hop). z.dx) equal, ap (λ (z : Hop). z.dy) equal))
          | inr beside ↦ (f, sym (new_beside k beside) ∙ there_now, (refl, refl))
        ]

        -- the lesser of both costs
        lower_least : IsLeastOfFirst e prims (n + 1) g.dx g.dy (min g.cost h.cost)
        lower_least =
            let low = are.each j g at in
            let bound : (i : ℕ) (q : Primitive) → i < n + 1 → slice_get prims i ≡ Some q → q.dx ≡ g.dx → q.dy ≡ g.dy
            → min g.cost h.cost ≤ primitive_cost e q = λ i q early to x y. elim (cases_lt i n) [
              | inl before ↦ omega (arith, low.least i q before to x y)
              | inr now ↦
                  let same : primitive_cost e p ≡ primitive_cost e q =
                  ap (primitive_cost e) (same_prim i q now early to) in omega arith
            ] in
            elim (cases_lt g.cost h.cost) [
              | inl less ↦ record {
                place = low.place;
                owner = low.owner;
                early = omega (arith, low.early);
                stands = low.stands;
                column = low.column;
                row = low.row;
                own = let m : min g.cost h.cost ≡ g.cost = omega arith in m ∙ low.own;
                least = bound;
              }
              | inr more ↦ record {
                place = n;
                owner = p;
                early = omega arith;
                stands = there;
                column = sym column ∙ sym pair.0;
                row = sym row ∙ sym pair.1;
                own = let m : min g.cost h.cost ≡ h.cost = omega arith in m ∙ cost;
                least = bound;
              }
            ]

        lowered : AreHopsOfFirst e prims (n + 1) new
        lowered = record {
          moves = λ k f now. let b = was k f now in λ zero. are.moves k b.0 b.1 (b.2.0 ∙ zero.0, b.2.1 ∙ zero.1);
          each = λ k f now. elim (cases_eq k j) [
            | inl same ↦
                let equal : record { dx = g.dx; dy = g.dy; cost = min g.cost h.cost } ≡ f =
                same_Some (record { dx = g.dx; dy = g.dy; cost = min g.cost h.cost }) f
                (sym new_at ∙ ap (slice_get new) (sym same) ∙ now) in
                subst (λ (z : Hop). IsLeastOfFirst e prims (n + 1) z.dx z.dy z.cost) equal lower_least
            | inr beside ↦
                let before = sym (new_beside k beside) ∙ now in
                stays_least f.dx f.dy f.cost (λ same. beside (are.once k j f g before
                at (sym same.0 ∙ sym column ∙ sym pair.0, sym same.1 ∙ sym row ∙ sym pair.1))) (are.each k f before)
          ];
          all = λ i q early to moving. elim (cases_lt i n) [
            | inl before ↦
                let b = are.all i q before to moving in
                elim (cases_eq b.0 j) [
                  | inl same ↦
                      let equal : b.1 ≡ g = same_Some b.1 g (sym b.2 ∙ ap (slice_get old) same ∙ at) in (
                        j,
                        record { dx = g.dx; dy = g.dy; cost = min g.cost h.cost },
                        new_at,
                        ap (λ (z : Hop). z.dx) (sym equal) ∙ b.3,
                        ap (λ (z : Hop). z.dy) (sym equal) ∙ b.4,
                      )
                  | inr beside ↦ (b.0, b.1, new_beside b.0 beside ∙ b.2, b.3, b.4)
                ]
            | inr now ↦
                let same = same_prim i q now early to in (
                  j,
                  record { dx = g.dx; dy = g.dy; cost = min g.cost h.cost },
                  new_at,
                  pair.0 ∙ column ∙ ap (λ (z : Primitive). z.dx) same,
                  pair.1 ∙ row ∙ ap (λ (z : Primitive). z.dy) same,
                )
          ];
          once = λ k l f d at_k at_l same.
              let b = was k f at_k in
              let c = was l d at_l in
              are.once k l b.0 c.0 b.1 c.1 (b.2.0 ∙ same.0 ∙ sym c.2.0, b.2.1 ∙ same.1 ∙ sym c.2.1);
        }

      module _ (none : HasNoPair old h) (is : new ≡ old ++ h ∷ []) where
        new_last : slice_get new (length old) ≡ Some h
        new_last = grind (arith, common_steps, gets)

        new_before : (k : ℕ) → k < length old → slice_get new k ≡ slice_get old k
        new_before k inside = grind (arith, common_steps, gets)

        kept : (k : ℕ) (f : Hop) → slice_get old k ≡ Some f → slice_get new k ≡ Some f
        kept k f at = new_before k (slice_get_within old k f at) ∙ at

        -- each hop was there, or is the one that was added
        which : (k : ℕ) (f : Hop) → slice_get new k ≡ Some f → (slice_get old k ≡ Some f) ⊎ ((k ≡ length old) × (h ≡ f))
        which k f now = grind (arith, common_steps, gets)

        added_least : IsLeastOfFirst e prims (n + 1) h.dx h.dy h.cost
        added_least = record {
          place = n;
          owner = p;
          early = omega arith;
          stands = there;
          column = sym column;
          row = sym row;
          own = cost;
          least = λ i q early to x y. elim (cases_lt i n) [
            | inl before ↦
                let b = are.all i q before to (λ zero. moves (sym x ∙ zero.0, sym y ∙ zero.1)) in
                absurd (none b.0 b.1 b.2 (b.3 ∙ x, b.4 ∙ y))
            | inr now ↦
                let same : primitive_cost e p ≡ primitive_cost e q =
                ap (primitive_cost e) (same_prim i q now early to) in omega arith
          ];
        }

        added : AreHopsOfFirst e prims (n + 1) new
        added = record {
          moves = λ k f now. elim (which k f now) [
            | inl before ↦ are.moves k f before
            | inr last ↦ subst (λ (z : Hop). Moves z.dx z.dy) last.1 moves
          ];
          each = λ k f now. elim (which k f now) [
            | inl before ↦
                stays_least f.dx f.dy f.cost
                (λ same. none k f before (sym same.0 ∙ sym column, sym same.1 ∙ sym row)) (are.each k f before)
            | inr last ↦ subst (λ (z : Hop). IsLeastOfFirst e prims (n + 1) z.dx z.dy z.cost) last.1 added_least
          ];
          all = λ i q early to moving. elim (cases_lt i n) [
            | inl before ↦ let b = are.all i q before to moving in (b.0, b.1, kept b.0 b.1 b.2, b.3, b.4)
            | inr now ↦
                let same = same_prim i q now early to in (
                  length old,
                  h,
                  new_last,
                  column ∙ ap (λ (z : Primitive). z.dx) same,
                  row ∙ ap (λ (z : Primitive). z.dy) same,
                )
          ];
          once = λ k l f d at_k at_l same. elim (which k f at_k) [
            | inl first ↦ elim (which l d at_l) [
              | inl second ↦ are.once k l f d first second same
              | inr last ↦ absurd (none k f first
                  (same.0 ∙ ap (λ (z : Hop). z.dx) (sym last.1), same.1 ∙ ap (λ (z : Hop). z.dy) (sym last.1)))
            ]
            | inr first ↦ elim (which l d at_l) [
              | inl second ↦
                  absurd (none l d second (
                    sym same.0 ∙ ap (λ (z : Hop). z.dx) (sym first.1),
                    sym same.1 ∙ ap (λ (z : Hop). z.dy) (sym first.1),
                  ))
              | inr last ↦ first.0 ∙ sym last.0
            ]
          ];
        }

      -- one more primitive that moves
      pub included : Includes old new h → AreHopsOfFirst e prims (n + 1) new
      included (lowers j g at pair is) = lowered j g at pair is
      included (adds none is) = added none is

  pub moved : (n : ℕ) (h : Hop) (old new : List Hop) → IsHopOf e prims n h → Moves h.dx h.dy
      → AreHopsOfFirst e prims n old → Includes old new h → AreHopsOfFirst e prims (n + 1) new
  moved n h old new of moves are includes =
      included n of.prim of.stands old new h of.column of.row of.own moves are includes

  pub stayed : (n : ℕ) (h : Hop) (hops : List Hop) → IsHopOf e prims n h → (Moves h.dx h.dy → ⊥)
      → AreHopsOfFirst e prims n hops → AreHopsOfFirst e prims (n + 1) hops
  stayed n h hops of stays are =
      still n of.prim of.stands hops (λ moves. stays (λ zero. moves (sym of.column ∙ zero.0, sym of.row ∙ zero.1))) are

-- no more than one hop is added
pub one_more : (old new : List Hop) (h : Hop) → Includes old new h → length new ≤ length old + 1
one_more old new h (lowers j g at pair is) =
    omega (arith, ap length is, length-set old j (record { dx = g.dx; dy = g.dy; cost = min g.cost h.cost }))
one_more old new h (adds none is) = omega (arith, ap length is, length_push old h)

-- a hop whose cost was lowered where it was read
pub lowers_at : (old read : List Hop) (h : Hop) (j : ℕ) (known : Hop) (cost : ℕ) → read ≡ old → HasPairAt read h j
    → known ≡ get_or old j known → cost ≡ min known.cost h.cost
    → Includes old (set old j (record { dx = known.dx; dy = known.dy; cost = cost })) h
lowers_at old read h j known cost same (g, at, pair) is cost_is =
    let at_old : slice_get old j ≡ Some g = ap (λ l. slice_get l j) (sym same) ∙ at in
    let equal : known ≡ g = is ∙ get_or_from_slice_get old j g known at_old in
    let by_cost : ℕ → List Hop = λ x. set old j (record { dx = known.dx; dy = known.dy; cost = x }) in
    lowers j known (at_old ∙ ap Some (sym equal))
    (subst (λ (z : Hop). SamePair z h) (sym equal) pair) (ap by_cost cost_is)
