-- States at an end of arcs are added.
use Rattle.std.proofs.Common.{◌≡◌, ◌≢◌, ℕ, pos, ◌<◌, ◌⊎◌, inl, inr, not, nat_eq, Bool, true, false, List, [], ◌∷◌}
use Rattle.std.proofs.Common.{Option, Some, refl, ap, ◌∙◌, subst, sym}
use Rattle.std.specs.BTreeMap.{BTreeMap, get}
use Rattle.std.specs.Cmp.{IsTotalOrder, then_total, on_total, nat_cmp_total}
use Rattle.std.specs.List.{Contains}
use Rattle.std.specs.Option.{option_eq, IfSome}
use Rattle.std.proofs.lemmas.Bool.Decides.{Decides-eqb}
use Rattle.std.proofs.lemmas.List.Elements.{Contains-append_left, Contains-append_right, Contains-append_cases}
use Rattle.std.proofs.lemmas.Map.Views.{IfSome-get}
use Rattle.sbpl_map.specs.CellMap.{cost_at}
use Rattle.sbpl_graph.specs.Network.{Network}
use Rattle.sbpl_terrain.specs.Cells.{Cells}
use Rattle.sbpl_terrain.specs.Reading.{AddsEnds}
use Rattle.sbpl_terrain.specs.declared.arc_end.ArcEnd.{ArcEnd}
use Rattle.sbpl_terrain.specs.Noted.{cell_cmp}
use Rattle.sbpl_terrain.specs.ChangedEnds.{IsChangedEnd, AddsEndsOf, IsEndOf}
use Rattle.sbpl_terrain.proofs.Lists.{contains_at, at_contained, in_none, first_or_after}
use Rattle.sbpl_terrain.proofs.Noting.{exact_cells}

-- the states at an end of the arcs that read a changed cell
pub adds_ends : {W : Type 0} (network : W → Network) (cells : Cells W) (end : ArcEnd) (w : W) (x y c : ℕ)
    (old new : List ℕ) → cost_at (cells.map w) (pos x) (pos y) ≢ Some c
    → AddsEnds network cells end w (pos x) (pos y) old new → AddsEndsOf network cells end w x y c old new
adds_ends network cells end w x y c old new changed adds = record {
  kept = λ t h. subst (λ l. Contains l t) (sym adds.kept) (Contains-append_left old adds.added t h);
  sound = λ t h. elim (Contains-append_cases old adds.added t (subst (λ l. Contains l t) adds.kept h)) [
    | inl before ↦ inl before
    | inr added ↦
        let at = at_contained adds.added t added in inr (record { changed = changed; reads = adds.sound at.0 t at.1 })
  ];
  complete = λ t at_end.
      let at = adds.complete t at_end.reads in
      subst (λ l. Contains l t) (sym adds.kept)
      (Contains-append_right old adds.added t (contains_at adds.added at.0 t at.1));
  states = λ t h. elim (Contains-append_cases old adds.added t (subst (λ l. Contains l t) adds.kept h)) [
    | inl before ↦ inl before
    | inr added ↦ let at = at_contained adds.added t added in inr (adds.states at.0 t at.1)
  ];
}

-- what does not compare equal is not the same
pub differs : (o p : Option ℕ) (n : ℕ) (r : Bool) → r ≡ true
    → r ≡ not (option_eq nat_eq o (Some n)) → o ≡ p → p ≢ Some n
differs o p n r is by same there =
    let alike : o ≡ Some n = same ∙ there in
    let equal : nat_eq n n ≡ true = (Decides-eqb n n).1 refl in
    let told : r ≡ not (option_eq nat_eq (Some n) (Some n)) = rw alike at by in
    let no : true ≡ false = sym is ∙ told ∙ ap not equal in
    absurd (cc)

-- cells are in order
pub cells_total : IsTotalOrder cell_cmp
cells_total = then_total (on_total (λ p. p.0) nat_cmp_total) (on_total (λ p. p.1) nat_cmp_total)

module _ {W : Type 0} (network : W → Network) (cells : Cells W) (end : ArcEnd) (w : W) (costs : BTreeMap (ℕ × ℕ) ℕ)
    (x y c : ℕ) (noted : get cell_cmp costs (x, y) ≡ Some c) (old new : List ℕ)
    (adds : AddsEndsOf network cells end w x y c old new) where
  pub still_sound : ((t : ℕ) → Contains old t → IsEndOf network cells end w costs t) → (t : ℕ) → Contains new t
      → IsEndOf network cells end w costs t
  still_sound before t h = elim (adds.sound t h) [
    | inl old ↦ before t old
    | inr here ↦ record { x = x; y = y; cost = c; noted = noted; at = here }
  ]

  pub still_states : ((t : ℕ) → Contains old t → t < (network w).states) → (t : ℕ) → Contains new t
      → t < (network w).states
  still_states before t h = elim (adds.states t h) [
    | inl old ↦ before t old
    | inr state ↦ state
  ]

  here_or_after : (u v d t : ℕ) (rest : List ((ℕ × ℕ) × ℕ)) → IsChangedEnd network cells end w u v d t
      → ◌≡◌ {A = (ℕ × ℕ) × ℕ} ((x, y), c) ((u, v), d) ⊎ Contains rest ((u, v), d)
      → Contains rest ((u, v), d) ⊎ Contains new t
  here_or_after u v d t rest head (inl same) = inr (adds.complete t
      (subst (λ (e : (ℕ × ℕ) × ℕ). IsChangedEnd network cells end w e.0.0 e.0.1 e.1 t) (sym same) head))
  here_or_after u v d t rest head (inr after) = inl after

  pub still_complete : (left rest : List ((ℕ × ℕ) × ℕ)) → left ≡ ((x, y), c) ∷ rest
      → ((u v d t : ℕ) → Contains costs.entries ((u, v), d) → IsChangedEnd network cells end w u v d t
      → Contains left ((u, v), d) ⊎ Contains old t)
      → (u v d t : ℕ) → Contains costs.entries ((u, v), d) → IsChangedEnd network cells end w u v d t
      → Contains rest ((u, v), d) ⊎ Contains new t
  still_complete left rest is before u v d t among head = elim (before u v d t among head) [
    | inl there ↦
        here_or_after u v d t rest head (first_or_after ((x, y), c) rest ((u, v), d)
        (subst (λ (l : List ((ℕ × ℕ) × ℕ)). Contains l ((u, v), d)) is there))
    | inr added ↦ inr (adds.kept t added)
  ]

-- once no entry is left
pub all_ends : {W : Type 0} (network : W → Network) (cells : Cells W) (end : ArcEnd) (w : W)
    (costs : BTreeMap (ℕ × ℕ) ℕ) (left : List ((ℕ × ℕ) × ℕ)) (ends : List ℕ) → left ≡ []
    → ((u v d t : ℕ) → Contains costs.entries ((u, v), d) → IsChangedEnd network cells end w u v d t
    → Contains left ((u, v), d) ⊎ Contains ends t)
    → (t : ℕ) → IsEndOf network cells end w costs t → Contains ends t
all_ends network cells end w costs left ends none before t h =
    let found = IfSome-get cells_total exact_cells costs (h.x, h.y) in
    let among : Contains costs.entries ((h.x, h.y), h.cost) =
    subst (λ o. IfSome o (λ v. Contains costs.entries ((h.x, h.y), v))) h.noted found in
    elim (before h.x h.y h.cost t among h.at) [
      | inl there ↦
          absurd (in_none ((h.x, h.y), h.cost)
          (subst (λ (l : List ((ℕ × ℕ) × ℕ)). Contains l ((h.x, h.y), h.cost)) none there))
      | inr added ↦ added
    ]
