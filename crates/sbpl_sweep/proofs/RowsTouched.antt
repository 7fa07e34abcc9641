-- The cells of bands, and the band of cells that a disc touches in a row.
use Rattle.std.proofs.Common.{◌≡◌, ℕ, ℤ, pos, ◌+◌, ◌*◌, ◌<◌, ◌≤◌, ◌+ℤ◌, inl, inr, ◌⊎◌, List, [], ◌∷◌, ◌++◌, length}
use Rattle.std.proofs.Common.{slice_get, refl, ap, sym, ◌∙◌, arith, subst, Bool, true, false}
use Rattle.std.proofs.lemmas.Bool.{cases_lt}
use Rattle.std.proofs.lemmas.Int.{ints}
use Rattle.std.proofs.lemmas.Option.{slice_get_within}
use Rattle.sbpl_mprim.specs.sbpl_cfg.declared.pose.Pose.{Pose}
use Rattle.sbpl_sweep.specs.declared.band.Band.{Band}
use Rattle.sbpl_sweep.specs.declared.disc.Disc.{Disc}
use Rattle.sbpl_sweep.specs.Sweep.{distance_to_cell}
use Rattle.sbpl_sweep.specs.Reach.{squared_step, IsReach}
use Rattle.sbpl_sweep.specs.Bands.{IsIn, IsCovered, IsNear, IsDisc, row_beside, gap_beside, AddsRows}
use Rattle.sbpl_sweep.proofs.Distances.{beside, distance_own, distance_after, distance_before}
use Rattle.sbpl_sweep.proofs.Lists.{before_push, at_push, from_push}
use Rattle.sbpl_sweep.proofs.Steps.{square_le}

-- ---- one more band

pub covered_kept : (old new : List Band) (b : Band) (x y : ℤ) → new ≡ old ++ b ∷ []
    → IsCovered old x y → IsCovered new x y
covered_kept old new b x y added c = record {
  number = c.number;
  band = c.band;
  stands =
      ap (λ l. slice_get l c.number) added
      ∙ before_push old b c.number (slice_get_within old c.number c.band c.stands) ∙ c.stands;
  inside = c.inside;
}

pub covered_last : (old new : List Band) (b : Band) (x y : ℤ) → new ≡ old ++ b ∷ [] → IsIn b x y → IsCovered new x y
covered_last old new b x y added inside = record {
  number = length old;
  band = b;
  stands = ap (λ l. slice_get l (length old)) added ∙ at_push old b (length old) refl;
  inside = inside;
}

pub covered_from : (old new : List Band) (b : Band) (x y : ℤ) → new ≡ old ++ b ∷ [] → IsCovered new x y
    → IsCovered old x y ⊎ IsIn b x y
covered_from old new b x y added c =
    elim (from_push old b c.number c.band (ap (λ l. slice_get l c.number) (sym added) ∙ c.stands)) [
      | inl stands ↦ inl (record { number = c.number; band = c.band; stands = stands; inside = c.inside })
      | inr last ↦ inr (subst (λ z. IsIn z x y) (sym last.1) c.inside)
    ]

-- ---- one row

-- two distances are those of a point nearer than a radius
abbrev pub AreNear : ℕ → ℕ → ℕ → Type 0
AreNear a b r = a * a + b * b < r * r

pub near_by : (a b r c d s : ℕ) → a ≡ c → b ≡ d → r ≡ s → AreNear c d s → AreNear a b r
near_by a b r c d s same_a same_b same_r h =
    subst (λ z. AreNear z b r) (sym same_a)
    (subst (λ z. AreNear c z r) (sym same_b) (subst (λ z. AreNear c d z) (sym same_r) h))

-- a band of a row that a disc reaches, at a distance
pub record IsRow (cell : ℤ) (radius : ℕ) (p : Pose) (d : Disc) (b : Band) (most left right away : ℕ) : Type 0 where
  pub disc : IsDisc cell radius p d
  pub before : IsReach d.column.before d.side most left
  pub after : IsReach d.column.after d.side most right
  pub distance : distance_to_cell cell p.y b.y ≡ away
  pub rest : most + away * away ≡ d.radius * d.radius
  pub first : b.first +ℤ pos left ≡ d.column.own
  pub last : b.last ≡ d.column.own +ℤ pos right

module _ (cell : ℤ) (radius : ℕ) (p : Pose) (d : Disc) (b : Band) (most left right away : ℕ)
    (row : IsRow cell radius p d b most left right away) where
  near_at : (x : ℤ) (c : ℕ) → distance_to_cell cell p.x x ≡ c → c * c < most → IsNear cell radius p x b.y
  near_at x c there less =
      near_by (distance_to_cell cell p.x x) (distance_to_cell cell p.y b.y) (2 * radius) c away d.radius there
      row.distance (sym row.disc.twice)
      (let rest = row.rest in omega arith)

  near_from : (x : ℤ) (c : ℕ) → distance_to_cell cell p.x x ≡ c → IsNear cell radius p x b.y → c * c < most
  near_from x c there near =
      let so =
      near_by c away d.radius (distance_to_cell cell p.x x) (distance_to_cell cell p.y b.y) (2 * radius) (sym there)
      (sym row.distance) row.disc.twice near in
      let rest = row.rest in
      omega (arith, so, rest)

  pub in_row : (x y : ℤ) → IsIn b x y → (x ≡ d.column.own) ⊎ IsNear cell radius p x b.y
  in_row x y inside = elim (beside x d.column.own) [
    | inl own ↦ inl own
    | inr (inl (n, is)) ↦
        let within : n < right = omega (arith, ints, row.last, inside.to, is) in
        inr (near_at x (d.column.after + d.side * n) (ap (λ z. distance_to_cell cell p.x z) is
        ∙ distance_after cell p.x d.side d.column row.disc.side_is row.disc.column n) (row.after.reached n within))
    | inr (inr (n, is)) ↦
        let within : n < left = omega (arith, ints, row.first, inside.from, is) in
        inr (near_at x (d.column.before + d.side * n) (ap (λ z. distance_to_cell cell p.x z) is
        ∙ distance_before cell p.x d.side d.column row.disc.side_is row.disc.column n) (row.before.reached n within))
  ]

  pub own_is_near : 0 < most → (x : ℤ) → x ≡ d.column.own → IsNear cell radius p x b.y
  own_is_near some x own =
      near_at x 0 (ap (λ z. distance_to_cell cell p.x z) own
      ∙ distance_own cell p.x d.side d.column row.disc.side_is row.disc.column) (omega arith)

  pub near_in_row : (x : ℤ) → IsNear cell radius p x b.y → IsIn b x b.y
  near_in_row x near = elim (beside x d.column.own) [
    | inl own ↦
        record { row = refl; from = omega (arith, ints, row.first, own); to = omega (arith, ints, row.last, own) }
    | inr (inl (n, is)) ↦
        let less =
        near_from x (d.column.after + d.side * n) (ap (λ z. distance_to_cell cell p.x z) is
        ∙ distance_after cell p.x d.side d.column row.disc.side_is row.disc.column n) near in
        let within : n < right = elim (cases_lt n right) [
          | inl less_n ↦ less_n
          | inr more_n ↦ absurd (let far = row.after.beyond n more_n in omega (arith, less, far))
        ] in
        record { row = refl; from = omega (arith, ints, row.first, is); to = omega (arith, ints, row.last, is, within) }
    | inr (inr (n, is)) ↦
        let less =
        near_from x (d.column.before + d.side * n) (ap (λ z. distance_to_cell cell p.x z) is
        ∙ distance_before cell p.x d.side d.column row.disc.side_is row.disc.column n) near in
        let within : n < left = elim (cases_lt n left) [
          | inl less_n ↦ less_n
          | inr more_n ↦ absurd (let far = row.before.beyond n more_n in omega (arith, less, far))
        ] in
        record { row = refl; from = omega (arith, ints, row.first, is, within); to = omega (arith, ints, row.last, is) }
  ]

-- ---- the rows to one side

pub row_distance : (cell : ℤ) (radius : ℕ) (p : Pose) (d : Disc) → IsDisc cell radius p d → (upward : Bool) (n : ℕ)
    → distance_to_cell cell p.y (row_beside upward d.row.own n) ≡ gap_beside upward d.row + d.side * n
row_distance cell radius p d disc true n = distance_after cell p.y d.side d.row disc.side_is disc.row n
row_distance cell radius p d disc false n = distance_before cell p.y d.side d.row disc.side_is disc.row n

-- how far a disc reaches from some row on
pub record IsNarrowed (d : Disc) (gap n left right : ℕ) : Type 0 where
  pub left_inside : d.column.before + d.side * left ≤ 4000000000000
  pub right_inside : d.column.after + d.side * right ≤ 4000000000000
  pub before : (k : ℕ) → left ≤ k
      → d.radius * d.radius ≤ squared_step d.column.before d.side k + squared_step gap d.side n
  pub after : (k : ℕ) → right ≤ k
      → d.radius * d.radius ≤ squared_step d.column.after d.side k + squared_step gap d.side n

pub narrowed_more : (d : Disc) (gap n most left right : ℕ) → most + squared_step gap d.side n ≡ d.radius * d.radius
    → IsReach d.column.before d.side most left → IsReach d.column.after d.side most right
    → d.column.before + d.side * left ≤ 4000000000000 → d.column.after + d.side * right ≤ 4000000000000
    → IsNarrowed d gap (n + 1) left right
narrowed_more d gap n most left right rest before after left_inside right_inside =
    let further = square_le (gap + d.side * n) (gap + d.side * (n + 1)) (omega arith) in
    record {
      left_inside = left_inside;
      right_inside = right_inside;
      before = λ k h. let far = before.beyond k h in omega (arith, far, further, rest);
      after = λ k h. let far = after.beyond k h in omega (arith, far, further, rest);
    }

pub rows_none : (cell : ℤ) (radius : ℕ) (p : Pose) (upward : Bool) (own : ℤ) (old : List Band)
    → AddsRows cell radius p upward own 0 old old
rows_none cell radius p upward own old =
    record { kept = λ x y c. c; each = λ x y c. inl c; all = λ x n h near. absurd (omega arith) }

pub rows_more : (cell : ℤ) (radius : ℕ) (p : Pose) (d : Disc) (b : Band) (most left right away : ℕ) (upward : Bool)
    (n : ℕ) (old middle new : List Band)
    → IsRow cell radius p d b most left right away → 0 < most → b.y ≡ row_beside upward d.row.own n
    → new ≡ middle ++ b ∷ []
    → AddsRows cell radius p upward d.row.own n old middle → AddsRows cell radius p upward d.row.own (n + 1) old new
rows_more cell radius p d b most left right away upward n old middle new row some at added rows = record {
  kept = λ x y c. covered_kept middle new b x y added (rows.kept x y c);
  each = λ x y c. elim (covered_from middle new b x y added c) [
    | inl before ↦ rows.each x y before
    | inr inside ↦
        inr (subst (λ z. IsNear cell radius p x z) inside.row
        (elim (in_row cell radius p d b most left right away row x y inside) [
          | inl own ↦ own_is_near cell radius p d b most left right away row some x own
          | inr near ↦ near
        ]))
  ];
  all = λ x k h near. elim (cases_lt k n) [
    | inl before ↦ covered_kept middle new b x (row_beside upward d.row.own k) added (rows.all x k before near)
    | inr after ↦
        let last : k ≡ n = omega arith in
        let here : row_beside upward d.row.own k ≡ b.y = ap (λ m. row_beside upward d.row.own m) last ∙ sym at in
        subst (λ z. IsCovered new x z) (sym here) (covered_last middle new b x b.y added
        (near_in_row cell radius p d b most left right away row x (subst (λ z. IsNear cell radius p x z) here near)))
  ];
}
