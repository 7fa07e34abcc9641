-- Cells that are listed in order, band by band.
use Rattle.std.proofs.Common.{◌≡◌, ℕ, zero, suc, ℤ, pos, ◌+◌, ◌-◌, ◌<◌, ◌≤◌, ◌+ℤ◌, ◌<ℤ◌, ◌≤ℤ◌, inl, inr, ◌⊎◌, List, []}
use Rattle.std.proofs.Common.{◌∷◌, ◌++◌, length, map, slice_get, Some, Result, Err, refl, ap, sym, ◌∙◌, arith, subst}
use Rattle.std.proofs.lemmas.Bool.{cases_lt}
use Rattle.std.proofs.lemmas.Int.{ints}
use Rattle.std.proofs.lemmas.List.{length_push}
use Rattle.std.proofs.lemmas.Option.{slice_get_within, same_Some, none-some}
use Rattle.sbpl_sweep.specs.declared.band.Band.{Band}
use Rattle.sbpl_sweep.specs.declared.cell.Cell.{Cell}
use Rattle.sbpl_sweep.specs.Bands.{IsIn, IsCovered}
use Rattle.sbpl_sweep.specs.Centres.{IsBefore}
use Rattle.sbpl_sweep.specs.Widths.{most_cells}
use Rattle.sbpl_sweep.specs.Gathered.{IsListed, AreInOrder, AreCovered, GoesOn, IsNext, AddsBand, AreSortedBands}
use Rattle.sbpl_sweep.specs.Gathered.{CoverTooMany, CoverTheSame, IsStopOf}
use Rattle.sbpl_sweep.specs.declared.stop.SweepStop.{SweepStop}
use Rattle.sbpl_sweep.specs.declared.stop.SweepStop.TheVariants.{TooMany, NoMemory}
use Rattle.sbpl_sweep.proofs.Distances.{below_or_not, below_or_equal}
use Rattle.sbpl_sweep.proofs.Lists.{before_push, at_push, from_push, made_at, made_from, there_is}

-- ---- the order of cells

pub before_before : (a b c : Cell) → IsBefore a b → IsBefore b c → IsBefore a c
before_before a b c (inl h) (inl k) = inl (omega (arith, ints, h, k))
before_before a b c (inl h) (inr k) = inl (omega (arith, ints, h, k.0))
before_before a b c (inr h) (inl k) = inl (omega (arith, ints, h.0, k))
before_before a b c (inr h) (inr k) = inr (h.0 ∙ k.0, omega (arith, ints, h.1, k.1))

pub not_before_itself : (a : Cell) → IsBefore a a → ⊥
not_before_itself a (inl h) = absurd (omega (arith, ints, h))
not_before_itself a (inr h) = absurd (omega (arith, ints, h.1))

later_by : (cells : List Cell) → AreInOrder cells → (d i j : ℕ) (a b : Cell) → j ≡ i + suc d
    → slice_get cells i ≡ Some a → slice_get cells j ≡ Some b → IsBefore a b
later_by cells ordered zero i j a b e at_i at_j = ordered i a b at_i (ap (slice_get cells) (omega arith) ∙ at_j)
later_by cells ordered (suc d) i j a b e at_i at_j =
    let within = slice_get_within cells j b at_j in
    let next = there_is cells (i + 1) (omega arith) in
    before_before a next.0 b (ordered i a next.0 at_i next.1)
    (later_by cells ordered d (i + 1) j next.0 b (omega arith) next.1 at_j)

pub later : (cells : List Cell) → AreInOrder cells → (i j : ℕ) (a b : Cell) → i < j → slice_get cells i ≡ Some a
    → slice_get cells j ≡ Some b → IsBefore a b
later cells ordered i j a b h at_i at_j = later_by cells ordered (j - (i + 1)) i j a b (omega arith) at_i at_j

-- ---- one more cell

pub listed_kept : (old new : List Cell) (c : Cell) (x y : ℤ) → new ≡ old ++ c ∷ [] → IsListed old x y → IsListed new x y
listed_kept old new c x y added l = record {
  number = l.number;
  stands =
      ap (λ z. slice_get z l.number) added
      ∙ before_push old c l.number (slice_get_within old l.number (record { y = y; x = x }) l.stands) ∙ l.stands;
}

pub listed_last : (old new : List Cell) (x y : ℤ) → new ≡ old ++ (record { y = y; x = x }) ∷ [] → IsListed new x y
listed_last old new x y added = record {
  number = length old;
  stands = ap (λ z. slice_get z (length old)) added ∙ at_push old (record { y = y; x = x }) (length old) refl;
}

pub listed_from : (old new : List Cell) (c : Cell) (x y : ℤ) → new ≡ old ++ c ∷ [] → IsListed new x y
    → IsListed old x y ⊎ (c ≡ record { y = y; x = x })
listed_from old new c x y added l =
    elim (from_push old c l.number (record { y = y; x = x }) (ap (λ z. slice_get z l.number) (sym added) ∙ l.stands)) [
      | inl stands ↦ inl (record { number = l.number; stands = stands })
      | inr last ↦ inr last.1
    ]

pub in_order_push : (old new : List Cell) (c : Cell) → new ≡ old ++ c ∷ [] → AreInOrder old
    → ((x y : ℤ) → IsListed old x y → IsBefore (record { y = y; x = x }) c) → AreInOrder new
in_order_push old new c added ordered before = λ i a b at_i at_j.
    let next = ap (λ z. slice_get z (i + 1)) (sym added) ∙ at_j in
    let within = slice_get_within (old ++ c ∷ []) (i + 1) b next in
    let at_a =
    sym (before_push old c i (omega (arith, length_push old c))) ∙ ap (λ z. slice_get z i) (sym added) ∙ at_i in
    elim (from_push old c (i + 1) b next) [
      | inl stands ↦ ordered i a b at_a stands
      | inr last ↦ subst (λ z. IsBefore a z) last.1 (before a.x a.y (record { number = i; stands = at_a }))
    ]

-- ---- where a band goes on

module _ (cells : List Cell) (ordered : AreInOrder cells) (last : Cell)
    (at : slice_get cells (length cells - 1) ≡ Some last) where
  at_or_before_last : (x y : ℤ) → IsListed cells x y
      → (last ≡ record { y = y; x = x }) ⊎ IsBefore (record { y = y; x = x }) last
  at_or_before_last x y l =
      let within = slice_get_within cells l.number (record { y = y; x = x }) l.stands in
      elim (cases_lt l.number (length cells - 1)) [
        | inl before ↦
            inr (later cells ordered l.number (length cells - 1) (record { y = y; x = x }) last before l.stands at)
        | inr after ↦
            let same : length cells - 1 ≡ l.number = omega arith in
            inl (same_Some last (record { y = y; x = x }) (sym at ∙ ap (slice_get cells) same ∙ l.stands))
      ]

  last_is_listed : IsListed cells last.x last.y
  last_is_listed = record { number = length cells - 1; stands = at }

  pub next_after_last : (b : Band) → GoesOn cells b → last.y ≡ b.y → b.first ≤ℤ last.x
      → IsNext cells b (last.x +ℤ pos 1)
  next_after_last b goes_on row after = record {
    from = omega (arith, ints);
    listed = λ x from to.
        goes_on.filled x last.x (subst (λ z. IsListed cells last.x z) row last_is_listed) from (omega (arith, ints));
    after = λ x y l. elim (at_or_before_last x y l) [
      | inl same ↦
          inr (sym (ap (λ (z : Cell). z.y) same) ∙ row, let e = ap (λ (z : Cell). z.x) same in omega (arith, ints, e))
      | inr (inl less) ↦ inl (omega (arith, ints, less, row))
      | inr (inr less) ↦ inr (less.0 ∙ row, omega (arith, ints, less.1))
    ];
  }

  pub next_at_start : (b : Band) → GoesOn cells b → ((last.y ≡ b.y) × (b.first ≤ℤ last.x) → ⊥) → IsNext cells b b.first
  next_at_start b goes_on apart = record {
    from = omega (arith, ints);
    listed = λ x from to. absurd (omega (arith, ints));
    after = λ x y l.
        let row = goes_on.rows x y l in
        let last_row = goes_on.rows last.x last.y last_is_listed in
        let close : (last.y ≡ b.y) → last.x <ℤ b.first = λ same. elim (below_or_not last.x b.first) [
          | inl less_x ↦ less_x
          | inr more_x ↦ absurd (apart (same, more_x))
        ] in
        elim (at_or_before_last x y l) [
          | inl same ↦
              let same_x = ap (λ (z : Cell). z.x) same in
              let same_y = ap (λ (z : Cell). z.y) same in
              elim (below_or_equal y b.y row) [
                | inl less_y ↦ inl less_y
                | inr equal ↦ inr (equal, let near = close (same_y ∙ equal) in omega (arith, ints, near, same_x))
              ]
          | inr (inl less) ↦ inl (omega (arith, ints, less, last_row))
          | inr (inr less) ↦ elim (below_or_equal y b.y row) [
            | inl less_y ↦ inl less_y
            | inr equal ↦ inr (equal, let near = close (sym less.0 ∙ equal) in omega (arith, ints, near, less.1))
          ]
        ];
  }

-- ---- the cells of a band

pub band_none : (cells : List Cell) (b : Band) → AreInOrder cells → AddsBand cells b cells
band_none cells b ordered = record { kept = λ x y l. l; each = λ x y l. inl l; ordered = ordered }

pub band_more : (old middle new : List Cell) (b : Band) (x : ℤ) → new ≡ middle ++ (record { y = b.y; x = x }) ∷ []
    → x ≤ℤ b.last → AddsBand old b middle → IsNext middle b x → AddsBand old b new
band_more old middle new b x added to band next = record {
  kept = λ u v l. listed_kept middle new (record { y = b.y; x = x }) u v added (band.kept u v l);
  each = λ u v l. elim (listed_from middle new (record { y = b.y; x = x }) u v added l) [
    | inl before ↦ band.each u v before
    | inr same ↦
        let same_x = ap (λ (z : Cell). z.x) same in
        let same_y = ap (λ (z : Cell). z.y) same in
        let from = next.from in
        inr (record { row = same_y; from = omega (arith, ints, from, same_x); to = omega (arith, ints, to, same_x) })
  ];
  ordered = in_order_push middle new (record { y = b.y; x = x }) added band.ordered next.after;
}

pub next_more : (middle new : List Cell) (b : Band) (x : ℤ) → new ≡ middle ++ (record { y = b.y; x = x }) ∷ []
    → IsNext middle b x → IsNext new b (x +ℤ pos 1)
next_more middle new b x added next = record {
  from = let from = next.from in omega (arith, ints, from);
  listed = λ u from to. elim (below_or_equal (u +ℤ pos 1) (x +ℤ pos 1) to) [
    | inl less_u ↦
        listed_kept middle new (record { y = b.y; x = x }) u b.y added (next.listed u from (omega (arith, ints)))
    | inr equal ↦
        let same : x ≡ u = omega (arith, ints) in
        subst (λ z. IsListed new z b.y) same (listed_last middle new x b.y added)
  ];
  after = λ u v l. elim (listed_from middle new (record { y = b.y; x = x }) u v added l) [
    | inl before ↦
        before_before (record { y = v; x = u }) (record { y = b.y; x = x }) (record { y = b.y; x = x +ℤ pos 1 })
        (next.after u v before) (inr (refl, omega (arith, ints)))
    | inr same ↦ inr (sym (ap (λ (z : Cell). z.y) same), let e = ap (λ (z : Cell). z.x) same in omega (arith, ints, e))
  ];
}

pub all_of_band : (cells : List Cell) (b : Band) (next : ℤ) → IsNext cells b next → b.last <ℤ next → (x : ℤ)
    → IsIn b x b.y → IsListed cells x b.y
all_of_band cells b next is_next past x inside =
    is_next.listed x inside.from (let to = inside.to in omega (arith, ints, to, past))

-- ---- band after band

-- a cell is in one of the first bands
pub record IsCoveredBefore (bands : List Band) (i : ℕ) (x y : ℤ) : Type 0 where
  pub number : ℕ
  pub below : number < i
  pub band : Band
  pub stands : slice_get bands number ≡ Some band
  pub inside : IsIn band x y

-- the cells of the first bands are listed
pub record AreListedBefore (bands : List Band) (i : ℕ) (cells : List Cell) : Type 0 where
  pub each : (x y : ℤ) → IsListed cells x y → IsCoveredBefore bands i x y
  pub all : (x y : ℤ) → IsCoveredBefore bands i x y → IsListed cells x y
  pub ordered : AreInOrder cells
  pub few : length cells ≤ most_cells

pub covered_before : (bands : List Band) (i : ℕ) (x y : ℤ) → IsCoveredBefore bands i x y → IsCovered bands x y
covered_before bands i x y c = record { number = c.number; band = c.band; stands = c.stands; inside = c.inside }

pub covered_below : (bands : List Band) (i : ℕ) (x y : ℤ) → length bands ≤ i → IsCovered bands x y
    → IsCoveredBefore bands i x y
covered_below bands i x y end c =
    let within = slice_get_within bands c.number c.band c.stands in
    record { number = c.number; below = omega arith; band = c.band; stands = c.stands; inside = c.inside }

pub goes_on : (bands : List Band) (i : ℕ) (b : Band) (cells : List Cell) → slice_get bands i ≡ Some b
    → AreSortedBands bands → ((x y : ℤ) → IsCovered bands x y → x ≤ℤ pos 1000000000000000)
    → AreListedBefore bands i cells → GoesOn cells b
goes_on bands i b cells at sorted bounded listed = record {
  rows = λ x y l.
      let c = listed.each x y l in
      let row = c.inside.row in
      elim (sorted c.number i c.band b c.below c.stands at) [
        | inl less ↦ omega (arith, ints, less, row)
        | inr same ↦ omega (arith, ints, same.0, row)
      ];
  filled = λ x z l from to.
      let c = listed.each z b.y l in
      let row = c.inside.row in
      let end = c.inside.to in
      elim (sorted c.number i c.band b c.below c.stands at) [
        | inl less ↦ absurd (omega (arith, ints, less, row))
        | inr same ↦ listed.all x b.y (record {
          number = c.number;
          below = c.below;
          band = c.band;
          stands = c.stands;
          inside = record { row = row; from = omega (arith, ints, same.1, from); to = omega (arith, ints, to, end) };
        })
      ];
  bounded = λ x y l. bounded x y (covered_before bands i x y (listed.each x y l));
}

pub listed_more : (bands : List Band) (i : ℕ) (b : Band) (old new : List Cell) → slice_get bands i ≡ Some b
    → AreListedBefore bands i old → AddsBand old b new → ((x : ℤ) → IsIn b x b.y → IsListed new x b.y)
    → length new ≤ most_cells
    → AreListedBefore bands (i + 1) new
listed_more bands i b old new at listed added all few = record {
  each = λ x y l. elim (added.each x y l) [
    | inl before ↦
        let c = listed.each x y before in
        let below = c.below in
        record { number = c.number; below = omega (arith, below); band = c.band; stands = c.stands; inside = c.inside }
    | inr inside ↦ record { number = i; below = omega arith; band = b; stands = at; inside = inside }
  ];
  all = λ x y c. elim (cases_lt c.number i) [
    | inl before ↦
        added.kept x y (listed.all x y
        (record { number = c.number; below = before; band = c.band; stands = c.stands; inside = c.inside }))
    | inr after ↦
        let below = c.below in
        let last : c.number ≡ i = omega (arith, below) in
        let same = same_Some c.band b (sym c.stands ∙ ap (slice_get bands) last ∙ at) in
        let here = subst (λ z. IsIn z x y) same c.inside in
        subst (λ z. IsListed new x z) here.row (all x (record { row = refl; from = here.from; to = here.to }))
  ];
  ordered = added.ordered;
  few = few;
}

-- the first bands cover more cells than a motion may sweep
pub too_many_listed : (bands : List Band) (i : ℕ) (b : Band) (old new : List Cell) → slice_get bands i ≡ Some b
    → AreListedBefore bands i old → AddsBand old b new → most_cells < length new → CoverTooMany bands
too_many_listed bands i b old new at listed added more = (
  new,
  record {
    each = λ x y l. elim (added.each x y l) [
      | inl before ↦ covered_before bands i x y (listed.each x y before)
      | inr inside ↦ record { number = i; band = b; stands = at; inside = inside }
    ];
    ordered = added.ordered;
  },
  more,
)

pub all_listed : (bands : List Band) (i : ℕ) (cells : List Cell) → length bands ≤ i → AreListedBefore bands i cells
    → AreCovered bands cells
all_listed bands i cells end listed = record {
  some = record { each = λ x y l. covered_before bands i x y (listed.each x y l); ordered = listed.ordered };
  all = λ x y c. listed.all x y (covered_below bands i x y end c);
  few = listed.few;
}

pub none_listed : (bands : List Band) → AreListedBefore bands 0 []
none_listed bands = record {
  each = λ x y l. absurd (none-some _ l.stands);
  all = λ x y c. absurd (let below = c.below in omega (arith, below));
  ordered = λ i a b at next. absurd (none-some _ at);
  few = omega arith;
}

abbrev pub stopped : SweepStop → Result (Unit {0}) SweepStop
stopped e = Err e

pub stop_of : (bands : List Band) (e : SweepStop) → (stopped e ≡ stopped TooMany → CoverTooMany bands) → IsStopOf bands e
stop_of bands TooMany more = more refl
stop_of bands NoMemory more = tt

-- bands that cover the same cells
pub same_listed : (old new : List Band) (cells : List Cell) → CoverTheSame old new
    → AreCovered new cells → AreCovered old cells
same_listed old new cells same listed = record {
  some = record { each = λ x y l. same.each x y (listed.some.each x y l); ordered = listed.some.ordered };
  all = λ x y c. listed.all x y (same.kept x y c);
  few = listed.few;
}

pub same_stop : (old new : List Band) (e : SweepStop) → CoverTheSame old new → IsStopOf new e → IsStopOf old e
same_stop old new TooMany same (cells, some, more) =
    (cells, record { each = λ x y l. same.each x y (some.each x y l); ordered = some.ordered }, more)
same_stop old new NoMemory same stop = tt

-- a band with some cell ends where its cells are bounded
pub bounded_band : (bands : List Band) (i : ℕ) (b : Band) → slice_get bands i ≡ Some b
    → ((x y : ℤ) → IsCovered bands x y → x ≤ℤ pos 1000000000000000) → b.first ≤ℤ b.last → b.last ≤ℤ pos 1000000000000000
bounded_band bands i b at bounded some =
    bounded b.last b.y (record {
      number = i;
      band = b;
      stands = at;
      inside = record { row = refl; from = some; to = omega (arith, ints) };
    })

abbrev pub no_band : Band
no_band = record { y = pos 0; first = pos 0; last = pos 0 }

-- the band of one cell
abbrev pub band_at : Cell → Band
band_at c = record { y = c.y; first = c.x; last = c.x }

pub single_kept : (cells : List Cell) (x y : ℤ) → IsListed cells x y → IsCovered (map band_at cells) x y
single_kept cells x y l = record {
  number = l.number;
  band = band_at (record { y = y; x = x });
  stands = made_at band_at cells l.number (record { y = y; x = x }) l.stands;
  inside = record { row = refl; from = omega (arith, ints); to = omega (arith, ints) };
}

pub single_each : (cells : List Cell) (x y : ℤ) → IsCovered (map band_at cells) x y → IsListed cells x y
single_each cells x y c =
    let from = made_from band_at cells c.number c.band c.stands in
    let inside = subst (λ z. IsIn z x y) (sym from.2) c.inside in
    let low = inside.from in
    let high = inside.to in
    let same_x : from.0.x ≡ x = omega (arith, ints, low, high) in
    let by_row : ℤ → Cell = λ v. record { y = v; x = from.0.x } in
    let by_column : ℤ → Cell = λ v. record { y = y; x = v } in
    record {
      number = c.number;
      stands = from.1 ∙ ap (λ (z : Cell). Some z) (ap by_row inside.row ∙ ap by_column same_x);
    }
