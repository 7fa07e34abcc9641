-- The cells that judging motions reads, motion by motion.
use Rattle.std.proofs.Common.{◌≡◌, ℕ, zero, suc, ℤ, pos, ◌+◌, ◌-◌, ◌<◌, inl, inr, ◌⊎◌, List, [], ◌∷◌, ◌++◌, length}
use Rattle.std.proofs.Common.{take, map, slice_get, sum_by, Some, refl, ap, sym, ◌∙◌, arith, subst}
use Rattle.std.proofs.lemmas.Bool.{cases_lt}
use Rattle.std.proofs.lemmas.Grind.{common_steps}
use Rattle.std.proofs.lemmas.List.{length-append, length-map}
use Rattle.std.proofs.lemmas.List.Sums.{sum_by_push}
use Rattle.std.proofs.lemmas.Option.{gets, slice_get_within, same_Some, slice_get-get_or}
use Rattle.std.proofs.Math.ListN.{get_or}
use Rattle.sbpl_mprim.specs.sbpl_cfg.declared.pose.Pose.{Pose}
use Rattle.sbpl_mprim.specs.declared.prim.Primitive.{Primitive}
use Rattle.sbpl_mprim.specs.Primitives.{Primitives, IsPrimitive}
use Rattle.sbpl_sweep.specs.declared.cell.Cell.{Cell}
use Rattle.sbpl_sweep.specs.declared.reads.Read.{Read}
use Rattle.sbpl_sweep.specs.Gathered.{AreInOrder}
use Rattle.sbpl_sweep.specs.Widths.{cell_count}
use Rattle.sbpl_sweep.specs.Sweep.{EndsAreCentres}
use Rattle.sbpl_sweep.specs.Centres.{AreSwept}
use Rattle.sbpl_sweep.specs.Tables.{HaveSwept}
use Rattle.sbpl_sweep.specs.Reads.{IsRead, HaveReads}
use Rattle.sbpl_sweep.specs.Reads.IsRead.{at_source, at_target, at_centre, at_swept}
use Rattle.sbpl_sweep.specs.ReadTables.{IsAmong, source_cell, read_by, IsReadOf, AddsSource}
use Rattle.sbpl_sweep.specs.ReadTables.{AreReadCells, AddsReads, AreReadsOf}
use Rattle.sbpl_sweep.proofs.Listings.{later, not_before_itself}
use Rattle.sbpl_sweep.proofs.Lists.{made_at, made_from, there_is, in_first, in_second, from_either}

-- ---- the cells of one motion

-- in a list that is in order no cell stands twice
pub once_in_order : (cells : List Cell) → AreInOrder cells → (i j : ℕ) (c : Cell) → slice_get cells i ≡ Some c
    → slice_get cells j ≡ Some c → i ≡ j
once_in_order cells ordered i j c at_i at_j = elim (cases_lt i j) [
  | inl less ↦ absurd (not_before_itself c (later cells ordered i j c c less at_i at_j))
  | inr more ↦ elim (cases_lt j i) [
    | inl less ↦ absurd (not_before_itself c (later cells ordered j i c c less at_j at_i))
    | inr same ↦ omega arith
  ]
]

-- the source cell is swept
read_swept : (cells : List Cell) → AreInOrder cells → IsAmong cells source_cell → AreReadCells cells cells
read_swept cells ordered among = record {
  each = λ i c at. inr (i, at);
  all = λ c read. elim read [
    | inl same ↦ subst (λ z. IsAmong cells z) (sym same) among
    | inr there ↦ there
  ];
  once = once_in_order cells ordered;
  few = omega arith;
}

-- the source cell is not swept, and stands first
module _ (cells : List Cell) (ordered : AreInOrder cells) (away : IsAmong cells source_cell → ⊥) where
  each_read : (i : ℕ) (c : Cell) → slice_get (source_cell ∷ cells) i ≡ Some c → IsReadOf cells c
  each_read zero c at = inl (sym (same_Some source_cell c at))
  each_read (suc i) c at = inr (i, at)

  once_read : (i j : ℕ) (c : Cell) → slice_get (source_cell ∷ cells) i ≡ Some c
      → slice_get (source_cell ∷ cells) j ≡ Some c → i ≡ j
  once_read zero zero c at_i at_j = refl
  once_read zero (suc j) c at_i at_j = absurd (away (j, at_j ∙ sym at_i))
  once_read (suc i) zero c at_i at_j = absurd (away (i, at_i ∙ sym at_j))
  once_read (suc i) (suc j) c at_i at_j = ap (λ n. suc n) (once_in_order cells ordered i j c at_i at_j)

  read_first : AreReadCells cells (source_cell ∷ cells)
  read_first = record {
    each = each_read;
    all = λ c read. elim read [
      | inl same ↦ (0, ap (λ z. Some z) (sym same))
      | inr there ↦ (suc there.0, there.1)
    ];
    once = once_read;
    few = omega arith;
  }

-- the source cell's read, and then those of the swept cells
pub reads_added : (prim : ℕ) (cells : List Cell) (old mid new : List Read) → AreInOrder cells
    → AddsSource prim cells old mid → new ≡ mid ++ map (read_by prim) cells → AddsReads prim cells old new
reads_added prim cells old mid new ordered (inl (same, among)) added = record {
  cells = cells;
  are = read_swept cells ordered among;
  added = added ∙ ap (λ l. l ++ map (read_by prim) cells) same;
}
reads_added prim cells old mid new ordered (inr (pushed, away)) added = record {
  cells = source_cell ∷ cells;
  are = read_first cells ordered away;
  added =
      added ∙ ap (λ l. l ++ map (read_by prim) cells) pushed
      ∙ push_append old (read_by prim source_cell) (map (read_by prim) cells);
} where
  push_append : (xs : List Read) (y : Read) (ys : List Read) → (xs ++ y ∷ []) ++ ys ≡ xs ++ y ∷ ys
  push_append [] y ys = refl
  push_append (x ∷ xs) y ys = ap (λ l. x ∷ l) (push_append xs y ys)

-- ---- motion by motion

module _ (table : List (List Cell)) (n : ℕ) (old new : List Read) (cells : List Cell)
    (at : slice_get table n ≡ Some cells) (so_far : AreReadsOf table n old) (adds : AddsReads n cells old new) where
  -- a read was there before or is one of the last motion's
  where_read : (j : ℕ) (r : Read) → slice_get new j ≡ Some r
      → (slice_get old j ≡ Some r)
      ⊎ ((i : ℕ) × (j ≡ length old + i) × ((c : Cell) × (slice_get adds.cells i ≡ Some c) × (read_by n c ≡ r)))
  where_read j r there =
      elim (from_either old (map (read_by n) adds.cells) j r (ap (λ l. slice_get l j) (sym adds.added) ∙ there)) [
        | inl front ↦ inl front
        | inr last ↦ inr (last.0, last.1, made_from (read_by n) adds.cells last.0 r last.2)
      ]

  read_kept : (j : ℕ) (r : Read) → slice_get old j ≡ Some r → slice_get new j ≡ Some r
  read_kept j r there =
      ap (λ l. slice_get l j) adds.added
      ∙ in_first old (map (read_by n) adds.cells) j (slice_get_within old j r there) ∙ there

  read_last : (c : Cell) → IsAmong adds.cells c → (j : ℕ) × (slice_get new j ≡ Some (read_by n c))
  read_last c (i, there) = (
    length old + i,
    ap (λ l. slice_get l (length old + i)) adds.added
        ∙ in_second old (map (read_by n) adds.cells) i (length old + i) refl ∙ made_at (read_by n) adds.cells i c there,
  )

  each_more : (j : ℕ) (r : Read) → slice_get new j ≡ Some r
      → (r.prim < n + 1) × ((swept : List Cell) → slice_get table r.prim ≡ Some swept → IsReadOf swept r.cell)
  each_more j r there = elim (where_read j r there) [
    | inl front ↦ let was = so_far.each j r front in let less = was.0 in (omega (arith, less), was.1)
    | inr last ↦
        let c = last.2.0 in
        let same = last.2.2 in
        let place : n ≡ r.prim = ap (λ (q : Read). q.prim) same in (
          omega (arith, place),
          λ swept stands.
              let list = same_Some cells swept (sym at ∙ ap (slice_get table) place ∙ stands) in
              subst (λ l. IsReadOf l r.cell) list
              (subst (λ z. IsReadOf cells z) (ap (λ (q : Read). q.cell) same) (adds.are.each last.0 c last.2.1)),
        )
  ]

  all_more : (i : ℕ) (swept : List Cell) (c : Cell) → i < n + 1 → slice_get table i ≡ Some swept → IsReadOf swept c
      → (j : ℕ) × (slice_get new j ≡ Some (read_by i c))
  all_more i swept c h there read = elim (cases_lt i n) [
    | inl less ↦ let was = so_far.all i swept c less there read in (was.0, read_kept was.0 (read_by i c) was.1)
    | inr more ↦
        let last : i ≡ n = omega arith in
        let list = same_Some swept cells (sym there ∙ ap (slice_get table) last ∙ at) in
        let stands = read_last c (adds.are.all c (subst (λ l. IsReadOf l c) list read)) in
        (stands.0, stands.1 ∙ ap (λ m. Some (read_by m c)) (sym last))
  ]

  front_not_last : (r : Read) (j : ℕ) (c : Cell) → slice_get old j ≡ Some r → read_by n c ≡ r → ⊥
  front_not_last r j c front same =
      let less = (so_far.each j r front).0 in
      let place : n ≡ r.prim = ap (λ (q : Read). q.prim) same in
      absurd (omega (arith, less, place))

  once_more : (j k : ℕ) (r : Read) → slice_get new j ≡ Some r → slice_get new k ≡ Some r → j ≡ k
  once_more j k r at_j at_k = elim (where_read j r at_j) [
    | inl front ↦ elim (where_read k r at_k) [
      | inl too ↦ so_far.once j k r front too
      | inr last ↦ absurd (front_not_last r j last.2.0 front last.2.2)
    ]
    | inr last ↦ elim (where_read k r at_k) [
      | inl front ↦ absurd (front_not_last r k last.2.0 front last.2.2)
      | inr too ↦
          let same : too.2.0 ≡ last.2.0 = ap (λ (q : Read). q.cell) (too.2.2 ∙ sym last.2.2) in
          let place = adds.are.once last.0 too.0 last.2.0 last.2.1 (too.2.1 ∙ ap (λ z. Some z) same) in
          last.1 ∙ ap (λ i. length old + i) place ∙ sym too.1
    ]
  ]

  pub reads_more : AreReadsOf table (n + 1) new
  reads_more = record {
    each = each_more;
    all = all_more;
    once = once_more;
    few =
        let count = ap length adds.added ∙ length-append old (map (read_by n) adds.cells) in
        let same = length-map adds.cells (read_by n) in
        let next : take (n + 1) table ≡ take n table ++ cells ∷ [] = grind (arith, common_steps, gets) in
        let sum = ap (sum_by cell_count) next ∙ sum_by_push cell_count (take n table) cells in
        omega (arith, count, same, sum, so_far.few, adds.are.few);
  }

-- ---- the reads of primitives

-- the end cell is a centre cell, since the last pose lies there
pub end_is_centre : EndsAreCentres
end_is_centre cell headings p good =
    let last : ℕ = length p.poses - 1 in
    let some = good.some_pose in
    let default : Pose = record { x = pos 0; y = pos 0; theta = pos 0 } in
    let there = slice_get-get_or p.poses last default (omega arith) in
    let end = good.end (get_or p.poses last default) last (omega arith) there in
    record { number = last; pose = get_or p.poses last default; stands = there; column = end.x; row = end.y }

module _ (cell : ℤ) (radius : ℕ) (p : Primitive) (cells : List Cell) (are : AreSwept cell radius p.poses cells) where
  is_read : (c : Cell) → IsReadOf cells c → IsRead cell radius p c.x c.y
  is_read c (inl same) = at_source (ap (λ (z : Cell). z.x) same) (ap (λ (z : Cell). z.y) same)
  is_read c (inr (i, at)) = at_swept (are.each i c at)

  is_read_of : (headings : ℕ) → IsPrimitive cell headings p → (x y : ℤ) → IsRead cell radius p x y
      → IsReadOf cells (record { y = y; x = x })
  is_read_of headings good x y (at_source column row) =
      let by_row : ℤ → Cell = λ v. record { y = v; x = x } in
      let by_column : ℤ → Cell = λ v. record { y = pos 0; x = v } in
      inl (ap by_row row ∙ ap by_column column)
  is_read_of headings good x y (at_target column row) =
      let end = are.all p.dx p.dy (inl (end_is_centre cell headings p good)) in
      let by_row : ℤ → Cell = λ v. record { y = v; x = p.dx } in
      let by_column : ℤ → Cell = λ v. record { y = y; x = v } in
      inr (end.0, end.1 ∙ ap (λ z. Some z) (sym (ap by_column column ∙ ap by_row row)))
  is_read_of headings good x y (at_centre lies) = inr (are.all x y (inl lies))
  is_read_of headings good x y (at_swept touched) = inr (are.all x y touched)

pub have_reads : (prims : Primitives) (radius : ℕ) (table : List (List Cell)) (reads : List Read)
    → ((i : ℕ) (p : Primitive) → slice_get prims.items i ≡ Some p → IsPrimitive prims.cell prims.headings p)
    → HaveSwept prims radius table → AreReadsOf table (length table) reads → HaveReads prims radius reads
have_reads prims radius table reads good have are = record {
  each = λ j r at.
      let read = are.each j r at in
      let less = read.0 in
      let count = have.count in
      let p = there_is prims.items r.prim (omega (arith, less, count)) in
      let entry = have.each r.prim p.0 p.1 in
      (p.0, p.1, is_read prims.cell radius p.0 entry.0 entry.2 r.cell (read.1 entry.0 entry.1));
  all = λ i p x y at read.
      let entry = have.each i p at in
      let within = slice_get_within table i entry.0 entry.1 in
      are.all i entry.0 (record { y = y; x = x }) within entry.1
      (is_read_of prims.cell radius p entry.0 entry.2 prims.headings (good i p at) x y read);
  once = are.once;
}

-- the cells that a primitive sweeps are in order
pub swept_in_order : (prims : Primitives) (radius : ℕ) (table : List (List Cell)) → HaveSwept prims radius table
    → (i : ℕ) (cells : List Cell) → slice_get table i ≡ Some cells → AreInOrder cells
swept_in_order prims radius table have i cells at =
    let within = slice_get_within table i cells at in
    let count = have.count in
    let p = there_is prims.items i (omega (arith, within, count)) in
    let entry = have.each i p.0 p.1 in
    let same = same_Some entry.0 cells (sym entry.1 ∙ at) in
    subst (λ l. AreInOrder l) same entry.2.ordered
