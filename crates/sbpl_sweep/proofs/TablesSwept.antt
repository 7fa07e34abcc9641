-- The cells that primitives sweep, primitive by primitive.
use Rattle.std.proofs.Common.{◌≡◌, ℕ, ℤ, ◌+◌, ◌<◌, ◌≤◌, inl, inr, List, [], ◌∷◌, ◌++◌, length, take, sum_by, slice_get}
use Rattle.std.proofs.Common.{Some, refl, ap, sym, ◌∙◌, arith, subst}
use Rattle.std.proofs.lemmas.Bool.{cases_lt}
use Rattle.std.proofs.lemmas.List.{length_push, length-take-le}
use Rattle.std.proofs.lemmas.List.Sums.{sum_by_push}
use Rattle.std.proofs.lemmas.Option.{slice_get_within}
use Rattle.sbpl_mprim.specs.sbpl_cfg.declared.pose.Pose.{Pose}
use Rattle.sbpl_mprim.specs.declared.prim.Primitive.{Primitive}
use Rattle.sbpl_mprim.specs.Primitives.{Primitives}
use Rattle.sbpl_sweep.specs.declared.cell.Cell.{Cell}
use Rattle.sbpl_sweep.specs.declared.fault.SweepFault.{SweepFault}
use Rattle.sbpl_sweep.specs.declared.fault.SweepFault.TheVariants.{TooWide, NoMemory}
use Rattle.sbpl_sweep.specs.Tables.{HaveSwept}
use Rattle.sbpl_sweep.specs.Widths.{AreSomeSwept, cell_count, most_cells_together, IsTooWide}
use Rattle.sbpl_sweep.specs.Widths.{IsFirstTooWide, NoneTooWide, IsCause}
use Rattle.sbpl_sweep.specs.Sweeping.{AreFewSwept, AreFewSweptAt, IsOwnCause}
use Rattle.sbpl_sweep.proofs.Counts.{no_more, together_no_more}
use Rattle.sbpl_sweep.proofs.Lists.{from_push, there_is, taken_at}

-- the first primitives have their swept cells, and none of them is too wide
pub record IsTabled (prims : Primitives) (radius i : ℕ) (table : List (List Cell)) (total : ℕ) : Type 0 where
  pub count : length table ≡ i
  pub each : (k : ℕ) (p : Primitive) (cells : List Cell) → slice_get prims.items k ≡ Some p
      → slice_get table k ≡ Some cells → AreFewSwept prims.cell radius p.poses cells
  pub total_is : total ≡ sum_by cell_count table
  pub few : total ≤ most_cells_together
  pub narrow : (j : ℕ) → j < i → IsTooWide prims radius j → ⊥

-- no list of swept cells is longer than that of all
some_no_more : (cell : ℤ) (radius : ℕ) (poses : List Pose) (some all : List Cell) → AreSomeSwept cell radius poses some
    → AreFewSwept cell radius poses all → length some ≤ length all
some_no_more cell radius poses some all are_some are_all =
    no_more some all are_some.ordered are_all.swept.ordered (λ i c at. are_all.swept.all c.x c.y (are_some.each i c at))

pub added_each : (prims : Primitives) (radius i : ℕ) (table new : List (List Cell)) (total : ℕ) (cells : List Cell)
    → new ≡ table ++ cells ∷ [] → IsTabled prims radius i table total → AreFewSweptAt prims radius i cells
    → (k : ℕ) (p : Primitive) (list : List Cell) → slice_get prims.items k ≡ Some p → slice_get new k ≡ Some list
    → AreFewSwept prims.cell radius p.poses list
added_each prims radius i table new total cells added tabled few k p list at there =
    elim (from_push table cells k list (ap (λ l. slice_get l k) (sym added) ∙ there)) [
      | inl before ↦ tabled.each k p list at before
      | inr last ↦
          let place : k ≡ i = last.0 ∙ tabled.count in
          subst (λ z. AreFewSwept prims.cell radius p.poses z) last.1
          (few p (ap (slice_get prims.items) (sym place) ∙ at))
    ]

-- the lists of the first primitives and of the next one
pub sum_too_wide : (prims : Primitives) (radius i : ℕ) (table : List (List Cell)) (total : ℕ) (cells : List Cell)
    → i < length prims.items → IsTabled prims radius i table total → AreFewSweptAt prims radius i cells
    → most_cells_together < total + length cells → IsFirstTooWide prims radius i
sum_too_wide prims radius i table total cells within tabled few more =
    let count = tabled.count in
    let sum = sum_by_push cell_count table cells in
    let total_is = tabled.total_is in
    record {
      here = inr (
        within,
        (
          table ++ cells ∷ [],
          record {
            count =
                length_push table cells ∙ ap (λ n. n + 1) count
                ∙ sym (length-take-le (i + 1) prims.items (omega arith));
            each = λ k p list at there.
                let all =
                added_each prims radius i table (table ++ cells ∷ []) total cells refl tabled few k p list
                (taken_at prims.items (i + 1) k p at) there in
                record { each = all.swept.each; ordered = all.swept.ordered };
          },
          omega (arith, sum, total_is, more),
        ),
      );
      before = tabled.narrow;
    }

pub own_too_wide : (prims : Primitives) (radius i : ℕ) (table : List (List Cell)) (total : ℕ) (e : SweepFault)
    → IsTabled prims radius i table total → IsOwnCause prims radius i e → IsCause prims radius e
own_too_wide prims radius i table total (TooWide j) tabled cause =
    subst (λ n. IsFirstTooWide prims radius n) (sym cause.0) (record { here = inl cause.1; before = tabled.narrow })
own_too_wide prims radius i table total NoMemory tabled cause = tt

-- one more primitive
pub tabled_more : (prims : Primitives) (radius i : ℕ) (table new : List (List Cell)) (total sum : ℕ) (cells : List Cell)
    → i < length prims.items → IsTabled prims radius i table total → AreFewSweptAt prims radius i cells
    → new ≡ table ++ cells ∷ [] → sum ≡ total + length cells → sum ≤ most_cells_together
    → IsTabled prims radius (i + 1) new sum
tabled_more prims radius i table new total sum cells within tabled few added sum_is sum_few =
    let count : length new ≡ i + 1 = ap length added ∙ length_push table cells ∙ ap (λ n. n + 1) tabled.count in
    let each = added_each prims radius i table new total cells added tabled few in
    let total_is : sum ≡ sum_by cell_count new =
    sum_is ∙ ap (λ n. n + length cells) tabled.total_is ∙ sym (sum_by_push cell_count table cells)
    ∙ ap (sum_by cell_count) (sym added) in
    record {
      count = count;
      each = each;
      total_is = total_is;
      few = sum_few;
      narrow = λ j h wide. elim (cases_lt j i) [
        | inl before ↦ tabled.narrow j before wide
        | inr after ↦
            let last : j ≡ i = omega arith in
            not_wide prims radius i new sum count each total_is sum_few within
            (subst (λ n. IsTooWide prims radius n) last wide)
      ];
    } where
      not_wide : (prims : Primitives) (radius i : ℕ) (new : List (List Cell)) (sum : ℕ) → length new ≡ i + 1
          → ((k : ℕ) (p : Primitive) (list : List Cell) → slice_get prims.items k ≡ Some p → slice_get new k ≡ Some list
          → AreFewSwept prims.cell radius p.poses list)
          → sum ≡ sum_by cell_count new → sum ≤ most_cells_together → i < length prims.items
          → IsTooWide prims radius i → ⊥
      not_wide prims radius i new sum count each total_is few within (inl (p, at, (cells, some, more))) =
          let there = there_is new i (omega arith) in
          let all = each i p there.0 at there.1 in
          let bound = some_no_more prims.cell radius p.poses cells there.0 some all in
          let most = all.few in
          omega (arith, bound, most, more)
      not_wide prims radius i new sum count each total_is few within (inr (inside, (lists, some, more))) =
          let taken = length-take-le (i + 1) prims.items (omega arith) in
          let lists_count = some.count in
          let bound = together_no_more lists new (omega (arith, lists_count, taken, count)) (λ k a b at_a at_b.
          let below = slice_get_within lists k a at_a in
          let motion = there_is (take (i + 1) prims.items) k (omega (arith, below, lists_count)) in
          some_no_more prims.cell radius motion.0.poses a b (some.each k motion.0 a motion.1 at_a)
          (each k motion.0 b (taken_at prims.items (i + 1) k motion.0 motion.1) at_b)) in
          omega (arith, bound, total_is, few, more)

-- all primitives
pub tabled_all : (prims : Primitives) (radius i : ℕ) (table : List (List Cell)) (total : ℕ) → i ≡ length prims.items
    → IsTabled prims radius i table total → HaveSwept prims radius table
tabled_all prims radius i table total end tabled = record {
  count = tabled.count ∙ end;
  each = λ k p at.
      let within = slice_get_within prims.items k p at in
      let count = tabled.count in
      let there = there_is table k (omega (arith, count)) in
      (there.0, there.1, (tabled.each k p there.0 at there.1).swept);
}

pub none_wide : (prims : Primitives) (radius i : ℕ) (table : List (List Cell)) (total : ℕ) → i ≡ length prims.items
    → IsTabled prims radius i table total → NoneTooWide prims radius
none_wide prims radius i table total end tabled j wide = tabled.narrow j (place wide) wide where
  place : IsTooWide prims radius j → j < i
  place (inl (p, at, more)) = let within = slice_get_within prims.items j p at in omega arith
  place (inr (within, more)) = omega (arith, within)
