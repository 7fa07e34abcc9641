-- Primitives of a file, each judged by the ones before it.
use Rattle.std.proofs.Common.{◌≡◌, ◌≢◌, ℕ, zero, suc, ◌+◌, ◌<◌, ◌≤◌, ℤ, pos, Bool, true, false, ◌&&◌, ◌==◌, List}
use Rattle.std.proofs.Common.{[], ◌∷◌, ◌++◌, length, Some, sum_by, refl, sym, ap, subst, ◌∙◌, arith}
use Rattle.std.proofs.Common.{append_assoc, append-nil, length-append}
use Rattle.std.proofs.lemmas.Bool.{false≢true}
use Rattle.std.proofs.lemmas.Map.Keys.{any_passes_from_place}
use Rattle.std.proofs.lemmas.List.Sums.{sum_by-append, sum_by-cons}
use Rattle.std.proofs.lemmas.Option.{slice_get_within}
use Rattle.std.specs.List.{slice_get, AllByRecursion}
use Rattle.sbpl_cfg.specs.Environment.{IsWithin}
use Rattle.sbpl_mprim.specs.declared.prim.Primitive.{Primitive}
use Rattle.sbpl_mprim.specs.Judging.{has_id}
use Rattle.sbpl_mprim.specs.Primitives.{ArePrimitives, HaveOwnIds, IsPrimitive, Primitives, pose_count}
use Rattle.sbpl_mprim.proofs.JudgingLaws.{id_taken, taken}
use Rattle.sbpl_mprim.proofs.Indices.{all_at, at_all, at_front, at_seam, front_at}

-- a primitive may stand right after these
pub record IsNext (cell : ℤ) (headings : ℕ) (earlier : List Primitive) (prim : Primitive) : Type 0 where
  pub prim_is : IsPrimitive cell headings prim
  pub own : has_id earlier prim.from prim.id ≡ false
  pub few : sum_by pose_count earlier + length prim.poses ≤ 200000

-- each may stand after those before it
unfoldable pub AreNext : ℤ → ℕ → List Primitive → List Primitive → Type 0
AreNext cell headings earlier [] = Unit {0}
AreNext cell headings earlier (p ∷ ps) = IsNext cell headings earlier p × AreNext cell headings (earlier ++ p ∷ []) ps

pub next_each : (cell : ℤ) (headings : ℕ) (earlier ps : List Primitive) → AreNext cell headings earlier ps
    → AllByRecursion (IsPrimitive cell headings) ps
unfolding AreNext
next_each cell headings earlier [] h = tt
next_each cell headings earlier (p ∷ ps) h = (h.0.prim_is, next_each cell headings (earlier ++ p ∷ []) ps h.1)

pub next_few : (cell : ℤ) (headings : ℕ) (earlier ps : List Primitive) → sum_by pose_count earlier ≤ 200000
    → AreNext cell headings earlier ps → sum_by pose_count (earlier ++ ps) ≤ 200000
unfolding AreNext
next_few cell headings earlier [] few h = rw append-nil few
next_few cell headings earlier (p ∷ ps) few h =
    let one : sum_by pose_count (earlier ++ p ∷ []) ≤ 200000 = rw sum_by-append (omega (arith, h.0.few)) in
    let more = next_few cell headings (earlier ++ p ∷ []) ps one h.1 in
    rw append_assoc at more

-- no primitive has the start heading and the id of one before it
own_id : (cell : ℤ) (headings : ℕ) (earlier ps : List Primitive) → AreNext cell headings earlier ps
    → (i j : ℕ) (p q : Primitive) → i < length earlier + j
    → slice_get (earlier ++ ps) i ≡ Some p → slice_get ps j ≡ Some q → p.from ≡ q.from → p.id ≢ q.id
unfolding AreNext
own_id cell headings earlier [] h i j p q lt e f g k = absurd cc
own_id cell headings earlier (r ∷ ps) h i zero p q lt e f g k =
    let same : r ≡ q = cc in
    let inside : i < length earlier = omega arith in
    let has : has_id earlier q.from q.id ≡ true =
    any_passes_from_place (λ (x : Primitive). (x.from == q.from) && (x.id == q.id)) earlier i p
    (front_at earlier (r ∷ ps) i p inside e) ((taken q.from q.id p).1 (g, k)) in
    false≢true (sym (subst (λ (x : Primitive). has_id earlier x.from x.id ≡ false) same h.0.own) ∙ has)
own_id cell headings earlier (r ∷ ps) h i (suc j) p q lt e f g k =
    let shift : length (earlier ++ r ∷ []) ≡ length earlier + 1 = length-append earlier (r ∷ []) in
    let there : i < length (earlier ++ r ∷ []) + j = omega arith in
    own_id cell headings (earlier ++ r ∷ []) ps h.1 i j p q there (rw append_assoc e) f g k

pub next_own : (cell : ℤ) (headings : ℕ) (ps : List Primitive) → AreNext cell headings [] ps → HaveOwnIds ps
next_own cell headings ps h = λ i j p q lt e f g k. own_id cell headings [] ps h i j p q (omega arith) e f g k

-- primitives each of which may stand after those before it are what a file may give
pub next_are : (cell : ℤ) (headings : ℕ) (ps : List Primitive) → IsWithin (pos 1) (pos 1000000000000) cell
    → 1 ≤ headings → headings ≤ 64 → length ps ≤ 4096 → AreNext cell headings [] ps
    → ArePrimitives (record { cell = cell; headings = headings; items = ps })
next_are cell headings ps size some most count h = record {
  cell = size;
  headings = (some, most);
  count = count;
  each = all_at (IsPrimitive cell headings) ps (next_each cell headings [] ps h);
  poses = next_few cell headings [] ps (omega arith) h;
  ids = next_own cell headings ps h;
}

-- and the other way round
next_after : (cell : ℤ) (headings : ℕ) (earlier ps : List Primitive) → AllByRecursion (IsPrimitive cell headings) ps
    → sum_by pose_count (earlier ++ ps) ≤ 200000 → HaveOwnIds (earlier ++ ps)
    → AreNext cell headings earlier ps
unfolding AreNext
next_after cell headings earlier [] each few own = tt
next_after cell headings earlier (p ∷ ps) each few own =
    let free : (b : Bool) → has_id earlier p.from p.id ≡ b → has_id earlier p.from p.id ≡ false = elim [
      | true ↦ λ e.
          let k = id_taken earlier p.from p.id e in
          absurd (own k.0 (length earlier) k.1 p (slice_get_within earlier k.0 k.1 k.2)
          (at_front earlier (p ∷ ps) k.0 k.1 k.2) (at_seam earlier p ps) k.3 k.4)
      | false ↦ λ e. e
    ] in
    let sums : sum_by pose_count (earlier ++ p ∷ ps)
    ≡ sum_by pose_count earlier + (length p.poses + sum_by pose_count ps) =
    sum_by-append pose_count earlier (p ∷ ps)
    ∙ ap (λ (n : ℕ). sum_by pose_count earlier + n) (sum_by-cons pose_count p ps) in
    let apart : (earlier ++ p ∷ []) ++ ps ≡ earlier ++ p ∷ ps = append_assoc earlier (p ∷ []) ps in (
      record { prim_is = each.0; own = free (has_id earlier p.from p.id) refl; few = omega (arith, sums) },
      next_after cell headings (earlier ++ p ∷ []) ps each.1 (rw apart few) (rw apart own),
    )

pub are_next : (ps : Primitives) → ArePrimitives ps → AreNext ps.cell ps.headings [] ps.items
are_next ps h =
    next_after ps.cell ps.headings [] ps.items (at_all (IsPrimitive ps.cell ps.headings) ps.items h.each) h.poses h.ids
