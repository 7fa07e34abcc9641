-- What is kept of the primitives read so far, when one more is read.
use Rattle.std.proofs.Common.{◌≡◌, ℕ, ◌+◌, ◌≤◌, Bool, true, false, cond, ◌&&◌, ◌||◌, ◌==◌, List, [], ◌∷◌, ◌++◌, length}
use Rattle.std.proofs.Common.{sum_by, refl, ap, sym, ◌∙◌, arith}
use Rattle.std.proofs.lemmas.Bool.Decides.{nat_tests}
use Rattle.std.proofs.lemmas.List.Folds.{list_any-append}
use Rattle.std.proofs.lemmas.List.Sums.{sum_by-append}
use Rattle.std.specs.BTreeSet.{BTreeSet, contains, Updates}
use Rattle.std.specs.Ordering.{is_eq}
use Rattle.sbpl_mprim.specs.declared.prim.Primitive.{Primitive}
use Rattle.sbpl_mprim.specs.Earlier.{id_cmp, IsKept}
use Rattle.sbpl_mprim.specs.Judging.{has_id}
use Rattle.sbpl_mprim.specs.Primitives.{pose_count}

-- two pairs are equal where both parts are
same_pair : (a b c d : ℕ) → is_eq (id_cmp (a, b) (c, d)) ≡ ((a == c) && (b == d))
same_pair a b c d = grind (arith, nat_tests)

or_swapped : (a b : Bool) → cond a true b ≡ (b || (a || false))
or_swapped true true = refl
or_swapped true false = refl
or_swapped false true = refl
or_swapped false false = refl

has_id_more : (prims : List Primitive) (prim : Primitive) (from id : ℕ)
    → has_id (prims ++ prim ∷ []) from id
    ≡ (has_id prims from id || (((prim.from == from) && (prim.id == id)) || false))
has_id_more prims prim from id = list_any-append (λ (p : Primitive). (p.from == from) && (p.id == id)) prims (prim ∷ [])

pub kept_more : (prims : List Primitive) (prim : Primitive) (old new : BTreeSet (ℕ × ℕ)) (count : ℕ)
    → IsKept prims old count → sum_by pose_count prims + length prim.poses ≤ 200000
    → Updates id_cmp old new (prim.from, prim.id) true → IsKept (prims ++ prim ∷ []) new (count + length prim.poses)
kept_more prims prim old new count kept few updates = record {
  ids = λ from id.
      updates.0 (from, id)
      ∙ (ap (λ (b : Bool). cond b true (contains id_cmp old (from, id))) (same_pair prim.from prim.id from id)
      ∙ (ap (λ (b : Bool). cond ((prim.from == from) && (prim.id == id)) true b) (kept.ids from id)
      ∙ (or_swapped ((prim.from == from) && (prim.id == id)) (has_id prims from id)
      ∙ sym (has_id_more prims prim from id))));
  poses = rw sum_by-append (omega (arith, kept.poses));
  few = omega (arith, kept.poses);
}
