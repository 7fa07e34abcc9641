-- What is on a map is on the map as it is later.
use Rattle.std.proofs.Common.{◌≡◌, ◌<◌, ℕ, Bool, true, false, zero, suc, pos, List, [], ◌∷◌, Some, slice_get, sym, ◌∙◌, ap, subst, arith}
use Rattle.std.proofs.lemmas.Int.{ints}
use Rattle.std.specs.List.{AllByRecursion}
use Rattle.sbpl_promises.specs.sbpl_graph.Network.{Network}
use Rattle.sbpl_promises.specs.sbpl_map.declared.write.Write.{Write}
use Rattle.sbpl_promises.specs.sbpl_map.CellMap.{CellMap, IsOnMap}
use Rattle.sbpl_promises.specs.sbpl_map.ChangeText.{AreOnMap, IsWriteOnMap}
use Rattle.sbpl_promises.specs.Sites.{from_of, to_of}
use Rattle.sbpl_promises.specs.sbpl_terrain.Noted as batch
use Rattle.sbpl_promises.specs.sbpl_terrain.Cells.{Cells, IsTerrain}

-- what holds of each element of a list holds of the one at a place
pub at_place : {A : Type 0} (P : A → Type 0) (xs : List A) → AllByRecursion P xs → (i : ℕ) (x : A)
    → slice_get xs i ≡ Some x → P x
at_place P [] all i x is = absurd cc
at_place {A} P (y ∷ ys) all zero x is = let same : y ≡ x = cc in subst P same all.0
at_place P (y ∷ ys) all (suc i) x is = at_place P ys all.1 i x is

-- a write that is on a map is on another of its size
write_on_map : (first now : CellMap) (w : Write) → now.width ≡ first.width → now.height ≡ first.height
    → IsWriteOnMap first w → IsOnMap now (pos w.x) (pos w.y)
write_on_map first now w width height on = record {
  left = omega (arith, ints);
  right = let x = on.x in omega (arith, ints);
  low = omega (arith, ints);
  high = let y = on.y in omega (arith, ints);
}

-- where batches are on a map, each of them is on another map of its size
pub batch_on_map : (first now : CellMap) (batches : List (List Write)) (k : ℕ) (b : List Write) → AreOnMap first batches
    → slice_get batches k ≡ Some b → now.width ≡ first.width → now.height ≡ first.height → batch.AreOnMap now b
batch_on_map first now batches k b on at width height = λ i w is.
    write_on_map first now w width height
    (at_place (λ (v : Write). IsWriteOnMap first v) b
    (at_place (λ (l : List Write). AllByRecursion (λ (v : Write). IsWriteOnMap first v) l) batches on k b at) i w is)

-- another map has the same number of states
pub same_states : {W : Type 0} (network : W → Network) (cells : Cells W) → IsTerrain network cells → (w v : W)
    → cells.is_made w → cells.is_made v → v ≡ cells.over w (cells.map v) → (network w).states ≡ (network v).states
same_states network cells law w v made now same =
    let there : cells.is_made (cells.over w (cells.map v)) = subst cells.is_made same now in
    sym (law.rest w (cells.map v) made there).states ∙ ap (λ u. (network u).states) (sym same)

-- and so has the graph that is told of, which has as many
pub same_told_states : {W : Type 0} (network told : W → Network) (cells : Cells W)
    → ((w : W) → (told w).states ≡ (network w).states) → IsTerrain network cells → (w v : W)
    → cells.is_made w → cells.is_made v → v ≡ cells.over w (cells.map v) → (told w).states ≡ (told v).states
same_told_states network told cells as_many law w v made now same =
    as_many w ∙ same_states network cells law w v made now same ∙ sym (as_many v)

-- the states between which a search goes are states
pub from_inside : (back : Bool) (start goal n : ℕ) → start < n → goal < n → from_of back start goal < n
from_inside true start goal n first last = last
from_inside false start goal n first last = first

pub to_inside : (back : Bool) (start goal n : ℕ) → start < n → goal < n → to_of back start goal < n
to_inside true start goal n first last = first
to_inside false start goal n first last = last
