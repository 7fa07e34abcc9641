-- An observer that is told of passes, and the bounds of which it is told.
use Rattle.std.proofs.Common.{◌≡◌, ℕ, zero, suc, ◌+◌, ◌*◌, ◌^◌, ◌≤◌, ◌<◌, List, [], ◌∷◌, ◌++◌, length, refl, subst, arith}
use Rattle.std.proofs.Math.Nat.{mul-le-mul_left}
use Rattle.sbpl_search.specs.sbpl_graph.declared.TheConstants.{FAR}
use Rattle.sbpl_search.specs.sbpl_graph.Bound.{IsBound}
use Rattle.sbpl_search.specs.sbpl_graph.Network.{Network}
use Rattle.sbpl_search.specs.sbpl_labels.Marks.{Marks, g_of}
use Rattle.sbpl_plan.specs.declared.passes.PassRecord.{PassRecord}
use Rattle.sbpl_plan.specs.Looking.{IsPathFound}
use Rattle.sbpl_plan.specs.Observed.{AreTold, IsTold}

module _ {Action O : Type 0} (told : O → (pass cost bound : ℕ) → O → Type 0) where
  -- told of some passes, and then of more
  pub told_both : (k : ℕ) (ps qs : List (PassRecord Action)) (a b c : O) → AreTold told k ps a b
      → AreTold told (k + length ps) qs b c → AreTold told k (ps ++ qs) a c
  told_both k [] qs a b c first rest =
      subst (λ (x : O). AreTold told k qs x c) first
      (subst (λ (n : ℕ). AreTold told n qs b c) (let e : k + 0 ≡ k = omega arith in e) rest)
  told_both k (p ∷ ps) qs a b c first rest = (
    first.0,
    first.1,
    told_both (k + 1) ps qs first.0 b c first.2 (subst (λ (n : ℕ). AreTold told n qs b c)
        (let e : k + suc (length ps) ≡ k + 1 + length ps = omega arith in e) rest),
  )

  -- told of the passes that were made so far, and then of one more
  pub told_more : {number : ℕ} (ps : List (PassRecord Action)) (p : PassRecord Action) (a b c : O) → number ≡ length ps
      → AreTold told 0 ps a b → IsTold told number p.found b c → AreTold told 0 (ps ++ p ∷ []) a c
  told_more {number} ps p a b c many first one =
      told_both 0 ps (p ∷ []) a b c first (
        c,
        subst (λ (n : ℕ). IsTold told n p.found b c) (let e : number ≡ 0 + length ps = omega arith in e) one,
        refl,
      )

-- the bound of a cost of one word is far below what an observer is told at most
pub bound_below : (cost low b : ℕ) → cost < 2 ^ 64 → IsBound cost low b → b < 2 ^ 100
bound_below cost zero b small is =
    let none : 1000 * cost ≤ b * 0 = is.reaches in
    let least : b ≤ 1000 = is.least 1000 (omega arith) (omega arith) in
    omega arith
bound_below cost (suc low) b small is =
    let enough : (1000 + 1000 * cost) * 1 ≤ (1000 + 1000 * cost) * suc low =
    mul-le-mul_left (1000 + 1000 * cost) (let one : 1 ≤ suc low = omega arith in one) in
    let least : b ≤ 1000 + 1000 * cost = is.least (1000 + 1000 * cost) (omega arith) (omega arith) in
    omega arith

-- and so is the bound of a path that was found
pub found_below : {n : Network} {h : ℕ → ℕ} {goal : ℕ} {m : Marks} {arcs : List ℕ} {cost bound : ℕ}
    → IsPathFound n h goal m arcs cost bound → bound < 2 ^ 100
found_below {goal} {m} {cost} {bound} finds =
    let near : g_of m goal < FAR = finds.walk.near in
    let cheap : cost ≤ g_of m goal = finds.walk.cheap in
    bound_below cost finds.low bound (omega arith) finds.bound_is
