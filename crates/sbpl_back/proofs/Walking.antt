-- A path of the reversed graph is walked, and its arcs are turned round.
use Rattle.std.proofs.Common.{◌≡◌, ℕ, ◌+◌, ◌<◌, ◌≤◌, List, [], ◌∷◌, ◌++◌, Some, length, drop, get_or, reverse, refl, ap}
use Rattle.std.proofs.Common.{sym, ◌∙◌, subst, append_assoc, append-nil, add-one, drop-cons}
use Rattle.std.specs.Option.{option_map}
use Rattle.std.proofs.lemmas.List.{drop_all, reverse-append}
use Rattle.std.proofs.lemmas.Option.{same_Some}
use Rattle.sbpl_cost.specs.sbpl_graph.Network.{Network}
use Rattle.sbpl_cost.specs.sbpl_graph.Laws.{HasExactTails}
use Rattle.sbpl_cost.specs.sbpl_graph.Path.{IsFreePath}
use Rattle.sbpl_back.specs.Reversed.{AreTurned, IsPathTurned, PathsTurnOnce, reversed}
use Rattle.sbpl_back.proofs.Turning.{paths_turn_round}

-- arcs have one way to be turned round
pub one_turned : PathsTurnOnce
one_turned n t s [] arcs others are also = are.1 ∙ sym also.1
one_turned n t s (j ∷ js) arcs others (u, k, before, tail, rest, is) (v, l, front, at, others_rest, too) =
    let pair = same_Some {A = ℕ × ℕ} (u, k) (v, l) (sym tail ∙ at) in
    let source : u ≡ v = ap (λ (p : ℕ × ℕ). p.0) pair in
    let number : k ≡ l = ap (λ (p : ℕ × ℕ). p.1) pair in
    let own : AreTurned n v js s before = subst (λ x. AreTurned n x js s before) source rest in
    let first : before ≡ front = one_turned n v s js before front own others_rest in
    is ∙ ap (λ x. before ++ x ∷ []) number ∙ ap (λ b. b ++ l ∷ []) first ∙ sym too

-- From t the walk has come to this state, and these arcs of the path
-- are left. Where the whole path leads, the rest leads from here;
-- and the arcs so far, turned round, complete those that are left.
pub record IsWalked (n : Network) (t : ℕ) (path : List ℕ) (at : ℕ) (left so_far : List ℕ) : Type 0 where
  pub some : (s : ℕ) × (c : ℕ) × IsFreePath (reversed n) t path s c
  pub leads : (s c : ℕ) → IsFreePath (reversed n) t path s c → (b : ℕ) × IsFreePath (reversed n) at left s b
  pub completes : (s : ℕ) (before : List ℕ) → AreTurned n at left s before
      → AreTurned n t path s (before ++ reverse so_far)

pub sets_out : (n : Network) (t : ℕ) (path so_far : List ℕ) → so_far ≡ []
    → (s : ℕ) × (c : ℕ) × IsFreePath (reversed n) t path s c → IsWalked n t path t path so_far
sets_out n t path so_far none some = record {
  some = some;
  leads = λ s c free. (c, free);
  completes = λ s before are. subst (λ (l : List ℕ). AreTurned n t path s l)
      (sym (ap (λ (l : List ℕ). before ++ reverse l) none ∙ append-nil before)) are;
}

-- what is left begins with the arc at hand
left_is : (xs : List ℕ) (i : ℕ) → i < length xs → drop i xs ≡ get_or xs i 0 ∷ drop (i + 1) xs
left_is xs i here = rw (add-one, drop-cons xs i 0)

module _ {n : Network} (tails : HasExactTails n) {t : ℕ} {path : List ℕ} {at : ℕ} (i : ℕ) {so_far : List ℕ}
    (walked : IsWalked n t path at (drop i path) so_far) where
  -- over the next arc
  pub walks_on : {u k : ℕ} → i < length path → n.tail at (get_or path i 0) ≡ Some (u, k)
      → IsWalked n t path u (drop (i + 1) path) (so_far ++ k ∷ [])
  walks_on {u} {k} here tail = record {
    some = walked.some;
    leads = λ s c free.
        let rest = walked.leads s c free in
        let own : IsFreePath (reversed n) at (get_or path i 0 ∷ drop (i + 1) path) s rest.0 =
        subst (λ (l : List ℕ). IsFreePath (reversed n) at l s rest.0) (left_is path i here) rest.1 in
        let source : own.0 ≡ u = same_Some own.0 u (sym own.3.head ∙ ap (option_map (λ (arc : ℕ × ℕ). arc.0)) tail) in
        (own.2, subst (λ x. IsFreePath (reversed n) x (drop (i + 1) path) s own.2) source own.4);
    completes = λ s before are.
        let more : AreTurned n at (get_or path i 0 ∷ drop (i + 1) path) s (before ++ k ∷ []) =
        (u, k, before, tail, are, refl) in
        let own : AreTurned n at (drop i path) s (before ++ k ∷ []) =
        subst (λ (l : List ℕ). AreTurned n at l s (before ++ k ∷ [])) (sym (left_is path i here)) more in
        let turned : reverse (so_far ++ k ∷ []) ≡ k ∷ reverse so_far = reverse-append so_far (k ∷ []) in
        subst (λ (l : List ℕ). AreTurned n t path s l) (append_assoc before (k ∷ []) (reverse so_far)
        ∙ ap (λ (l : List ℕ). before ++ l) (sym turned)) (walked.completes s (before ++ k ∷ []) own);
  }

  -- after the last arc all are turned
  pub walked_out : length path ≤ i → (s c : ℕ) → IsFreePath (reversed n) t path s c
      → IsPathTurned n t path s c (reverse so_far)
  walked_out past s c free =
      let over : drop i path ≡ [] = drop_all i path past in
      let rest = walked.leads s c free in
      let here : IsFreePath (reversed n) at [] s rest.0 =
      subst (λ (l : List ℕ). IsFreePath (reversed n) at l s rest.0) over rest.1 in
      let none : AreTurned n at (drop i path) s [] =
      subst (λ (l : List ℕ). AreTurned n at l s []) (sym over) (here.0, refl) in
      let turned : AreTurned n t path s (reverse so_far) = walked.completes s [] none in
      (by_first path free turned)
    where
      by_first : (l : List ℕ) → IsFreePath (reversed n) t l s c → AreTurned n t l s (reverse so_far)
          → IsPathTurned n t l s c (reverse so_far)
      by_first [] stays are = record { turned = are; free = rw are.1 ((sym stays.0, stays.1)) }
      by_first (j ∷ js) goes are =
          let back = paths_turn_round n t s c (j ∷ js) tails goes.3.source goes in
          let same : back.0 ≡ reverse so_far = one_turned n t s (j ∷ js) back.0 (reverse so_far) back.1 are in
          record { turned = are; free = subst (λ (l : List ℕ). IsFreePath n s l t c) same back.2 }
