-- The arcs from a number on.
use Rattle.std.proofs.Common.{◌≡◌, ℕ, zero, suc, ◌+◌, ◌-◌, ◌<◌, ◌≤◌, Option, Some, None, List, [], ◌∷◌, ◌++◌, length}
use Rattle.std.proofs.Common.{arith, refl, ap, sym, ◌∙◌}
use Rattle.std.proofs.Common.{append_assoc, false, is_some, length-append}
use Rattle.std.proofs.lemmas.Bool.{true≢false}
use Rattle.std.proofs.lemmas.List.{append-nil}
use Rattle.sbpl_frontier_rules.specs.sbpl_graph.Network.{Network}
use Rattle.sbpl_frontier_rules.specs.Frontier.{arcs_below, arcs_of, with_head}
use Rattle.sbpl_frontier_core.specs.Cursor.{arcs_from, arcs_within}

module _ (n : Network) (s : ℕ) where
  -- none is left at the end
  pub none_from : (k : ℕ) → n.fan s ≤ k → arcs_from n s k ≡ []
  none_from k past = let none : n.fan s - k ≡ 0 = omega arith in ap (arcs_within n s k) none

  -- arc k, where it has a head, and those after it
  pub arcs_next : (k : ℕ) → k < n.fan s → arcs_from n s k ≡ with_head (n.head s k) (s, k) ++ arcs_from n s (k + 1)
  arcs_next k inside = let more : n.fan s - k ≡ suc (n.fan s - (k + 1)) = omega arith in ap (arcs_within n s k) more

  pub arcs_skip : (k : ℕ) → k < n.fan s → n.head s k ≡ None → arcs_from n s k ≡ arcs_from n s (k + 1)
  arcs_skip k inside none =
      arcs_next k inside ∙ ap (λ (head : Option ℕ). with_head head (s, k) ++ arcs_from n s (k + 1)) none

  pub arcs_first : (k t : ℕ) → k < n.fan s → n.head s k ≡ Some t → arcs_from n s k ≡ (s, k) ∷ arcs_from n s (k + 1)
  arcs_first k t inside some =
      arcs_next k inside ∙ ap (λ (head : Option ℕ). with_head head (s, k) ++ arcs_from n s (k + 1)) some

  -- those below a number and those from there on are all
  below_and_within : (k count : ℕ) → arcs_below n s k ++ arcs_within n s k count ≡ arcs_below n s (k + count)
  below_and_within k zero =
      let same : k ≡ k + 0 = omega arith in append-nil (arcs_below n s k) ∙ ap (arcs_below n s) same
  below_and_within k (suc count) =
      let one : k + 1 ≡ suc k = omega arith in
      let moved : (k + 1) + count ≡ k + suc count = omega arith in
      let here : arcs_below n s (k + 1) ≡ arcs_below n s k ++ with_head (n.head s k) (s, k) = ap (arcs_below n s) one in
      let rest : arcs_below n s (k + 1) ++ arcs_within n s (k + 1) count ≡ arcs_below n s (k + suc count) =
      below_and_within (k + 1) count ∙ ap (arcs_below n s) moved in
      sym (append_assoc (arcs_below n s k) (with_head (n.head s k) (s, k)) (arcs_within n s (k + 1) count))
      ∙ ap (λ (xs : List (ℕ × ℕ)). xs ++ arcs_within n s (k + 1) count) (sym here) ∙ rest

  -- from the first number on they are all
  pub all_from : arcs_from n s 0 ≡ arcs_of n s
  all_from =
      let all : n.fan s - 0 ≡ n.fan s = omega arith in
      let sum : 0 + n.fan s ≡ n.fan s = omega arith in
      ap (λ (count : ℕ). arcs_within n s 0 count) all ∙ below_and_within 0 (n.fan s) ∙ ap (arcs_below n s) sum

  none_where_no_head : (head : Option ℕ) → is_some head ≡ false → head ≡ None
  none_where_no_head None fails = refl
  none_where_no_head (Some t) fails = absurd (true≢false fails)

  pub arcs_skip_where : (k : ℕ) (head : Option ℕ) → k < n.fan s → head ≡ n.head s k → is_some head ≡ false
      → arcs_from n s k ≡ arcs_from n s (k + 1)
  arcs_skip_where k head inside is fails = arcs_skip k inside (sym is ∙ none_where_no_head head fails)

  length_head : (head : Option ℕ) (k : ℕ) → length (with_head head (s, k)) ≤ 1
  length_head None k = omega arith
  length_head (Some t) k = omega arith

  -- there are no more arcs than numbers
  pub few_within : (k count : ℕ) → length (arcs_within n s k count) ≤ count
  few_within k zero = omega arith
  few_within k (suc count) =
      omega (
        arith,
        length-append (with_head (n.head s k) (s, k)) (arcs_within n s (k + 1) count),
        length_head (n.head s k) k,
        few_within (k + 1) count,
      )
