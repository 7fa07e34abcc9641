-- The reversed graph of a graph: its laws, and its paths.
use Rattle.std.proofs.Common.{◌≡◌, ℕ, ◌+◌, ◌<◌, List, [], ◌∷◌, ◌++◌, Option, Some, None, IfSome, IsSome}
use Rattle.std.proofs.Common.{option_and_then, refl, ap, sym, ◌∙◌, arith, subst}
use Rattle.std.specs.Option.{option_map}
use Rattle.std.proofs.lemmas.Grind.{merely}
use Rattle.std.proofs.lemmas.Option.{none-some, same_Some}
use Rattle.sbpl_cost.specs.sbpl_graph.Network.{Network, IsArc, IsFreeArc}
use Rattle.sbpl_cost.specs.sbpl_graph.Laws.{HasExactTails, HasGaps, IsSound, IsTail}
use Rattle.sbpl_cost.specs.sbpl_graph.Path.{IsFreePath}
use Rattle.sbpl_back.specs.Reversed.{AreTurned, PathsTurnBack, PathsTurnRound, ReversedKeepsLaws, reversed, tail_number}
use Rattle.sbpl_back.proofs.Finding.{number_is_tail, number_of_tail, numbered}

-- ---- what options have

some_of : (o : Option (ℕ × ℕ)) (u : ℕ) → option_map (λ (arc : ℕ × ℕ). arc.0) o ≡ Some u → (k : ℕ) × (o ≡ Some (u, k))
some_of None u h = absurd (none-some u h)
some_of (Some a) u h = (a.1, ap (λ (x : ℕ). Some (x, a.1)) (same_Some a.0 u h))

cost_of : (n : Network) (o : Option (ℕ × ℕ)) (c : ℕ) → option_and_then (λ (arc : ℕ × ℕ). n.cost arc.0 arc.1) o ≡ Some c
    → (arc : ℕ × ℕ) × (o ≡ Some arc) × (n.cost arc.0 arc.1 ≡ Some c)
cost_of n None c h = absurd (none-some c h)
cost_of n (Some a) c h = (a, refl, h)

number_of : (o : Option ℕ) (t u j : ℕ) → ◌≡◌ {A = Option (ℕ × ℕ)} (option_map (λ (i : ℕ). (t, i)) o) (Some (u, j))
    → (t ≡ u) × (o ≡ Some j)
number_of None t u j h = absurd (none-some (u, j) h)
number_of (Some i) t u j h =
    let pair = same_Some {A = ℕ × ℕ} (t, i) (u, j) h in
    (ap (λ (p : ℕ × ℕ). p.0) pair, ap (λ (p : ℕ × ℕ). Some p.1) pair)

tail_of : (n : Network) (s k : ℕ) (o : Option ℕ) (t j : ℕ)
    → ◌≡◌ {A = Option (ℕ × ℕ)} (option_and_then (λ t. option_map (λ (j : ℕ). (t, j)) (tail_number n s k t)) o)
    (Some (t, j)) → (o ≡ Some t) × (tail_number n s k t ≡ Some j)
tail_of n s k None t j h = absurd (none-some (t, j) h)
tail_of n s k (Some u) t j h =
    let at = number_of (tail_number n s k u) u t j h in
    (ap (λ x. Some x) at.0, ap (λ x. tail_number n s k x) (sym at.0) ∙ at.1)

module _ (n : Network) (tails : HasExactTails n) where
  -- ---- arcs

  -- an arc of the reversed graph is a tail
  pub arc_of_reversed : (t j s : ℕ) → IsArc (reversed n) t j s → (k : ℕ) × IsTail n t j s k
  arc_of_reversed t j s arc =
      let at = some_of (n.tail t j) s arc.head in
      (at.0, record { target = arc.source; number = arc.number; tail = at.1 })

  -- a tail is an arc of the reversed graph
  pub reversed_of_tail : (t j s k : ℕ) → IsTail n t j s k → IsArc (reversed n) t j s
  reversed_of_tail t j s k tail =
      record { source = tail.target; number = tail.number; head = ap (option_map (λ (arc : ℕ × ℕ). arc.0)) tail.tail }

  -- free arcs, turned round
  pub free_of_reversed : (t j s c : ℕ) → IsFreeArc (reversed n) t j s c
      → (k : ℕ) × IsTail n t j s k × IsFreeArc n s k t c
  free_of_reversed t j s c free =
      let at = arc_of_reversed t j s (record { source = free.source; number = free.number; head = free.head }) in
      let arc = tails.tails_are_arcs t j s at.0 at.1 in
      let cost = ap (option_and_then (λ (a : ℕ × ℕ). n.cost a.0 a.1)) (sym at.1.tail) ∙ free.cost in
      (at.0, at.1, record { source = arc.source; number = arc.number; head = arc.head; cost = cost })

  pub reversed_of_free : (t j s k c : ℕ) → IsTail n t j s k → IsFreeArc n s k t c → IsFreeArc (reversed n) t j s c
  reversed_of_free t j s k c tail free =
      let arc = reversed_of_tail t j s k tail in
      record {
        source = arc.source;
        number = arc.number;
        head = arc.head;
        cost = ap (option_and_then (λ (a : ℕ × ℕ). n.cost a.0 a.1)) tail.tail ∙ free.cost;
      }

  pub tail_of_free : (s k t c : ℕ) → t < n.states → IsFreeArc n s k t c → (j : ℕ) × IsTail n t j s k
  tail_of_free s k t c target free =
      let at = numbered n tails s k t (record { source = free.source; number = free.number; head = free.head }) in
      (at.0, number_is_tail n tails s k t target at.0 at.1)

  -- ---- laws

  reversed_cost : (is : IsSound n) (t j c : ℕ) → t < n.states → j < n.tail_fan t → (reversed n).cost t j ≡ Some c
      → (arc : ℕ × ℕ) × IsTail n t j arc.0 arc.1 × (n.cost arc.0 arc.1 ≡ Some c)
  reversed_cost is t j c state number h =
      let at = cost_of n (n.tail t j) c h in
      (at.0, record { target = state; number = number; tail = at.1 }, at.2)

  pub reversed_is_sound : IsSound n → IsSound (reversed n)
  reversed_is_sound is = record {
    some_state = is.some_state;
    few_states = is.few_states;
    few_arcs = tails.few_tails;
    head_is_state = λ t j s state number h.
        let at = some_of (n.tail t j) s h in
        (tails.tails_are_arcs t j s at.0 (record { target = state; number = number; tail = at.1 })).source;
    cost_at_least_one = λ t j c state number h.
        let at = reversed_cost is t j c state number h in
        let arc = tails.tails_are_arcs t j at.0.0 at.0.1 at.1 in
        is.cost_at_least_one at.0.0 at.0.1 c arc.source arc.number at.2;
    cost_fits = λ t j c state number h.
        let at = reversed_cost is t j c state number h in
        let arc = tails.tails_are_arcs t j at.0.0 at.0.1 at.1 in
        is.cost_fits at.0.0 at.0.1 c arc.source arc.number at.2;
    free_has_head = λ t j c state number h.
        let at = reversed_cost is t j c state number h in
        subst (λ o. IsSome (option_map (λ (arc : ℕ × ℕ). arc.0) o)) (sym at.1.tail) refl;
  }

  -- tail k of s in the reversed graph is arc k of s
  reversed_tail : (s k t j : ℕ) → IsTail (reversed n) s k t j → IsArc n s k t × (tail_number n s k t ≡ Some j)
  reversed_tail s k t j tail =
      let at = tail_of n s k (n.head s k) t j tail.tail in
      (record { source = tail.target; number = tail.number; head = at.0 }, at.1)

  is_reversed_tail : (s k t j : ℕ) → IsArc n s k t → tail_number n s k t ≡ Some j → IsTail (reversed n) s k t j
  is_reversed_tail s k t j arc number = record {
    target = arc.source;
    number = arc.number;
    tail =
        ap (option_and_then (λ t. option_map (λ (j : ℕ). (t, j)) (tail_number n s k t))) arc.head
        ∙ ap (option_map (λ (j : ℕ). (t, j))) number;
  }

  tail_arc : (is : IsSound n) (s k t j : ℕ) → IsTail (reversed n) s k t j → IsTail n t j s k
  tail_arc is s k t j tail =
      let at = reversed_tail s k t j tail in
      number_is_tail n tails s k t (is.head_is_state s k t at.0.source at.0.number at.0.head) j at.1

  pub reversed_has_tails : IsSound n → HasExactTails (reversed n)
  reversed_has_tails is = record {
    few_tails = is.few_arcs;
    tails_are_arcs = λ s k t j tail. reversed_of_tail t j s k (tail_arc is s k t j tail);
    arcs_are_tails = λ s t j arc.
        let at = arc_of_reversed t j s arc in
        merely (
          at.0,
          is_reversed_tail s at.0 t j (tails.tails_are_arcs t j s at.0 at.1) (number_of_tail n tails s at.0 t j at.1),
        );
    tails_differ = λ s k l t j first second.
        let a = tail_arc is s k t j first in
        let b = tail_arc is s l t j second in
        let pair = same_Some {A = ℕ × ℕ} (s, k) (s, l) (sym a.tail ∙ b.tail) in
        ap (λ (p : ℕ × ℕ). p.1) pair;
  }

  pub reversed_has_gaps : HasGaps (reversed n)
  reversed_has_gaps = record {
    small = λ a b from to. omega arith;
    to_itself = λ a state. refl;
    along = λ s k t c b arc to. omega arith;
  }

pub reversed_keeps_laws : ReversedKeepsLaws
reversed_keeps_laws n is tails = record {
  sound = reversed_is_sound n tails is;
  tails = reversed_has_tails n tails is;
  gaps = reversed_has_gaps n tails;
}

-- ---- paths

-- a path and one arc more
pub path_more : (n : Network) (s u t k a c : ℕ) (arcs : List ℕ) → IsFreePath n s arcs u c → IsFreeArc n u k t a
    → IsFreePath n s (arcs ++ k ∷ []) t (a + c)
path_more n s u t k a c [] path arc =
    let here : s ≡ u = path.0 in
    (t, a, 0, subst (λ x. IsFreeArc n x k t a) (sym here) arc, (refl, refl), omega (arith, path.1))
path_more n s u t k a c (l ∷ ls) path arc =
    let rest = path_more n path.0 u t k a path.2 ls path.4 arc in
    (path.0, path.1, a + path.2, path.3, rest, omega (arith, path.5))

pub paths_turn_round : PathsTurnRound
paths_turn_round n t s c [] tails state path = ([], (path.0, refl), (sym path.0, path.1))
paths_turn_round n t s c (j ∷ js) tails state path =
    let u = path.0 in
    let free = free_of_reversed n tails t j u path.1 path.3 in
    let rest = paths_turn_round n u s path.2 js tails free.2.source path.4 in (
      rest.0 ++ free.0 ∷ [],
      (u, free.0, rest.0, free.1.tail, rest.1, refl),
      subst (λ x. IsFreePath n s (rest.0 ++ free.0 ∷ []) t x) (sym path.5)
          (path_more n s u t free.0 path.1 path.2 rest.0 rest.2 free.2),
    )

-- one more arc before the path is one more after the turned one
turned_more : (n : Network) (t u s j k : ℕ) (turned arcs : List ℕ) → n.tail u j ≡ Some (s, k)
    → AreTurned n t turned u arcs → AreTurned n t (turned ++ j ∷ []) s (k ∷ arcs)
turned_more n t u s j k [] arcs tail are =
    (s, k, [], ap (λ x. n.tail x j) are.0 ∙ tail, (refl, refl), ap (λ l. k ∷ l) are.1)
turned_more n t u s j k (i ∷ is) arcs tail (x, l, before, at, rest, same) =
    (x, l, k ∷ before, at, turned_more n x u s j k is before tail rest, ap (λ l. k ∷ l) same)

pub paths_turn_back : PathsTurnBack
paths_turn_back n s t c [] sound tails path = ([], (sym path.0, refl), (sym path.0, path.1))
paths_turn_back n s t c (k ∷ ks) sound tails path =
    let u = path.0 in
    let free = path.3 in
    let rest = paths_turn_back n u t path.2 ks sound tails path.4 in
    let tail = tail_of_free n tails s k u path.1 (sound.head_is_state s k u free.source free.number free.head) free in (
      rest.0 ++ tail.0 ∷ [],
      turned_more n t u s tail.0 k rest.0 ks tail.1.tail rest.1,
      subst (λ x. IsFreePath (reversed n) t (rest.0 ++ tail.0 ∷ []) s x) (sym path.5)
          (path_more (reversed n) t u s tail.0 path.1 path.2 rest.0 rest.2
          (reversed_of_free n tails u tail.0 s k path.1 tail.1 free)),
    )

-- ---- what a graph answers of an arc as a tail

pub tail_answered : (n : Network) → HasExactTails n → (s k : ℕ) (o : Option (ℕ × ℕ))
    → n.head s k ≡ option_map (λ (tail : ℕ × ℕ). tail.0) o → IfSome o (λ tail. IsTail n tail.0 tail.1 s k)
    → o ≡ (reversed n).tail s k
tail_answered n tails s k None head tail =
    sym (ap (option_and_then (λ t. option_map (λ (j : ℕ). (t, j)) (tail_number n s k t))) head)
tail_answered n tails s k (Some at) head tail =
    let number = number_of_tail n tails s k at.0 at.1 tail in
    sym (ap (option_and_then (λ t. option_map (λ (j : ℕ). (t, j)) (tail_number n s k t))) head
    ∙ ap (option_map (λ (j : ℕ). (at.0, j))) number)
