-- Free paths, one arc further, and where they end.
use Rattle.std.proofs.Common.{◌≡◌, ℕ, zero, suc, ◌+◌, ◌<◌, List, [], ◌∷◌, ◌++◌, length, take, get_or, refl, sym}
use Rattle.std.proofs.Common.{subst, ◌∙◌, arith}
use Rattle.std.proofs.lemmas.List.{take_more, take-take, get_or-take, length-take-le}
use Rattle.sbpl_labels.specs.sbpl_graph.Network.{Network, IsFreeArc}
use Rattle.sbpl_labels.specs.sbpl_graph.Path.{IsFreePath}

-- a free path and a free arc from its end are a free path
path_and_arc : (n : Network) (s : ℕ) (ks : List ℕ) (u a k t c : ℕ) → IsFreePath n s ks u a → IsFreeArc n u k t c
    → IsFreePath n s (ks ++ k ∷ []) t (a + c)
path_and_arc n s [] u a k t c p arc =
    (t, c, 0, subst (λ (x : ℕ). IsFreeArc n x k t c) (sym p.0) arc, (refl, refl), omega arith)
path_and_arc n s (j ∷ js) u a k t c p arc =
    (p.0, p.1, p.2 + c, p.3, path_and_arc n p.0 js u p.2 k t c p.4 arc, omega arith)

pub one_step_more : (n : Network) (s : ℕ) (ks : List ℕ) (i u a t c : ℕ) → i < length ks → IsFreePath n s (take i ks) u a
    → IsFreeArc n u (get_or ks i 0) t c
    → IsFreePath n s (take (i + 1) ks) t (a + c)
one_step_more n s ks i u a t c h p arc =
    rw (take_more ks i 0 h) (path_and_arc n s (take i ks) u a (get_or ks i 0) t c p arc)

-- an arc has one head and one cost
pub same_head : (n : Network) (s k t u a b : ℕ) → IsFreeArc n s k t a → IsFreeArc n s k u b → (t ≡ u) × (a ≡ b)
same_head n s k t u a b one two =
    let heads = one.head in let heads' = two.head in let costs = one.cost in let costs' = two.cost in
    (cc, cc)

-- arcs lead to one end, at one cost
pub same_end : (n : Network) (s : ℕ) (ks : List ℕ) (t u a b : ℕ) → IsFreePath n s ks t a
    → IsFreePath n s ks u b → (t ≡ u) × (a ≡ b)
same_end n s [] t u a b p q = (sym p.0 ∙ q.0, p.1 ∙ sym q.1)
same_end n s (k ∷ ks) t u a b p q =
    let first = same_head n s k p.0 q.0 p.1 q.1 p.3 q.3 in
    let others = same_end n p.0 ks t u p.2 q.2 p.4 (subst (λ (x : ℕ). IsFreePath n x ks u q.2) (sym first.0) q.4) in
    (others.0, omega arith)

-- where arcs are a free path, the arc after each prefix of them is free
pub arc_on_path : (n : Network) (s : ℕ) (ks : List ℕ) (i t u a b : ℕ) → i < length ks → IsFreePath n s ks t a
    → IsFreePath n s (take i ks) u b
    → (v : ℕ) × (c : ℕ) × IsFreeArc n u (get_or ks i 0) v c
arc_on_path n s [] i t u a b h p q = absurd (omega arith)
arc_on_path n s (k ∷ ks) zero t u a b h p q = (p.0, p.1, subst (λ (x : ℕ). IsFreeArc n x k p.0 p.1) q.0 p.3)
arc_on_path n s (k ∷ ks) (suc i) t u a b h p q =
    let first = same_head n s k p.0 q.0 p.1 q.1 p.3 q.3 in
    arc_on_path n p.0 ks i t u p.2 q.2 (omega arith) p.4
    (subst (λ (x : ℕ). IsFreePath n x (take i ks) u q.2) (sym first.0) q.4)

-- the same where a prefix of the arcs is a free path
pub arc_on_front : (n : Network) (s : ℕ) (ks : List ℕ) (i j t u a b : ℕ) → i < j → j < length ks
    → IsFreePath n s (take j ks) t a → IsFreePath n s (take i ks) u b
    → (v : ℕ) × (c : ℕ) × IsFreeArc n u (get_or ks i 0) v c
arc_on_front n s ks i j t u a b lt inside p q =
    let size : length (take j ks) ≡ j = length-take-le j ks (omega arith) in
    let front = arc_on_path n s (take j ks) i t u a b (omega arith) p (rw (take-take i j ks (omega arith)) q) in
    (front.0, front.1, subst (λ (k : ℕ). IsFreeArc n u k front.0 front.1) (get_or-take j ks i 0 lt) front.2)
