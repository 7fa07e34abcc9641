-- Taking one ticket from those that are out.
use Rattle.std.proofs.Common.{◌≡◌, ◌≢◌, ℕ, zero, suc, ◌+◌, ◌≤◌, true, false, nat_eq, List, [], ◌∷◌, length, arith, sym}
use Rattle.std.proofs.Common.{refl, ap, ◌∙◌}
use Rattle.std.specs.List.{AllPairs, Contains}
use Rattle.std.proofs.lemmas.Bool.{eq-eqb, ne_eqb}
use Rattle.sbpl_frontier_rules.specs.declared.leg.Leg.{Leg}
use Rattle.sbpl_frontier_rules.specs.Frontier.{times_out, without}
use Rattle.sbpl_frontier_rules.proofs.Counting.{one_at, one_here}

-- tickets differ
abbrev pub Differ : Leg → Leg → Type 0
Differ a b = a.ticket ≢ b.ticket

differ_tail : (leg : Leg) (rest : List Leg) → AllPairs Differ (leg ∷ rest) → AllPairs Differ rest
differ_tail leg rest differ = λ i j d before inside. differ (suc i) (suc j) d (omega arith) (omega arith)

differ_head : (leg other : Leg) (rest : List Leg) → AllPairs Differ (leg ∷ rest) → Contains rest other
    → leg.ticket ≢ other.ticket
differ_head leg other rest differ (place, inside, at) =
    let apart = differ 0 (suc place) other (omega arith) (omega arith) in
    λ (same : leg.ticket ≡ other.ticket). apart (same ∙ ap (λ (l : Leg). l.ticket) (sym at))

-- a ticket that is not out
without_none : (ticket : ℕ) (legs : List Leg) → ((leg : Leg) → Contains legs leg → leg.ticket ≢ ticket)
    → without ticket legs ≡ legs
without_none ticket [] other = refl
without_none ticket (leg ∷ rest) other =
    let apart : leg.ticket ≢ ticket = other leg (0, omega arith, refl) in
    let test : nat_eq leg.ticket ticket ≡ false = ne_eqb leg.ticket ticket apart in
    let same : without ticket rest ≡ rest =
    without_none ticket rest (λ one (place, inside, at). other one (suc place, omega arith, at)) in
    rw (test, same) refl

-- without a ticket that is out, its arc is out one time fewer
pub out_without : (legs : List Leg) (leg : Leg) → AllPairs Differ legs → Contains legs leg → (s k : ℕ)
    → times_out (without leg.ticket legs) s k + one_at leg.state leg.arc s k ≡ times_out legs s k
out_without [] leg differ (place, inside, at) s k = absurd (omega arith)
out_without (first ∷ rest) leg differ (zero, inside, at) s k =
    let same : first ≡ leg = at in
    let test : nat_eq first.ticket leg.ticket ≡ true =
    eq-eqb first.ticket leg.ticket (ap (λ (l : Leg). l.ticket) same) in
    let kept : without leg.ticket rest ≡ rest =
    without_none leg.ticket rest
    (λ other inner.
    let apart = differ_head first other rest differ inner in λ e. apart (ap (λ (l : Leg). l.ticket) same ∙ sym e))
    in
    let states : first.state ≡ leg.state = ap (λ (l : Leg). l.state) same in
    let arcs : first.arc ≡ leg.arc = ap (λ (l : Leg). l.arc) same in
    rw (test, kept, states, arcs) (omega arith)
out_without (first ∷ rest) leg differ (suc place, inside, at) s k =
    let inner : Contains rest leg = (place, omega arith, at) in
    let apart = differ_head first leg rest differ inner in
    let test : nat_eq first.ticket leg.ticket ≡ false = ne_eqb first.ticket leg.ticket apart in
    let fewer = out_without rest leg (differ_tail first rest differ) inner s k in
    rw test (omega arith)

-- an arc that is out is counted
pub out_has : (legs : List Leg) (leg : Leg) → Contains legs leg → 1 ≤ times_out legs leg.state leg.arc
out_has [] leg (place, inside, at) = absurd (omega arith)
out_has (first ∷ rest) leg (zero, inside, at) =
    let same : first ≡ leg = at in
    let states : first.state ≡ leg.state = ap (λ (l : Leg). l.state) same in
    let arcs : first.arc ≡ leg.arc = ap (λ (l : Leg). l.arc) same in
    rw (states, arcs) (omega (arith, one_here leg.state leg.arc))
out_has (first ∷ rest) leg (suc place, inside, at) =
    let inner : Contains rest leg = (place, omega arith, at) in
    omega (arith, out_has rest leg inner)

-- one arc fewer is out
pub fewer_without : (legs : List Leg) (leg : Leg) → AllPairs Differ legs → Contains legs leg
    → length (without leg.ticket legs) + 1 ≡ length legs
fewer_without [] leg differ (place, inside, at) = absurd (omega arith)
fewer_without (first ∷ rest) leg differ (zero, inside, at) =
    let same : first ≡ leg = at in
    let test : nat_eq first.ticket leg.ticket ≡ true =
    eq-eqb first.ticket leg.ticket (ap (λ (l : Leg). l.ticket) same) in
    let kept : without leg.ticket rest ≡ rest =
    without_none leg.ticket rest
    (λ other inner.
    let apart = differ_head first other rest differ inner in λ e. apart (ap (λ (l : Leg). l.ticket) same ∙ sym e))
    in
    rw (test, kept) (omega arith)
fewer_without (first ∷ rest) leg differ (suc place, inside, at) =
    let inner : Contains rest leg = (place, omega arith, at) in
    let apart = differ_head first leg rest differ inner in
    let test : nat_eq first.ticket leg.ticket ≡ false = ne_eqb first.ticket leg.ticket apart in
    let fewer = fewer_without rest leg (differ_tail first rest differ) inner in
    rw test (omega (arith, fewer))
