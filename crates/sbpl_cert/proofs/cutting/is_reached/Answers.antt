use Rattle.std.proofs.Common.{ℕ, ◌+◌, ◌<◌, inl, inr, ◌≡◌, subst, arith}
use Rattle.std.specs.Prelude.{IsTrue, false}
use Rattle.std.proofs.lemmas.Bool.{cases_lt}
use Rattle.std.proofs.lemmas.Grind.{not_there}
use Rattle.sbpl_labels.specs.Cut.{kept_v}
use Rattle.sbpl_labels.specs.Marks.{g_of}
use Rattle.sbpl_cert.specs.Cut.{IsReachedBy}
use Rattle.sbpl_cert.proofs.cutting.is_reached.Goals as goal

none_more : (P : ℕ → Type 0) (j : ℕ) → ((i : ℕ) → i < j → P i → ⊥) → (P j → ⊥) → (i : ℕ) → i < j + 1 → P i → ⊥
none_more P j before here i lt there = elim (cases_lt i j) [
  | inl below ↦ before i below there
  | inr ge ↦ (let at : i ≡ j = omega (arith, lt, ge) in here (subst P at there))
]

false_is_false : IsTrue false → ⊥
false_is_false is = cc

pub loop-j-preserved : goal.loop-j-preserved
loop-j-preserved g c =
    none_more (λ i. IsReachedBy (g.G.Graph.network c.args.graph.now) (kept_v (g_of c.args.labels.now)
    (g.H.Guide.distance c.args.guide.now) c.args.low) c.args.t i) c.loop-j.j c.loop-j.invariant
    (λ there. false_is_false (c.if-is_reached_by.ensures.unreached there))

pub returns-clause-unreached : goal.returns-clause-unreached
returns-clause-unreached g c = λ w.
    absurd
    (not_there
    (c.states-states.ensures.tails.arcs_are_tails c.args.t w.0 w.1
    (record { source = w.3.source; number = w.3.number; head = w.3.head }))
    (λ found.
    c.loop-j.invariant found.0 (omega (arith, found.1.number, c.loop-j-test.false, c.tail_fan-j-end.ensures.value))
    (w.0, w.1, w.2, found.1, w.3, w.4)))
