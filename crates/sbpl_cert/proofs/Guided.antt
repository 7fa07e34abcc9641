-- What a section claims hangs on the guide at states alone.
use Rattle.std.proofs.Common.{◌≡◌, ℕ, ◌+◌, ◌<◌, inl, inr, sym, ap, ◌∙◌}
use Rattle.std.specs.Prelude.{IsTrue, false}
use Rattle.sbpl_labels.specs.sbpl_graph.Network.{Network}
use Rattle.sbpl_cert.specs.declared.flaw.Flaw.{Flaw}
use Rattle.sbpl_cert.specs.declared.flaw.Flaw.TheVariants as flaw
use Rattle.sbpl_cert.specs.declared.section.Section.{Section}
use Rattle.sbpl_cert.specs.declared.section.Section.TheVariants.{Full, Sparse}
use Rattle.sbpl_cert.specs.Flaws.{HasFlaw, HasNoFlaw, IsFirstFlaw}
use Rattle.sbpl_cert.specs.Versions.{claim_by}
use Rattle.sbpl_cert.proofs.Order.{one_first}

not_own : IsTrue false → ⊥
not_own is = cc

module _ (n : Network) (start goal : ℕ) (h k : ℕ → ℕ) (same : (u : ℕ) → u < n.states → h u ≡ k u) where
  moved : (s : Section) (f : Flaw) → HasFlaw n start goal (claim_by h s) f → HasFlaw n start goal (claim_by k s) f
  moved (Full s) f has = has
  moved (Sparse s) (flaw.Start g) has = has
  moved (Sparse s) (flaw.Arc u a x y) has = has
  moved (Sparse s) (flaw.GoalGuide x) has = absurd (not_own has.0)
  moved (Sparse s) (flaw.Guide u a x y) has = absurd (not_own has.0)
  moved (Sparse s) (flaw.Low u x y) has = record {
    limit = elim has.limit [
      | inl at ↦ inl at
      | inr off ↦ inr (off.0, off.1, off.2, off.3 ∙ ap (λ (m : ℕ). (claim_by k (Sparse s)).g u + m) (same u off.1))
    ];
    has_is = has.has_is;
    above = has.above;
  }
  moved (Sparse s) (flaw.Path i) has = record {
    cost = has.cost;
    bound = has.bound;
    outcome = has.outcome;
    inside = has.inside;
    at = has.at;
    paid = has.paid;
    before = has.before;
    shut = has.shut;
  }
  moved (Sparse s) (flaw.Cost x y) has =
      record { bound = has.bound; outcome = has.outcome; end = has.end; path = has.path; differ = has.differ }
  moved (Sparse s) (flaw.Bound x y) has =
      record { cost = has.cost; outcome = has.outcome; least_is = has.least_is; differ = has.differ }
  moved (Sparse s) (flaw.Goal u) has = elim has [
    | inl off ↦
        inl (record {
          cost = off.cost;
          bound = off.bound;
          outcome = off.outcome;
          paid = off.paid;
          path = off.path;
          other = off.other;
        })
    | inr open_ ↦
        inr (record { outcome = open_.outcome; inside = open_.inside; near = open_.near; unsettled = open_.unsettled })
  ]

pub one_first_by : (n : Network) (start goal : ℕ) (s : Section) (h k : ℕ → ℕ) (f e : Flaw)
    → ((u : ℕ) → u < n.states → h u ≡ k u)
    → IsFirstFlaw n start goal (claim_by h s) f → IsFirstFlaw n start goal (claim_by k s) e → f ≡ e
one_first_by n start goal s h k f e same one two = one_first n start goal (claim_by k s) f e (record {
  has = moved n start goal h k same s f one.has;
  first = λ d has before. one.first d (moved n start goal k h (λ u inside. sym (same u inside)) s d has) before;
}) two

pub none_by : (n : Network) (start goal : ℕ) (s : Section) (h k : ℕ → ℕ) (f : Flaw)
    → ((u : ℕ) → u < n.states → h u ≡ k u)
    → HasNoFlaw n start goal (claim_by h s) → HasFlaw n start goal (claim_by k s) f → ⊥
none_by n start goal s h k f same none has = none f (moved n start goal k h (λ u inside. sym (same u inside)) s f has)
