-- States are opened one after another.
use Rattle.std.proofs.Common.{◌≡◌, ℕ, List, [], ◌∷◌, ◌++◌, refl, ap, subst, ◌∙◌}
use Rattle.std.proofs.lemmas.Bool.{eq-eqb}
use Rattle.sbpl_frontier_rules.specs.sbpl_search.Query.{Query}
use Rattle.sbpl_frontier_rules.specs.declared.leg.Leg.{Leg}
use Rattle.sbpl_frontier_rules.specs.Frontier.{without}
use Rattle.sbpl_frontier_core.specs.Answers.{AreOpenings, IsNextOpening, OpensTo}
use Rattle.sbpl_frontier_core.specs.Book.{Book}

-- one more state is opened
openings_push : (q : Query) (states : List ℕ) (s : ℕ) (old mid new : Book) → AreOpenings q states old mid
    → IsNextOpening q mid s new
    → AreOpenings q (states ++ s ∷ []) old new
openings_push q [] s old mid new before next = (new, subst (λ (b : Book). IsNextOpening q b s new) before next, refl)
openings_push q (first ∷ rest) s old mid new before next =
    (before.0, before.1, openings_push q rest s before.0 mid new before.2 next)

pub opens_more : (q : Query) (s : ℕ) (old mid new : Book) → OpensTo q old mid
    → IsNextOpening q mid s new → OpensTo q old new
opens_more q s old mid new before next = (before.0 ++ s ∷ [], openings_push q before.0 s old mid new before.1 next)

-- openings change no arc that is out, and no ticket number
openings_keep : (q : Query) (states : List ℕ) (old new : Book) → AreOpenings q states old new
    → (new.frontier.out ≡ old.frontier.out) × (new.frontier.next ≡ old.frontier.next)
openings_keep q [] old new same = (ap (λ (b : Book). b.frontier.out) same, ap (λ (b : Book). b.frontier.next) same)
openings_keep q (first ∷ rest) old new all =
    let later = openings_keep q rest all.0 new all.2 in
    (later.0 ∙ all.1.opening.out, later.1 ∙ all.1.opening.next)

pub opens_keep : (q : Query) (old new : Book) → OpensTo q old new
    → (new.frontier.out ≡ old.frontier.out) × (new.frontier.next ≡ old.frontier.next)
opens_keep q old new opens = openings_keep q opens.0 old new opens.1

-- the only arc that is out is taken back
pub none_without : (leg : Leg) → without leg.ticket (leg ∷ []) ≡ []
none_without leg = rw (eq-eqb leg.ticket leg.ticket refl) refl
