-- How a journal grows, and to whom arcs are handed out.
use Rattle.std.proofs.Common.{ℕ, List, [], ◌∷◌, ◌++◌, ap, sym, ◌∙◌, append-nil, append_assoc}
use Rattle.std.proofs.lemmas.List.Elements.{All-push}
use Rattle.sbpl_frontier_rules.specs.sbpl_search.Query.{Query}
use Rattle.sbpl_frontier_rules.specs.declared.event.Event.{Event}
use Rattle.sbpl_frontier_rules.specs.declared.event.Event.TheVariants.{Opened}
use Rattle.sbpl_frontier_core.specs.Answers.{AreOpenings, OpensTo}
use Rattle.sbpl_frontier_core.specs.Book.{Book}
use Rattle.sbpl_frontier_core.specs.Longer.{IsLonger}
use Rattle.sbpl_frontier_core.specs.Seats.{AreTakenBelow, IsTakenBelow}

-- ---- more events

pub longer_then : {first second third : List Event} → IsLonger first second → IsLonger second third
    → IsLonger first third
longer_then {first} one other = record {
  more = one.more ++ other.more;
  is =
      other.is ∙ ap (λ (l : List Event). l ++ other.more) one.is ∙ append_assoc first one.more other.more;
}

pub longer_none : (events : List Event) → IsLonger events events
longer_none events = record { more = []; is = sym (append-nil events) }

openings_longer : (q : Query) (states : List ℕ) (old new : Book) → AreOpenings q states old new
    → IsLonger old.journal new.journal
openings_longer q [] old new same = rw same (longer_none old.journal)
openings_longer q (s ∷ rest) old new opened =
    longer_then (record { more = Opened s ∷ []; is = opened.1.journal }) (openings_longer q rest opened.0 new opened.2)

pub opens_longer : (q : Query) (old new : Book) → OpensTo q old new → IsLonger old.journal new.journal
opens_longer q old new opens = openings_longer q opens.0 old new opens.1

-- ---- seats

-- openings hand out none
openings_taken : (q : Query) (seats : ℕ) (states : List ℕ) (old new : Book) → AreOpenings q states old new
    → AreTakenBelow seats old.journal → AreTakenBelow seats new.journal
openings_taken q seats [] old new same all = rw same all
openings_taken q seats (s ∷ rest) old new opened all =
    openings_taken q seats rest opened.0 new opened.2
    (rw opened.1.journal (All-push (IsTakenBelow seats) old.journal (Opened s) all tt))

pub opens_taken : (q : Query) (seats : ℕ) (old new : Book) → OpensTo q old new → AreTakenBelow seats old.journal
    → AreTakenBelow seats new.journal
opens_taken q seats old new opens all = openings_taken q seats opens.0 old new opens.1 all
