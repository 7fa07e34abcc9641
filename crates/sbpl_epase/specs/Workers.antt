-- What workers leave.
use Rattle.std.specs.Prelude.{List, [], ◌∷◌}
use Rattle.sbpl_adstar.specs.sbpl_labels.Counts.{Counts}
use Rattle.sbpl_adstar.specs.sbpl_labels.Marks.{Marks}
use Rattle.sbpl_adstar.specs.sbpl_labels.declared.pass_end.PassEnd.{PassEnd}
use Rattle.sbpl_adstar.specs.sbpl_search.Query.{Query}
use Rattle.sbpl_frontier.specs.sbpl_frontier_rules.declared.event.Event.{Event}
use Rattle.sbpl_frontier.specs.sbpl_frontier_core.Passes.{EndsSo}
use Rattle.sbpl_frontier.specs.Come.{HaveCome}
use Rattle.sbpl_frontier.specs.Tally.{Tally}
use Rattle.sbpl_frontier.specs.Turns.{LeadsTo}

-- The worker in this seat saw how the pass ends: by a journal that leads from the beginning of the pass to such an end, and that has
-- all judgements that it posted, in its order, whole and once.
pub record SawEnd (q : Query) (opening : Marks) (counts : Counts) (end : PassEnd) (seat : Tally) : Type 0 where
  pub seen : List Event
  pub leads : LeadsTo q opening counts seen (EndsSo q end)
  pub own : HaveCome seen (seat ∷ [])

-- the worker in this seat has ended, since it saw how the pass ends
abbrev pub HasEnded : Query → Marks → Counts → Tally → Type 0
HasEnded q opening counts seat = ∥ ((end : PassEnd) × SawEnd q opening counts end seat) ∥₁
