use Rattle.sbpl_map.proofs.MapLaws.{map_at_first, map_after_next, one_map, written_more}
use Rattle.sbpl_map.proofs.after.writes_lead_to_the_next_map.Goals as goal

pub returns-clause-first : goal.returns-clause-first
returns-clause-first c = map_at_first

pub returns-clause-one_write : goal.returns-clause-one_write
returns-clause-one_write c = written_more

pub returns-clause-next : goal.returns-clause-next
returns-clause-next c = map_after_next

pub returns-clause-one_map : goal.returns-clause-one_map
returns-clause-one_map c = one_map
