use Rattle.sbpl_laws.proofs.Promising.{promised}
use Rattle.sbpl_laws.proofs.laws.runs_keep_promises.Goals as goal

pub returns : goal.returns
returns c = record {
  law =
      promised c.causes_stand.ensures.law c.texts_are_clear.ensures.files c.texts_are_clear.ensures.sections
      c.writes_lead_to_the_next_map.ensures.one_map c.alike_worlds_are_one_graph.ensures.law
      c.records_are_determined.ensures.law c.records_are_determined.ensures.few c.records_are_determined.ensures.grids
      c.records_are_determined.ensures.few_on_grids;
}
