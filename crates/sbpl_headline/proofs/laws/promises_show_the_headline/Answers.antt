use Rattle.sbpl_headline.proofs.Showing.{headline_shown}
use Rattle.sbpl_headline.proofs.laws.promises_show_the_headline.Goals as goal

pub returns : goal.returns
returns c = record {
  law = headline_shown c.words_part_into_forms.ensures.parts;
}
