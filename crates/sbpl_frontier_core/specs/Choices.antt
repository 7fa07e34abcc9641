-- What a core does next where no arc is ready.
use Rattle.sbpl_frontier_rules.specs.sbpl_search.Query.{Query}
use Rattle.sbpl_frontier_rules.specs.Events.{IsOutOfBudget, IsRest, MayOpen}
use Rattle.sbpl_frontier_rules.specs.Frontier.{Frontier}
use Rattle.sbpl_frontier_core.specs.declared.choice.Choice.{Choice}
use Rattle.sbpl_frontier_core.specs.declared.choice.Choice.TheVariants.{Opens, NotYet, Over, Spent}
use Rattle.sbpl_frontier_core.specs.Answers.{IsFirstChoice, IsWaiting}

abbrev pub IsChoice : Query → Frontier → Choice → Type 0
IsChoice q f (Opens s) = MayOpen q f s × IsFirstChoice q f s
IsChoice q f NotYet = IsWaiting q f
IsChoice q f Over = IsRest q f
IsChoice q f Spent = IsOutOfBudget q f
