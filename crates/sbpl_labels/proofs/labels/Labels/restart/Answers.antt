use Rattle.std.proofs.Common.{ap, arith, length}
use Rattle.sbpl_labels.specs.Marks.{states_of}
use Rattle.sbpl_labels.proofs.Opened.{opened_rows, exact_where_opened, not_under_where_opened, fits_where_opened}
use Rattle.sbpl_labels.proofs.labels.Labels.restart.Goals as goal

pub returns-clause-opened : goal.returns-clause-opened
returns-clause-opened c =
    rw (← c.self.view_is)
    (opened_rows (length c.self.inside.rows) c.args.start c.fill.ensures.count (omega (arith, c.requires.start, ap states_of c.self.view_is))
    c.fill.ensures.rows c.set_way.ensures.set)

pub returns-clause-exact : goal.returns-clause-exact
returns-clause-exact c = exact_where_opened (returns-clause-opened c)

pub returns-clause-not_under : goal.returns-clause-not_under
returns-clause-not_under c =
    not_under_where_opened (returns-clause-opened c) c.requires.start

pub returns-clause-fits : goal.returns-clause-fits
returns-clause-fits c = fits_where_opened (returns-clause-opened c)
