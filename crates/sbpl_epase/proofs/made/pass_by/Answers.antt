use Rattle.sbpl_epase.proofs.made.pass_by.Goals as goal

pub returns-clause-finished : goal.returns-clause-finished
returns-clause-finished g c =
    ((c.requires.makes _ c.args.graph c.args.guide c.args.workers c.args.parts c.args.goal c.args.eps c.args.keeps c.requires.can).1 _
    c.make.ensures).finished

pub returns-clause-seats : goal.returns-clause-seats
returns-clause-seats g c =
    ((c.requires.makes _ c.args.graph c.args.guide c.args.workers c.args.parts c.args.goal c.args.eps c.args.keeps c.requires.can).1 _
    c.make.ensures).seats

pub returns-clause-over : goal.returns-clause-over
returns-clause-over g c =
    ((c.requires.makes _ c.args.graph c.args.guide c.args.workers c.args.parts c.args.goal c.args.eps c.args.keeps c.requires.can).1 _
    c.make.ensures).over

pub returns-clause-given_up : goal.returns-clause-given_up
returns-clause-given_up g c =
    ((c.requires.makes _ c.args.graph c.args.guide c.args.workers c.args.parts c.args.goal c.args.eps c.args.keeps c.requires.can).1 _
    c.make.ensures).given_up

pub returns-clause-over_left : goal.returns-clause-over_left
returns-clause-over_left g c =
    ((c.requires.makes _ c.args.graph c.args.guide c.args.workers c.args.parts c.args.goal c.args.eps c.args.keeps c.requires.can).1 _
    c.make.ensures).over_left
