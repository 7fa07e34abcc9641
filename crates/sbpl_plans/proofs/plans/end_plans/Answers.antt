use Rattle.std.proofs.Common.{◌==◌, if◌then◌else◌, ℕ, List, [], ◌++◌, ap, ◌∙◌}
use Rattle.sbpl_worlds.specs.sbpl_report.Statuses.{number_of}
use Rattle.sbpl_telling.proofs.Endings.{ends_as, ends_at_once, tells_if_done}
use Rattle.sbpl_plans.proofs.plans.end_plans.Goals as goal

pub returns-in-Ok-clause-ends : goal.returns-in-Ok-clause-ends
returns-in-Ok-clause-ends g c = ends_as c.end_with.ensures.ends

pub returns-in-Ok-clause-told : goal.returns-in-Ok-clause-told
returns-in-Ok-clause-told g c =
    tells_if_done c.end_with.ensures.ends
    ∙ ap (λ (l : List ℕ). if number_of c.end_with.result.status == 0 then l else [])
    (c.of.ensures.items ∙ c.in-Ok.ensures.appended ∙ ap (λ (l : List ℕ). c.args.why.items ++ l) c.as_slice.ensures.items)

pub returns-in-Err-clause-ends : goal.returns-in-Err-clause-ends
returns-in-Err-clause-ends g c =
    ends_as {why = []} (ends_at_once (ap number_of c.plain.ensures.status) c.plain.ensures.untold)

pub returns-in-Err-clause-told : goal.returns-in-Err-clause-told
returns-in-Err-clause-told g c =
    tells_if_done {writes = []} (ends_at_once {a = g.D.Desk.state c.args.desk.now} (ap number_of c.plain.ensures.status) c.plain.ensures.untold)
