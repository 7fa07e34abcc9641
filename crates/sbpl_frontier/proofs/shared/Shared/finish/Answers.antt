use Rattle.std.proofs.Common.{ap, ◌∙◌, sym}
use Rattle.std.proofs.lemmas.List.{nil_from_length}
use Rattle.sbpl_postings.specs.Drained.{Drained}
use Rattle.sbpl_frontier.specs.Tied.{Sight}
use Rattle.sbpl_frontier.proofs.Finishing.{have_come, none_out}
use Rattle.sbpl_frontier.proofs.shared.Shared.finish.Goals as goal

pub returns-clause-out : goal.returns-clause-out
returns-clause-out g c =
    let line = ap (λ (s : Sight). s.line) c.locked.view_is in
    let ended = ap (λ (d : Drained). d.ended) line ∙ c.receive_rest.ensures.ended ∙ c.end_all-all_takes.ensures.ended in
    let brought = rw (← line) at c.receive_rest.ensures.brought in
    let whole =
    sym (c.audit.ensures.whole (c.end_all-all_takes.ensures.parts ∙ c.requires.all))
    ∙ c.end_all-all_takes.ensures.takes in
    let none =
    none_out c.locked.inside.core c.locked.inside.keeper c.locked.inside.takes.total c.locked.inside.drain
    c.args.seats.items c.into_inner-locked.result.line.ended c.locked.invariant.1 ended brought c.requires.even whole
    c.seen-seen.ensures.back in
    nil_from_length _ none.0

pub returns-clause-posts : goal.returns-clause-posts
returns-clause-posts g c =
    let line = ap (λ (s : Sight). s.line) c.locked.view_is in
    let ended = ap (λ (d : Drained). d.ended) line ∙ c.receive_rest.ensures.ended ∙ c.end_all-all_takes.ensures.ended in
    let brought = rw (← line) at c.receive_rest.ensures.brought in
    let whole =
    sym (c.audit.ensures.whole (c.end_all-all_takes.ensures.parts ∙ c.requires.all))
    ∙ c.end_all-all_takes.ensures.takes in
    (none_out c.locked.inside.core c.locked.inside.keeper c.locked.inside.takes.total c.locked.inside.drain
    c.args.seats.items c.into_inner-locked.result.line.ended c.locked.invariant.1 ended brought c.requires.even whole
    c.seen-seen.ensures.back).1

pub returns-clause-come : goal.returns-clause-come
returns-clause-come g c =
    let line = ap (λ (s : Sight). s.line) c.locked.view_is in
    let ended = ap (λ (d : Drained). d.ended) line ∙ c.receive_rest.ensures.ended ∙ c.end_all-all_takes.ensures.ended in
    let brought = rw (← line) at c.receive_rest.ensures.brought in
    have_come c.locked.inside.core c.locked.inside.keeper c.locked.inside.takes.total c.locked.inside.drain
    c.args.seats.items c.into_inner-locked.result.line.ended c.locked.invariant.1 ended brought

pub returns-clause-told : goal.returns-clause-told
returns-clause-told g c = c.locked.invariant.1.told
