use Rattle.std.proofs.Common.{◌≡◌, ℕ, Option, Some, None, IfNone, sym, ap, ◌∙◌}
use Rattle.sbpl_terrain.specs.Ends.{at_end}
use Rattle.sbpl_nav2d.specs.declared.cell.Cell.{Cell}
use Rattle.sbpl_nav2d.specs.Directions.{direction, moved, moved_back}
use Rattle.sbpl_nav2d.specs.Grids.{state_at}
use Rattle.sbpl_nav2d.proofs.Adding.{no_source, no_end, end_there}
use Rattle.sbpl_nav2d.proofs.reading.end_reading.Goals as goal

if_none : (o : Option ℕ) (P : Type 0) → P → IfNone o P
if_none None P h = h
if_none (Some t) P h = tt

-- where the head is looked for
there_is : (cell offset from step there : Cell) (k : ℕ) → there ≡ moved from step
    → from ≡ moved_back cell offset → step ≡ direction k
    → there ≡ moved (moved_back cell offset) (direction k)
there_is cell offset from step there k is from_is step_is =
    is ∙ ap (λ a. moved a step) from_is ∙ ap (moved (moved_back cell offset)) step_is

pub returns-in_err-source-clause-no_state : goal.returns-in_err-source-clause-no_state
returns-in_err-source-clause-no_state c =
    let none : state_at c.args.nav.now.map (moved_back c.args.cell c.args.offset) ≡ None =
    ap (state_at c.args.nav.now.map) (sym c.moved_back-from.ensures.cell) ∙ sym c.in_err-source.ensures.value in
    if_none _ _ (no_source c.args.end c.args.nav.now c.args.k c.args.offset c.args.cell
    c.env-env.ensures.kept c.requires.number none)

pub returns-in_err-head-clause-no_state : goal.returns-in_err-head-clause-no_state
returns-in_err-head-clause-no_state c =
    let there = there_is c.args.cell c.args.offset c.moved_back-from.result c.direction.result c.moved.result c.args.k
    c.moved.ensures.cell c.moved_back-from.ensures.cell c.direction.ensures.value in
    let none : state_at c.args.nav.now.map (moved (moved_back c.args.cell c.args.offset) (direction c.args.k)) ≡ None =
    ap (state_at c.args.nav.now.map) (sym there) ∙ sym c.in_err-head.ensures.value in
    if_none _ _ (no_end c.args.end c.args.nav.now c.args.k c.args.offset c.args.cell
    c.env-env.ensures.kept c.requires.number none)

pub returns-in-Source-clause-state : goal.returns-in-Source-clause-state
returns-in-Source-clause-state c =
    let there = there_is c.args.cell c.args.offset c.moved_back-from.result c.direction.result c.moved.result c.args.k
    c.moved.ensures.cell c.moved_back-from.ensures.cell c.direction.ensures.value in
    end_there c.args.end c.args.nav.now c.args.k c.args.offset c.args.cell c.env-env.ensures.kept c.requires.number
    c.in_ok-source.source c.in_ok-head.head c.in_ok-source.source
    (ap (state_at c.args.nav.now.map) (sym c.moved_back-from.ensures.cell) ∙ sym c.in_ok-source.ensures.value)
    (ap (state_at c.args.nav.now.map) (sym there) ∙ sym c.in_ok-head.ensures.value)
    (sym (ap (λ end. at_end end (c.in_ok-source.source, c.in_ok-head.head)) c.in-Source.is))

pub returns-in-Head-clause-state : goal.returns-in-Head-clause-state
returns-in-Head-clause-state c =
    let there = there_is c.args.cell c.args.offset c.moved_back-from.result c.direction.result c.moved.result c.args.k
    c.moved.ensures.cell c.moved_back-from.ensures.cell c.direction.ensures.value in
    end_there c.args.end c.args.nav.now c.args.k c.args.offset c.args.cell c.env-env.ensures.kept c.requires.number
    c.in_ok-source.source c.in_ok-head.head c.in_ok-head.head
    (ap (state_at c.args.nav.now.map) (sym c.moved_back-from.ensures.cell) ∙ sym c.in_ok-source.ensures.value)
    (ap (state_at c.args.nav.now.map) (sym there) ∙ sym c.in_ok-head.ensures.value)
    (sym (ap (λ end. at_end end (c.in_ok-source.source, c.in_ok-head.head)) c.in-Head.is))
