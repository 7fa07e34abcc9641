use Rattle.std.proofs.Common.{◌≡◌, ◌++◌, lit≤}
use Rattle.std.specs.List.{flat_map}
use Rattle.std.proofs.lemmas.Result.{IfOk-weaker}
use Rattle.sbpl_cost.specs.sbpl_map.CellMap.{CellMap}
use Rattle.sbpl_demo.specs.Changes.{changes_drawn}
use Rattle.sbpl_demo.specs.Environment.{costs, environment}
use Rattle.sbpl_demo.specs.Primitives.{head_lines, motion_lines, motions, primitives}
use Rattle.sbpl_demo.proofs.Batches.{are_changes}
use Rattle.sbpl_demo.proofs.Eighty.{are_primitives}
use Rattle.sbpl_demo.proofs.Environments.{few_states, is_environment, is_grid}
use Rattle.sbpl_demo.proofs.Prices.{are_cheap, are_narrow}
use Rattle.sbpl_demo.proofs.Shown.{file_shown}
use Rattle.sbpl_demo.proofs.files.generate.Goals as goal

pub returns-clause-env_said : goal.returns-clause-env_said
returns-clause-env_said c =
    let w = c.args.width in
    let h = c.args.height in
    let said = c.texts_are_environments_or_faulty.ensures.printed 8388608 (environment w h) (costs w h c.args.seed)
    (few_states w h c.requires.width.1 c.requires.height.1)
    (is_environment w h c.requires.width.0 c.requires.width.1 c.requires.height.0 c.requires.height.1)
    (is_grid w h c.args.seed) in
    IfOk-weaker c.draw_files.result _ _ (λ demo is. rw is said) c.draw_files.ensures.env

pub returns-clause-prims_said : goal.returns-clause-prims_said
returns-clause-prims_said c =
    let said =
    c.texts_are_primitives_or_faulty.ensures.worded primitives (head_lines ++ flat_map motion_lines (motions 16))
    are_primitives file_shown in
    IfOk-weaker c.draw_files.result _ _ (λ demo is. rw is said) c.draw_files.ensures.prims

pub returns-clause-changes_said : goal.returns-clause-changes_said
returns-clause-changes_said c =
    let w = c.args.width in
    let h = c.args.height in
    let said = λ (m : CellMap) (wide : m.width ≡ w) (high : m.height ≡ h).
    c.texts_are_changes_or_faulty.ensures.printed 8388608 m (changes_drawn w h c.args.seed) (lit≤ tt)
    (are_changes w h c.args.seed m c.requires.width.0 c.requires.width.1 c.requires.height.0
    c.requires.height.1 wide high) in
    IfOk-weaker c.draw_files.result _ _ (λ demo is m wide high. rw is (said m wide high)) c.draw_files.ensures.changes

pub returns-clause-narrow : goal.returns-clause-narrow
returns-clause-narrow c = are_narrow c.few_poses_are_narrow.ensures.narrow

pub returns-clause-cheap : goal.returns-clause-cheap
returns-clause-cheap c = are_cheap c.cost_parts_are_least.ensures.distances c.args.width c.args.height
