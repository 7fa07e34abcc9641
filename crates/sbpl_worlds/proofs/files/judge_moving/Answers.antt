use Rattle.std.proofs.Common.{ℕ, Some, true, ap, subst, ◌∙◌}
use Rattle.sbpl_promises.specs.sbpl_cfg.Environment.{Environment}
use Rattle.sbpl_promises.specs.sbpl_map.CellMap.{CellMap}
use Rattle.sbpl_promises.specs.sbpl_map.LineFaults.{HasTextFault}
use Rattle.sbpl_promises.specs.Causes.{scope_of}
use Rattle.sbpl_worlds.proofs.files.judge_moving.Goals as goal

pub returns-in-Err-clause-stop : goal.returns-in-Err-clause-stop
returns-in-Err-clause-stop c = c.stop_for.ensures.stop (scope_of c.args.states true c.args.lattice.now)
    (λ some. subst (λ (m : CellMap).
    HasTextFault c.args.states m (Some c.args.lattice.now.env.headings) c.args.text.now c.in-Err.fault) c.map.ensures.map
    (subst (λ (n : ℕ). HasTextFault c.args.states c.map.result.now (Some n) c.args.text.now c.in-Err.fault)
    (ap (λ (e : Environment). e.headings) c.behind-lattice.view_is
    ∙ ap (λ (e : Environment). e.headings) c.env.ensures.env) (c.in-Err.ensures.faulty some)))
