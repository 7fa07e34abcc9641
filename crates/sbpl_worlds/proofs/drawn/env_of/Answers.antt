use Rattle.std.proofs.Common.{ℕ, List, ap, rules}
use Rattle.sbpl_promises.specs.sbpl_cfg.Environment.{Environment}
use Rattle.sbpl_promises.specs.sbpl_demo.Environment.{costs, environment}
use Rattle.sbpl_worlds.proofs.Drawings.{same_ok}
use Rattle.sbpl_worlds.proofs.drawn.env_of.Goals as goal

pub unreachable-requires : goal.unreachable-requires
unreachable-requires c =
    let x : Environment × List ℕ = (
      environment c.args.job.now.width c.args.job.now.height,
      costs c.args.job.now.width c.args.job.now.height c.args.job.now.seed,
    ) in
    let told = c.in-Err.ensures.only x c.requires.said in
    search rules

pub returns-in-Ok-clause-env : goal.returns-in-Ok-clause-env
returns-in-Ok-clause-env c =
    let x : Environment × List ℕ = (
      environment c.args.job.now.width c.args.job.now.height,
      costs c.args.job.now.width c.args.job.now.height c.args.job.now.seed,
    ) in
    ap (λ (y : Environment × List ℕ). y.0) (same_ok c.in-Ok.drawn x (c.in-Ok.ensures.only x c.requires.said))

pub returns-in-Ok-clause-grid : goal.returns-in-Ok-clause-grid
returns-in-Ok-clause-grid c =
    let x : Environment × List ℕ = (
      environment c.args.job.now.width c.args.job.now.height,
      costs c.args.job.now.width c.args.job.now.height c.args.job.now.seed,
    ) in
    ap (λ (y : Environment × List ℕ). y.1) (same_ok c.in-Ok.drawn x (c.in-Ok.ensures.only x c.requires.said))
