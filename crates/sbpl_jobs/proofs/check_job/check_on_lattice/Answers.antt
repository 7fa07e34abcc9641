use Rattle.std.proofs.Common.{Bool, suc, length, sym, subst}
use Rattle.sbpl_checks.specs.Checking.{EndsSections}
use Rattle.sbpl_checks.specs.sbpl_fixed.Formats.{start_at}
use Rattle.sbpl_checks.specs.sbpl_promises.Checked.{case_of}
use Rattle.sbpl_checks.specs.sbpl_promises.LatticeSite.{lattice_site}
use Rattle.sbpl_checks.specs.sbpl_promises.Sites.{searched_on}
use Rattle.sbpl_jobs.proofs.check_job.check_on_lattice.Goals as goal

pub returns-then-back-clause-ends : goal.returns-then-back-clause-ends
returns-then-back-clause-ends g c =
    subst (λ (b : Bool). EndsSections (case_of (searched_on lattice_site b) c.args.lattice c.args.updates.now c.args.start
    c.args.goal) 0 (suc (length c.args.updates.now.batches)) (start_at c.args.labels.now.text.now 0) c.args.labels.now
    (g.D.Desk.state c.args.desk.now) (g.D.Desk.state c.check_text-ending.new.desk) c.check_text-ending.result)
    (sym c.if-back.true) (rw c.new-reversed.ensures.lattice at c.check_text-ending.ensures.ends)

pub returns-clause-ends : goal.returns-clause-ends
returns-clause-ends g c =
    subst (λ (b : Bool). EndsSections (case_of (searched_on lattice_site b) c.args.lattice c.args.updates.now c.args.start
    c.args.goal) 0 (suc (length c.args.updates.now.batches)) (start_at c.args.labels.now.text.now 0) c.args.labels.now
    (g.D.Desk.state c.args.desk.now) (g.D.Desk.state c.check_text-ending-2.new.desk) c.check_text-ending-2.result)
    (sym c.if-back.false) c.check_text-ending-2.ensures.ends
