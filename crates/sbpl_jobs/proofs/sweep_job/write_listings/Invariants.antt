use Rattle.sbpl_jobs.proofs.Makings.{IsListingTo}
use Rattle.sbpl_jobs.proofs.sweep_job.write_listings.Given as goal

abbrev pub invariant-loop-i : goal.invariant-loop-i
invariant-loop-i g l = IsListingTo (g.D.Desk.state l.fn.desk) (g.D.Desk.state l.desk) l.lattice l.i
