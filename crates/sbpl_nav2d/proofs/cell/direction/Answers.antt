use Rattle.std.proofs.Common.{◌≡◌, refl, arith}
use Rattle.sbpl_nav2d.specs.Directions.{direction}
use Rattle.sbpl_nav2d.proofs.cell.direction.Goals as goal

pub returns-in-0-clause-value : goal.returns-in-0-clause-value
unfolding direction
returns-in-0-clause-value c = rw c.in-0.is refl

pub returns-in-1-clause-value : goal.returns-in-1-clause-value
unfolding direction
returns-in-1-clause-value c = rw c.in-1.is refl

pub returns-in-2-clause-value : goal.returns-in-2-clause-value
unfolding direction
returns-in-2-clause-value c = rw c.in-2.is refl

pub returns-in-3-clause-value : goal.returns-in-3-clause-value
unfolding direction
returns-in-3-clause-value c = rw c.in-3.is refl

pub returns-in-4-clause-value : goal.returns-in-4-clause-value
unfolding direction
returns-in-4-clause-value c = rw c.in-4.is refl

pub returns-in-5-clause-value : goal.returns-in-5-clause-value
unfolding direction
returns-in-5-clause-value c = rw c.in-5.is refl

pub returns-in-6-clause-value : goal.returns-in-6-clause-value
unfolding direction
returns-in-6-clause-value c = rw c.in-6.is refl

pub returns-in_default-clause-value : goal.returns-in_default-clause-value
unfolding direction
returns-in_default-clause-value c = let last : c.args.k ≡ 7 = omega arith in rw last refl
