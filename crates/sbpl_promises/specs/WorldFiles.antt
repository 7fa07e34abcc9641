-- The files of which a world of a site is made.
use Rattle.std.specs.Prelude.{Bool}
use Rattle.sbpl_report.specs.declared.refusal.Refusal.{Refusal}
use Rattle.sbpl_promises.specs.Sites.{Site}
use Rattle.sbpl_promises.specs.Texts.{Scope}
use Rattle.sbpl_promises.specs.Writing.{Names, Told}

-- on: the site
-- moves: whether the robot may move between plans
-- names: the names of the files
-- stand_for: as far as the desk tells, they stand for a world
-- refused: why they stand for none, where reads of some names may have failed
-- scope: for what the change file is read in a world
pub record WorldFiles (W : Type 0) : Type 1 where
  pub on : Site W
  pub moves : Bool
  pub names : Names
  pub stand_for : Told → W → Type 0
  pub refused : Told → (Failed : Names) → Refusal → Type 0
  pub scope : W → Scope
