-- Where the robot is said to be.
use Rattle.std.specs.Prelude.{ℕ, List, slice_get, Option, Some, None, option_and_then, option_map, unwrap_or}
use Rattle.sbpl_promises.specs.sbpl_cfg.declared.pose.Place.{Place}
use Rattle.sbpl_promises.specs.Sites.{Reporting}

-- where the robot is said to be from batch k on, if that is said
abbrev pub move_at : Option (List (Option Place)) → ℕ → Option Place
move_at None k = None
move_at (Some moves) k = option_and_then (λ place. place) (slice_get moves k)

-- the state of a place, and this state where no place is given
abbrev pub state_or : {W : Type 0} → Reporting W → W → Option Place → (start : ℕ) → ℕ
state_or words w place start = unwrap_or (option_map (words.state w) place) start
