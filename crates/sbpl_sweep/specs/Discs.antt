-- How large the numbers of a disc are.
use Rattle.std.specs.Prelude.{ℕ, pos, negsuc, ◌*◌, ◌^◌, ◌≤◌}
use Rattle.sbpl_mprim.specs.sbpl_cfg.Environment.{IsWithin}
use Rattle.sbpl_sweep.specs.declared.reach.Axis.{Axis}
use Rattle.sbpl_sweep.specs.declared.disc.Disc.{Disc}

pub record IsAxisInBounds (side : ℕ) (a : Axis) : Type 0 where
  pub own : IsWithin (negsuc 2999999999999) (pos 3000000000000) a.own
  pub before : a.before ≤ side
  pub after : a.after ≤ side

pub record IsInBounds (d : Disc) : Type 0 where
  pub column : IsAxisInBounds d.side d.column
  pub row : IsAxisInBounds d.side d.row
  pub side : (1 ≤ d.side) × (d.side ≤ 2 * 10 ^ 12)
  pub radius : d.radius ≤ 2 * 10 ^ 12
