use Rattle.std.proofs.Common.{ℕ, ℤ}
use Rattle.sbpl_mprim.specs.sbpl_cfg.declared.pose.Pose.{Pose}
use Rattle.sbpl_sweep.specs.Bands.{IsDisc, AddsRows, gap_beside}
use Rattle.sbpl_sweep.proofs.RowsTouched.{IsNarrowed}
use Rattle.sbpl_sweep.proofs.rows.push_rows.Given as goal

abbrev pub invariant-loop-n : goal.invariant-loop-n
invariant-loop-n l = record {
  narrowed : IsNarrowed l.disc (gap_beside l.upward l.disc.row) l.n l.left l.right;
  added : (cell : ℤ) (radius : ℕ) (p : Pose) → IsDisc cell radius p l.disc
      → AddsRows cell radius p l.upward l.disc.row.own l.n l.initial.bands.items l.bands.items;
}
