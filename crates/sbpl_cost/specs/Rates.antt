-- The least fractions that the gaps are computed from.
use Rattle.std.specs.Prelude.{◌≡◌, ℕ, ◌-◌, ◌*◌, ◌/◌, max, List, Option, Some, None}
use Rattle.sbpl_sweep.specs.sbpl_cfg.Environment.{Environment}
use Rattle.sbpl_sweep.specs.sbpl_cfg.declared.pose.Place.{Place}
use Rattle.sbpl_sweep.specs.sbpl_mprim.declared.prim.Primitive.{Primitive}
use Rattle.sbpl_cost.specs.declared.rate.Rate.{Rate}
use Rattle.sbpl_cost.specs.declared.gaps.Gaps.{Gaps}
use Rattle.sbpl_cost.specs.declared.way.Way.{Way}
use Rattle.sbpl_cost.specs.declared.way.Way.TheVariants.{Right, Left, Up, Down, Round}
use Rattle.sbpl_cost.specs.Gaps.{way_bound}
use Rattle.sbpl_cost.specs.PrimitiveCost.{heading_gap}
use Rattle.sbpl_cost.specs.States.{place_of}

-- what n cells cost by a fraction, rounded down
abbrev pub floor_at : Option Rate → ℕ → Option ℕ
floor_at None n = None
floor_at (Some r) n = Some (n * r.cost / r.cells)

-- this is the fraction whose floors are the bounds of a way
abbrev pub IsRate : Environment → List Primitive → Way → Rate → Type 0
IsRate e prims way r = (n : ℕ) → n * r.cost / r.cells ≡ way_bound e prims way n

-- these are the fractions of the five ways
pub record AreGaps (e : Environment) (prims : List Primitive) (gaps : Gaps) : Type 0 where
  pub right : IsRate e prims Right gaps.right
  pub left : IsRate e prims Left gaps.left
  pub up : IsRate e prims Up gaps.up
  pub down : IsRate e prims Down gaps.down
  pub round : IsRate e prims Round gaps.round

-- a cost for a number of cells, or of bins of a turn
pub record Fraction : Type 0 where
  pub cost : ℕ
  pub cells : ℕ

-- what n of them cost by it, rounded down
abbrev pub floor_of : Fraction → ℕ → ℕ
floor_of f n = n * f.cost / f.cells

-- what gaps are computed from: the environment, and the fractions of the five ways
pub record GapTable : Type 0 where
  pub env : Environment
  pub right : Fraction
  pub left : Fraction
  pub up : Fraction
  pub down : Fraction
  pub round : Fraction

abbrev pub fraction_of : Rate → Fraction
fraction_of r = record { cost = r.cost; cells = r.cells }

abbrev pub table_of : Environment → Gaps → GapTable
table_of e gaps = record {
  env = e;
  right = fraction_of gaps.right;
  left = fraction_of gaps.left;
  up = fraction_of gaps.up;
  down = fraction_of gaps.down;
  round = fraction_of gaps.round;
}

-- what going from one place to another costs at least
abbrev pub gap_by : GapTable → Place → Place → ℕ
gap_by t a b =
    max (max (floor_of t.right (b.x - a.x)) (floor_of t.left (a.x - b.x)))
    (max (max (floor_of t.up (b.y - a.y)) (floor_of t.down (a.y - b.y))) (floor_of t.round (heading_gap t.env.headings a.t b.t)))

-- and from one state to another
abbrev pub state_gap : GapTable → ℕ → ℕ → ℕ
state_gap t a b = gap_by t (place_of t.env a) (place_of t.env b)
