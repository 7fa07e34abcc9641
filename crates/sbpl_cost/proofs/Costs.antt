-- Each primitive costs something.
use Rattle.std.proofs.Common.{◌≢◌, ℕ, ℤ, ◌*◌, ◌<◌, ◌≤◌, max, arith, inl, inr}
use Rattle.std.proofs.lemmas.Bool.{cases_lt}
use Rattle.std.proofs.lemmas.Nat.{mul-le}
use Rattle.sbpl_sweep.specs.sbpl_mprim.declared.prim.Primitive.{Primitive}
use Rattle.sbpl_sweep.specs.sbpl_mprim.Primitives.{IsPrimitive}
use Rattle.sbpl_cost.specs.PrimitiveCost.{way_length}
use Rattle.sbpl_cost.proofs.Ways.{AreAtOnePoint-none}

pub product-some : (a b : ℕ) → 0 < a → 0 < b → 0 < a * b
product-some a b p q = let h = mul-le 1 1 a b p q in omega arith

-- the quotient of positive numbers, rounded up, is positive
pub quotient-some : (a b q : ℕ) → 0 < a → a ≤ q * b → 1 ≤ q
quotient-some a b q some enough = elim (cases_lt 0 q) [
  | inl lt ↦ lt
  | inr le ↦ absurd (let n = mul-le q b 0 b le (omega arith) in omega arith)
]

-- a primitive goes somewhere or turns
pub time-some : (cell : ℤ) (headings way turn : ℕ) (prim : Primitive) → IsPrimitive cell headings prim
    → (0 < way_length prim.poses → 1 ≤ way) → (prim.from ≢ prim.to → 1 ≤ turn) → 1 ≤ max way turn
time-some cell headings way turn prim is goes turns = elim (cases_lt 0 (way_length prim.poses)) [
  | inl lt ↦ let h = goes lt in omega arith
  | inr le ↦ let h = turns (is.moves (AreAtOnePoint-none prim.poses (omega arith))) in omega arith
]
