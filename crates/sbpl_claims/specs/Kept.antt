-- The rule of the claims, which every step keeps.
use Rattle.std.specs.Prelude.{◌≡◌, ◌≢◌, ℕ, ◌<◌, Option, Some, List}
use Rattle.std.specs.List.{All, Contains}
use mathlib.Core.Option.{some}
use lib.ListN.{get_elem?}
use Rattle.sbpl_frontier_rules.specs.declared.leg.Leg.{Leg}
use Rattle.sbpl_claims.specs.Standing.{Standing}
use Rattle.sbpl_claims.specs.Known.{claim_of, whole}
use Rattle.sbpl_claims.specs.declared.known.Known.{Known}

-- this seat is the keeper's, and knows this
abbrev pub IsKeeper : List Known → (seat : ℕ) → Standing → Option Leg → Type 0
IsKeeper views seat now joined = get_elem? views seat ≡ some (whole now joined)

-- this seat has a claim on this ticket, with its state and arc
abbrev pub HasClaim : List Known → (seat : ℕ) → Leg → Type 0
HasClaim views seat leg = (v : Known) × (get_elem? views seat ≡ some v) × (claim_of v ≡ Some leg)

-- There is one keeper. Each claim, the joined one too, stands in its list, with its state and arc; no two claims are on one ticket;
-- and each ticket in the list is below the next one.
pub record AreKept (keeper : ℕ) (now : Standing) (joined : Option Leg) (views : List Known) : Type 0 where
  pub keeps : IsKeeper views keeper now joined
  pub alone : (seat : ℕ) (other : Standing) (claim : Option Leg) → IsKeeper views seat other claim → seat ≡ keeper
  pub stands : (seat : ℕ) (leg : Leg) → HasClaim views seat leg → Contains now.out leg
  pub apart : (a b : ℕ) (x y : Leg) → a ≢ b → HasClaim views a x → HasClaim views b y → x.ticket ≢ y.ticket
  pub below : All (λ leg. leg.ticket < now.next) now.out

abbrev pub IsKept : List Known → Type 0
IsKept views = (keeper : ℕ) × (now : Standing) × (joined : Option Leg) × AreKept keeper now joined views
