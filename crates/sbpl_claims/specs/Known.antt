-- What the seats of the claims' table know.
use Rattle.std.specs.Prelude.{Option, Some, None, []}
use Rattle.sbpl_frontier_rules.specs.declared.leg.Leg.{Leg}
use Rattle.sbpl_claims.specs.Standing.{Standing}
use Rattle.sbpl_claims.specs.declared.known.Known.{Known}
use Rattle.sbpl_claims.specs.declared.known.Known.TheVariants.{Nothing, One, Whole}

-- the keeper's seat knows how the tickets stand, and a claim that was joined and is not settled yet, or none
abbrev pub whole : Standing → Option Leg → Known
whole now joined = Whole now.out now.next joined

-- how the tickets stand, as the keeper's seat knows it; for another seat no ticket is out
abbrev pub standing_of : Known → Standing
standing_of (Whole out next joined) = record { out = out; next = next }
standing_of (One leg) = record { out = []; next = 0 }
standing_of Nothing = record { out = []; next = 0 }

-- the claim of a seat, if it has one; for the keeper's it is the joined one
abbrev pub claim_of : Known → Option Leg
claim_of (Whole out next joined) = joined
claim_of (One leg) = Some leg
claim_of Nothing = None

-- its ticket with its state and arc; without a claim they are all 0
abbrev pub leg_in : Option Leg → Leg
leg_in (Some leg) = leg
leg_in None = record { ticket = 0; state = 0; arc = 0 }

abbrev pub leg_of : Known → Leg
leg_of v = leg_in (claim_of v)
