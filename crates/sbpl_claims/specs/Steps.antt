-- What each step does to what the seats know.
use Rattle.std.specs.Prelude.{◌≡◌, ℕ, ◌+◌, None, [], ◌∷◌, ◌++◌}
use Rattle.std.specs.List.{Contains}
use Rattle.atomic_table.specs.Table.{Me}
use Rattle.sbpl_frontier_rules.specs.declared.leg.Leg.{Leg}
use Rattle.sbpl_frontier_rules.specs.Frontier.{without}
use Rattle.sbpl_claims.specs.Standing.{Standing}
use Rattle.sbpl_claims.specs.Known.{claim_of, leg_of, standing_of, whole}
use Rattle.sbpl_claims.specs.declared.known.Known.{Known}
use Rattle.sbpl_claims.specs.declared.known.Known.TheVariants.{One}

-- at first no ticket is out, and the next one is number 0
abbrev pub none_made : Known
none_made = whole (record { out = []; next = 0 }) None

-- a claim is made: the next ticket goes out, with this state and arc
abbrev pub next_leg : Standing → (state arc : ℕ) → Leg
next_leg now state arc = record { ticket = now.next; state = state; arc = arc }

abbrev pub standing_with : Standing → Leg → Standing
standing_with now leg = record { out = now.out ++ leg ∷ []; next = now.next + 1 }

-- what the keeper's seat knows then, and what the seat of the claim knows
abbrev pub made : (state arc : ℕ) → Known → Known
made state arc v = whole (standing_with (standing_of v) (next_leg (standing_of v) state arc)) (claim_of v)

abbrev pub claim_made : (state arc : ℕ) → Known → Known
claim_made state arc v = One (next_leg (standing_of v) state arc)

-- a claim is joined: the keeper's seat has it, and the list stays
abbrev pub joined : (keeper claim : Known) → Known
joined v w = whole (standing_of v) (claim_of w)

-- the joined claim is settled: it stood in the list, and its ticket is taken out of it
abbrev pub standing_without : Standing → Leg → Standing
standing_without now leg = record { out = without leg.ticket now.out; next = now.next }

abbrev pub settled : Known → Known
settled v = whole (standing_without (standing_of v) (leg_of v)) None

abbrev pub IsSettled : {S : Type 0} → (before after : Me S Known) → Type 0
IsSettled before after = Contains (standing_of before.0).out (leg_of before.0) × (after ≡ (settled before.0, before.1))
