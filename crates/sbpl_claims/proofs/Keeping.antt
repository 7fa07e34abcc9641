-- Each step of the claims' table keeps the rule.
use Rattle.std.proofs.Common.{◌≡◌, ◌≢◌, ℕ, zero, suc, ◌+◌, ◌<◌, ◌⊎◌, Bool, true, false, not, nat_eq, cond, Option}
use Rattle.std.proofs.Common.{Some, None, List, [], ◌∷◌, ◌++◌, length, set, arith, subst, sym, refl, ap, ◌∙◌, inl}
use Rattle.std.proofs.Common.{inr, ⊎_elim, length-set}
use Rattle.std.specs.List.{Contains}
use Rattle.std.proofs.lemmas.Bool.{ne_eqb}
use Rattle.std.proofs.lemmas.Option.{none-some, same_Some}
use Rattle.std.proofs.lemmas.List.Elements.{All-contains, All-filter, All-nil, All-push}
use Rattle.std.proofs.lemmas.List.Elements.{All-weaker, Contains-append_left, Contains-push}
use mathlib.Core.Option.{some, some-injective, some-ne-none}
use lib.ListN.{get_elem?}
use Rattle.atomic_table.proofs.Lists.{at_longer, at_set, set_else, set_here}
use Rattle.sbpl_frontier_rules.specs.declared.leg.Leg.{Leg}
use Rattle.sbpl_frontier_rules.specs.Frontier.{without}
use Rattle.sbpl_claims.specs.declared.known.Known.{Known}
use Rattle.sbpl_claims.specs.declared.known.Known.TheVariants.{Nothing, One}
use Rattle.sbpl_claims.specs.Known.{claim_of, leg_of, standing_of, whole}
use Rattle.sbpl_claims.specs.Kept.{AreKept, HasClaim, IsKeeper, IsKept}
use Rattle.sbpl_claims.specs.Steps.{claim_made, joined, made, next_leg, none_made}
use Rattle.sbpl_claims.specs.Steps.{settled, standing_with, standing_without}
use Rattle.sbpl_claims.specs.Standing.{Standing}
use Rattle.sbpl_claims.proofs.Places.{at_end, at_inside, claim_at_end, claim_at_set}

-- a longer list still contains it
skip : (keeps : Bool) (first leg : Leg) (rest : List Leg) → Contains rest leg
    → Contains (cond keeps (first ∷ rest) rest) leg
skip true first leg rest (place, inside, at) = (suc place, omega arith, at)
skip false first leg rest here = here

-- an arc of another ticket stays out
stays : (legs : List Leg) (ticket : ℕ) (leg : Leg) → leg.ticket ≢ ticket → Contains legs leg
    → Contains (without ticket legs) leg
stays [] ticket leg other (place, inside, at) = absurd (omega arith)
stays (first ∷ rest) ticket leg other (zero, inside, at) =
    let same : first ≡ leg = at in
    let apart : first.ticket ≢ ticket = λ e. other (ap (λ (l : Leg). l.ticket) (sym same) ∙ e) in
    let test : nat_eq first.ticket ticket ≡ false = ne_eqb first.ticket ticket apart in
    rw test (0, omega arith, at)
stays (first ∷ rest) ticket leg other (suc place, inside, at) =
    skip (not (nat_eq first.ticket ticket)) first leg (without ticket rest)
    (stays rest ticket leg other (place, omega arith, at))

-- what the keeper's seat knows is what the rule has of it
pub kept_at : (views : List Known) (seat : ℕ) (now : Standing) (joined : Option Leg) → IsKept views
    → IsKeeper views seat now joined → AreKept seat now joined views
kept_at views seat now joined (keeper, was, claim, kept) at =
    let here : seat ≡ keeper = kept.alone seat now joined at in
    let there : get_elem? views keeper ≡ some (whole now joined) =
    subst (λ (k : ℕ). get_elem? views k ≡ some (whole now joined)) here at in
    let same : whole was claim ≡ whole now joined =
    some-injective (whole was claim) (whole now joined) (sym kept.keeps ∙ there) in
    let outs : was.out ≡ now.out = cc (same) in
    let nexts : was.next ≡ now.next = cc (same) in
    record {
      keeps = at;
      alone = λ other standing one is. kept.alone other standing one is ∙ sym here;
      stands = λ other leg has. rw (← outs) (kept.stands other leg has);
      apart = kept.apart;
      below = rw (← outs, ← nexts) kept.below;
    }

-- nothing is made
alone_at_first : (seat : ℕ) (now : Standing) (joined : Option Leg)
    → IsKeeper (none_made ∷ []) seat now joined → seat ≡ 0
alone_at_first zero now joined is = refl
alone_at_first (suc seat) now joined is = absurd (some-ne-none (whole now joined) (sym is))

none_at_first : (seat : ℕ) (leg : Leg) → HasClaim (none_made ∷ []) seat leg → ⊥
none_at_first zero leg (v, at, has) = none-some leg (ap claim_of (some-injective none_made v at) ∙ has)
none_at_first (suc seat) leg (v, at, has) = some-ne-none v (sym at)

pub first_kept : IsKept (none_made ∷ [])
first_kept = (
  0,
  record { out = []; next = 0 },
  None,
  record {
    keeps = refl;
    alone = alone_at_first;
    stands = λ seat leg has. absurd (none_at_first seat leg has);
    apart = λ a b x y other has. absurd (none_at_first a x has);
    below = All-nil (λ (leg : Leg). leg.ticket < 0);
  },
)

-- a claim on the next ticket was made
module _ (views : List Known) (keeper : ℕ) (now : Standing) (state arc : ℕ) (kept : AreKept keeper now None views) where
  abbrev leg : Leg
  leg = next_leg now state arc

  abbrev after : Known
  after = whole (standing_with now leg) None

  abbrev longer : List Known
  longer = set views keeper after ++ One leg ∷ []

  inside : keeper < length views
  inside = at_inside views keeper (whole now None) kept.keeps

  long : length (set views keeper after) ≡ length views
  long = length-set views keeper after

  made_claim : (seat : ℕ) (other : Leg) → HasClaim longer seat other
      → HasClaim views seat other ⊎ ((seat ≡ length views) × (leg ≡ other))
  made_claim seat other has =
      ⊎_elim
      (λ earlier. ⊎_elim (λ here. absurd (none-some other here.1)) (λ there. inl there.1)
      (claim_at_set views keeper after seat other earlier))
      (λ last. inr (last.0 ∙ long, same_Some leg other last.1))
      (claim_at_end (set views keeper after) (One leg) seat other has)

  made_alone : (seat : ℕ) (other : Standing) (claim : Option Leg) → IsKeeper longer seat other claim → seat ≡ keeper
  made_alone seat other claim is =
      ⊎_elim
      (λ earlier.
      ⊎_elim
      (λ here. here.0)
      (λ there. kept.alone seat other claim there.1)
      (at_set views keeper seat after (whole other claim) earlier))
      (λ last. absurd (cc (last.1)))
      (at_end (set views keeper after) (One leg) (whole other claim) seat is)

  older : (seat : ℕ) (other : Leg) → HasClaim views seat other → other.ticket < now.next
  older seat other has =
      All-contains (λ (l : Leg). l.ticket < now.next) now.out other kept.below (kept.stands seat other has)

  made_apart : (a b : ℕ) (x y : Leg) → a ≢ b → HasClaim longer a x → HasClaim longer b y → x.ticket ≢ y.ticket
  made_apart a b x y other has also =
      ⊎_elim
      (λ first.
      ⊎_elim
      (λ second. kept.apart a b x y other first second)
      (λ new. let below = older a x first in
      λ (e : x.ticket ≡ y.ticket). omega (arith, ap (λ (l : Leg). l.ticket) new.1))
      (made_claim b y also))
      (λ new.
      ⊎_elim
      (λ second. let below = older b y second in
      λ (e : x.ticket ≡ y.ticket). omega (arith, ap (λ (l : Leg). l.ticket) new.1))
      (λ both. absurd (other (new.0 ∙ sym both.0)))
      (made_claim b y also))
      (made_claim a x has)

  pub made_kept : IsKept longer
  made_kept = (
    keeper,
    standing_with now leg,
    None,
    record {
      keeps = at_longer (set views keeper after) (One leg ∷ []) keeper after (set_here views keeper after inside);
      alone = made_alone;
      stands = λ seat other has.
          ⊎_elim
          (λ earlier. Contains-append_left now.out (leg ∷ []) other (kept.stands seat other earlier))
          (λ new. rw (← new.1) (Contains-push now.out leg))
          (made_claim seat other has);
      apart = made_apart;
      below =
          All-push (λ (l : Leg). l.ticket < now.next + 1) now.out leg (All-weaker (λ (l : Leg). l.ticket < now.next)
          (λ (l : Leg). l.ticket < now.next + 1) (λ l b. omega arith) now.out kept.below) (omega arith);
    },
  )

-- a claim was joined
module _ (views : List Known) (keeper : ℕ) (now : Standing) (claim : ℕ) (leg : Leg)
    (kept : AreKept keeper now None views) (other : ¬ (claim ≡ keeper))
    (at : get_elem? (set views keeper (whole now (Some leg))) claim ≡ some (One leg)) where
  abbrev both : Known
  both = whole now (Some leg)

  abbrev joint : List Known
  joint = set (set views keeper both) claim Nothing

  claimed : HasClaim views claim leg
  claimed = (One leg, sym (set_else views keeper claim both other) ∙ at, refl)

  -- a claim that is there now: the joined one in the keeper's seat, or another that was there
  joined_claim : (seat : ℕ) (x : Leg) → HasClaim joint seat x
      → ((seat ≡ keeper) × (leg ≡ x)) ⊎ ((seat ≢ keeper) × (seat ≢ claim) × HasClaim views seat x)
  joined_claim seat x has =
      ⊎_elim
      (λ spent. absurd (none-some x spent.1))
      (λ rest.
      ⊎_elim
      (λ here. inl (here.0, same_Some leg x here.1))
      (λ there. inr (there.0, rest.0, there.1))
      (claim_at_set views keeper both seat x rest.1))
      (claim_at_set (set views keeper both) claim Nothing seat x has)

  joined_alone : (seat : ℕ) (standing : Standing) (one : Option Leg) → IsKeeper joint seat standing one → seat ≡ keeper
  joined_alone seat standing one is =
      ⊎_elim
      (λ spent. absurd (cc (spent.1)))
      (λ rest.
      ⊎_elim
      (λ here. here.0)
      (λ there. kept.alone seat standing one there.1)
      (at_set views keeper seat both (whole standing one) rest.1))
      (at_set (set views keeper both) claim seat Nothing (whole standing one) is)

  joined_apart : (a b : ℕ) (x y : Leg) → a ≢ b → HasClaim joint a x → HasClaim joint b y → x.ticket ≢ y.ticket
  joined_apart a b x y differ has also =
      ⊎_elim
      (λ first.
      ⊎_elim
      (λ second. absurd (differ (first.0 ∙ sym second.0)))
      (λ second. rw (← first.1) (kept.apart claim b leg y (λ e. second.1 (sym e)) claimed second.2))
      (joined_claim b y also))
      (λ first.
      ⊎_elim
      (λ second. rw (← second.1) (kept.apart a claim x leg first.1 first.2 claimed))
      (λ second. kept.apart a b x y differ first.2 second.2)
      (joined_claim b y also))
      (joined_claim a x has)

  pub joined_kept : IsKept joint
  joined_kept = (
    keeper,
    now,
    Some leg,
    record {
      keeps =
          set_else (set views keeper both) claim keeper Nothing (λ e. other (sym e))
          ∙ set_here views keeper both (at_inside views keeper (whole now None) kept.keeps);
      alone = joined_alone;
      stands = λ seat x has.
          ⊎_elim (λ here. rw (← here.1) (kept.stands claim leg claimed)) (λ there. kept.stands seat x there.2)
          (joined_claim seat x has);
      apart = joined_apart;
      below = kept.below;
    },
  )

-- the joined claim is settled
module _ (views : List Known) (keeper : ℕ) (now : Standing) (leg : Leg)
    (kept : AreKept keeper now (Some leg) views) where
  abbrev less : Known
  less = whole (standing_without now leg) None

  abbrev shorter : List Known
  shorter = set views keeper less

  mine : HasClaim views keeper leg
  mine = (whole now (Some leg), kept.keeps, refl)

  pub stood : Contains now.out leg
  stood = kept.stands keeper leg mine

  settled_claim : (seat : ℕ) (x : Leg) → HasClaim shorter seat x → (seat ≢ keeper) × HasClaim views seat x
  settled_claim seat x has =
      ⊎_elim (λ here. absurd (none-some x here.1)) (λ there. there) (claim_at_set views keeper less seat x has)

  pub settled_kept : IsKept shorter
  settled_kept = (
    keeper,
    standing_without now leg,
    None,
    record {
      keeps = set_here views keeper less (at_inside views keeper (whole now (Some leg)) kept.keeps);
      alone = λ seat standing one is.
          ⊎_elim (λ here. here.0) (λ there. kept.alone seat standing one there.1)
          (at_set views keeper seat less (whole standing one) is);
      stands = λ seat x has.
          let old = settled_claim seat x has in
          stays now.out leg.ticket x (kept.apart seat keeper x leg old.0 old.1 mine) (kept.stands seat x old.1);
      apart = λ a b x y differ has also. kept.apart a b x y differ (settled_claim a x has).1 (settled_claim b y also).1;
      below =
          All-filter (λ (l : Leg). not (nat_eq l.ticket leg.ticket))
          (λ (l : Leg). l.ticket < now.next) now.out kept.below;
    },
  )

-- the three steps, from what the keeper's seat knows
pub made_next : (views : List Known) (seat : ℕ) (v : Known) (state arc : ℕ) → v ≡ whole (standing_of v) None
    → IsKept views → get_elem? views seat ≡ some v
    → IsKept (set views seat (made state arc v) ++ claim_made state arc v ∷ [])
made_next views seat v state arc is kept at =
    let here = kept_at views seat (standing_of v) None kept (at ∙ ap some is) in
    rw (ap claim_of is) (made_kept views seat (standing_of v) state arc here)

pub joined_next : (views : List Known) (seat : ℕ) (v : Known) (claim : ℕ) (w : Known) → v ≡ whole (standing_of v) None
    → w ≡ One (leg_of w) → IsKept views
    → get_elem? views seat ≡ some v → ¬ (claim ≡ seat) → get_elem? (set views seat (joined v w)) claim ≡ some w
    → IsKept (set (set views seat (joined v w)) claim Nothing)
joined_next views seat v claim w is one kept at other there =
    let here = kept_at views seat (standing_of v) None kept (at ∙ ap some is) in
    let has : claim_of w ≡ Some (leg_of w) = ap claim_of one in
    let after : joined v w ≡ whole (standing_of v) (Some (leg_of w)) =
    ap (λ (c : Option Leg). whole (standing_of v) c) has in
    let found : get_elem? (set views seat (whole (standing_of v) (Some (leg_of w)))) claim ≡ some (One (leg_of w)) =
    subst (λ (u : Known). get_elem? (set views seat u) claim ≡ some (One (leg_of w))) after (there ∙ ap some one) in
    subst (λ (u : Known). IsKept (set (set views seat u) claim Nothing)) (sym after)
    (joined_kept views seat (standing_of v) claim (leg_of w) here other found)

pub settled_next : (views : List Known) (seat : ℕ) (v : Known) → v ≡ whole (standing_of v) (Some (leg_of v))
    → IsKept views → get_elem? views seat ≡ some v
    → Contains (standing_of v).out (leg_of v) × IsKept (set views seat (settled v))
settled_next views seat v is kept at =
    let here = kept_at views seat (standing_of v) (Some (leg_of v)) kept (at ∙ ap some is) in
    (stood views seat (standing_of v) (leg_of v) here, settled_kept views seat (standing_of v) (leg_of v) here)
