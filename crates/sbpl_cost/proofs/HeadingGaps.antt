-- How far apart headings are.
use Rattle.std.proofs.Common.{◌≡◌, ◌≢◌, ℕ, ◌+◌, ◌-◌, ◌%◌, ◌<◌, ◌≤◌, ap, ◌∙◌, arith, inl, inr, ◌⊎◌}
use Rattle.std.proofs.lemmas.Bool.{cases_lt}
use Rattle.std.proofs.Math.Nat.{mod-eq_of_lt, add-mod_right}
use Rattle.sbpl_cost.specs.PrimitiveCost.{heading_gap, IsLeast}

-- a heading plus fewer bins than a full turn passes the full turn at most once
step-turns : (n a d : ℕ) → a < n → d < n → ((a + d) % n ≡ a + d) ⊎ ((a + d) % n + n ≡ a + d)
step-turns n a d below few = elim (cases_lt (a + d) n) [
  | inl lt ↦ inl (mod-eq_of_lt lt)
  | inr le ↦
      inr (let within : a + d - n < n = omega arith in
      let e : a + d ≡ (a + d - n) + n = omega arith in
      let r : ((a + d - n) + n) % n ≡ a + d - n = add-mod_right (a + d - n) n ∙ mod-eq_of_lt within in
      let s : (a + d) % n ≡ a + d - n = ap (λ x. x % n) e ∙ r in omega arith)
]

-- no fewer bins lead from one heading to the other
none_fewer : (n a b d : ℕ) → a < n → b < n → (a + d) % n ≡ b → (heading_gap n a b ≤ d) × (heading_gap n b a ≤ d)
none_fewer n a b d below_a below_b leads = elim (cases_lt d n) [
  | inl few ↦
      elim (step-turns n a d below_a few) [ inl e ↦ (omega arith, omega arith) | inr e ↦ (omega arith, omega arith) ]
  | inr many ↦ (omega arith, omega arith)
]

-- where a heading plus some bins is another heading, or that plus a full turn, the bins lead to it
leads : (n a b d : ℕ) → b < n → (a + d ≡ b) ⊎ (a + d ≡ b + n) → (a + d) % n ≡ b
leads n a b d below h = elim h [
  | inl e ↦ rw e (mod-eq_of_lt below)
  | inr e ↦ rw e (add-mod_right b n ∙ mod-eq_of_lt below)
]

gap_leads : (n from to : ℕ) → from < n → to < n
    → ((from + heading_gap n from to) % n ≡ to) ⊎ ((to + heading_gap n from to) % n ≡ from)
gap_leads n from to below_from below_to = elim (cases_lt from to) [
  | inl lt ↦ elim (cases_lt (to - from) (n - (to - from))) [
    | inl near ↦ inl (leads n from to (heading_gap n from to) below_to (inl (omega arith)))
    | inr far ↦ inr (leads n to from (heading_gap n from to) below_from (inr (omega arith)))
  ]
  | inr le ↦ elim (cases_lt (from - to) (n - (from - to))) [
    | inl near ↦ inr (leads n to from (heading_gap n from to) below_from (inl (omega arith)))
    | inr far ↦ inl (leads n from to (heading_gap n from to) below_to (inr (omega arith)))
  ]
]

pub heading_gap-least : (n from to : ℕ) → from < n → to < n
    → IsLeast (λ d. ((from + d) % n ≡ to) ⊎ ((to + d) % n ≡ from)) (heading_gap n from to)
heading_gap-least n from to below_from below_to = record {
  holds = gap_leads n from to below_from below_to;
  least = λ d h. elim h [
    | inl there ↦ (none_fewer n from to d below_from below_to there).0
    | inr back ↦ (none_fewer n to from d below_to below_from back).1
  ];
}

-- headings that differ are at least one bin apart
pub heading_gap-some : (n from to : ℕ) → from < n → to < n → from ≢ to → 0 < heading_gap n from to
heading_gap-some n from to below_from below_to differ = omega arith
